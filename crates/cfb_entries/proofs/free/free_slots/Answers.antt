use Rattle.std.proofs.Common.{◌≡◌, ◌≤◌, sym, refl, length, false, true, arith}
use Rattle.cfb_codecs.specs.EntryModel.{entries_of}
use Rattle.cfb_siblings.proofs.Held.{entries-length}
use Rattle.cfb_entries.proofs.FreeSlots.{from-end, from-free, from-used, from-start}
use Rattle.cfb_entries.proofs.free.free_slots.Goals as goal

pub loop-left-init : goal.loop-left-init
loop-left-init g c = record {
  listed = rw c.new-free.ensures.items (from-end (entries_of c.args.list.now) (length c.args.list.now) (sym (entries-length c.args.list.now)));
  in_list = omega arith;
}

pub loop-left-preserved-in-Continue-1 : goal.loop-left-preserved-in-Continue-1
loop-left-preserved-in-Continue-1 g c =
    let l = c.loop-left in
    let within : l.left ≤ length (entries_of c.args.list.now) = omega (arith, l.invariant.in_list, entries-length c.args.list.now) in
    record {
      listed = rw c.in_ok-push.ensures.items (from-free (entries_of c.args.list.now) l.left l.free.items (omega (arith, c.loop-left-test.true)) within (c.if-is_unused.ensures.0 refl) l.invariant.listed);
      in_list = omega (arith, l.invariant.in_list);
    }

pub loop-left-preserved : goal.loop-left-preserved
loop-left-preserved g c =
    let l = c.loop-left in
    record {
      listed = from-used (entries_of c.args.list.now) l.left l.free.items (λ u. let q : false ≡ true = c.if-is_unused.ensures.1 u in cc) l.invariant.listed;
      in_list = omega (arith, l.invariant.in_list);
    }

pub returns-clause-ok : goal.returns-clause-ok
returns-clause-ok g c = from-start (entries_of c.args.list.now) c.loop-left.left c.loop-left.free.items (omega (arith, c.loop-left-test.false)) c.loop-left.invariant.listed
