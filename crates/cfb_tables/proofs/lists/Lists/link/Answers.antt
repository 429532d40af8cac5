use Rattle.std.proofs.Common.{◌≡◌, arith, length-set}
use Rattle.cfb_format.specs.Bytes.{end_of_chain}
use Rattle.cfb_format.specs.Chain.{value}
use Rattle.cfb_tables.specs.Tables.{tables_of}
use Rattle.cfb_tables.proofs.KeptLemmas.{kept-link}
use Rattle.cfb_tables.proofs.lists.Lists.link.Goals as goal

pub invariant_of-self : goal.invariant_of-self
invariant_of-self g c =
    let s = c.self.inside in
    let t = tables_of s.version s.max_sectors s.fat.items s.fat_sectors.items s.difat_sectors.items in
    let ended : value s.fat.items c.args.last ≡ end_of_chain = rw (← c.self.view_is) at c.requires.ended in
    let len = length-set s.fat.items c.args.last c.args.next in
    let room = c.self.invariant.room in
    record {
      kept = kept-link t s.free.items c.args.last _ (λ e. omega (arith, e, ended)) (λ e. omega (arith, e, c.requires.regular)) c.self.invariant.kept;
      room = omega (arith, len, room);
    }
