use Rattle.std.proofs.Common.{◌≡◌, ◌<◌, ◌^◌, ◌-◌, ◌++◌, ℕ, List, Bool, refl, sym, ◌∙◌, ap, subst, arith, append-nil}
use Rattle.std.specs.Prelude.{IfSome, Option}
use Rattle.cfb_mending.specs.Listing.{listed_from, listed_patches}
use Rattle.cfb_mending.specs.Tables.{IsDifatLink}
use Rattle.cfb_mending.proofs.ChainWalk.{list-ends}
use Rattle.cfb_mending.proofs.ListingFat.{frees-more, frees-spent, listed-more, listed-spent}
use Rattle.cfb_mending.proofs.InTables.{difat-first, fat-moved, tables-moved}
use Rattle.cfb_mending.proofs.scan.Scan.list_in_sectors.Goals as goal

pub loop-turn-init : goal.loop-turn-init
loop-turn-init g c = record {
  bound = omega arith;
  same = λ told. refl;
  link = λ told. difat-first c.args.bounds.version (g.F.ReadMedium.bytes c.args.self.now.medium);
  listed = λ told before. before;
  mends = λ told table before. before;
  named = λ told file same len.
      ap (λ (k : ℕ). c.args.fat.now.items ++ listed_from c.args.bounds.version file c.args.bounds.sectors k c.args.is_cut 68) (let e : c.args.bounds.sectors - 0 ≡ c.args.bounds.sectors = omega arith in e);
  patched = λ told file same len.
      ap (λ (k : ℕ). c.args.self.now.patches.items ++ listed_patches c.args.bounds.version file c.args.bounds.sectors k c.args.is_cut 68)
      (let e : c.args.bounds.sectors - 0 ≡ c.args.bounds.sectors = omega arith in e);
}

pub returns-in_default-clause-listed : goal.returns-in_default-clause-listed
returns-in_default-clause-listed g c told before =
    let loop = c.loop-turn.invariant in
    fat-moved c.args.bounds.version (g.F.ReadMedium.bytes c.loop-turn.self.medium) (g.F.ReadMedium.bytes c.args.self.now.medium) _ _ (loop.same told) (c.in_ok-next.ensures.listed told)
    (loop.listed told before)

pub returns-in_default-clause-mends : goal.returns-in_default-clause-mends
returns-in_default-clause-mends g c told table before =
    let loop = c.loop-turn.invariant in
    tables-moved c.args.bounds.version (g.F.ReadMedium.bytes c.loop-turn.self.medium) (g.F.ReadMedium.bytes c.args.self.now.medium) table _ _ (loop.same told)
    (c.in_ok-next.ensures.mends told table) (loop.mends told table before)

pub loop-turn-preserved : goal.loop-turn-preserved
loop-turn-preserved g c =
    let loop = c.loop-turn.invariant in
    let version = c.args.bounds.version in
    let here = g.F.ReadMedium.bytes c.loop-turn.self.medium in
    let bytes = g.F.ReadMedium.bytes c.args.self.now.medium in
    record {
      bound = subst (λ (o : Option (ℕ × Bool)). IfSome o (λ n. n.0 < 2 ^ 63)) c.in-Some.is c.in_ok-next.ensures.next;
      same = λ told. c.in_ok-next.ensures.same told ∙ loop.same told;
      link = λ told.
          let there = subst (λ (o : Option (ℕ × Bool)). IfSome o (λ n. IsDifatLink version here n.0)) c.in-Some.is (c.in_ok-next.ensures.link told) in
          subst (λ (b : List ℕ). IsDifatLink version b c.in-Some.next) (loop.same told) there;
      listed = λ told before. fat-moved version here bytes _ _ (loop.same told) (c.in_ok-next.ensures.listed told) (loop.listed told before);
      mends = λ told table before. tables-moved version here bytes table _ _ (loop.same told) (c.in_ok-next.ensures.mends told table) (loop.mends told table before);
      named = λ told file same len.
          listed-more c.args.bounds.version file c.args.bounds.sectors c.args.bounds.sectors c.loop-turn._turn c.loop-turn-test.true c.loop-turn.is_cut c.loop-turn.link _ _ _ _ _ _ c.in-Some.is (c.in_ok-next.ensures.one told file (loop.same told ∙ same) len) _ (loop.named told file same len);
      patched = λ told file same len.
          frees-more c.args.bounds.version file c.args.bounds.sectors c.args.bounds.sectors c.loop-turn._turn c.loop-turn-test.true c.loop-turn.is_cut c.loop-turn.link _ _ _ _ _ _ c.in-Some.is (c.in_ok-next.ensures.one told file (loop.same told ∙ same) len) _ (loop.patched told file same len);
    }

pub returns-in_default-clause-named : goal.returns-in_default-clause-named
returns-in_default-clause-named g c told file same len =
    let loop = c.loop-turn.invariant in
    sym (append-nil _) ∙ listed-more c.args.bounds.version file c.args.bounds.sectors c.args.bounds.sectors c.loop-turn._turn c.loop-turn-test.true c.loop-turn.is_cut c.loop-turn.link _ _ _ _ _ _ c.in_default.is (c.in_ok-next.ensures.one told file (loop.same told ∙ same) len) _ (loop.named told file same len)

pub returns-in_default-clause-patched : goal.returns-in_default-clause-patched
returns-in_default-clause-patched g c told file same len =
    let loop = c.loop-turn.invariant in
    sym (append-nil _) ∙ frees-more c.args.bounds.version file c.args.bounds.sectors c.args.bounds.sectors c.loop-turn._turn c.loop-turn-test.true c.loop-turn.is_cut c.loop-turn.link _ _ _ _ _ _ c.in_default.is (c.in_ok-next.ensures.one told file (loop.same told ∙ same) len) _ (loop.patched told file same len)

pub returns-clause-named : goal.returns-clause-named
returns-clause-named g c told file same len =
    let loop = c.loop-turn.invariant in
    list-ends _ _ _ (listed-spent c.args.bounds.version file c.args.bounds.sectors c.loop-turn.is_cut c.loop-turn.link (c.args.bounds.sectors - c.loop-turn._turn) (omega (arith, c.loop-turn-test.false))) (loop.named told file same len)

pub returns-clause-patched : goal.returns-clause-patched
returns-clause-patched g c told file same len =
    let loop = c.loop-turn.invariant in
    list-ends _ _ _ (frees-spent c.args.bounds.version file c.args.bounds.sectors c.loop-turn.is_cut c.loop-turn.link (c.args.bounds.sectors - c.loop-turn._turn) (omega (arith, c.loop-turn-test.false))) (loop.patched told file same len)
