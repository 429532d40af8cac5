use Rattle.std.proofs.Common.{◌≡◌, ◌<◌, length, get_or, true, false, refl, sym, ◌∙◌, arith}
use Rattle.std.proofs.lemmas.List.{get_or_default}
use Rattle.cfb_tables.proofs.FatLemmas.{named-none, named-skip, named-more, named-twice, no-pointer}
use Rattle.cfb_tables.proofs.fat.names_twice.Goals as goal
use Rattle.cfb_tables.proofs.fat.names_twice.Goals.{then-sector-le-MAX_REGULAR_SECTOR+else-index, else-sector-le-MAX_REGULAR_SECTOR}
use Rattle.cfb_format.proofs.Walks.{le-regular}

pub loop-second-init : goal.loop-second-init
loop-second-init g c = named-none c.args.fat.now c.in_ok-named.named.items (c.in_ok-named.ensures.items_if_clones_equal (λ y e. e))

pub returns-then-index-clause-twice : goal.returns-then-index-clause-twice
returns-then-index-clause-twice g c = λ distinct.
    let fat = c.args.fat.now in
    let l = c.loop-second in
    let x = get_or fat l.second 0 in
    let pointer = le-regular x c.if-sector-le-MAX_REGULAR_SECTOR.true in
    let below = c.requires.within l.second c.loop-second-test.true pointer in
    let within : x < length l.named.items = omega (arith, below, l.invariant.len) in
    let known : get_or l.named.items x false ≡ true = get_or_default l.named.items x false c.index.result.now within ∙ sym c.index.ensures ∙ c.if-index.true in
    absurd (named-twice fat l.second x l.named.items c.loop-second-test.true refl l.invariant pointer known distinct)

pub loop-second-preserved : goal.loop-second-preserved
loop-second-preserved g c =
    let fat = c.args.fat.now in
    let l = c.loop-second in
    let x = get_or fat l.second 0 in
    elim c.if-sector-le-MAX_REGULAR_SECTOR.branch [
      | then-sector-le-MAX_REGULAR_SECTOR+else-index w ↦
          let pointer = le-regular x w.if-sector-le-MAX_REGULAR_SECTOR.true in
          let below = c.requires.within l.second c.loop-second-test.true pointer in
          let within : x < length l.named.items = omega (arith, below, l.invariant.len) in
          let fresh : get_or l.named.items x false ≡ false = get_or_default l.named.items x false w.index.result.now within ∙ sym w.index.ensures ∙ w.if-index.false in
          rw w.named-is (named-more fat l.second x l.named.items c.loop-second-test.true refl l.invariant pointer below fresh)
      | else-sector-le-MAX_REGULAR_SECTOR w ↦
          rw w.named-is (named-skip fat l.second x l.named.items c.loop-second-test.true refl l.invariant (no-pointer x w.if-sector-le-MAX_REGULAR_SECTOR.false))
    ]
