use Rattle.std.proofs.Common.{◌≡◌, ◌<◌, ◌/◌, ℕ, List, length, arith, sym, subst, ap, ◌∙◌}
use Rattle.std.specs.Prelude.{vec_len}
use Rattle.std.proofs.lemmas.Bool.{eqb-true}
use Rattle.cfb_format.specs.Bytes.{entries_per_sector}
use Rattle.cfb_format.specs.Full.{max_entries}
use Rattle.cfb_reading.specs.ReadDirectory.{IsDirectoryChain}
use Rattle.cfb_reading.proofs.SlotReading.{no-sector, too-many-sectors}
use Rattle.cfb_reading.proofs.slots.directory_sectors.Goals as goal
use Rattle.cfb_reading.proofs.cfb_tables.Refusals.{refused-as}

pub returns-then-is_empty-clause-err : goal.returns-then-is_empty-clause-err
returns-then-is_empty-clause-err g c =
    let a = c.args.allocator.now in
    let all = c.in_ok-sectors.sectors.items in
    let empty : vec_len c.in_ok-sectors.sectors ≡ 0 = eqb-true (vec_len c.in_ok-sectors.sectors) 0 (sym c.is_empty.ensures ∙ c.if-is_empty.true) in
    let none : length all ≡ 0 = omega (arith, empty, c.in_ok-sectors.sectors.ok.0) in
    let refused : Unit {0} → (sectors : List ℕ) → IsDirectoryChain a.tables.version a.tables.fat c.args.start sectors → ⊥ =
    λ _. no-sector a.tables.version a.tables.fat c.args.start all c.in_ok-sectors.ensures.ok none in
    refused-as _ _ _ _ _ _ _ _ refused (λ never. absurd never) (λ never. never) (λ never. never) c.miscounted.result c.miscounted.ensures

pub returns-then-len-most-clause-err : goal.returns-then-len-most-clause-err
returns-then-len-most-clause-err g c =
    let a = c.args.allocator.now in
    let all = c.in_ok-sectors.sectors.items in
    let many : max_entries / entries_per_sector a.tables.version < length all =
    subst (λ n. max_entries / n < length all) (c.dir_entries_per_sector-most.ensures ∙ ap entries_per_sector c.version.ensures) (omega (arith, c.in_ok-sectors.sectors.ok.0)) in
    let refused : Unit {0} → (sectors : List ℕ) → IsDirectoryChain a.tables.version a.tables.fat c.args.start sectors → ⊥ =
    λ _. too-many-sectors a.tables.version a.tables.fat c.args.start all c.in_ok-sectors.ensures.ok many in
    refused-as _ _ _ _ _ _ _ _ refused (λ never. absurd never) (λ never. never) (λ never. never) c.miscounted-then-len-most.result c.miscounted-then-len-most.ensures
