use Rattle.std.proofs.Common.{◌≡◌, ◌↔◌, ◌<◌, ◌≤◌, ◌+◌, ◌*◌, ◌/◌, ◌%◌, ℕ, List, length, sym, ◌∙◌, ap, subst, arith}
use Rattle.std.specs.Prelude.{Contains}
use Rattle.std.proofs.lemmas.Bool.{le-leb, leb-true}
use Rattle.std.proofs.lemmas.Map.Views.{exact_unsigned_eq}
use Rattle.std.proofs.lemmas.Nat.{div-add-mod'}
use Rattle.cfb_format.specs.Bytes.{entries_per_sector}
use Rattle.cfb_slots.proofs.slots.are_placed.Goals as goal
use Rattle.cfb_slots.proofs.slots.are_placed.Goals.{then-entries-per-eq0, else-entries-per-eq0}

pub returns-then-entries-per : goal.returns-then-entries-per
returns-then-entries-per g c =
    let v = c.args.allocator.now.tables.version in
    let per : c.dir_entries_per_sector-per.result ≡ entries_per_sector v = c.dir_entries_per_sector-per.ensures ∙ ap entries_per_sector c.version.ensures in
    let facts : (c.args.entries % c.dir_entries_per_sector-per.result ≡ 0) × (c.args.entries / c.dir_entries_per_sector-per.result ≡ length c.args.sectors.now) =
    elim c.if-entries-per-eq0.branch [
      | then-entries-per-eq0 w ↦ (w.if-entries-per-eq0.true, exact_unsigned_eq _ _ (sym w.value-is ∙ c.if-entries-per.true))
      | else-entries-per-eq0 w ↦ absurd (w.if-entries-per-eq0.false (exact_unsigned_eq _ _ (sym w.value-is ∙ c.if-entries-per.true)))
    ] in
    let sectors = c.args.sectors.now in
    let count = length c.fat.result.now in
    let fat : count ≡ length c.args.allocator.now.tables.fat = ap (λ (t : List ℕ). length t) c.fat.ensures in
    let least : (c.args.above ≤ count) ↔ ((i : ℕ) → Contains sectors i → i < count) = c.requires count in
    let none : length sectors * c.dir_entries_per_sector-per.result + 0 ≡ length sectors * c.dir_entries_per_sector-per.result = omega arith in (
      (λ yes. record {
        slots = sym (div-add-mod' c.args.entries c.dir_entries_per_sector-per.result) ∙ (λ j. facts.1 j * c.dir_entries_per_sector-per.result + facts.0 j) ∙ none
            ∙ ap (λ n. length sectors * n) per;
        within = λ i m. subst (λ n. i < n) fat (least.0 (leb-true c.args.above count yes) i m);
      }),
      (λ h. le-leb c.args.above count (least.1 (λ i m. subst (λ n. i < n) (sym fat) (h.within i m)))),
    )
