use Rattle.std.proofs.Common.{◌≡◌, ◌++◌, ℕ, List, true, length, take, sym, ◌∙◌, ap, subst}
use Rattle.std.specs.Prelude.{IsTrue}
use Rattle.std.specs.List.{list_all}
use Rattle.std.proofs.lemmas.Result.{err_from_is_err_and}
use Rattle.cfb_format.specs.Bytes.{is_whole_sector}
use Rattle.cfb_format.specs.Fat.{fat_words}
use Rattle.cfb_alloc.specs.Alloc.{IsMeasured}
use Rattle.cfb_reading.specs.RawFat.{HasFatSectors}
use Rattle.cfb_reading.proofs.raw_fat.read_raw_fat.Goals as goal
use Rattle.cfb_reading.proofs.cfb_tables.Refusals.{refused-as}

pub read_first-requires : goal.read_first-requires
read_first-requires g c = c.new-words.ensures.items

pub returns-in_err-read_first-clause-err : goal.returns-in_err-read_first-clause-err
returns-in_err-read_first-clause-err g c =
    let a = c.args.allocator.now in
    let list : c.deref.result.now ≡ a.tables.fat_sectors =
    c.deref.ensures.value ∙ c.in_ok-extend_from_slice.ensures.items ∙ ap (λ (l : List ℕ). l ++ c.fat_sectors.result.now) c.new-sectors.ensures.items ∙ c.fat_sectors.ensures in
    let none : (IsTrue g.F.ReadMedium.tells → IsMeasured a.file → list_all (is_whole_sector a.tables.version a.file.bytes) c.deref.result.now ≡ true → ⊥)
    → IsTrue g.F.ReadMedium.tells → HasFatSectors a → ⊥ =
    λ cut told has. cut told has.measured (ap (list_all (is_whole_sector a.tables.version a.file.bytes)) list ∙ has.whole) in
    let p = err_from_is_err_and c.from_residual-in_err-read_first.result c.from_residual-in_err-read_first.ensures.1 in
    rw (p.1, p.2) (refused-as _ _ _ _ _ _ _ _ none (λ u. u) (λ never. never) (λ u. u) c.in_err-read_first.field-0.0 c.in_err-read_first.ensures.err)

pub returns-clause-ok : goal.returns-clause-ok
returns-clause-ok g c told =
    let a = c.args.allocator.now in
    let list : c.deref.result.now ≡ a.tables.fat_sectors =
    c.deref.ensures.value ∙ c.in_ok-extend_from_slice.ensures.items ∙ ap (λ (l : List ℕ). l ++ c.fat_sectors.result.now) c.new-sectors.ensures.items ∙ c.fat_sectors.ensures in
    c.truncate.ensures.items ∙ c.in_ok-read_first.ensures.ok told
    ∙ (λ j. take (length (c.fat-count.ensures j)) (fat_words a.tables.version a.file.bytes (list j)))
