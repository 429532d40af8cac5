use Rattle.std.proofs.Common.{◌≡◌, ◌≢◌, ◌≤◌, ◌*◌, ◌∙◌, ℕ, List, [], length, sym, subst, ap, false}
use Rattle.std.specs.Prelude.{IsTrue, vec_len}
use Rattle.std.proofs.lemmas.Result.{err_from_is_err_and}
use Rattle.std.proofs.lemmas.List.{length-map}
use Rattle.cfb_format.specs.Bytes.{entries_per_sector}
use Rattle.cfb_format.specs.Chain.{IsChain}
use Rattle.cfb_format.specs.Full.{max_entries}
use Rattle.cfb_format.specs.Header.{IfStrict}
use Rattle.cfb_format.specs.Reading.{IsStrictCount, Outline}
use Rattle.cfb_alloc.specs.Alloc.{AllocatorState}
use Rattle.cfb_codecs.specs.EntryModel.{entries_of, entry_of}
use Rattle.cfb_opening.specs.cfb_entries.EntryList.{HaveShortNames}
use Rattle.cfb_outline.specs.Outlines.{AcceptsOutline}
use Rattle.cfb_reading.proofs.PartRefusals.{refused-bytes, refused-weaker}
use Rattle.cfb_opening.specs.Acceptable.{IsRefused}
use Rattle.cfb_opening.proofs.BuiltParts.{count-refused, directory-known, outline-refused, words-stay}
use Rattle.cfb_opening.proofs.Refusals.{memory-refused}
use Rattle.cfb_opening.proofs.minis.open_directory.Goals as goal

pub returns-in_err-header-clause-err : goal.returns-in_err-header-clause-err
returns-in_err-header-clause-err g c =
    let p = err_from_is_err_and c.from_residual.result c.from_residual.ensures.1 in
    rw (p.1, p.2) (refused-weaker g.F.ReadMedium.tells g.F.ReadMedium.read_faults _ _ (λ told none. none c.args.letters) c.in_err-header.field-0.0 c.in_err-header.ensures.err)

pub returns-in_err-directory-clause-err : goal.returns-in_err-directory-clause-err
returns-in_err-directory-clause-err g c =
    let bytes = g.F.ReadMedium.bytes c.args.medium in
    let failures = g.F.ReadMedium.failures c.args.medium in
    let v = c.args.validation in
    let cases = c.args.letters in
    let parts = c.in_ok-header.field-0 in
    let h = parts.header in
    let a = parts.allocator in
    let entries = entries_of parts.entries.items in
    let count : vec_len parts.entries ≡ length entries = parts.entries.ok.0 ∙ sym (length-map parts.entries.items entry_of) in
    let none : IsTrue g.F.ReadMedium.tells → ((list : List ℕ) (o : Outline) → IsChain a.tables.fat h.first_dir_sector list → list ≢ []
    → vec_len parts.entries ≡ length list * entries_per_sector a.tables.version → AcceptsOutline v cases entries o → HaveShortNames entries → vec_len parts.entries ≤ max_entries → ⊥)
    → IsRefused v cases bytes =
    λ told refused. outline-refused v cases bytes failures h a parts.points_into_file entries parts.minifat_words.items (c.in_ok-header.ensures.ok told)
    (λ list o chain some slots outlined short few. refused list o chain some (count ∙ slots) outlined short (subst (λ n. n ≤ max_entries) (sym count) few)) in
    let p = err_from_is_err_and c.from_residual-in_err-directory.result c.from_residual-in_err-directory.ensures.1 in
    rw (p.1, p.2) (memory-refused g.F.ReadMedium.tells g.F.ReadMedium.read_faults _ _ none c.in_err-directory.field-0.0 c.in_err-directory.ensures.refused)

pub returns-then-not-counts_directory-clause-err : goal.returns-then-not-counts_directory-clause-err
returns-then-not-counts_directory-clause-err g c =
    let bytes = g.F.ReadMedium.bytes c.args.medium in
    let failures = g.F.ReadMedium.failures c.args.medium in
    let v = c.args.validation in
    let cases = c.args.letters in
    let parts = c.in_ok-header.field-0 in
    let h = parts.header in
    let d = c.in_ok-directory.directory in
    let e = c.in_ok-directory.ensures in
    let none : IsTrue g.F.ReadMedium.tells → IsRefused v cases bytes =
    λ told. count-refused v cases bytes failures h parts.allocator parts.points_into_file (entries_of parts.entries.items) parts.minifat_words.items (c.in_ok-header.ensures.ok told)
    d e.same.0 e.same.1 e.same.2 e.chain.0
    (λ counted.
    let same : _ ≡ length d.sectors = ap length c.sectors-found.ensures in
    let fits : IsTrue c.counts_directory.result = c.counts_directory.ensures.1 (subst (λ n. IfStrict v (IsStrictCount h.version h.num_dir_sectors n)) (sym same) counted) in
    let not : c.counts_directory.result ≡ false = c.if-not-counts_directory.true in cc) in
    refused-bytes g.F.ReadMedium.tells g.F.ReadMedium.read_faults _ c.miscounted.result c.miscounted.ensures none

pub returns-clause-ok : goal.returns-clause-ok
returns-clause-ok g c told =
    let bytes = g.F.ReadMedium.bytes c.args.medium in
    let failures = g.F.ReadMedium.failures c.args.medium in
    let v = c.args.validation in
    let cases = c.args.letters in
    let parts = c.in_ok-header.field-0 in
    let h = parts.header in
    let d = c.in_ok-directory.directory in
    let e = c.in_ok-directory.ensures in
    let counted : IfStrict v (IsStrictCount h.version h.num_dir_sectors (length d.sectors)) =
    subst (λ (xs : List ℕ). IfStrict v (IsStrictCount h.version h.num_dir_sectors (length xs))) c.sectors-found.ensures (c.counts_directory.ensures.0 c.if-not-counts_directory.false) in
    directory-known v cases bytes failures h parts.allocator parts.points_into_file (entries_of parts.entries.items) parts.minifat_words.items (c.in_ok-header.ensures.ok told)
    d e.same.0 e.same.1 e.same.2 e.chain.0 counted e.accepted.0 e.accepted.1

pub returns-clause-words : goal.returns-clause-words
returns-clause-words g c told =
    let bytes = g.F.ReadMedium.bytes c.args.medium in
    let failures = g.F.ReadMedium.failures c.args.medium in
    let parts = c.in_ok-header.field-0 in
    let d = c.in_ok-directory.directory in
    let e = c.in_ok-directory.ensures in
    words-stay c.args.validation c.args.letters bytes failures parts.header parts.allocator parts.points_into_file (entries_of parts.entries.items) parts.minifat_words.items
    (c.in_ok-header.ensures.ok told) d e.same.0 e.same.1 e.same.2 e.chain.0

pub returns-clause-letters : goal.returns-clause-letters
returns-clause-letters g c = c.in_ok-directory.ensures.same.1

pub returns-clause-unfailed : goal.returns-clause-unfailed
returns-clause-unfailed g c = ap (λ (a : AllocatorState). a.file.begun) c.in_ok-directory.ensures.same.0 ∙ c.in_ok-header.ensures.unfailed
