use Rattle.std.proofs.Common.{◌≡◌, ℕ, ◌*◌, List, [], length, sym, ◌∙◌, ap, arith}
use Rattle.std.proofs.lemmas.Bool.{eqb-true}
use Rattle.std.proofs.lemmas.List.{nil_from_length}
use Rattle.std.proofs.lemmas.Result.{err_from_is_err_and}
use Rattle.cfb_format.specs.Bytes.{entries_per_sector}
use Rattle.cfb_format.specs.DirectoryEntry.{Entry}
use Rattle.cfb_directory.proofs.cfb_siblings.Held.{entries-length}
use Rattle.cfb_format.proofs.Unique.{IsChain-unique}
use Rattle.cfb_codecs.proofs.Refusals.{refusal_follows}
use Rattle.cfb_directory.proofs.DirectoryRefusals.{walk_invalid}
use Rattle.cfb_directory.proofs.LeastAbove.{least-kept, least-of-none}
use Rattle.cfb_directory.proofs.directory.Directory.new.Goals as goal

pub returns-in_err-sectors-clause-refused : goal.returns-in_err-sectors-clause-refused
returns-in_err-sectors-clause-refused g c =
    let p = err_from_is_err_and c.from_residual.result c.from_residual.ensures.1 in
    rw (p.1, p.2) (walk_invalid _ _ (λ none list o chain some count accepts names few. none list chain) c.in_err-sectors.field-0.0 c.in_err-sectors.ensures.err)

pub returns-then-is_empty-clause-refused : goal.returns-then-is_empty-clause-refused
returns-then-is_empty-clause-refused g c list o chain some count accepts names few =
    let none = eqb-true _ 0 (sym c.is_empty.ensures ∙ c.if-is_empty.true) in
    some (IsChain-unique c.args.allocator.tables.fat c.args.start list c.in_ok-sectors.sectors.items chain c.in_ok-sectors.ensures.ok
    ∙ nil_from_length c.in_ok-sectors.sectors.items (omega (arith, none, c.in_ok-sectors.sectors.ok.0)))

pub returns-then-len-per-clause-refused : goal.returns-then-len-per-clause-refused
returns-then-len-per-clause-refused g c =
    let per : c.dir_entries_per_sector-per.result ≡ entries_per_sector c.args.allocator.tables.version = c.dir_entries_per_sector-per.ensures ∙ ap entries_per_sector c.version.ensures in
    rw c.unslotted.ensures.1 (λ list o chain some count accepts names few.
    let same = IsChain-unique c.args.allocator.tables.fat c.args.start list c.in_ok-sectors.sectors.items chain c.in_ok-sectors.ensures.ok in
    let long : length c.in_ok-sectors.sectors.items ≡ c.len-2.result = omega (arith, c.len-2.ensures, c.in_ok-sectors.sectors.ok.0) in
    c.if-len-per.true (c.len.ensures ∙ count ∙ ap (λ (l : List ℕ). length l * entries_per_sector c.args.allocator.tables.version) same
    ∙ ap (λ n. n * entries_per_sector c.args.allocator.tables.version) long ∙ ap (λ n. c.len-2.result * n) (sym per)))

pub returns-in_err-entries-clause-refused : goal.returns-in_err-entries-clause-refused
returns-in_err-entries-clause-refused g c =
    let p = err_from_is_err_and c.from_residual-in_err-entries.result c.from_residual-in_err-entries.ensures.1 in
    rw (p.1, p.2) (refusal_follows c.in_err-entries.field-0.0 _ _ (λ none list o chain some count accepts names few. none o accepts names few) c.in_err-entries.ensures.refused)

pub invariant_of-result : goal.invariant_of-result
invariant_of-result g c = least-kept c.deref.result.now c.in_ok-sectors.sectors.items c.least_above-above.result (sym c.deref.ensures.value) (c.least_above-above.ensures [] least-of-none)

pub returns-clause-count : goal.returns-clause-count
returns-clause-count g c =
    let per : c.dir_entries_per_sector-per.result ≡ entries_per_sector c.args.allocator.tables.version = c.dir_entries_per_sector-per.ensures ∙ ap entries_per_sector c.version.ensures in
    let long : c.len-2.result ≡ length c.in_ok-sectors.sectors.items = omega (arith, c.len-2.ensures, c.in_ok-sectors.sectors.ok.0) in
    let all : length c.in_ok-entries.entries.entries ≡ c.len.result =
    omega (arith, ap (λ (es : List Entry). length es) c.in_ok-entries.ensures.ok.1, entries-length c.args.entries.items, c.args.entries.ok.0, c.len.ensures) in
    all ∙ c.if-len-per.false ∙ ap (λ n. n * c.dir_entries_per_sector-per.result) long ∙ ap (λ n. length c.in_ok-sectors.sectors.items * n) per
