use Rattle.std.proofs.Common.{◌≡◌, ℕ, List, true, arith, sym, subst, ap}
use Rattle.std.specs.Prelude.{IsTrue, slice_index}
use Rattle.std.proofs.lemmas.Result.{err_from_is_err_and}
use Rattle.cfb_format.specs.Bytes.{is_whole_sector}
use Rattle.cfb_format.specs.Chain.{IsChain}
use Rattle.cfb_alloc.specs.Alloc.{AllocatorState, IsMeasured}
use Rattle.cfb_reading.specs.ReadMinifat.{NoMinifatWords}
use Rattle.cfb_reading.proofs.WordReading.{no-words, words-all}
use Rattle.cfb_reading.proofs.minifat.read_minifat_words.Goals as goal
use Rattle.cfb_reading.proofs.cfb_tables.Refusals.{refused-as}

pub returns-in_err-read_words-clause-err : goal.returns-in_err-read_words-clause-err
returns-in_err-read_words-clause-err g c =
    let a = c.args.allocator.now in
    let b = c.loop-sector.allocator in
    let all = c.deref-sector-items.result.now in
    let i = c.loop-sector.sector-index in
    let inv = c.loop-sector.invariant in
    let chain : IsChain a.tables.fat c.args.start all =
    subst (λ (list : List ℕ). IsChain a.tables.fat c.args.start list) (sym c.deref-sector-items.ensures.value) c.in_ok-sectors.ensures.ok in
    let none : (IsTrue g.F.ReadMedium.tells → IsMeasured b.file → is_whole_sector b.tables.version b.file.bytes (slice_index all i) ≡ true → ⊥)
    → IsTrue g.F.ReadMedium.tells → IsMeasured a.file → NoMinifatWords a.tables.version a.file.bytes a.tables.fat c.args.start =
    λ cut tells measured.
    no-words a.tables.version b.tables.version a.file.bytes b.file.bytes a.tables.fat c.args.start all i chain (omega arith)
    (ap (λ t. t.version) inv.tables) (ap (λ (s : AllocatorState). s.file.bytes) (inv.same tells))
    (cut tells (subst (λ (s : AllocatorState). IsMeasured s.file) (sym (inv.same tells)) measured)) in
    let p = err_from_is_err_and c.from_residual-in_err-read_words.result c.from_residual-in_err-read_words.ensures.1 in
    rw (p.1, p.2) (refused-as _ _ _ _ _ _ _ _ none (λ u. u) (λ never. never) (λ u. u) c.in_err-read_words.field-0.0 c.in_err-read_words.ensures.err)

pub returns-clause-read : goal.returns-clause-read
returns-clause-read g c tells measured sectors other =
    let a = c.args.allocator.now in
    let all = c.deref-sector-items.result.now in
    let chain : IsChain a.tables.fat c.args.start all =
    subst (λ (list : List ℕ). IsChain a.tables.fat c.args.start list) (sym c.deref-sector-items.ensures.value) c.in_ok-sectors.ensures.ok in
    words-all g.F.ReadMedium.tells (IsMeasured a.file) a.tables.version a.file.bytes a.tables.fat c.args.start all c.loop-sector.words.items c.loop-sector.sector-index chain
    (omega arith) c.loop-sector.invariant.read tells measured sectors other
