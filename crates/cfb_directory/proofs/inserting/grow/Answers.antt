use Rattle.std.proofs.Common.{◌≡◌, ◌≢◌, ◌⊎◌, ℕ, List, length, refl, sym, ◌∙◌, ap, subst, arith}
use Rattle.std.specs.Prelude.{Contains}
use Rattle.std.proofs.lemmas.Result.{err_from_is_err_and}
use Rattle.cfb_format.specs.Bytes.{end_of_chain, entries_per_sector}
use Rattle.cfb_format.specs.Chain.{value}
use Rattle.cfb_format.specs.Refused.{CountsError}
use Rattle.cfb_format.proofs.ByteLemmas.{ChangesOnly_refl}
use Rattle.cfb_sectors.specs.declared.sector.SectorInit.TheVariants.{Dir}
use Rattle.cfb_directory.specs.cfb_tables.Listed.{ends_of, gained, last_or_end}
use Rattle.cfb_directory.specs.cfb_tables.Refused.{ChangeRefused}
use Rattle.cfb_directory.specs.cfb_tables.Tables.{TableState, IsTooFew}
use Rattle.cfb_alloc.specs.Alloc.{IsAsFilled, IsUsable}
use Rattle.cfb_alloc.specs.Frame.{Spares}
use Rattle.cfb_alloc.specs.ListedChain.{Lengthens}
use Rattle.cfb_alloc.proofs.AllocLemmas.{refused-less}
use Rattle.cfb_alloc.proofs.Frames.{spares-less}
use Rattle.cfb_alloc.proofs.Spared.{spares_refl}
use Rattle.cfb_entries.specs.EntryList.{EntryList}
use Rattle.cfb_directory.specs.Growing.{AreSectorsOf, IsListedChain}
use Rattle.cfb_directory.specs.State.{directory_of}
use Rattle.cfb_directory.specs.Steps.{IsDirectoryNotHeld}
use Rattle.cfb_directory.proofs.InsertGrow.{ends-among, few-sectors, grown-entries, grown-header, grown-holds, grown-many, grown-placed, grown-spares, lengthens-held, medium-broke, slots-kept}
use Rattle.cfb_directory.proofs.LeastAbove.{least-kept}
use Rattle.cfb_directory.proofs.inserting.grow.Goals as goal

pub returns-in_err-fresh-clause-spares : goal.returns-in_err-fresh-clause-spares
returns-in_err-fresh-clause-spares g c told = spares_refl _ c.args.allocator.now

pub returns-in_err-reserve-clause-spares : goal.returns-in_err-reserve-clause-spares
returns-in_err-reserve-clause-spares g c told = spares_refl _ c.args.allocator.now

pub returns-in_err-reserve-2-clause-spares : goal.returns-in_err-reserve-2-clause-spares
returns-in_err-reserve-2-clause-spares g c told = spares_refl _ c.args.allocator.now

pub returns-in_err-lengthen-clause-spares : goal.returns-in_err-lengthen-clause-spares
returns-in_err-lengthen-clause-spares g c told =
    let ss = c.args.sectors.now.items in
    spares-less (ends_of ss) ss c.args.allocator.now c.lengthen.new.allocator (ends-among ss)
    (subst (λ (l : List ℕ). Spares (ends_of l) c.args.allocator.now c.lengthen.new.allocator) c.in_ok-reserve-2.ensures.items (c.lengthen.ensures.spares told))

pub returns-in_err-lengthen-clause-slots : goal.returns-in_err-lengthen-clause-slots
returns-in_err-lengthen-clause-slots g c told validation held k lt =
    let b = c.lengthen.new.allocator in
    slots-kept validation (directory_of c.args.allocator.now c.args.sectors.now.items c.args.entries.now) held b (c.lengthen.ensures.others told) b.file.bytes
    (ChangesOnly_refl 40 4 b.file.bytes) c.args.entries.now.entries held.slots.count k lt

pub returns-in_err-lengthen-clause-err : goal.returns-in_err-lengthen-clause-err
returns-in_err-lengthen-clause-err g c =
    let d = directory_of c.args.allocator.now c.args.sectors.now.items c.args.entries.now in
    let t = c.args.allocator.now.tables in
    let p = err_from_is_err_and c.from_residual-in_err-lengthen.result c.from_residual-in_err-lengthen.ensures.1 in
    rw (p.1, p.2) (refused-less _ (IsDirectoryNotHeld d) (Unit {0}) (IsTooFew t 1) (Unit {0}) (lengthens-held d) _
    (subst (λ (l : List ℕ). ChangeRefused ((IsUsable t → ⊥) ⊎ ((last_or_end l ≢ end_of_chain) × (value t.fat (last_or_end l) ≢ end_of_chain))) (Unit {0}) (IsTooFew t 1) (Unit {0}) c.in_err-lengthen.field-0.0)
    c.in_ok-reserve-2.ensures.items c.in_err-lengthen.ensures.err))

pub count_sectors-requires : goal.count_sectors-requires
count_sectors-requires g c =
    let ids = c.in_ok-reserve-2.ensures.items in
    let a = c.args.allocator.now in
    let d = directory_of a c.args.sectors.now.items c.args.entries.now in
    let b = c.lengthen.new.allocator in
    let after = c.lengthen.new.sectors.items in
    let got = c.grow.new.self.entries in
    let per : c.dir_entries_per_sector-per.result ≡ entries_per_sector a.tables.version = cc in
    let grown = grown-entries got c.reserve.new.self c.args.entries.now _ _ c.grow.ensures.grown (ap (λ (l : EntryList). l.entries) c.in_ok-reserve.ensures.same) (c.in_ok-fresh.ensures.count ∙ per) in
    let lengthened = subst (λ (l : List ℕ). Lengthens 1 l after a.tables b.tables) ids c.in_ok-lengthen.ensures.lengthened in
    let within = c.in_ok-lengthen.ensures.within (subst (AreSectorsOf a.tables) (sym ids) c.requires.placed.within) in
    let placed = grown-placed d b b after got c.requires.placed lengthened c.in_ok-lengthen.ensures.bounds within grown refl in
    let few = few-sectors b.tables.version after (length got) (length b.tables.fat) placed (grown-many c.args.entries.now.entries got _ grown c.requires.few) in
    record { few = omega (arith, few, c.len.ensures) }

pub returns-in_err-count_sectors-clause-spares : goal.returns-in_err-count_sectors-clause-spares
returns-in_err-count_sectors-clause-spares g c told =
    let ids = c.in_ok-reserve-2.ensures.items in
    let a = c.args.allocator.now in
    let b = c.lengthen.new.allocator in
    let e = c.count_sectors.new.allocator in
    grown-spares c.args.sectors.now.items a b e (subst (λ (l : List ℕ). Spares (ends_of l) a b) ids (c.lengthen.ensures.spares told)) (c.count_sectors.ensures.spares told)

pub returns-in_err-count_sectors-clause-header : goal.returns-in_err-count_sectors-clause-header
returns-in_err-count_sectors-clause-header g c told i lt kept =
    let a = c.args.allocator.now in
    let b = c.lengthen.new.allocator in
    let e = c.count_sectors.new.allocator in
    grown-header a b e (c.lengthen.ensures.others told) (λ v3. (c.count_sectors.ensures.same (c.lengthen.ensures.bounds.version ∙ v3)).0) (c.count_sectors.ensures.others told) i lt kept

pub returns-in_err-count_sectors-clause-slots : goal.returns-in_err-count_sectors-clause-slots
returns-in_err-count_sectors-clause-slots g c told validation held k lt =
    let a = c.args.allocator.now in
    let b = c.lengthen.new.allocator in
    let e = c.count_sectors.new.allocator in
    let d = directory_of a c.args.sectors.now.items c.args.entries.now in
    slots-kept validation d held b (c.lengthen.ensures.others told) e.file.bytes (c.count_sectors.ensures.others told) c.args.entries.now.entries held.slots.count k lt

pub returns-clause-spares : goal.returns-clause-spares
returns-clause-spares g c told =
    let ids = c.in_ok-reserve-2.ensures.items in
    let a = c.args.allocator.now in
    let b = c.lengthen.new.allocator in
    let e = c.count_sectors.new.allocator in
    grown-spares c.args.sectors.now.items a b e (subst (λ (l : List ℕ). Spares (ends_of l) a b) ids (c.lengthen.ensures.spares told)) (c.count_sectors.ensures.spares told)

pub returns-clause-header : goal.returns-clause-header
returns-clause-header g c told i lt kept =
    let a = c.args.allocator.now in
    let b = c.lengthen.new.allocator in
    let e = c.count_sectors.new.allocator in
    grown-header a b e (c.lengthen.ensures.others told) (λ v3. (c.count_sectors.ensures.same (c.lengthen.ensures.bounds.version ∙ v3)).0) (c.count_sectors.ensures.others told) i lt kept

pub returns-clause-slots : goal.returns-clause-slots
returns-clause-slots g c told validation held k lt =
    let a = c.args.allocator.now in
    let b = c.lengthen.new.allocator in
    let e = c.count_sectors.new.allocator in
    let d = directory_of a c.args.sectors.now.items c.args.entries.now in
    slots-kept validation d held b (c.lengthen.ensures.others told) e.file.bytes (c.count_sectors.ensures.others told) c.args.entries.now.entries held.slots.count k lt

pub returns-in_err-count_sectors-clause-refused : goal.returns-in_err-count_sectors-clause-refused
returns-in_err-count_sectors-clause-refused g c =
    let p = err_from_is_err_and c.from_residual-in_err-count_sectors.result c.from_residual-in_err-count_sectors.ensures.1 in
    rw (p.1, p.2) (medium-broke _ _ (c.count_sectors.ensures.begun c.in_ok-lengthen.ensures.begun) c.in_err-count_sectors.field-0.0 c.in_err-count_sectors.ensures.err)

pub returns-in_err-count_sectors-clause-counts : goal.returns-in_err-count_sectors-clause-counts
returns-in_err-count_sectors-clause-counts g c told =
    let p = err_from_is_err_and c.from_residual-in_err-count_sectors.result c.from_residual-in_err-count_sectors.ensures.1 in
    rw (p.1, p.2) (subst (λ n. CountsError g.F.Medium.write_faults n c.count_sectors.new.allocator.file.failures c.in_err-count_sectors.field-0.0) (c.in_ok-lengthen.ensures.counts told)
    (c.in_err-count_sectors.ensures.counts told))

pub returns-clause-counts : goal.returns-clause-counts
returns-clause-counts g c told = c.in_ok-count_sectors.ensures.counts told ∙ c.in_ok-lengthen.ensures.counts told

pub returns-clause-placed : goal.returns-clause-placed
returns-clause-placed g c =
    let ids = c.in_ok-reserve-2.ensures.items in
    let a = c.args.allocator.now in
    let d = directory_of a c.args.sectors.now.items c.args.entries.now in
    let b = c.lengthen.new.allocator in
    let after = c.lengthen.new.sectors.items in
    let got = c.grow.new.self.entries in
    let per : c.dir_entries_per_sector-per.result ≡ entries_per_sector a.tables.version = cc in
    let grown = grown-entries got c.reserve.new.self c.args.entries.now _ _ c.grow.ensures.grown (ap (λ (l : EntryList). l.entries) c.in_ok-reserve.ensures.same) (c.in_ok-fresh.ensures.count ∙ per) in
    let lengthened = subst (λ (l : List ℕ). Lengthens 1 l after a.tables b.tables) ids c.in_ok-lengthen.ensures.lengthened in
    let within = c.in_ok-lengthen.ensures.within (subst (AreSectorsOf a.tables) (sym ids) c.requires.placed.within) in
    grown-placed d b c.count_sectors.new.allocator after got c.requires.placed lengthened c.in_ok-lengthen.ensures.bounds within grown c.count_sectors.ensures.tables

pub returns-clause-chain : goal.returns-clause-chain
returns-clause-chain g c chain =
    subst (λ (t : TableState). IsListedChain t c.lengthen.new.sectors.items) (sym c.count_sectors.ensures.tables)
    (c.in_ok-lengthen.ensures.chain (subst (IsListedChain c.args.allocator.now.tables) (sym c.in_ok-reserve-2.ensures.items) chain))

pub returns-clause-count : goal.returns-clause-count
returns-clause-count g c told version =
    let n : c.len.result ≡ length c.lengthen.new.sectors.items = omega (arith, c.len.ensures) in
    c.in_ok-count_sectors.ensures.count told (c.lengthen.ensures.bounds.version ∙ version) ∙ n

pub returns-clause-holds : goal.returns-clause-holds
returns-clause-holds g c told validation held =
    let ids = c.in_ok-reserve-2.ensures.items in
    let a = c.args.allocator.now in
    let d = directory_of a c.args.sectors.now.items c.args.entries.now in
    let b = c.lengthen.new.allocator in
    let after = c.lengthen.new.sectors.items in
    let got = c.grow.new.self.entries in
    let e = c.count_sectors.new.allocator in
    let per : c.dir_entries_per_sector-per.result ≡ entries_per_sector a.tables.version = cc in
    let grown = grown-entries got c.reserve.new.self c.args.entries.now _ _ c.grow.ensures.grown (ap (λ (l : EntryList). l.entries) c.in_ok-reserve.ensures.same) (c.in_ok-fresh.ensures.count ∙ per) in
    let lengthened = subst (λ (l : List ℕ). Lengthens 1 l after a.tables b.tables) ids c.in_ok-lengthen.ensures.lengthened in
    let n : c.len.result ≡ length after = omega (arith, c.len.ensures) in
    let filled = subst (λ (l : List ℕ). (i : ℕ) → Contains (gained l after) i → IsAsFilled b.tables.version Dir b.file.bytes i) ids (c.in_ok-lengthen.ensures.filled told validation held.tables) in
    grown-holds validation d (directory_of e after c.grow.new.self) b held lengthened (c.in_ok-lengthen.ensures.chain (subst (IsListedChain a.tables) (sym ids) held.chain))
    c.lengthen.ensures.bounds c.in_ok-lengthen.ensures.sizes filled (c.lengthen.ensures.others told) c.count_sectors.ensures.tables
    (λ v3. (c.count_sectors.ensures.same v3).0) (λ v4. c.in_ok-count_sectors.ensures.count told v4 ∙ n)
    (c.in_ok-count_sectors.ensures.holds told validation (c.in_ok-lengthen.ensures.holds told validation held.tables)) (c.count_sectors.ensures.others told)
    grown (grown-many c.args.entries.now.entries got _ grown c.requires.few)

pub returns-clause-long : goal.returns-clause-long
returns-clause-long g c told version = c.in_ok-count_sectors.ensures.long told (c.lengthen.ensures.bounds.version ∙ version)

pub returns-in_err-reserve-2-clause-above : goal.returns-in_err-reserve-2-clause-above
returns-in_err-reserve-2-clause-above g c least = least-kept c.args.sectors.now.items c.reserve-2.new.self.items c.args.above.now c.reserve-2.ensures.items least

pub returns-in_err-lengthen-clause-above : goal.returns-in_err-lengthen-clause-above
returns-in_err-lengthen-clause-above g c least = c.lengthen.ensures.above (least-kept c.args.sectors.now.items c.reserve-2.new.self.items c.args.above.now c.reserve-2.ensures.items least)

pub returns-in_err-count_sectors-clause-above : goal.returns-in_err-count_sectors-clause-above
returns-in_err-count_sectors-clause-above g c least = c.lengthen.ensures.above (least-kept c.args.sectors.now.items c.reserve-2.new.self.items c.args.above.now c.reserve-2.ensures.items least)

pub returns-clause-above : goal.returns-clause-above
returns-clause-above g c least = c.lengthen.ensures.above (least-kept c.args.sectors.now.items c.reserve-2.new.self.items c.args.above.now c.reserve-2.ensures.items least)
