use Rattle.std.proofs.Common.{◌≡◌, ◌<◌, ℕ, List, [], Bool, true, false, inl, inr, length, refl, sym, ◌∙◌, ap, arith, eq-eqb}
use Rattle.std.specs.Prelude.{slice_index_or, Some, if◌then◌else◌, ◌==◌, ◌&&◌, not}
use Rattle.std.proofs.lemmas.Bool.{eqb-false, lt-leb}
use Rattle.cfb_format.specs.Bytes.{end_of_chain, is_regular, max_regular_sector}
use Rattle.cfb_format.specs.Chain.{chain_from}
use Rattle.cfb_format.specs.Siblings.{entry_at}
use Rattle.cfb_format.proofs.Chains.{chain_from-IsChain}
use Rattle.cfb_format.proofs.Walks.{chain_of as as_chain}
use Rattle.cfb_format.specs.DirectoryEntry.{Entry}
use Rattle.cfb_codecs.specs.EntryModel.{entry_of}
use Rattle.cfb_soundness.specs.Parts.{parts_reading}
use Rattle.cfb_soundness.proofs.StreamLemmas.{entry-there}
use Rattle.cfb_soundness.proofs.TableLemmas.{root-chain}
use Rattle.cfb_flaws.proofs.starts.start_of_mini_stream.Goals as goal
use Rattle.cfb_flaws.proofs.starts.start_of_mini_stream.Goals.{else-root-eq0-via-then-root-eq0+else-root-gt-MAX_REGULAR_SECTOR, else-root-eq0-via-else-root-eq0}

none-there : (table : List ℕ) → chain_from table end_of_chain ≡ Some []
none-there table = (chain_from-IsChain table end_of_chain []).1 (as_chain table end_of_chain [] refl)

pub returns-then-root-gt-MAX_REGULAR_SECTOR-clause-chain : goal.returns-then-root-gt-MAX_REGULAR_SECTOR-clause-chain
returns-then-root-gt-MAX_REGULAR_SECTOR-clause-chain g c = λ some.
    let r = parts_reading c.args.parts.now in
    let e : Entry = entry_of (slice_index_or c.args.parts.now.entries.now 0 c.index-parts-0.result) in
    let there : entry_at r.entries 0 ≡ e = entry-there c.args.parts.now.entries.now 0 c.index-parts-0.result some in
    let empty : (e.stream_len == 0) ≡ true = eq-eqb e.stream_len 0 c.if-root-eq0.true in
    let odd : is_regular e.start_sector ≡ false = lt-leb e.start_sector max_regular_sector c.if-root-gt-MAX_REGULAR_SECTOR.true in
    (λ j. if (there j).stream_len == 0 && not (is_regular (there j).start_sector) then Some [] else chain_from r.fat (there j).start_sector)
    ∙ (λ j. if empty j && not (odd j) then Some [] else chain_from r.fat e.start_sector)
    ∙ sym (none-there r.fat)

pub returns-clause-chain : goal.returns-clause-chain
returns-clause-chain g c = λ some.
    let r = parts_reading c.args.parts.now in
    let e : Entry = entry_of (slice_index_or c.args.parts.now.entries.now 0 c.index-parts-0.result) in
    root-chain r e (entry-there c.args.parts.now.entries.now 0 c.index-parts-0.result some) (elim c.else-root-eq0.branch [
      | else-root-eq0-via-then-root-eq0+else-root-gt-MAX_REGULAR_SECTOR w ↦ inr w.if-root-gt-MAX_REGULAR_SECTOR.false
      | else-root-eq0-via-else-root-eq0 w ↦ inl w.if-root-eq0.false
    ])

pub returns-clause-start : goal.returns-clause-start
returns-clause-start g c = λ ne.
    let some : 0 < length c.args.parts.now.entries.now =
    let n = eqb-false (length c.args.parts.now.entries.now) 0 (sym c.is_empty.ensures ∙ c.if-is_empty.false) in omega (arith, n) in
    ap (λ (e : Entry). e.start_sector) (sym (entry-there c.args.parts.now.entries.now 0 c.index-parts-0.result some))
