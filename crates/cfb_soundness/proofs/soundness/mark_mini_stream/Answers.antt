use Rattle.std.proofs.Common.{◌<◌, inl, inr, length, sym, ◌∙◌, arith}
use Rattle.std.specs.Prelude.{slice_index_or}
use Rattle.std.proofs.lemmas.Bool.{eqb-false}
use Rattle.cfb_format.specs.DirectoryEntry.{Entry}
use Rattle.cfb_codecs.specs.EntryModel.{entry_of}
use Rattle.cfb_format.proofs.Chains.{chain_from-IsChain}
use Rattle.cfb_soundness.specs.Parts.{parts_reading}
use Rattle.cfb_soundness.proofs.MarkLemmas.{fresh-none}
use Rattle.cfb_soundness.proofs.StreamLemmas.{entry-there}
use Rattle.cfb_soundness.proofs.TableLemmas.{IfSome-map, IfNone-map, root-chain}
use Rattle.cfb_soundness.proofs.soundness.mark_mini_stream.Goals as goal
use Rattle.cfb_soundness.proofs.soundness.mark_mini_stream.Goals.{else-root-eq0-via-then-root-eq0+else-root-gt-MAX_REGULAR_SECTOR, else-root-eq0-via-else-root-eq0}
use Rattle.cfb_codecs.proofs.Refusals.{ok_follows}

pub returns-then-root-gt-MAX_REGULAR_SECTOR-clause-fresh : goal.returns-then-root-gt-MAX_REGULAR_SECTOR-clause-fresh
returns-then-root-gt-MAX_REGULAR_SECTOR-clause-fresh g c = rw c.new.ensures.items (fresh-none c.args.marks.now)

pub returns-clause-chain : goal.returns-clause-chain
returns-clause-chain g c =
    let r = parts_reading c.args.parts.now in
    let e : Entry = entry_of (slice_index_or c.args.parts.now.entries.now 0 c.index-parts-0.result) in
    let some : 0 < length c.args.parts.now.entries.now =
    let ne = eqb-false (length c.args.parts.now.entries.now) 0 (sym c.is_empty.ensures ∙ c.if-is_empty.false) in omega (arith, ne) in
    let there = root-chain r e (entry-there c.args.parts.now.entries.now 0 c.index-parts-0.result some) (elim c.else-root-eq0.branch [
      | else-root-eq0-via-then-root-eq0+else-root-gt-MAX_REGULAR_SECTOR w ↦ inr w.if-root-gt-MAX_REGULAR_SECTOR.false
      | else-root-eq0-via-else-root-eq0 w ↦ inl w.if-root-eq0.false
    ]) in
    ok_follows c.walk_marking.result _ _
    (λ found. IfSome-map found _ _ (λ root chain. there ∙ (chain_from-IsChain r.fat e.start_sector root.items).1 chain))
    c.walk_marking.ensures.chain

pub returns-clause-none : goal.returns-clause-none
returns-clause-none g c =
    let r = parts_reading c.args.parts.now in
    let e : Entry = entry_of (slice_index_or c.args.parts.now.entries.now 0 c.index-parts-0.result) in
    let some : 0 < length c.args.parts.now.entries.now =
    let ne = eqb-false (length c.args.parts.now.entries.now) 0 (sym c.is_empty.ensures ∙ c.if-is_empty.false) in omega (arith, ne) in
    let there = root-chain r e (entry-there c.args.parts.now.entries.now 0 c.index-parts-0.result some) (elim c.else-root-eq0.branch [
      | else-root-eq0-via-then-root-eq0+else-root-gt-MAX_REGULAR_SECTOR w ↦ inr w.if-root-gt-MAX_REGULAR_SECTOR.false
      | else-root-eq0-via-else-root-eq0 w ↦ inl w.if-root-eq0.false
    ]) in
    ok_follows c.walk_marking.result _ _
    (λ found. IfNone-map found _ _
    (λ none _some root is fresh. none root ((chain_from-IsChain r.fat e.start_sector root).0 (sym there ∙ is)) fresh))
    c.walk_marking.ensures.none
