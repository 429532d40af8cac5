use Rattle.std.proofs.Common.{◌≡◌, ◌≢◌, ℕ, List, [], false, true, refl, sym, ◌∙◌, ap, subst}
use Rattle.std.specs.Prelude.{Contains, IsSome, slice_index_or}
use Rattle.cfb_codecs.specs.EntryModel.{entry_of}
use Rattle.cfb_format.specs.Content.{content_chain}
use Rattle.cfb_format.specs.DirectoryEntry.{Entry}
use Rattle.cfb_format.specs.Siblings.{entry_at}
use Rattle.cfb_soundness.proofs.MarkLemmas.{true_false}
use Rattle.cfb_flaws.specs.declared.flaw.Flaw.TheVariants.{Broken}
use Rattle.cfb_flaws.specs.declared.owner.Owner.{Owner}
use Rattle.cfb_flaws.specs.declared.owner.Owner.TheVariants.{Stream}
use Rattle.cfb_flaws.specs.Claims.{Arrives, LiesIn, words_of}
use Rattle.cfb_flaws.specs.Flaws.{BreaksAt, HasChainIn, on_chains}
use Rattle.cfb_flaws.specs.Owners.{is_chained, owner_at}
use Rattle.cfb_flaws.specs.Telling.{owners_of}
use Rattle.cfb_flaws.proofs.Knowing.{not-arrived}
use Rattle.cfb_flaws.proofs.Streaming.{known-entry, known-past, off-chain-no-chain, on-chain-some, past-lies}
use Rattle.cfb_flaws.proofs.Tellings.{told-one, told-same}
use Rattle.cfb_flaws.proofs.Truths.{words-known}
use Rattle.cfb_flaws.proofs.streams.tell_broken_stream.Goals as goal

pub returns-then-at-known-clause-told : goal.returns-then-at-known-clause-told
returns-then-at-known-clause-told g c = λ cases bytes r reads knows m.
    let t = c.args.table in
    let k = c.args.number in
    told-same bytes r on_chains (HasChainIn t r k) c.args.found.now.items
    (λ lies. absurd (past-lies t (subst (LiesIn t) (known-past c.args.known.now bytes r knows k c.if-at-known.true) lies)))

pub returns-then-not-lies_in-clause-told : goal.returns-then-not-lies_in-clause-told
returns-then-not-lies_in-clause-told g c = λ cases bytes r reads knows m.
    let t = c.args.table in
    let k = c.args.number in
    let is = known-entry c.args.known.now bytes r knows k c.index-known-at.result c.if-at-known.false in
    told-same bytes r on_chains (HasChainIn t r k) c.args.found.now.items
    (λ lies. absurd (true_false c.lies_in.result (c.lies_in.ensures.lies.1 (subst (LiesIn t) is lies)) c.if-not-lies_in.true))

pub returns-then-is_on_chain-clause-told : goal.returns-then-is_on_chain-clause-told
returns-then-is_on_chain-clause-told g c = λ cases bytes r reads knows m.
    let t = c.args.table in
    let k = c.args.number in
    let known = c.args.known.now in
    let e : Entry = entry_of (slice_index_or known.parts.now.entries.now k c.index-known-at.result) in
    let is : entry_at r.entries k ≡ e = known-entry known bytes r knows k c.index-known-at.result c.if-at-known.false in
    let arrives : Arrives (owners_of t known) e.start_sector = subst (λ (z : List Owner). Arrives z e.start_sector) c.owners_in.ensures (c.is_on_chain.ensures.0 c.if-is_on_chain.true) in
    told-same bytes r on_chains (HasChainIn t r k) c.args.found.now.items
    (λ lies. on-chain-some known cases bytes r reads knows t k m e is (subst (LiesIn t) is lies) arrives)

pub returns-clause-told : goal.returns-clause-told
returns-clause-told g c = λ cases bytes r reads knows m.
    let t = c.args.table in
    let k = c.args.number in
    let known = c.args.known.now in
    let e : Entry = entry_of (slice_index_or known.parts.now.entries.now k c.index-known-at.result) in
    let is : entry_at r.entries k ≡ e = known-entry known bytes r knows k c.index-known-at.result c.if-at-known.false in
    let lies : LiesIn t e = c.lies_in.ensures.lies.0 c.if-not-lies_in.false in
    let n = not-arrived c.owners_in.result.now e.start_sector c.is_on_chain.result c.is_on_chain.ensures c.if-is_on_chain.false in
    let off : is_chained (owner_at (owners_of t known) e.start_sector) ≡ false = ap (λ (z : List Owner). is_chained (owner_at z e.start_sector)) (sym c.owners_in.ensures) ∙ n.1 in
    let place = c.break_of-place.result.0 in
    let w : c.words_of.result.now ≡ words_of t r = c.words_of.ensures ∙ words-known known bytes r knows t in
    let there : BreaksAt (words_of t r) (entry_at r.entries k).start_sector place =
    subst (λ (p : List ℕ × ℕ). BreaksAt p.0 p.1 place) (λ i. (w i, (sym is i).start_sector)) c.break_of-place.ensures in
    let its : LiesIn t (entry_at r.entries k) = subst (LiesIn t) (sym is) lies in
    rw c.in_ok-push.ensures.items
    (told-one bytes r (HasChainIn t r k) c.args.found.now.items (Broken t (Stream k) place)
    (m, off-chain-no-chain known cases bytes r reads knows t k m e is lies n.0 off, its.table, there))

pub break_of-place-requires : goal.break_of-place-requires
break_of-place-requires g c = (not-arrived c.owners_in.result.now _ c.is_on_chain.result c.is_on_chain.ensures c.if-is_on_chain.false).0
