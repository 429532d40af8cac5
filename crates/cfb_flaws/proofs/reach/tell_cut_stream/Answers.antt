use Rattle.std.proofs.Common.{◌≡◌, ◌≢◌, ◌≤◌, ◌<◌, ℕ, List, [], false, true, length, min, refl, sym, ◌∙◌, ap, subst, arith}
use Rattle.std.specs.Prelude.{Contains, IsSome, None, slice_index_or}
use Rattle.cfb_codecs.specs.EntryModel.{entry_of}
use Rattle.cfb_format.specs.Chain.{Follows}
use Rattle.cfb_format.specs.Content.{content_chain, readable}
use Rattle.cfb_format.specs.DirectoryEntry.{Entry}
use Rattle.cfb_format.specs.Siblings.{entry_at}
use Rattle.cfb_soundness.proofs.MarkLemmas.{true_false}
use Rattle.cfb_flaws.specs.declared.owner.Owner.{Owner}
use Rattle.cfb_flaws.specs.Claims.{Arrives, LiesIn, chain_of, words_in, words_of}
use Rattle.cfb_flaws.specs.Flaws.{IsWholeIn, on_whole}
use Rattle.cfb_flaws.specs.Owners.{is_chained, owner_at}
use Rattle.cfb_flaws.specs.Reach.{reach_of}
use Rattle.cfb_flaws.specs.Telling.{owners_of}
use Rattle.cfb_flaws.proofs.Filling.{least, none-read, read-reach}
use Rattle.cfb_flaws.proofs.Knowing.{not-arrived}
use Rattle.cfb_flaws.proofs.Sharing.{start-follows}
use Rattle.cfb_flaws.proofs.Streaming.{known-entry, known-past, off-chain-no-chain, past-lies}
use Rattle.cfb_flaws.proofs.Tellings.{told-map, told-same}
use Rattle.cfb_flaws.proofs.Truths.{words-known}
use Rattle.cfb_flaws.proofs.reach.tell_cut_stream.Goals as goal

pub returns-then-at-known-clause-told : goal.returns-then-at-known-clause-told
returns-then-at-known-clause-told g c = λ cases bytes r reads knows m kr.
    let t = c.args.table in
    let k = c.args.number in
    told-same bytes r on_whole (IsWholeIn t bytes r k) c.args.found.now.items
    (λ lies. absurd (past-lies t (subst (LiesIn t) (known-past c.args.known.now bytes r knows k c.if-at-known.true) lies)))

pub returns-then-not-lies_in-clause-told : goal.returns-then-not-lies_in-clause-told
returns-then-not-lies_in-clause-told g c = λ cases bytes r reads knows m kr.
    let t = c.args.table in
    let k = c.args.number in
    let is = known-entry c.args.known.now bytes r knows k c.index-known-at.result c.if-at-known.false in
    told-same bytes r on_whole (IsWholeIn t bytes r k) c.args.found.now.items
    (λ lies. absurd (true_false c.lies_in.result (c.lies_in.ensures.lies.1 (subst (LiesIn t) is lies)) c.if-not-lies_in.true))

pub returns-then-not-is_on_chain-clause-told : goal.returns-then-not-is_on_chain-clause-told
returns-then-not-is_on_chain-clause-told g c = λ cases bytes r reads knows m kr.
    let t = c.args.table in
    let k = c.args.number in
    let known = c.args.known.now in
    let e : Entry = entry_of (slice_index_or known.parts.now.entries.now k c.index-known-at.result) in
    let is : entry_at r.entries k ≡ e = known-entry known bytes r knows k c.index-known-at.result c.if-at-known.false in
    let lies : LiesIn t e = c.lies_in.ensures.lies.0 c.if-not-lies_in.false in
    let n = not-arrived c.owners_in.result.now e.start_sector c.is_on_chain.result c.is_on_chain.ensures c.if-not-is_on_chain.true in
    let off : is_chained (owner_at (owners_of t known) e.start_sector) ≡ false = ap (λ (z : List Owner). is_chained (owner_at z e.start_sector)) (sym c.owners_in.ensures) ∙ n.1 in
    let none = off-chain-no-chain known cases bytes r reads knows t k m e is lies n.0 off in
    told-map bytes r on_whole (length (readable bytes r (entry_at r.entries k)) ≡ (entry_at r.entries k).stream_len) (IsWholeIn t bytes r k) c.args.found.now.items c.tell_cut.new.found.items
    (λ whole _l. whole)
    (c.in_ok-tell_cut.ensures.told bytes r m (none-read bytes r (entry_at r.entries k) none) (ap (λ (x : Entry). x.stream_len) (sym is)))

pub returns-clause-told : goal.returns-clause-told
returns-clause-told g c = λ cases bytes r reads knows m kr.
    let t = c.args.table in
    let k = c.args.number in
    let known = c.args.known.now in
    let e : Entry = entry_of (slice_index_or known.parts.now.entries.now k c.index-known-at.result) in
    let is : entry_at r.entries k ≡ e = known-entry known bytes r knows k c.index-known-at.result c.if-at-known.false in
    let lies : LiesIn t e = c.lies_in.ensures.lies.0 c.if-not-lies_in.false in
    let arrives : Arrives (owners_of t known) e.start_sector = subst (λ (z : List Owner). Arrives z e.start_sector) c.owners_in.ensures (c.is_on_chain.ensures.0 c.if-not-is_on_chain.false) in
    let list : List ℕ = chain_of (words_of t r) e.start_sector in
    let f : Follows (words_of t r) e.start_sector list = start-follows known cases bytes r reads knows t e.start_sector arrives in
    let f' : Follows (words_in t known.parts.now) e.start_sector list = subst (λ (z : List ℕ). Follows z e.start_sector list) (sym (words-known known bytes r knows t)) f in
    let reach = c.in_ok-there.ensures.reach list f' kr in
    let read : length (readable bytes r (entry_at r.entries k)) ≡ min e.stream_len (reach_of known t list) = ap (λ (x : Entry). length (readable bytes r x)) is ∙ read-reach known bytes r knows t e list lies f in
    told-map bytes r on_whole (length (readable bytes r (entry_at r.entries k)) ≡ (entry_at r.entries k).stream_len) (IsWholeIn t bytes r k) c.args.found.now.items c.tell_cut-2.new.found.items
    (λ whole _l. whole)
    (c.in_ok-tell_cut-2.ensures.told bytes r m
    (c.min.ensures ∙ least c.in_ok-there.there (reach_of known t list) e.stream_len (length (readable bytes r (entry_at r.entries k))) reach read (omega arith))
    (ap (λ (x : Entry). x.stream_len) (sym is)))

pub returns-clause-reach : goal.returns-clause-reach
returns-clause-reach g c = λ cases bytes r reads knows kr.
    let t = c.args.table in
    let k = c.args.number in
    let known = c.args.known.now in
    let e : Entry = entry_of (slice_index_or known.parts.now.entries.now k c.index-known-at.result) in
    let arrives : Arrives (owners_of t known) e.start_sector = subst (λ (z : List Owner). Arrives z e.start_sector) c.owners_in.ensures (c.is_on_chain.ensures.0 c.if-not-is_on_chain.false) in
    let list : List ℕ = chain_of (words_of t r) e.start_sector in
    let f : Follows (words_of t r) e.start_sector list = start-follows known cases bytes r reads knows t e.start_sector arrives in
    let f' : Follows (words_in t known.parts.now) e.start_sector list = subst (λ (z : List ℕ). Follows z e.start_sector list) (sym (words-known known bytes r knows t)) f in
    c.in_ok-there.ensures.knows list f' kr
