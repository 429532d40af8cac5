use Rattle.std.proofs.Common.{◌≡◌, ℕ, List, [], length, refl, sym, ◌∙◌, ap, subst}
use Rattle.std.specs.Prelude.{slice_index_or, OnOk}
use Rattle.cfb_soundness.specs.declared.parts.Parts.{Parts}
use Rattle.cfb_format.specs.DirectoryEntry.{Entry, unallocated_entry}
use Rattle.cfb_format.specs.Siblings.{entry_at}
use Rattle.cfb_codecs.specs.EntryModel.{entry_of}
use Rattle.cfb_soundness.specs.Parts.{parts_reading}
use Rattle.cfb_soundness.proofs.StreamLemmas.{entry-there, entry-past}
use Rattle.cfb_flaws.specs.declared.owner.Owner.TheVariants.{Stream}
use Rattle.cfb_flaws.specs.declared.owner.Table.{Table}
use Rattle.cfb_flaws.specs.declared.owner.Table.TheVariants.{Fat, Minifat}
use Rattle.cfb_format.specs.Reading.{Reading}
use Rattle.cfb_flaws.specs.Claims.{Claimed, IsKnown, chain_of, members_in, words_in, words_of}
use Rattle.cfb_flaws.proofs.Claiming.{claimed-none}
use Rattle.cfb_flaws.proofs.owners.claim_stream.Goals as goal

none-there : (t : Table) (r : Reading) → members_in t r unallocated_entry ≡ []
none-there Fat r = refl
none-there Minifat r = refl

pub returns-then-at-parts-clause-claimed : goal.returns-then-at-parts-clause-claimed
returns-then-at-parts-clause-claimed g c = λ known.
    let r = parts_reading c.args.parts.now in
    let past = entry-past c.args.parts.now.entries.now c.args.number c.if-at-parts.true in
    let none : members_in c.args.table r (entry_at r.entries c.args.number) ≡ [] = ap (members_in c.args.table r) past ∙ none-there c.args.table r in
    subst (λ (z : List ℕ). Claimed c.args.owners.now z (Stream c.args.number) c.args.owners.now) (sym none) (claimed-none c.args.owners.now (Stream c.args.number))

same-words : {A : Type 0} (t : Table) (parts : Parts A) → words_of t (parts_reading parts) ≡ words_in t parts
same-words Fat parts = refl
same-words Minifat parts = refl

pub returns-clause-claimed : goal.returns-clause-claimed
returns-clause-claimed g c = λ known.
    let r = parts_reading c.args.parts.now in
    let e : Entry = entry_of (slice_index_or c.args.parts.now.entries.now c.args.number c.index-parts-at.result) in
    let there : entry_at r.entries c.args.number ≡ e = entry-there c.args.parts.now.entries.now c.args.number c.index-parts-at.result c.if-at-parts.false in
    let words : c.words_of-words.result.now ≡ words_in c.args.table c.args.parts.now = c.words_of-words.ensures in
    let start = c.start_in-start.result in
    let known' : IsKnown c.words_of-words.result.now c.args.owners.now c.args.seen.now = subst (λ (z : List ℕ). IsKnown z c.args.owners.now c.args.seen.now) (sym words) known in
    let list : members_in c.args.table r (entry_at r.entries c.args.number) ≡ chain_of c.words_of-words.result.now start =
    ap (members_in c.args.table r) there ∙ c.start_in-start.ensures r ∙ ap (λ (z : List ℕ). chain_of z start) (same-words c.args.table c.args.parts.now ∙ sym words) in
    subst (λ (z : List ℕ). OnOk c.claim_chain.result (Claimed c.args.owners.now z (Stream c.args.number) c.claim_chain.new.owners)) (sym list) (c.claim_chain.ensures.claimed known')

pub returns-clause-known : goal.returns-clause-known
returns-clause-known g c = λ known.
    let words : c.words_of-words.result.now ≡ words_in c.args.table c.args.parts.now = c.words_of-words.ensures in
    let known' : IsKnown c.words_of-words.result.now c.args.owners.now c.args.seen.now = subst (λ (z : List ℕ). IsKnown z c.args.owners.now c.args.seen.now) (sym words) known in
    subst (λ (z : List ℕ). OnOk c.claim_chain.result (IsKnown z c.claim_chain.new.owners c.claim_chain.new.seen)) words (c.claim_chain.ensures.known known')
