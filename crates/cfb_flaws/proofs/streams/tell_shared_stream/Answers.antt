use Rattle.std.proofs.Common.{◌≡◌, ℕ, List, [], refl, sym, ◌∙◌, ap, subst}
use Rattle.std.specs.Prelude.{Contains, slice_index_or}
use Rattle.cfb_codecs.specs.EntryModel.{entry_of}
use Rattle.cfb_format.specs.DirectoryEntry.{Entry}
use Rattle.cfb_format.specs.Siblings.{entry_at}
use Rattle.cfb_format.proofs.Members.{Contains-nil}
use Rattle.cfb_flaws.specs.declared.owner.Owner.TheVariants.{Stream}
use Rattle.cfb_flaws.specs.Claims.{chain_of, members_in, words_of}
use Rattle.cfb_flaws.specs.Flaws.{OwnsIn, OwnsMembers, twice_in}
use Rattle.cfb_flaws.specs.Telling.{Told}
use Rattle.cfb_flaws.proofs.Streaming.{known-entry, known-past, past-members}
use Rattle.cfb_flaws.proofs.Tellings.{told-same}
use Rattle.cfb_flaws.proofs.Truths.{members-has}
use Rattle.cfb_flaws.proofs.streams.tell_shared_stream.Goals as goal

pub returns-then-at-known-clause-told : goal.returns-then-at-known-clause-told
returns-then-at-known-clause-told g c = λ cases bytes r reads knows m.
    let t = c.args.table in
    let k = c.args.number in
    let none : members_in t r (entry_at r.entries k) ≡ [] = ap (members_in t r) (known-past c.args.known.now bytes r knows k c.if-at-known.true) ∙ past-members t r in
    told-same bytes r (twice_in t) (OwnsMembers t r k) c.args.found.now.items (λ i n. absurd (Contains-nil i (subst (λ (z : List ℕ). Contains z i) none n)))

pub returns-clause-told : goal.returns-clause-told
returns-clause-told g c = λ cases bytes r reads knows m.
    let t = c.args.table in
    let k = c.args.number in
    let known = c.args.known.now in
    let e : Entry = entry_of (slice_index_or known.parts.now.entries.now k c.index-known-at.result) in
    let start = c.start_in-start.result in
    let list : members_in t r (entry_at r.entries k) ≡ chain_of (words_of t r) start =
    ap (members_in t r) (known-entry known bytes r knows k c.index-known-at.result c.if-at-known.false) ∙ c.start_in-start.ensures r in
    subst (λ (z : List ℕ). Told (twice_in t) (OwnsIn t r (Stream k) z) bytes r c.args.found.now.items c.tell_shared_chain.new.found.items) (sym list)
    (c.in_ok-taken.ensures.told cases bytes r reads knows (λ i n. members-has t r k m i (subst (λ (z : List ℕ). Contains z i) (sym list) n)))
