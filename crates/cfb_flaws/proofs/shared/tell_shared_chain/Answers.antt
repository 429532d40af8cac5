use Rattle.std.proofs.Common.{◌≡◌, ◌≢◌, ℕ, List, inl, inr, false, sym, ◌∙◌, ap, subst}
use Rattle.std.specs.Prelude.{Contains, slice_index}
use Rattle.cfb_format.specs.Bytes.{end_of_chain}
use Rattle.cfb_format.specs.Chain.{Follows}
use Rattle.cfb_format.proofs.Chains.{Follows-length}
use Rattle.cfb_flaws.specs.declared.owner.Owner.{Owner}
use Rattle.cfb_flaws.specs.Claims.{Arrives, chain_of, words_of}
use Rattle.cfb_flaws.specs.Flaws.{OwnsIn, twice_in}
use Rattle.cfb_flaws.specs.Owners.{is_chained, owner_at}
use Rattle.cfb_flaws.specs.Searches.{OwnEnd}
use Rattle.cfb_flaws.specs.Telling.{owners_of}
use Rattle.cfb_flaws.proofs.Knowing.{not-arrived}
use Rattle.cfb_flaws.proofs.Sharing.{all-owned, behind-own, off-chain-none, start-follows}
use Rattle.cfb_flaws.proofs.Tellings.{told-map, told-same}
use Rattle.cfb_flaws.proofs.Truths.{words-known}
use Rattle.cfb_flaws.proofs.shared.tell_shared_chain.Goals as goal

pub returns-then-not-is_on_chain-clause-told : goal.returns-then-not-is_on_chain-clause-told
returns-then-not-is_on_chain-clause-told g c = λ cases bytes r reads knows has.
    let t = c.args.table in
    let known = c.args.known.now in
    let start = c.args.start in
    let o : c.owners_in-owners.result.now ≡ owners_of t known = c.owners_in-owners.ensures in
    let n = not-arrived c.owners_in-owners.result.now start c.is_on_chain.result c.is_on_chain.ensures c.if-not-is_on_chain.true in
    let off : is_chained (owner_at (owners_of t known) start) ≡ false = ap (λ (z : List Owner). is_chained (owner_at z start)) (sym o) ∙ n.1 in
    told-same bytes r (twice_in t) (OwnsIn t r c.args.owner (chain_of (words_of t r) start)) c.args.found.now.items
    (λ i m. absurd (off-chain-none known cases bytes r reads knows t c.args.owner start c.requires has n.0 off i m))

pub returns-then-next-clause-told : goal.returns-then-next-clause-told
returns-then-next-clause-told g c = λ cases bytes r reads knows has.
    let t = c.args.table in
    let known = c.args.known.now in
    let start = c.args.start in
    let o : c.owners_in-owners.result.now ≡ owners_of t known = c.owners_in-owners.ensures in
    let w : c.words_of.result.now ≡ words_of t r = c.words_of.ensures ∙ words-known known bytes r knows t in
    let arrives : Arrives (owners_of t known) start = subst (λ (z : List Owner). Arrives z start) o (c.is_on_chain.ensures.0 c.if-not-is_on_chain.false) in
    let list : List ℕ = chain_of (words_of t r) start in
    let f : Follows (words_of t r) start list = start-follows known cases bytes r reads knows t start arrives in
    let own : OwnEnd (words_of t r) (owners_of t known) c.args.owner list c.own_end-next.result =
    subst (λ (p : List ℕ × List Owner). OwnEnd p.0 p.1 c.args.owner list c.own_end-next.result) (λ i. (w i, o i))
    (c.own_end-next.ensures list (subst (λ (z : List ℕ). Follows z start list) (sym w) f) (Follows-length c.words_of.result.now start list (subst (λ (z : List ℕ). Follows z start list) (sym w) f))) in
    told-same bytes r (twice_in t) (OwnsIn t r c.args.owner list) c.args.found.now.items
    (all-owned known cases bytes r reads knows t c.args.owner start c.own_end-next.result f own c.if-next.true)

pub returns-clause-told : goal.returns-clause-told
returns-clause-told g c = λ cases bytes r reads knows has.
    let t = c.args.table in
    let known = c.args.known.now in
    let start = c.args.start in
    let o : c.owners_in-owners.result.now ≡ owners_of t known = c.owners_in-owners.ensures in
    let w : c.words_of.result.now ≡ words_of t r = c.words_of.ensures ∙ words-known known bytes r knows t in
    let arrives : Arrives (owners_of t known) start = subst (λ (z : List Owner). Arrives z start) o (c.is_on_chain.ensures.0 c.if-not-is_on_chain.false) in
    let list : List ℕ = chain_of (words_of t r) start in
    let f : Follows (words_of t r) start list = start-follows known cases bytes r reads knows t start arrives in
    let own : OwnEnd (words_of t r) (owners_of t known) c.args.owner list c.own_end-next.result =
    subst (λ (p : List ℕ × List Owner). OwnEnd p.0 p.1 c.args.owner list c.own_end-next.result) (λ i. (w i, o i))
    (c.own_end-next.ensures list (subst (λ (z : List ℕ). Follows z start list) (sym w) f) (Follows-length c.words_of.result.now start list (subst (λ (z : List ℕ). Follows z start list) (sym w) f))) in
    told-map bytes r (twice_in t) ⊥ (OwnsIn t r c.args.owner list) c.args.found.now.items c.tell_runs.new.found.items (λ e. absurd e)
    (c.in_ok-taken.ensures.told cases bytes r list reads knows has (behind-own known cases bytes r reads knows t c.args.owner list c.own_end-next.result own)
    c.if-next.false (elim own.stops [ inl ended ↦ absurd (c.if-next.false ended) | inr other ↦ other ]))
