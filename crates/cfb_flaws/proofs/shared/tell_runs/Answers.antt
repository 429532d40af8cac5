use Rattle.std.proofs.Common.{◌≡◌, ◌≢◌, ℕ, List, sym, ◌∙◌, ap, subst, get_or}
use Rattle.std.specs.Prelude.{slice_index}
use Rattle.cfb_soundness.proofs.MarkLemmas.{true_false}
use Rattle.cfb_format.specs.Bytes.{end_of_chain}
use Rattle.cfb_flaws.specs.declared.owner.Owner.{Owner}
use Rattle.cfb_flaws.specs.Claims.{words_of}
use Rattle.cfb_flaws.specs.Flaws.{twice_in}
use Rattle.cfb_flaws.specs.Owners.{owner_at}
use Rattle.cfb_flaws.specs.Searches.{IsWithin}
use Rattle.cfb_flaws.specs.Telling.{owners_of}
use Rattle.cfb_flaws.proofs.Searching.{within-next}
use Rattle.cfb_flaws.proofs.Tellings.{told-after}
use Rattle.cfb_flaws.proofs.Truths.{words-known}
use Rattle.cfb_flaws.proofs.shared.tell_runs.Goals as goal

pub loop-step-init : goal.loop-step-init
loop-step-init g c = λ cases bytes r list reads knows has within ne other.
    let w = c.in_ok-last.ensures.within bytes r list knows within ne in
    (c.in_ok-last.ensures.told cases bytes r list reads knows has within ne other, w.0, w.1)

pub loop-step-preserved : goal.loop-step-preserved
loop-step-preserved g c = λ cases bytes r list reads knows has within ne other.
    let t = c.args.table in
    let known = c.args.known.now in
    let l = c.loop-step in
    let i = l.invariant cases bytes r list reads knows has within ne other in
    let words = c.words_of-words.result.now in
    let w : words ≡ words_of t r = c.words_of-words.ensures ∙ words-known known bytes r knows t in
    let o : c.owners_in-owners.result.now ≡ owners_of t known = c.owners_in-owners.ensures in
    let number = get_or words l.last 0 in
    let on : IsWithin (words_of t r) list number =
    subst (λ (n : ℕ). IsWithin (words_of t r) list n) (sym (ap (λ (z : List ℕ). slice_index z l.last) w)) (within-next (words_of t r) list l.last i.2 i.1) in
    let unlike : owner_at (owners_of t known) number ≢ c.args.owner =
    λ e. true_false c.is_same.result (c.is_same.ensures.1 (c.owner_at.ensures ∙ ap (λ (z : List Owner). owner_at z number) o ∙ e)) c.if-is_same.false in
    let again = c.in_ok-last-2.ensures.within bytes r list knows on c.if-number.false in (
      told-after bytes r (twice_in t) (twice_in t) ⊥ ⊥ c.args.found.now.items l.found.items c.tell_run-in-loop-step.new.found.items i.0
          (c.in_ok-last-2.ensures.told cases bytes r list reads knows has on c.if-number.false unlike),
      again.0,
      again.1,
    )

pub returns-then-at-words-clause-told : goal.returns-then-at-words-clause-told
returns-then-at-words-clause-told g c = λ cases bytes r list reads knows has within ne other. (c.loop-step.invariant cases bytes r list reads knows has within ne other).0

pub returns-then-number-clause-told : goal.returns-then-number-clause-told
returns-then-number-clause-told g c = λ cases bytes r list reads knows has within ne other. (c.loop-step.invariant cases bytes r list reads knows has within ne other).0

pub returns-then-is_same-clause-told : goal.returns-then-is_same-clause-told
returns-then-is_same-clause-told g c = λ cases bytes r list reads knows has within ne other. (c.loop-step.invariant cases bytes r list reads knows has within ne other).0

pub returns-clause-told : goal.returns-clause-told
returns-clause-told g c = λ cases bytes r list reads knows has within ne other. (c.loop-step.invariant cases bytes r list reads knows has within ne other).0
