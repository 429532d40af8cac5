use Rattle.std.proofs.Common.{◌≡◌, ◌≢◌, ℕ, List, sym, ◌∙◌, ap, subst}
use Rattle.cfb_format.specs.Bytes.{end_of_chain}
use Rattle.cfb_format.specs.Reading.{Reading}
use Rattle.cfb_flaws.specs.declared.flaw.Flaw.TheVariants.{UsedTwice}
use Rattle.cfb_flaws.specs.declared.owner.Owner.{Owner}
use Rattle.cfb_flaws.specs.Claims.{words_of}
use Rattle.cfb_flaws.specs.Owners.{owner_at}
use Rattle.cfb_flaws.specs.Searches.{IsRun, IsWithin, RunEnd}
use Rattle.cfb_flaws.specs.Telling.{KnowsFile, owners_of}
use Rattle.cfb_flaws.proofs.Sharing.{run-true}
use Rattle.cfb_flaws.proofs.Tellings.{told-one}
use Rattle.cfb_flaws.proofs.Truths.{words-known}
use Rattle.cfb_flaws.proofs.shared.tell_run.Goals as goal

pub returns-clause-told : goal.returns-clause-told
returns-clause-told g c = λ cases bytes r list reads knows has within ne other.
    let t = c.args.table in
    let known = c.args.known.now in
    let w : c.words_of.result.now ≡ words_of t r = c.words_of.ensures ∙ words-known known bytes r knows t in
    let o : c.owners_in-owners.result.now ≡ owners_of t known = c.owners_in-owners.ensures in
    let run : IsRun (words_of t r) (owners_of t known) list c.args.first c.last_of_run-last.result =
    subst (λ (p : List ℕ × List Owner). RunEnd p.0 p.1 list c.args.first c.last_of_run-last.result) (λ i. (w i, o i)) (c.last_of_run-last.ensures.run list) within ne in
    let a : c.owner_at.result ≡ owner_at (owners_of t known) c.args.first = c.owner_at.ensures ∙ ap (λ (z : List Owner). owner_at z c.args.first) o in
    rw c.in_ok-push.ensures.items
    (told-one bytes r ⊥ c.args.found.now.items (UsedTwice t c.args.first c.last_of_run-last.result c.owner_at.result c.args.owner)
    (run-true known cases bytes r reads knows t c.args.owner c.owner_at.result list c.args.first c.last_of_run-last.result a run has c.last_of_run-last.ensures.last other))

pub returns-clause-within : goal.returns-clause-within
returns-clause-within g c = λ bytes r list knows within ne.
    let t = c.args.table in
    let known = c.args.known.now in
    let w : c.words_of.result.now ≡ words_of t r = c.words_of.ensures ∙ words-known known bytes r knows t in
    let o : c.owners_in-owners.result.now ≡ owners_of t known = c.owners_in-owners.ensures in
    let run : IsRun (words_of t r) (owners_of t known) list c.args.first c.last_of_run-last.result =
    subst (λ (p : List ℕ × List Owner). RunEnd p.0 p.1 list c.args.first c.last_of_run-last.result) (λ i. (w i, o i)) (c.last_of_run-last.ensures.run list) within ne in
    (run.within, run.goes_on)
