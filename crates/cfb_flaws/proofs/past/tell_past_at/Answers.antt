use Rattle.std.proofs.Common.{◌≡◌, ℕ, List, sym}
use Rattle.cfb_soundness.proofs.MarkLemmas.{true_false}
use Rattle.cfb_flaws.proofs.Pointing.{past-not, past-one}
use Rattle.cfb_flaws.proofs.past.tell_past_at.Goals as goal

pub returns-then-not-goes_past-clause-told : goal.returns-then-not-goes_past-clause-told
returns-then-not-goes_past-clause-told g c = λ cases bytes r reads knows lt word.
    past-not bytes r c.args.sector c.args.next c.args.found.now.items word
    (λ p. true_false c.goes_past.result ((c.goes_past.ensures cases bytes r reads knows lt word).1 p) c.if-not-goes_past.true)

pub returns-clause-told : goal.returns-clause-told
returns-clause-told g c = λ cases bytes r reads knows lt word.
    rw c.in_ok-push.ensures.items
    (past-one bytes r c.args.sector c.args.next c.args.found.now.items ((c.goes_past.ensures cases bytes r reads knows lt word).0 c.if-not-goes_past.false))
