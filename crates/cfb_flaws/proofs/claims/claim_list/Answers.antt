use Rattle.std.proofs.Common.{◌≡◌, ◌<◌, ◌+◌, ℕ, List, [], ◌∷◌, ◌++◌, length, take, get_or, sym, ◌∙◌, ap, arith, add-one}
use Rattle.std.proofs.Math.Seq.{take-suc}
use Rattle.std.proofs.lemmas.List.{take_all, get_or_default}
use Rattle.cfb_flaws.proofs.Claiming.{claimed-none}
use Rattle.cfb_flaws.proofs.claims.claim_list.Goals as goal

pub loop-number-init : goal.loop-number-init
loop-number-init c = record {
  claimed = claimed-none c.args.owners.now c.args.owner;
  known = λ table k none used not. k;
  size = c.requires.owners;
}

pub loop-number-preserved : goal.loop-number-preserved
loop-number-preserved c =
    let list = c.args.list.now in
    let l = c.loop-number in
    let k = l.number-index in
    let x = get_or list k 0 in
    let lt = c.loop-number-test.true in
    let more : take (k + 1) list ≡ take k list ++ x ∷ [] = ap (λ (n : ℕ). take n list) (add-one k) ∙ take-suc list k 0 lt in
    rw more record {
      claimed = c.claim.ensures.claimed c.args.owners.now (take k list) l.invariant.claimed;
      known = λ table was none used not.
          c.claim.ensures.known table (l.invariant.known table was none used not) (none x (k, lt, sym (get_or_default list k 0 x lt))) used not;
      size = c.claim.auto.owners ∙ l.invariant.size ∙ sym c.claim.auto.seen;
    }

pub returns-clause-claimed : goal.returns-clause-claimed
returns-clause-claimed c =
    let all : take c.loop-number.number-index c.args.list.now ≡ c.args.list.now = take_all c.loop-number.number-index c.args.list.now c.loop-number-test.false in
    rw all at c.loop-number.invariant.claimed
