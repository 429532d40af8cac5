use Rattle.std.proofs.Common.{◌≡◌, ◌<◌, ◌+◌, ℕ, suc, List, [], ◌∷◌, ◌++◌, length, take, get_or, sym, ◌∙◌, ap, subst, arith, add-one}
use Rattle.std.proofs.Math.Seq.{take-suc}
use Rattle.std.proofs.lemmas.List.{take_all, get_or_default}
use Rattle.cfb_flaws.specs.Claims.{Given}
use Rattle.cfb_flaws.proofs.Claiming.{given-none, given-more}
use Rattle.cfb_flaws.proofs.claims.give.Goals as goal

pub loop-number-init : goal.loop-number-init
loop-number-init c = given-none c.args.owners.now c.args.owner

pub bounds-owners-number : goal.bounds-owners-number
bounds-owners-number c =
    let numbers = c.args.numbers.now in
    let l = c.loop-number in
    let k = l.number-index in
    let x = get_or numbers k 0 in
    let lt = c.loop-number-test.true in
    let b = c.requires x (k, lt, sym (get_or_default numbers k 0 x lt)) in
    omega (arith, b, l.auto.owners)

pub loop-number-preserved : goal.loop-number-preserved
loop-number-preserved c =
    let numbers = c.args.numbers.now in
    let l = c.loop-number in
    let k = l.number-index in
    let x = get_or numbers k 0 in
    let lt = c.loop-number-test.true in
    let more : take (k + 1) numbers ≡ take k numbers ++ x ∷ [] = ap (λ (n : ℕ). take n numbers) (add-one k) ∙ take-suc numbers k 0 lt in
    let below : x < length l.owners = let b = c.requires x (k, lt, sym (get_or_default numbers k 0 x lt)) in omega (arith, b, l.auto.owners) in
    rw more (given-more c.args.owners.now l.owners (take k numbers) c.args.owner x below l.invariant)

pub returns : goal.returns
returns c =
    let all : take c.loop-number.number-index c.args.numbers.now ≡ c.args.numbers.now = take_all c.loop-number.number-index c.args.numbers.now c.loop-number-test.false in
    rw all at c.loop-number.invariant
