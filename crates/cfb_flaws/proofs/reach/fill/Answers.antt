use Rattle.std.proofs.Common.{◌≡◌, ◌≢◌, ◌<◌, ◌≤◌, ◌-◌, ◌∷◌, inl, inr, ℕ, List, length, get_or, sym, ◌∙◌, ap, subst, arith}
use Rattle.std.specs.Prelude.{Contains, slice_index}
use Rattle.std.proofs.lemmas.Bool.{cases_lt}
use Rattle.std.proofs.lemmas.List.{get_or_default}
use Rattle.cfb_flaws.specs.Reach.{capped, len_in, reach_of, start_in_file}
use Rattle.cfb_flaws.proofs.Filling.{filled-all, filled-more, filled-none, few-len, next-cut, next-whole, some-len}
use Rattle.cfb_flaws.proofs.reach.fill.Goals as goal

pub loop-k-init : goal.loop-k-init
loop-k-init g c = filled-none c.args.known.now c.args.table c.args.reach.now c.args.path.now c.args.behind

pub bounds-reach-path : goal.bounds-reach-path
bounds-reach-path g c =
    let path = c.args.path.now in
    let l = c.loop-k in
    let some = c.loop-k-test.true in
    let most = l.invariant.most in
    let len = l.invariant.len in
    let x = get_or path (l.k - 1) 0 in
    let lt : l.k - 1 < length path = omega (arith, some, most) in
    let b = c.requires x (l.k - 1, lt, sym (get_or_default path (l.k - 1) 0 x lt)) in
    omega (arith, b, len)

pub loop-k-preserved : goal.loop-k-preserved
loop-k-preserved g c =
    let known = c.args.known.now in
    let t = c.args.table in
    let path = c.args.path.now in
    let l = c.loop-k in
    let some = c.loop-k-test.true in
    let most = l.invariant.most in
    let len = l.invariant.len in
    let x = get_or path (l.k - 1) 0 in
    let lt : l.k - 1 < length path = omega (arith, some, most) in
    let b = c.requires x (l.k - 1, lt, sym (get_or_default path (l.k - 1) 0 x lt)) in
    let below : x < length l.reach = omega (arith, b, len) in
    let v = known.parts.now.version in
    let start : ℕ → ℕ = start_in_file v known.parts.now.len known.root.items t in
    let w : c.len_in-whole.result ≡ len_in v t = c.len_in-whole.ensures in
    filled-more known t c.args.reach.now path c.args.behind l.k l.sum c.joined-sum.result l.reach some l.invariant
    (λ rest was. elim (cases_lt c.there_of.result c.len_in-whole.result) [
      | inl less ↦
          c.joined-sum.ensures.cut less
          ∙ next-cut (len_in v t) start known.parts.now.len x c.there_of.result rest c.there_of.ensures (omega (arith, less, w)) (few-len v t)
      | inr all ↦
          next-whole (len_in v t) start known.parts.now.len x c.there_of.result l.sum c.joined-sum.result rest c.there_of.ensures (omega (arith, all, w)) (some-len v t) was
          (c.joined-sum.ensures.whole all)
    ]) below

pub returns-clause-first : goal.returns-clause-first
returns-clause-first g c = λ rest is.
    let l = c.loop-k in
    let none : l.k ≡ 0 = omega (arith, c.loop-k-test.false) in
    rw none at (l.invariant.first rest is)

pub returns-clause-filled : goal.returns-clause-filled
returns-clause-filled g c = λ rest is d.
    let l = c.loop-k in
    filled-all c.args.known.now c.args.table c.args.reach.now c.args.path.now c.args.behind l.k l.sum l.reach rest (omega (arith, c.loop-k-test.false)) l.invariant is d
