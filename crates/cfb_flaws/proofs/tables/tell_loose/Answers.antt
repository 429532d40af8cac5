use Rattle.std.proofs.Common.{◌≡◌, ◌<◌, ◌≤◌, ◌+◌, inl, inr, ℕ, List, length, sym, ◌∙◌, ap, subst, arith}
use Rattle.std.proofs.lemmas.Bool.{cases_lt}
use Rattle.cfb_format.proofs.Walks.{value-below}
use Rattle.cfb_flaws.specs.Claims.{words_in, words_of}
use Rattle.cfb_flaws.specs.Flaws.{IsLoosePair, KeepsLooseIn, loose_in}
use Rattle.cfb_flaws.proofs.Tellings.{told-map, told-same, told-then}
use Rattle.cfb_flaws.proofs.Truths.{words-known}
use Rattle.cfb_flaws.proofs.tables.tell_loose.Goals as goal

pub loop-i-init : goal.loop-i-init
loop-i-init g c = λ cases bytes r reads knows.
    told-same bytes r (loose_in c.args.table) ((i : ℕ) → i < 0 → IsLoosePair c.args.table r i) c.args.found.now.items (λ i lt. absurd (omega (arith, lt)))

pub loop-i-preserved : goal.loop-i-preserved
loop-i-preserved g c = λ cases bytes r reads knows.
    let t = c.args.table in
    let l = c.loop-i in
    told-then bytes r (loose_in t) ((i : ℕ) → i < l.i → IsLoosePair t r i) (IsLoosePair t r l.i) ((i : ℕ) → i < l.i + 1 → IsLoosePair t r i)
    c.args.found.now.items l.found.items c.tell_loose_at.new.found.items
    (λ all one i lt. elim (cases_lt i l.i) [
      | inl less ↦ all i less
      | inr ge ↦ let same : l.i ≡ i = omega (arith, lt, ge) in subst (IsLoosePair t r) same one
    ])
    (l.invariant cases bytes r reads knows) (c.in_ok-tell_loose_at.ensures.told cases bytes r reads knows)

pub returns-clause-told : goal.returns-clause-told
returns-clause-told g c = λ cases bytes r reads knows.
    let t = c.args.table in
    let l = c.loop-i in
    let w : c.words_of-words.result.now ≡ words_of t r = c.words_of-words.ensures ∙ words-known c.args.known.now bytes r knows t in
    let n = ap length w in
    told-map bytes r (loose_in t) ((i : ℕ) → i < l.i → IsLoosePair t r i) (KeepsLooseIn t r) c.args.found.now.items l.found.items
    (λ all i loose. let b = value-below (words_of t r) i loose.0 in all i (omega (arith, b, n, c.loop-i-test.false, l.auto.i-end)) loose)
    (l.invariant cases bytes r reads knows)
