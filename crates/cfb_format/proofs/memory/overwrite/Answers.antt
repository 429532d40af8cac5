use Rattle.std.proofs.Common.{◌≡◌, ◌+◌, ◌-◌, ℕ, List, [], ◌++◌, length, take, drop, replicate, arith, sym, ◌∙◌, ap, ap₂, append-nil}
use Rattle.std.proofs.lemmas.Grind.{common_steps}
use Rattle.std.proofs.lemmas.List.{take_at, take_all, drop_all}
use Rattle.cfb_format.specs.Medium.{written}
use Rattle.cfb_format.proofs.ByteLemmas.{written-padded}
use Rattle.cfb_format.proofs.memory.overwrite.Goals as goal
use Rattle.cfb_format.proofs.memory.overwrite.Goals.{then-end-len+in_ok-resize, else-end-len}

-- bytes written right behind the others
written-behind : (bs xs : List ℕ) (at : ℕ) → at ≡ length bs → bs ++ xs ≡ written bs at xs
unfolding written
written-behind bs xs at is =
    let gap : at - length bs ≡ 0 = omega (arith, is) in
    let none : replicate {A = ℕ} (at - length bs) 0 ≡ [] = ap (λ n. replicate {A = ℕ} n 0) gap in
    let front : take at (bs ++ replicate {A = ℕ} (at - length bs) 0) ≡ bs = ap (λ zs. take at (bs ++ zs)) none ∙ ap (take at) (append-nil bs) ∙ take_all at bs (omega (arith, is)) in
    let back : drop (at + length xs) bs ≡ [] = drop_all (at + length xs) bs (omega (arith, is)) in
    sym (ap₂ (λ ys zs. ys ++ xs ++ zs) front back ∙ append-nil (bs ++ xs))

pub returns-then-start-as_slice-clause-ok : goal.returns-then-start-as_slice-clause-ok
returns-then-start-as_slice-clause-ok g c = c.in_ok-extend_from_slice.ensures.items ∙ written-behind c.args.bytes.now.items c.args.from.now c.args.at (c.if-start-as_slice.true ∙ ap (λ xs. length xs) c.as_slice.ensures.value)

pub returns-clause-ok : goal.returns-clause-ok
returns-clause-ok g c = elim c.if-end-len.branch [
  | then-end-len+in_ok-resize w ↦ grind (arith, common_steps, written-padded c.args.bytes.now.items (c.in_ok-end.end - length c.args.bytes.now.items) c.args.at c.args.from.now, take_all, take_at)
  | else-end-len w ↦ grind (arith, common_steps, take_at)
]
