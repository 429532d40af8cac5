-- How many numbers more are free where some are given back.
use Rattle.std.proofs.Common.{◌≡◌, ◌≢◌, inl, inr, ℕ, suc, ◌+◌, Bool, List, [], ◌∷◌, ◌++◌, length, set, refl, sym, ◌∙◌, ap, subst, arith, cond, ne_eqb, length-set}
use Rattle.std.specs.Prelude.{Contains, ◌==◌, nat_eq}
use Rattle.std.specs.List.{IsDistinct}
use Rattle.std.proofs.lemmas.Bool.{cases_eq}
use Rattle.std.proofs.lemmas.List.Elements.{Contains-append_cases, Contains-append_left, Contains-append_right}
use Rattle.cfb_format.specs.Bytes.{end_of_chain, free_sector}
use Rattle.cfb_format.specs.Chain.{value}
use Rattle.cfb_format.specs.Full.{free_count}
use Rattle.cfb_tables.specs.Changes.{GivesBack}
use Rattle.cfb_tables.proofs.Members.{value-set, value-set_other}
use Rattle.cfb_format.proofs.Members.{Contains-cases, Contains-here, Contains-nil, Contains-or, Contains-there, distinct-apart, distinct-right}
use Rattle.cfb_format.proofs.Walks.{value-below}
use Rattle.cfb_content.proofs.cfb_mini_table.FreedLemmas.{count-free}
use Rattle.cfb_tables.proofs.FreeLemmas.{count-cons}

abbrev bit : ℕ → ℕ
bit y = cond (y == free_sector) 1 0

bit-yes : (y : ℕ) → y ≡ free_sector → bit y ≡ 1
bit-yes y e = rw e refl

bit-no : (y : ℕ) → y ≢ free_sector → bit y ≡ 0
bit-no y ne = ap (λ (b : Bool). cond {A = ℕ} b 1 0) (ne_eqb y free_sector ne)

-- tables with the same free numbers have as many
same-free : (old new : List ℕ) → length new ≡ length old → ((i : ℕ) → value old i ≡ free_sector → value new i ≡ free_sector)
    → ((i : ℕ) → value new i ≡ free_sector → value old i ≡ free_sector) → free_count new ≡ free_count old
same-free [] [] size there back = refl
same-free [] (y ∷ new) size there back = absurd (omega (arith, size))
same-free (x ∷ old) [] size there back = absurd (omega (arith, size))
same-free (x ∷ old) (y ∷ new) size there back =
    let rest = same-free old new (omega (arith, size)) (λ i. there (suc i)) (λ i. back (suc i)) in
    let a = count-cons x old in
    let b = count-cons y new in
    elim (cases_eq x free_sector) [
      | inl free ↦ let p = bit-yes x free in let q = bit-yes y (there 0 free) in omega (arith, rest, a, b, p, q)
      | inr busy ↦ let p = bit-no x busy in let q = bit-no y (λ free. busy (back 0 free)) in omega (arith, rest, a, b, p, q)
    ]

-- of a table where just these became free
more-free : (gone old new : List ℕ) → length new ≡ length old → IsDistinct nat_eq gone → ((i : ℕ) → Contains gone i → value old i ≢ free_sector)
    → ((i : ℕ) → Contains gone i → value new i ≡ free_sector) → ((i : ℕ) → (Contains gone i → ⊥) → value old i ≡ free_sector → value new i ≡ free_sector)
    → ((i : ℕ) → (Contains gone i → ⊥) → value new i ≡ free_sector → value old i ≡ free_sector) → free_count new ≡ free_count old + length gone
more-free [] old new size once busy free there back =
    let same = same-free old new size (λ i. there i (Contains-nil i)) (λ i. back i (Contains-nil i)) in omega (arith, same)
more-free (x ∷ gone) old new size once busy free there back =
    let mid = set old x free_sector in
    let at = busy x (Contains-here x gone) in
    let one = count-free old x at in
    let apart : (i : ℕ) → Contains gone i → i ≢ x = λ i m e.
    distinct-apart (x ∷ []) gone once x (Contains-here x []) (subst (Contains gone) e m) in
    let out : (i : ℕ) → i ≢ x → (Contains gone i → ⊥) → Contains (x ∷ gone) i → ⊥ = λ i ne no m.
    elim (Contains-cases x gone i m) [ inl e ↦ ne (sym e) | inr r ↦ no r ] in
    let rest = more-free gone mid new (size ∙ sym (length-set old x free_sector)) (distinct-right (x ∷ []) gone once)
    (λ i m e. busy i (Contains-there x gone i m) (sym (value-set_other old x i free_sector (apart i m)) ∙ e))
    (λ i m. free i (Contains-there x gone i m))
    (λ i no is. elim (cases_eq i x) [
      | inl e ↦ ap (value new) e ∙ free x (Contains-here x gone)
      | inr ne ↦ there i (out i ne no) (sym (value-set_other old x i free_sector ne) ∙ is)
    ])
    (λ i no is. elim (cases_eq i x) [
      | inl e ↦ ap (value mid) e ∙ value-set old x free_sector (value-below old x at)
      | inr ne ↦ value-set_other old x i free_sector ne ∙ back i (out i ne no) is
    ]) in
    let long : length (x ∷ gone) ≡ length gone + 1 = omega arith in
    omega (arith, one, rest, long)

-- so many more are free as are given back
pub given-count : (ends gone old new : List ℕ) → GivesBack ends gone old new → IsDistinct nat_eq gone → ((i : ℕ) → Contains (ends ++ gone) i → value old i ≢ free_sector)
    → free_count new ≡ free_count old + length gone
given-count ends gone old new given once busy =
    more-free gone old new given.same_length once (λ i m. busy i (Contains-append_right ends gone i m)) given.free
    (λ i no is. given.only i (λ m. elim (Contains-append_cases ends gone i m) [
      | inl e ↦ busy i (Contains-append_left ends gone i e) is
      | inr g ↦ no g
    ]) ∙ is)
    (λ i no is. elim (Contains-or ends i) [
      | inl e ↦ absurd (let ended : value new i ≡ end_of_chain = given.ended i e in omega (arith, ended, is))
      | inr out ↦ sym (given.only i (λ m. elim (Contains-append_cases ends gone i m) [ inl e ↦ out e | inr g ↦ no g ])) ∙ is
    ])
