-- The bytes of a chain of sectors, by their places.
use Rattle.std.proofs.Common.{◌≡◌, ◌≤◌, ◌<◌, ◌+◌, ℕ, zero, suc, List, ◌∷◌, [], refl, sym, ◌∙◌, ap, subst, length, take, drop, arith, drop-cons, add-one}
use Rattle.std.specs.Prelude.{Option, Some}
use Rattle.std.specs.Option.{option_map_or}
use Rattle.cfb_format.specs.Bytes.{byte_at}
use Rattle.cfb_format.specs.Content.{placed_from}
use Rattle.cfb_format.specs.Medium.{part}

-- ---- bytes that stand one behind the other

pub placed_part : (bytes : List ℕ) (p : ℕ → Option ℕ) (n k at : ℕ) → ((j : ℕ) → j < n → p (k + j) ≡ Some (at + j)) → (0 < n → at + n ≤ length bytes)
    → placed_from bytes p k n ≡ part bytes at n
unfolding placed_from
placed_part bytes p zero k at here fits = refl
placed_part bytes p (suc n) k at here fits =
    let long = fits (omega arith) in
    let k0 : k + 0 ≡ k = omega arith in
    let at0 : at + 0 ≡ at = omega arith in
    let first : p k ≡ Some at = subst (λ m. p k ≡ Some m) at0 (subst (λ m. p m ≡ Some (at + 0)) k0 (here 0 (omega arith))) in
    ap (λ o. option_map_or (λ m. byte_at bytes m ∷ placed_from bytes p (k + 1) n) o []) first
    ∙ ap (λ xs. byte_at bytes at ∷ xs) (placed_part bytes p n (k + 1) (at + 1) next (λ some. omega (arith, long)))
    ∙ ap (λ m. byte_at bytes at ∷ take n (drop m bytes)) (add-one at)
    ∙ sym (ap (take (suc n)) (drop-cons bytes at 0 (omega (arith, long))))
  where
    next : (j : ℕ) → j < n → p (k + 1 + j) ≡ Some (at + 1 + j)
    next j h =
        let k1 : k + suc j ≡ k + 1 + j = omega arith in
        let at1 : at + suc j ≡ at + 1 + j = omega arith in
        subst (λ m. p (k + 1 + j) ≡ Some m) at1 (subst (λ m. p m ≡ Some (at + suc j)) k1 (here (suc j) (omega arith)))

pub none_placed : (bytes : List ℕ) (p : ℕ → Option ℕ) (k : ℕ) → [] ≡ placed_from bytes p k 0
unfolding placed_from
none_placed bytes p k = refl
