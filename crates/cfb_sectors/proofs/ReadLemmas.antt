-- A read into a beginning of a slice.
use Rattle.std.proofs.Common.{◌≡◌, ℕ, ◌≤◌, List, ◌++◌, length, take, drop, sym, ◌∙◌, ap, arith}
use Rattle.std.proofs.lemmas.List.{drop-append-le, take-append-drop}

-- what a read into `&mut into[..room]` left behind its n bytes is what `into` had there
pub rest_after_read : (n room : ℕ) (r into : List ℕ) → length r ≡ length (take room into) → n ≤ length r → drop n r ≡ drop n (take room into)
    → drop n (r ++ drop room into) ≡ drop n into
rest_after_read n room r into same within rest =
    drop-append-le n r (drop room into) within ∙ ap (λ (xs : List ℕ). xs ++ drop room into) rest
    ∙ sym (drop-append-le n (take room into) (drop room into) (omega (arith, same)))
    ∙ ap (λ (xs : List ℕ). drop n xs) (take-append-drop room into)
