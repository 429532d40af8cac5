-- A class id, read from a text.
use Rattle.std.proofs.Common.{◌≡◌, ℕ, List, false, true, subst, sym}
use Rattle.std.specs.Prelude.{Option, Some, Result, Ok, Err, IsOk, IfOk, MatchOption, ◌↔◌}
use Rattle.std.specs.Result.{result_ok}
use Rattle.uuid.specs.Text.{parsed}

-- one is read exactly where the text says one
pub parsed_or_not : {E : Type 0} (text : List ℕ) (r : Result (List ℕ) E) (o : Option (List ℕ)) → o ≡ result_ok r
    → (IsOk r ↔ ((id : List ℕ) × (parsed text ≡ Some id))) → IfOk r (λ id. Some id ≡ parsed text)
    → MatchOption o ((id : List ℕ) → parsed text ≡ Some id → ⊥) (λ id. parsed text ≡ Some id)
parsed_or_not text (Ok id) o e ok is =
    subst (λ (q : Option (List ℕ)). MatchOption q ((i : List ℕ) → parsed text ≡ Some i → ⊥) (λ i. parsed text ≡ Some i)) (sym e) (sym is)
parsed_or_not text (Err x) o e ok is =
    subst (λ (q : Option (List ℕ)). MatchOption q ((i : List ℕ) → parsed text ≡ Some i → ⊥) (λ i. parsed text ≡ Some i)) (sym e) (λ i says. let w : false ≡ true = ok.1 (i, says) in cc)
