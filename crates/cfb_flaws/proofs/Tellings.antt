-- What is told, one pass after the other.
use Rattle.std.proofs.Common.{◌≡◌, ◌≢◌, ℕ, List, [], ◌∷◌, ◌++◌, refl}
use Rattle.std.specs.Prelude.{All, Some, option_to_list}
use Rattle.std.proofs.lemmas.List.Elements.{All-push, All-pop}
use Rattle.cfb_format.specs.Reading.{Reading}
use Rattle.cfb_flaws.specs.declared.flaw.Flaw.{Flaw}
use Rattle.cfb_flaws.specs.Flaws.{Clause, clause_of, Holds, NoneOn}
use Rattle.cfb_flaws.specs.Telling.{Told}

pub none-push : (d : Clause) (xs : List Flaw) (f : Flaw) → NoneOn d (xs ++ f ∷ []) → NoneOn d xs × (clause_of f ≢ d)
none-push d xs f n = All-pop (λ x. clause_of x ≢ d) (xs ++ f ∷ []) xs (Some f) refl n

module _ (bytes : List ℕ) (r : Reading) where
  -- nothing is told
  pub told-same : (c : Clause) (C : Type 0) (xs : List Flaw) → C → Told c C bytes r xs xs
  told-same c C xs h = record { truth = λ t. t; kept = λ d n. n; answers = λ n. h }

  -- one reason is told
  pub told-push : (c : Clause) (C : Type 0) (xs : List Flaw) (f : Flaw) → Holds bytes r f → (clause_of f ≢ c → C) → Told c C bytes r xs (xs ++ f ∷ [])
  told-push c C xs f h k = record {
    truth = λ t. All-push (Holds bytes r) xs f t h;
    kept = λ d n. (none-push d xs f n).0;
    answers = λ n. k (none-push c xs f n).1;
  }

  -- and it is one of this clause
  pub told-one : (C : Type 0) (xs : List Flaw) (f : Flaw) → Holds bytes r f → Told (clause_of f) C bytes r xs (xs ++ f ∷ [])
  told-one C xs f h = told-push (clause_of f) C xs f h (λ ne. absurd (ne refl))

  pub told-map : (c : Clause) (C D : Type 0) (xs ys : List Flaw) → (C → D) → Told c C bytes r xs ys → Told c D bytes r xs ys
  told-map c C D xs ys f t = record { truth = t.truth; kept = t.kept; answers = λ n. f (t.answers n) }

  -- two passes
  pub told-then : (c : Clause) (C D E : Type 0) (xs ys zs : List Flaw) → (C → D → E) → Told c C bytes r xs ys → Told c D bytes r ys zs → Told c E bytes r xs zs
  told-then c C D E xs ys zs f t u = record {
    truth = λ h. u.truth (t.truth h);
    kept = λ d n. t.kept d (u.kept d n);
    answers = λ n. f (t.answers (u.kept c n)) (u.answers n);
  }

  -- a pass after one that answers, and before one
  pub told-after : (c d : Clause) (C D : Type 0) (xs ys zs : List Flaw) → Told c C bytes r xs ys → Told d D bytes r ys zs → Told c C bytes r xs zs
  told-after c d C D xs ys zs t u = record {
    truth = λ h. u.truth (t.truth h);
    kept = λ e n. t.kept e (u.kept e n);
    answers = λ n. t.answers (u.kept c n);
  }

  pub told-before : (c d : Clause) (C D : Type 0) (xs ys zs : List Flaw) → Told d D bytes r xs ys → Told c C bytes r ys zs → Told c C bytes r xs zs
  told-before c d C D xs ys zs t u = record {
    truth = λ h. u.truth (t.truth h);
    kept = λ e n. t.kept e (u.kept e n);
    answers = u.answers;
  }
