-- What holds of a lender once its borrow ends.
use mathlib.Core.List.{List, []}
use mathlib.Core.Option.{none}
use seplogic.Ra.Ura.{Ura}
use base.Logic.{SProp, emp, ent, ex_e, ex_i, fst∗, id⊢, mono_r, sep, via}
use contract.Monad.{fact, fact_i}
use borrow.Fn.Refines.{Gives, Turns, by_parts, facts}
use denote.Follow.{follows_by, such_by}
use types.Logic.{Logic, sem}
use Rattle.std.specs.Borrow.{MutBor, RattleType}
use Rattle.std.specs.Io.BufRead.{Rests}
use Rattle.std.specs.Prelude.{⊤}

module _ {M : Type 1} {𝓤 : Ura M} (𝓛 : Logic 𝓤) (T : RattleType) (s : MutBor T.Denot) where
  -- what follows from what holds of it holds of it too
  pub rests_weaker : (P Q : T.Denot → Type 0) → ((x : T.Denot) → P x → Q x) → ent 𝓤 (sem 𝓛 (Rests T s P)) (sem 𝓛 (Rests T s Q))
  unfolding such_by
  rests_weaker P Q weaker =
      let D = T.Denot in
      ex_e 𝓤 (λ (y : (p : (D → D) × D) × ((w : D) → ⊤) × P p.1). sem 𝓛 (follows_by D D T.coded.code T.coded.code s.ghost_name none y.0.0 y.0.1))
      (λ y. ex_i 𝓤 (λ (z : (p : (D → D) × D) × ((w : D) → ⊤) × Q p.1). sem 𝓛 (follows_by D D T.coded.code T.coded.code s.ghost_name none z.0.0 z.0.1)) (y.0, y.1, weaker y.0.1 y.2))

  -- two plain clauses, then that of the lender, then more plain ones
  abbrev pub Told : (A B : Type 0) (P : T.Denot → Type 0) (more : List (Type 0)) → SProp 𝓤
  Told A B P more = sep 𝓤 (fact 𝓤 A) (sep 𝓤 (fact 𝓤 B) (sep 𝓤 (sem 𝓛 (Rests T s P)) (facts 𝓤 more)))

  -- the trait's: the same two, and then that of the lender
  abbrev pub Asked : (A B : Type 0) (Q : T.Denot → Type 0) → SProp 𝓤
  Asked A B Q = sep 𝓤 (fact 𝓤 A) (sep 𝓤 (fact 𝓤 B) (sem 𝓛 (Rests T s Q)))

  told_asked : (A B : Type 0) (P Q : T.Denot → Type 0) (more : List (Type 0)) → ((x : T.Denot) → P x → Q x) → ent 𝓤 (Told A B P more) (Asked A B Q)
  told_asked A B P Q more weaker =
      let rests = sem 𝓛 (Rests T s P) in
      mono_r 𝓤 (fact 𝓤 A) (mono_r 𝓤 (fact 𝓤 B) (via 𝓤 rests (fst∗ 𝓤 rests (facts 𝓤 more)) (rests_weaker P Q weaker)))

  -- a method that says more of the lender than its trait, and more beside it, gives what the trait says
  pub meets_by_more : (R X : Type 0) (A B : R → X → Type 0) (P Q : R → T.Denot → Type 0) (more : R → X → List (Type 0)) → ((r : R) (x : T.Denot) → P r x → Q r x)
      → Gives 𝓤 (emp 𝓤) (Unit {0}) (λ g. emp 𝓤) (λ g. Turns 𝓤 R X (λ r e. Told (A r e) (B r e) (P r) (more r e)) (λ r e. Asked (A r e) (B r e) (Q r)))
  meets_by_more R X A B P Q more weaker =
      let told : R → X → SProp 𝓤 = λ r e. Told (A r e) (B r e) (P r) (more r e) in
      let asked : R → X → SProp 𝓤 = λ r e. Asked (A r e) (B r e) (Q r) in
      by_parts 𝓤 [] [] (emp 𝓤) (emp 𝓤) R X (λ r e. []) (λ r e. []) told asked (fact_i 𝓤 (Unit {0}) (emp 𝓤) tt) (λ _. id⊢ 𝓤 (emp 𝓤)) (λ r e. fact_i 𝓤 (Unit {0}) (told r e) tt)
      (λ r e _. told_asked (A r e) (B r e) (P r) (Q r) (more r e) (weaker r)) (λ x. x) (λ _ r e x. x)
