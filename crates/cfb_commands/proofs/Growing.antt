-- Lists that grow by one at their end.
use Rattle.std.proofs.Common.{◌≡◌, ◌∙◌, ◌<◌, ◌≤◌, ◌+◌, ℕ, List, [], ◌∷◌, ◌++◌, sym, ap, drop, get_or, length, map, take}
use Rattle.std.proofs.lemmas.List.{drop-append-le, map-append, map_more}

-- one more from the front
pub taken_more : {X Y : Type 0} (f : X → Y) (xs : List X) (i : ℕ) (x : X) → i < length xs → x ≡ get_or xs i x → map f (take (i + 1) xs) ≡ map f (take i xs) ++ f x ∷ []
taken_more f xs i x less is = map_more f xs i x less ∙ ap (λ y. map f (take i xs) ++ f y ∷ []) (sym is)

-- one more at the end
pub put_more : {X Y : Type 0} (f : X → Y) (olds news : List X) (x : X) → news ≡ olds ++ x ∷ [] → map f news ≡ map f olds ++ f x ∷ []
put_more f olds news x is = ap (map f) is ∙ map-append f olds (x ∷ [])

-- behind those that were there
pub put_behind : {X Y : Type 0} (f : X → Y) (n : ℕ) (olds news : List X) (x : X) → news ≡ olds ++ x ∷ [] → n ≤ length olds → map f (drop n news) ≡ map f (drop n olds) ++ f x ∷ []
put_behind f n olds news x is longer =
    ap (λ l. map f (drop n l)) is ∙ ap (map f) (drop-append-le n olds (x ∷ []) longer) ∙ map-append f (drop n olds) (x ∷ [])

-- one more on both sides, which are of the same kinds
pub kinds_more : {X Y K : Type 0} (f : X → K) (h : Y → K) (xs : List X) (i : ℕ) (x : X) (olds news : List Y) (y : Y) → i < length xs → x ≡ get_or xs i x → news ≡ olds ++ y ∷ []
    → map h olds ≡ map f (take i xs) → h y ≡ f x → map h news ≡ map f (take (i + 1) xs)
kinds_more f h xs i x olds news y less is put before same =
    put_more h olds news y put ∙ (λ j. before j ++ same j ∷ []) ∙ sym (taken_more f xs i x less is)
