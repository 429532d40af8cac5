-- Pieces of text that a writer gets one after another.
use Rattle.std.proofs.Common.{◌≡◌, ℕ, ◌+◌, ◌<◌, List, [], ◌∷◌, ◌++◌, ap, append-nil, drop, flat_map, get_or, length, refl, subst, sym, take, ◌∙◌}
use Rattle.std.specs.Prelude.{Err, Ok, OnOk, Option, Result}
use Rattle.std.specs.Char.{encode_utf8}
use Rattle.std.specs.Io.KnownBytes.{Appends}
use Rattle.std.specs.Str.{encode_utf8_all}
use Rattle.std.proofs.KnownBytes.{Appends-trans}
use Rattle.std.proofs.lemmas.Grind.{flat_map-append}
use Rattle.std.proofs.lemmas.Str.{encodes-append}

-- the same text
pub as-text : (a b : Option (List ℕ)) (xs ys : List ℕ) → xs ≡ ys → Appends a b xs → Appends a b ys
as-text a b xs ys is wrote = subst (λ (text : List ℕ). Appends a b text) is wrote

pub ends-as : {T E : Type 0} (r : Result T E) (a b c : Option (List ℕ)) (xs ys all : List ℕ) → Appends a b xs → xs ++ ys ≡ all → OnOk r (Appends b c ys) → OnOk r (Appends a c all)
ends-as (Ok x) a b c xs ys all first is then = subst (λ (text : List ℕ). Appends a c text) is (Appends-trans a b c xs ys first then)
ends-as (Err e) a b c xs ys all first is then = tt

pub is-as : {T E : Type 0} (r : Result T E) (a b : Option (List ℕ)) (xs all : List ℕ) → xs ≡ all → OnOk r (Appends a b xs) → OnOk r (Appends a b all)
is-as (Ok x) a b xs all is wrote = subst (λ (text : List ℕ). Appends a b text) is wrote
is-as (Err e) a b xs all is wrote = tt

-- one letter more
pub letter-more : (f : ℕ → List ℕ) (a b c : Option (List ℕ)) (letters : List ℕ) (letter : ℕ) → Appends a b (encode_utf8_all (flat_map f letters)) → Appends b c (encode_utf8_all (f letter))
    → Appends a c (encode_utf8_all (flat_map f (letters ++ letter ∷ [])))
letter-more f a b c letters letter first then =
    subst (λ (text : List ℕ). Appends a c text)
    (sym (encodes-append (flat_map f letters) (f letter))
    ∙ ap encode_utf8_all (ap (λ (cs : List ℕ). flat_map f letters ++ cs) (sym (append-nil (f letter))) ∙ sym (flat_map-append f letters (letter ∷ []))))
    (Appends-trans a b c (encode_utf8_all (flat_map f letters)) (encode_utf8_all (f letter)) first then)

-- one letter more that is told as it is
pub plain-more : (f : ℕ → List ℕ) (letters : List ℕ) (letter : ℕ) → flat_map f letters ≡ letters → f letter ≡ letter ∷ [] → flat_map f (letters ++ letter ∷ []) ≡ letters ++ letter ∷ []
plain-more f letters letter first then =
    flat_map-append f letters (letter ∷ []) ∙ ap (λ (cs : List ℕ). flat_map f letters ++ cs) (append-nil (f letter) ∙ then) ∙ ap (λ (cs : List ℕ). cs ++ letter ∷ []) first
