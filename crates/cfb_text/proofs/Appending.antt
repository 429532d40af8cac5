-- Letters behind a text.
use Rattle.std.proofs.Common.{◌≡◌, ◌∙◌, ℕ, ◌+◌, ◌<◌, List, [], ◌∷◌, ◌++◌, ap, sym, append-nil, append_assoc, flat_map, get_or, length, take}
use Rattle.std.proofs.lemmas.Grind.{flat_map-append}
use Rattle.std.proofs.lemmas.List.{take_more}
use Rattle.std.proofs.lemmas.Str.{encodes-append, encodes-chars, encodes_same}
use Rattle.std.specs.Char.{encode_utf8}
use Rattle.std.specs.Str.{IsUtf8, chars, encode_utf8_all}

-- two pieces, one behind the other
pub two_pieces : (old now new front back : List ℕ) → now ≡ old ++ encode_utf8_all front → new ≡ now ++ encode_utf8_all back → new ≡ old ++ encode_utf8_all (front ++ back)
two_pieces old now new front back first then =
    then ∙ ap (λ (bytes : List ℕ). bytes ++ encode_utf8_all back) first ∙ append_assoc old (encode_utf8_all front) (encode_utf8_all back)
    ∙ ap (λ (bytes : List ℕ). old ++ bytes) (sym (encodes-append front back))

-- what one letter more stands for
pub one_letter : (f : ℕ → List ℕ) (old now new letters : List ℕ) (letter : ℕ) → now ≡ old ++ encode_utf8_all (flat_map f letters) → new ≡ now ++ encode_utf8_all (f letter)
    → new ≡ old ++ encode_utf8_all (flat_map f (letters ++ letter ∷ []))
one_letter f old now new letters letter first then =
    two_pieces old now new (flat_map f letters) (f letter) first then
    ∙ ap (λ (cs : List ℕ). old ++ encode_utf8_all cs)
    (ap (λ (cs : List ℕ). flat_map f letters ++ cs) (sym (append-nil (f letter))) ∙ sym (flat_map-append f letters (letter ∷ [])))

-- the letters of a text that was made of letters
pub made_of : (bytes letters : List ℕ) → IsUtf8 bytes → bytes ≡ encode_utf8_all letters → chars bytes ≡ letters
made_of bytes letters utf8 made = encodes_same (chars bytes) letters (encodes-chars bytes utf8 ∙ made)

-- one letter more of these
pub one_more : (now new letters : List ℕ) (i letter : ℕ) → i < length letters → letter ≡ get_or letters i letter → now ≡ encode_utf8_all (take i letters) → new ≡ now ++ encode_utf8 letter
    → new ≡ encode_utf8_all (take (i + 1) letters)
one_more now new letters i letter less is first then =
    two_pieces [] now new (take i letters) (letter ∷ []) first (then ∙ ap (λ (bytes : List ℕ). now ++ bytes) (sym (append-nil (encode_utf8 letter))))
    ∙ ap (λ (c : ℕ). encode_utf8_all (take i letters ++ c ∷ [])) is
    ∙ ap encode_utf8_all (sym (take_more letters i letter less))
