-- Texts are the same exactly where their characters are.
use Rattle.std.proofs.Common.{◌≡◌, ◌∙◌, ℕ, Bool, true, false, List, ap, chars, refl, sym}
use Rattle.std.proofs.lemmas.Str.{encodes-chars}
use Rattle.std.specs.Cmp.Lexicographic.{other_text, same_text}
use Rattle.std.specs.Str.{IsUtf8, bytes_eq, encode_utf8_all}

pub same_chars : (a b : List ℕ) → IsUtf8 a → IsUtf8 b → bytes_eq a b ≡ bytes_eq (chars a) (chars b)
same_chars a b whole_a whole_b = go (bytes_eq a b) refl (bytes_eq (chars a) (chars b)) refl
  where
    go : (p : Bool) → p ≡ bytes_eq a b → (q : Bool) → q ≡ bytes_eq (chars a) (chars b) → p ≡ q
    go true e true f = refl
    go false e false f = refl
    go true e false f = absurd (other_text (chars a) (chars b) f (ap chars (same_text a b e)))
    go false e true f =
        absurd (other_text a b e (sym (encodes-chars a whole_a) ∙ ap encode_utf8_all (same_text (chars a) (chars b) f) ∙ encodes-chars b whole_b))
