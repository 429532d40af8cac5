-- A small u and four digits in front of a text.
use Rattle.std.proofs.Common.{◌≡◌, ℕ, ◌+◌, ◌*◌, ◌≤◌, List, [], ◌∷◌, Bool, true, false, refl, sym, ap, ◌∙◌, arith, rules, length, nat_lt}
use Rattle.std.specs.Prelude.{◌&&◌, ◌==◌, if◌then◌else◌}
use Rattle.cfb_text.specs.Meant.{begins_code, hex_value, is_letter}

four_of : (p q r s : Bool) → (p && q && r && s && false) ≡ false
four_of false q r s = refl
four_of true false r s = refl
four_of true true false s = refl
four_of true true true false = refl
four_of true true true true = refl

-- four letters are too few
too_few : (a b c d : ℕ) → begins_code (a ∷ b ∷ c ∷ d ∷ []) ≡ false
too_few a b c d = ap (λ (h : Bool). is_letter (if h then hex_value b * 4096 + hex_value c * 256 + hex_value d * 16 + hex_value 0 else 1114112))
    (four_of (a == 117) (nat_lt (hex_value b) 16) (nat_lt (hex_value c) 16) (nat_lt (hex_value d) 16))

pub is_long : (letters : List ℕ) → begins_code letters ≡ true → 5 ≤ length letters
is_long [] h = search rules
is_long (a ∷ []) h = search rules
is_long (a ∷ b ∷ []) h = search rules
is_long (a ∷ b ∷ c ∷ []) h = search rules
is_long (a ∷ b ∷ c ∷ d ∷ []) h = absurd (let bad : true ≡ false = sym h ∙ too_few a b c d in search rules)
is_long (a ∷ b ∷ c ∷ d ∷ e ∷ rest) h = omega arith
