-- The bytes of a text of which nothing is hidden.
use Rattle.std.proofs.Common.{◌≡◌, ℕ, ◌+◌, ◌/◌, ◌%◌, ◌<◌, ◌≤◌, List, [], ◌∷◌, ◌++◌, Bool, true, false, refl, arith, rules, ltb}
use Rattle.std.specs.Char.{encode_utf8}
use Rattle.std.specs.List.{AllByRecursion}
use Rattle.std.specs.Str.{encode_utf8_all}
use Rattle.cfb_text.specs.Shown.{is_hidden, shown}
use Rattle.cfb_text.proofs.Apart.{shown_is_plain}

plain_is_high : (c : ℕ) → is_hidden c ≡ false → 32 ≤ c
plain_is_high c plain = search rules

abbrev AllHigh : List ℕ → Type 0
AllHigh bytes = AllByRecursion (λ byte. 32 ≤ byte) bytes

append_high : (xs ys : List ℕ) → AllHigh xs → AllHigh ys → AllHigh (xs ++ ys)
append_high [] ys p q = q
append_high (x ∷ xs) ys p q = (p.0, append_high xs ys p.1 q)

letter_by : (c : ℕ) (a b d : Bool) → ltb c 128 ≡ a → ltb c 2048 ≡ b → ltb c 65536 ≡ d → 32 ≤ c → AllHigh (encode_utf8 c)
unfolding encode_utf8
letter_by c true b d e f g high = rw e (high, tt)
letter_by c false true d e f g high = rw (e, f) (omega arith, (omega arith, tt))
letter_by c false false true e f g high = rw (e, f, g) (omega arith, (omega arith, (omega arith, tt)))
letter_by c false false false e f g high = rw (e, f, g) (omega arith, (omega arith, (omega arith, (omega arith, tt))))

pub bytes_are_high : (text : List ℕ) → AllByRecursion (λ c. is_hidden c ≡ false) text → AllHigh (encode_utf8_all text)
bytes_are_high [] plain = tt
bytes_are_high (c ∷ text) plain =
    append_high (encode_utf8 c) (encode_utf8_all text) (letter_by c (ltb c 128) (ltb c 2048) (ltb c 65536) refl refl refl (plain_is_high c plain.0)) (bytes_are_high text plain.1)

pub shown_has_no_control : (text : List ℕ) → AllHigh (encode_utf8_all (shown text))
shown_has_no_control text = bytes_are_high (shown text) (shown_is_plain text)
