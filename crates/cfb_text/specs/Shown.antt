-- Text as it is shown.
use Rattle.std.specs.Prelude.{ℕ, ◌+◌, ◌/◌, ◌%◌, ◌≤◌, ◌≡◌, ◌≢◌, List, [], ◌∷◌, Bool, false, ◌&&◌, ◌||◌, ◌==◌, nat_lt, nat_le, flat_map, if◌then◌else◌}
use Rattle.std.specs.List.{AllByRecursion}
use Rattle.std.specs.Str.{encode_utf8_all}

-- a control (U+0000 to 1F, 7F to 9F), a mark without width or of the direction of writing (200B to 200F, 2028 to 202E, 2060 to 2069), or the mark of byte order (FEFF)
abbrev pub is_hidden : ℕ → Bool
is_hidden c = nat_lt c 32 || (nat_le 127 c && nat_lt c 160) || (nat_le 8203 c && nat_lt c 8208) || (nat_le 8232 c && nat_lt c 8239)
    || (nat_le 8288 c && nat_lt c 8298) || c == 65279

-- a digit to the base 16, in lower case
abbrev pub hex_digit : ℕ → ℕ
hex_digit d = if nat_lt d 10 then 48 + d else 87 + d

-- a backslash, a small u, and four digits; or the character itself
abbrev pub shown_char : ℕ → List ℕ
shown_char c = if is_hidden c
    then 92 ∷ 117 ∷ hex_digit (c / 4096 % 16) ∷ hex_digit (c / 256 % 16) ∷ hex_digit (c / 16 % 16) ∷ hex_digit (c % 16) ∷ []
    else c ∷ []

-- each character of a text, one behind the other
abbrev pub shown : List ℕ → List ℕ
shown text = flat_map shown_char text

-- nothing that is shown is hidden
abbrev pub ShowsPlainly : Type 0
ShowsPlainly = (text : List ℕ) → AllByRecursion (λ c. is_hidden c ≡ false) (shown text)

-- nor has any byte of it the number of a control of ASCII: no tab and no end of a line
abbrev pub ShowsNoControl : Type 0
ShowsNoControl = (text : List ℕ) → AllByRecursion (λ byte. 32 ≤ byte) (encode_utf8_all (shown text))

-- a text of which nothing is hidden is shown as it is
abbrev pub ShowsAsItIs : Type 0
ShowsAsItIs = (text : List ℕ) → AllByRecursion (λ c. is_hidden c ≡ false) text → shown text ≡ text

-- texts without a backslash that are shown alike are the same
abbrev pub ShowsApart : Type 0
ShowsApart = (a b : List ℕ) → AllByRecursion (λ c. c ≢ 92) a → AllByRecursion (λ c. c ≢ 92) b → shown a ≡ shown b → a ≡ b
