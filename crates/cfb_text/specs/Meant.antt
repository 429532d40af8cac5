-- What is meant by a path as a person writes it.
use Rattle.std.specs.Prelude.{ℕ, zero, suc, ◌+◌, ◌-◌, ◌*◌, ◌≡◌, ◌≢◌, List, [], ◌∷◌, Bool, ◌&&◌, ◌||◌, ◌==◌, nat_lt, nat_le, drop, length, slice_index_or, if◌then◌else◌}
use Rattle.std.specs.List.{AllByRecursion}
use Rattle.cfb_text.specs.Shown.{shown}

-- the value of a digit to the base 16 in lower case, and 16 of any other letter
abbrev pub hex_value : ℕ → ℕ
hex_value c = if nat_le 48 c && nat_lt c 58 then c - 48 else if nat_le 97 c && nat_lt c 103 then c - 87 else 16

-- the number that a small u and the four digits behind it say; no number of a character where they do not stand in front
abbrev pub code_of : List ℕ → ℕ
code_of letters = if slice_index_or letters 0 0 == 117 && nat_lt (hex_value (slice_index_or letters 1 0)) 16 && nat_lt (hex_value (slice_index_or letters 2 0)) 16
    && nat_lt (hex_value (slice_index_or letters 3 0)) 16 && nat_lt (hex_value (slice_index_or letters 4 0)) 16
    then hex_value (slice_index_or letters 1 0) * 4096 + hex_value (slice_index_or letters 2 0) * 256
    + hex_value (slice_index_or letters 3 0) * 16 + hex_value (slice_index_or letters 4 0)
    else 1114112

-- the number of a character
abbrev pub is_letter : ℕ → Bool
is_letter code = nat_lt code 55296 || (nat_le 57344 code && nat_lt code 1114112)

-- a small u and four digits that say the number of a character stand in front
abbrev pub begins_code : List ℕ → Bool
begins_code letters = is_letter (code_of letters)

-- in so many steps at most
abbrev pub meant_by : ℕ → List ℕ → List ℕ
meant_by zero text = []
meant_by (suc n) [] = []
meant_by (suc n) (c ∷ rest) = if c == 92 && begins_code rest then code_of rest ∷ meant_by n (drop 5 rest) else c ∷ meant_by n rest

-- a backslash, a small u and four digits mean one character, and every other letter means itself
abbrev pub meant : List ℕ → List ℕ
meant text = meant_by (length text) text

-- what is shown of a text without a backslash means that text
abbrev pub MeansWhatIsShown : Type 0
MeansWhatIsShown = (text : List ℕ) → AllByRecursion (λ c. c ≢ 92) text → meant (shown text) ≡ text
