-- Names of objects as names of files of the system.
use Rattle.std.specs.Prelude.{ℕ, ◌+◌, ◌*◌, ◌/◌, ◌%◌, ◌≡◌, ◌≢◌, ◌<◌, ◌≤◌, List, [], ◌∷◌, Bool, false, ◌||◌, ◌==◌, nat_lt, flat_map, length, slice_index_or, if◌then◌else◌}
use Rattle.std.specs.List.{AllByRecursion}
use Rattle.cfb_text.specs.Shown.{hex_digit, is_hidden}

-- a hidden character, or a quotation mark, star, slash, colon, angle bracket, question mark, backslash or bar, which some system gives a meaning
abbrev pub is_barred : ℕ → Bool
is_barred c = is_hidden c || c == 34 || c == 42 || c == 47 || c == 58 || c == 60 || c == 62 || c == 63 || c == 92 || c == 124

-- a percent sign and two digits to the base 16, or a percent sign, a small u and four digits
abbrev pub coded : ℕ → List ℕ
coded c = if nat_lt c 256
    then 37 ∷ hex_digit (c / 16 % 16) ∷ hex_digit (c % 16) ∷ []
    else 37 ∷ 117 ∷ hex_digit (c / 4096 % 16) ∷ hex_digit (c / 256 % 16) ∷ hex_digit (c / 16 % 16) ∷ hex_digit (c % 16) ∷ []

-- coded where it is barred or a percent sign; or the character itself
abbrev pub host_char : ℕ → List ℕ
host_char c = if is_barred c || c == 37 then coded c else c ∷ []

-- whether a name of a file would be empty, be `.` or `..` or hidden, or look like an option: it is empty, or begins with a dot or a minus
abbrev pub needs_guard : List ℕ → Bool
needs_guard letters = slice_index_or letters 0 46 == 46 || slice_index_or letters 0 46 == 45

-- a percent sign in front of such a name
abbrev pub guarded : List ℕ → List ℕ
guarded letters = if needs_guard letters then 37 ∷ letters else letters

-- the name of the file for an object of this name
abbrev pub host_name : List ℕ → List ℕ
host_name name = guarded (flat_map host_char name)

-- the name of one file in a folder, and no way out of it: it is not empty, it is neither `.` nor `..`, no `/` and no U+0000 stands in it
pub record IsFileName (name : List ℕ) : Type 0 where
  pub some : 0 < length name
  pub front : slice_index_or name 0 46 ≢ 46
  pub no_option : slice_index_or name 0 46 ≢ 45
  pub inside : AllByRecursion (λ c. is_barred c ≡ false) name

-- whatever an object is called
abbrev pub StaysInFolder : Type 0
StaysInFolder = (name : List ℕ) → IsFileName (host_name name)

-- objects with different names get different names
abbrev pub NamesApart : Type 0
NamesApart = (a b : List ℕ) → host_name a ≡ host_name b → a ≡ b

-- six letters for each at most, and the guard
abbrev pub StaysShort : Type 0
StaysShort = (name : List ℕ) → length (host_name name) ≤ 6 * length name + 1
