-- Text as it is shown: nothing of it is hidden, and it tells which text it was.
use Rattle.std.proofs.Common.{◌≡◌, ◌≢◌, ℕ, ◌/◌, ◌%◌, ◌<◌, List, [], ◌∷◌, ◌++◌, Bool, true, false, refl, sym, ap, ◌∙◌, arith, rules, get_or, drop, length, suc}
use Rattle.std.specs.List.{AllByRecursion}
use Rattle.cfb_text.specs.Shown.{hex_digit, is_hidden, shown, shown_char}

-- a digit is no hidden character
pub digit_is_plain : (d : ℕ) → d < 16 → is_hidden (hex_digit d) ≡ false
digit_is_plain d small = search rules

-- below 16 a digit tells its number
pub digits_apart : (a b : ℕ) → a < 16 → b < 16 → hex_digit a ≡ hex_digit b → a ≡ b
digits_apart a b x y e = search rules

-- a hidden character has four digits to the base 16
pub hidden_is_small : (c : ℕ) → is_hidden c ≡ true → c < 65536
hidden_is_small c h = search rules

-- which tell it
pub four_digits : (a b : ℕ) → a < 65536 → b < 65536 → a / 4096 % 16 ≡ b / 4096 % 16 → a / 256 % 16 ≡ b / 256 % 16 → a / 16 % 16 ≡ b / 16 % 16 → a % 16 ≡ b % 16 → a ≡ b
four_digits a b x y e f g h = omega arith

-- what a hidden character is shown as
abbrev pub escape : ℕ → List ℕ
escape c = 92 ∷ 117 ∷ hex_digit (c / 4096 % 16) ∷ hex_digit (c / 256 % 16) ∷ hex_digit (c / 16 % 16) ∷ hex_digit (c % 16) ∷ []

pub as_escape : (c : ℕ) → is_hidden c ≡ true → shown_char c ≡ escape c
as_escape c e = rw e refl

pub as_itself : (c : ℕ) → is_hidden c ≡ false → shown_char c ≡ c ∷ []
as_itself c e = rw e refl

-- ---- nothing is hidden

append_plain : (xs ys : List ℕ) → AllByRecursion (λ c. is_hidden c ≡ false) xs → AllByRecursion (λ c. is_hidden c ≡ false) ys
    → AllByRecursion (λ c. is_hidden c ≡ false) (xs ++ ys)
append_plain [] ys p q = q
append_plain (x ∷ xs) ys p q = (p.0, append_plain xs ys p.1 q)

char_is_plain : (c : ℕ) (h : Bool) → is_hidden c ≡ h → AllByRecursion (λ d. is_hidden d ≡ false) (shown_char c)
char_is_plain c true e = rw (as_escape c e) (
  refl,
  (
    refl,
    (
      digit_is_plain (c / 4096 % 16) (omega arith),
      (
        digit_is_plain (c / 256 % 16) (omega arith),
        (digit_is_plain (c / 16 % 16) (omega arith), (digit_is_plain (c % 16) (omega arith), tt)),
      ),
    ),
  ),
)
char_is_plain c false e = rw (as_itself c e) (e, tt)

pub shown_is_plain : (text : List ℕ) → AllByRecursion (λ c. is_hidden c ≡ false) (shown text)
shown_is_plain [] = tt
shown_is_plain (x ∷ text) = append_plain (shown_char x) (shown text) (char_is_plain x (is_hidden x) refl) (shown_is_plain text)

-- ---- and what is plain stays

char_stays : (c : ℕ) (text : List ℕ) → is_hidden c ≡ false → shown text ≡ text → shown_char c ++ shown text ≡ c ∷ text
char_stays c text plain stays = ap (λ (front : List ℕ). front ++ shown text) (as_itself c plain) ∙ ap (λ (rest : List ℕ). c ∷ rest) stays

pub shown_as_it_is : (text : List ℕ) → AllByRecursion (λ c. is_hidden c ≡ false) text → shown text ≡ text
shown_as_it_is [] plain = refl
shown_as_it_is (c ∷ text) plain = char_stays c text plain.0 (shown_as_it_is text plain.1)

-- ---- what is shown tells what it was

-- two hidden characters in front
both_hidden : (x y : ℕ) (a b : List ℕ) → is_hidden x ≡ true → is_hidden y ≡ true → escape x ++ a ≡ escape y ++ b → (x ≡ y) × (a ≡ b)
both_hidden x y a b ex ey e = (
  four_digits x y (hidden_is_small x ex) (hidden_is_small y ey)
      (digits_apart (x / 4096 % 16) (y / 4096 % 16) (omega arith) (omega arith) (ap (λ (xs : List ℕ). get_or xs 2 0) e))
      (digits_apart (x / 256 % 16) (y / 256 % 16) (omega arith) (omega arith) (ap (λ (xs : List ℕ). get_or xs 3 0) e))
      (digits_apart (x / 16 % 16) (y / 16 % 16) (omega arith) (omega arith) (ap (λ (xs : List ℕ). get_or xs 4 0) e))
      (digits_apart (x % 16) (y % 16) (omega arith) (omega arith) (ap (λ (xs : List ℕ). get_or xs 5 0) e)),
  ap (drop 6) e,
)

heads_apart : (x y : ℕ) (a b : List ℕ) (hx hy : Bool) → is_hidden x ≡ hx → is_hidden y ≡ hy → x ≢ 92 → y ≢ 92
    → shown_char x ++ a ≡ shown_char y ++ b → (x ≡ y) × (a ≡ b)
heads_apart x y a b true true ex ey nx ny e =
    both_hidden x y a b ex ey (ap (λ (front : List ℕ). front ++ a) (sym (as_escape x ex)) ∙ e ∙ ap (λ (front : List ℕ). front ++ b) (as_escape y ey))
heads_apart x y a b true false ex ey nx ny e =
    let f : escape x ++ a ≡ y ∷ b = ap (λ (front : List ℕ). front ++ a) (sym (as_escape x ex)) ∙ e ∙ ap (λ (front : List ℕ). front ++ b) (as_itself y ey) in
    absurd (ny (sym (ap (λ (xs : List ℕ). get_or xs 0 0) f)))
heads_apart x y a b false true ex ey nx ny e =
    let f : x ∷ a ≡ escape y ++ b = ap (λ (front : List ℕ). front ++ a) (sym (as_itself x ex)) ∙ e ∙ ap (λ (front : List ℕ). front ++ b) (as_escape y ey) in
    absurd (nx (ap (λ (xs : List ℕ). get_or xs 0 0) f))
heads_apart x y a b false false ex ey nx ny e =
    let f : x ∷ a ≡ y ∷ b = ap (λ (front : List ℕ). front ++ a) (sym (as_itself x ex)) ∙ e ∙ ap (λ (front : List ℕ). front ++ b) (as_itself y ey) in
    (ap (λ (xs : List ℕ). get_or xs 0 0) f, ap (drop 1) f)

-- something is shown of each character
pub some_shown : (c : ℕ) (rest : List ℕ) (h : Bool) → is_hidden c ≡ h → [] ≡ shown_char c ++ rest → ⊥
some_shown c rest true e none =
    let f : [] ≡ escape c ++ rest = none ∙ ap (λ (front : List ℕ). front ++ rest) (as_escape c e) in
    let bad : 0 ≡ 92 = ap (λ (xs : List ℕ). get_or xs 0 0) f in omega (arith, bad)
some_shown c rest false e none =
    let f : [] ≡ c ∷ rest = none ∙ ap (λ (front : List ℕ). front ++ rest) (as_itself c e) in
    let bad : 0 ≡ suc (length rest) = ap length f in omega (arith, bad)

pub shown_apart : (a b : List ℕ) → AllByRecursion (λ c. c ≢ 92) a → AllByRecursion (λ c. c ≢ 92) b → shown a ≡ shown b → a ≡ b
shown_apart [] [] p q e = refl
shown_apart [] (y ∷ b) p q e = absurd (some_shown y (shown b) (is_hidden y) refl e)
shown_apart (x ∷ a) [] p q e = absurd (some_shown x (shown a) (is_hidden x) refl (sym e))
shown_apart (x ∷ a) (y ∷ b) p q e =
    let h = heads_apart x y (shown a) (shown b) (is_hidden x) (is_hidden y) refl refl p.0 q.0 e in
    ap (λ (c : ℕ). c ∷ a) h.0 ∙ ap (λ (rest : List ℕ). y ∷ rest) (shown_apart a b p.1 q.1 h.1)
