-- What is shown of a text without a backslash means that text.
use Rattle.std.proofs.Common.{◌≡◌, ◌≢◌, ℕ, suc, zero, ◌+◌, ◌*◌, ◌/◌, ◌%◌, ◌<◌, ◌≤◌, List, [], ◌∷◌, ◌++◌, Bool, true, false, refl, ap, ◌∙◌, arith, rules, length, drop, nat_lt}
use Rattle.std.specs.Prelude.{◌&&◌, ◌==◌, if◌then◌else◌}
use Rattle.std.specs.List.{AllByRecursion}
use Rattle.cfb_text.specs.Shown.{hex_digit, is_hidden, shown, shown_char}
use Rattle.cfb_text.specs.Meant.{begins_code, code_of, hex_value, is_letter, meant, meant_by}
use Rattle.cfb_text.proofs.Apart.{as_escape, as_itself, escape, hidden_is_small, some_shown}

-- a digit says its number
pub digit_says : (d : ℕ) → d < 16 → hex_value (hex_digit d) ≡ d
digit_says d small = search rules

low_is_true : (d : ℕ) → d < 16 → nat_lt d 16 ≡ true
low_is_true d small = search rules

digit_is_low : (d : ℕ) → d < 16 → nat_lt (hex_value (hex_digit d)) 16 ≡ true
digit_is_low d small = ap (λ (v : ℕ). nat_lt v 16) (digit_says d small) ∙ low_is_true d small

all_true : (p q r s : Bool) → p ≡ true → q ≡ true → r ≡ true → s ≡ true → (true && p && q && r && s) ≡ true
all_true true true true true a b c d = refl
all_true false q r s a b c d = absurd (let bad : false ≡ true = a in search rules)
all_true true false r s a b c d = absurd (let bad : false ≡ true = b in search rules)
all_true true true false s a b c d = absurd (let bad : false ≡ true = c in search rules)
all_true true true true false a b c d = absurd (let bad : false ≡ true = d in search rules)

four_say : (c : ℕ) → c < 65536 → c / 4096 % 16 * 4096 + c / 256 % 16 * 256 + c / 16 % 16 * 16 + c % 16 ≡ c
four_say c small = omega arith

sums : (a b c d x y z w : ℕ) → a ≡ x → b ≡ y → c ≡ z → d ≡ w → a * 4096 + b * 256 + c * 16 + d ≡ x * 4096 + y * 256 + z * 16 + w
sums a b c d x y z w e f g h = omega (arith, e, f, g, h)

code_says : (c : ℕ) (rest : List ℕ) → is_hidden c ≡ true → code_of (drop 1 (escape c) ++ rest) ≡ c
code_says c rest h =
    let sum : ℕ = hex_value (hex_digit (c / 4096 % 16)) * 4096 + hex_value (hex_digit (c / 256 % 16)) * 256
    + hex_value (hex_digit (c / 16 % 16)) * 16 + hex_value (hex_digit (c % 16)) in
    ap (λ (b : Bool). if b then sum else 1114112)
    (all_true (nat_lt (hex_value (hex_digit (c / 4096 % 16))) 16) (nat_lt (hex_value (hex_digit (c / 256 % 16))) 16)
    (nat_lt (hex_value (hex_digit (c / 16 % 16))) 16) (nat_lt (hex_value (hex_digit (c % 16))) 16)
    (digit_is_low (c / 4096 % 16) (omega arith)) (digit_is_low (c / 256 % 16) (omega arith))
    (digit_is_low (c / 16 % 16) (omega arith)) (digit_is_low (c % 16) (omega arith)))
    ∙ sums (hex_value (hex_digit (c / 4096 % 16))) (hex_value (hex_digit (c / 256 % 16))) (hex_value (hex_digit (c / 16 % 16))) (hex_value (hex_digit (c % 16)))
    (c / 4096 % 16) (c / 256 % 16) (c / 16 % 16) (c % 16)
    (digit_says (c / 4096 % 16) (omega arith)) (digit_says (c / 256 % 16) (omega arith)) (digit_says (c / 16 % 16) (omega arith)) (digit_says (c % 16) (omega arith))
    ∙ four_say c (hidden_is_small c h)

hidden_is_letter : (c : ℕ) → is_hidden c ≡ true → is_letter c ≡ true
hidden_is_letter c h = search rules

no_backslash : (c : ℕ) → c ≢ 92 → (c == 92) ≡ false
no_backslash c other = search rules

char_means : (n c : ℕ) (rest text : List ℕ) (h : Bool) → is_hidden c ≡ h → c ≢ 92 → meant_by n rest ≡ text → meant_by (suc n) (shown_char c ++ rest) ≡ c ∷ text
char_means n c rest text true e other held =
    let behind : List ℕ = drop 1 (escape c) ++ rest in
    let says = code_says c rest e in
    let begins : begins_code behind ≡ true = ap is_letter says ∙ hidden_is_letter c e in
    ap (λ (front : List ℕ). meant_by (suc n) (front ++ rest)) (as_escape c e)
    ∙ ap (λ (b : Bool). if b then code_of behind ∷ meant_by n (drop 5 behind) else 92 ∷ meant_by n behind) begins
    ∙ ap (λ (x : ℕ). x ∷ meant_by n rest) says
    ∙ ap (λ (more : List ℕ). c ∷ more) held
char_means n c rest text false e other held =
    ap (λ (front : List ℕ). meant_by (suc n) (front ++ rest)) (as_itself c e)
    ∙ ap (λ (b : Bool). if b && begins_code rest then code_of rest ∷ meant_by n (drop 5 rest) else c ∷ meant_by n rest) (no_backslash c other)
    ∙ ap (λ (more : List ℕ). c ∷ more) held

nothing_left : (text : List ℕ) → length text ≤ 0 → [] ≡ text
nothing_left [] l = refl
nothing_left (c ∷ text) l = absurd (omega arith)

longer : (c : ℕ) (rest : List ℕ) (h : Bool) → is_hidden c ≡ h → suc (length rest) ≤ length (shown_char c ++ rest)
longer c rest true e = rw (as_escape c e) (omega arith)
longer c rest false e = rw (as_itself c e) (omega arith)

shown_means : (n : ℕ) (text : List ℕ) → AllByRecursion (λ c. c ≢ 92) text → length (shown text) ≤ n → meant_by n (shown text) ≡ text
shown_means zero [] p l = refl
shown_means (suc n) [] p l = refl
shown_means zero (c ∷ text) p l = absurd (some_shown c (shown text) (is_hidden c) refl (nothing_left (shown_char c ++ shown text) l))
shown_means (suc n) (c ∷ text) p l =
    let more = longer c (shown text) (is_hidden c) refl in
    char_means n c (shown text) text (is_hidden c) refl p.0 (shown_means n text p.1 (omega (arith, more, l)))

pub means_what_is_shown : (text : List ℕ) → AllByRecursion (λ c. c ≢ 92) text → meant (shown text) ≡ text
means_what_is_shown text p = shown_means (length (shown text)) text p (omega arith)
