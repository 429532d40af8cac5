-- What was refused of a list of commands, by its place.
use Rattle.std.proofs.Common.{◌≡◌, ◌∙◌, ◌+◌, ℕ, List, [], ◌∷◌, ◌++◌, ap, append-nil, append_assoc, arith, length, length-append, map, refl, sym}
use Rattle.std.proofs.lemmas.List.{map-append}
use Rattle.std.specs.Prelude.{Option, Some, None}
use Rattle.cfb_format.specs.declared.error.Error.{Error}
use Rattle.cfb_rules.specs.Refusal.{Refusal, refusal_number}
use Rattle.cfb_commands.specs.Commands.{refusal_of_error}
use Rattle.cfb_tool.proofs.Turns.{lines_more}
use Rattle.cfb_tool.specs.Playing.{AreToldIn, placed, refusals_from, told_line, told_lines}

refusals_behind : (place : ℕ) (xs : List (Option Refusal)) (x : Option Refusal)
    → refusals_from place (xs ++ x ∷ []) ≡ refusals_from place xs ++ refusals_from (place + length xs) (x ∷ [])
refusals_behind place [] x = ap (λ (n : ℕ). refusals_from n (x ∷ [])) (let e : place ≡ place + 0 = omega arith in e)
refusals_behind place (None ∷ xs) x =
    refusals_behind (place + 1) xs x
    ∙ ap (λ (n : ℕ). refusals_from (place + 1) xs ++ refusals_from n (x ∷ [])) (let e : place + 1 + length xs ≡ place + length (None ∷ xs) = omega arith in e)
refusals_behind place (Some refusal ∷ xs) x =
    ap (λ (rs : List (ℕ × Refusal)). (place, refusal) ∷ rs)
    (refusals_behind (place + 1) xs x
    ∙ ap (λ (n : ℕ). refusals_from (place + 1) xs ++ refusals_from n (x ∷ [])) (let e : place + 1 + length xs ≡ place + length (Some refusal ∷ xs) = omega arith in e))

-- so many commands are told so
pub record AreToldUpTo (text now : List ℕ) (refusals : List (ℕ × Refusal)) (count : ℕ) : Type 0 where
  pub told : List (Option Refusal)
  pub lines : now ≡ text ++ told_lines told
  pub each : refusals ≡ refusals_from 0 told
  pub many : length told ≡ count

pub none_told : (text : List ℕ) → AreToldUpTo text text [] 0
none_told text = record { told = []; lines = sym (append-nil text); each = refl; many = refl }

pub all_told : (text now : List ℕ) (refusals : List (ℕ × Refusal)) (count : ℕ) → AreToldUpTo text now refusals count → AreToldIn text now refusals
all_told text now refusals count t = record { told = t.told; lines = t.lines; each = t.each }

one_told : (text now next : List ℕ) (old new : List (ℕ × Refusal)) (count : ℕ) (told : Option Refusal) → AreToldUpTo text now old count → next ≡ now ++ told_line told
    → new ≡ old ++ refusals_from count (told ∷ []) → AreToldUpTo text next new (count + 1)
one_told text now next old new count told t line refused = record {
  told = t.told ++ told ∷ [];
  lines = line ∙ ap (λ (ls : List ℕ). ls ++ told_line told) t.lines ∙ append_assoc text (told_lines t.told) (told_line told)
      ∙ ap (λ (ls : List ℕ). text ++ ls) (sym (lines_more t.told told));
  each = refused ∙ ap (λ (rs : List (ℕ × Refusal)). rs ++ refusals_from count (told ∷ [])) t.each
      ∙ ap (λ (n : ℕ). refusals_from 0 t.told ++ refusals_from n (told ∷ [])) (let e : count ≡ 0 + length t.told = omega (arith, t.many) in e)
      ∙ sym (refusals_behind 0 t.told told);
  many = omega (arith, length-append t.told (told ∷ []), t.many);
}

pub ok_told : (text now next : List ℕ) (refusals : List (ℕ × Error)) (count : ℕ) → AreToldUpTo text now (map placed refusals) count → next ≡ now ++ 111 ∷ 107 ∷ 10 ∷ []
    → AreToldUpTo text next (map placed refusals) (count + 1)
ok_told text now next refusals count t line = one_told text now next (map placed refusals) (map placed refusals) count None t line (sym (append-nil (map placed refusals)))

pub refusal_told : (text now next : List ℕ) (old new : List (ℕ × Error)) (count letter : ℕ) (e : Error) → AreToldUpTo text now (map placed old) count
    → letter ≡ 48 + refusal_number (refusal_of_error e) → next ≡ now ++ 69 ∷ letter ∷ 10 ∷ [] → new ≡ old ++ (count, e) ∷ [] → AreToldUpTo text next (map placed new) (count + 1)
refusal_told text now next old new count letter e t digit line refused =
    one_told text now next (map placed old) (map placed new) count (Some (refusal_of_error e)) t
    (line ∙ ap (λ (n : ℕ). now ++ 69 ∷ n ∷ 10 ∷ []) digit) (ap (map placed) refused ∙ map-append placed old ((count, e) ∷ []))
