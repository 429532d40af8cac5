-- Numbers as they are written, one after the other.
use Rattle.std.proofs.Common.{◌≡◌, ◌+◌, ◌<◌, ◌≤◌, ◌-◌, ℕ, List, [], ◌∷◌, ◌++◌, refl, sym, ◌∙◌, ap, length, take, drop, arith, get_or, append_assoc, append-nil}
use Rattle.std.specs.Int.{to_le_bytes, w16, w32}
use Rattle.std.proofs.lemmas.List.{take_more, drop-drop}
use Rattle.cfb_format.specs.Bytes.{word_bytes, unit_bytes}

pub word_bytes-append : (xs ys : List ℕ) → word_bytes (xs ++ ys) ≡ word_bytes xs ++ word_bytes ys
unfolding word_bytes
word_bytes-append [] ys = refl
word_bytes-append (x ∷ xs) ys = ap (λ zs. to_le_bytes w32 x ++ zs) (word_bytes-append xs ys) ∙ sym (append_assoc (to_le_bytes w32 x) (word_bytes xs) (word_bytes ys))

pub unit_bytes-append : (xs ys : List ℕ) → unit_bytes (xs ++ ys) ≡ unit_bytes xs ++ unit_bytes ys
unfolding unit_bytes
unit_bytes-append [] ys = refl
unit_bytes-append (x ∷ xs) ys = ap (λ zs. to_le_bytes w16 x ++ zs) (unit_bytes-append xs ys) ∙ sym (append_assoc (to_le_bytes w16 x) (unit_bytes xs) (unit_bytes ys))

-- one number more
pub word_bytes-take : (xs : List ℕ) (i : ℕ) → i < length xs → word_bytes (take (i + 1) xs) ≡ word_bytes (take i xs) ++ to_le_bytes w32 (get_or xs i 0)
unfolding word_bytes
word_bytes-take xs i h = ap word_bytes (take_more xs i 0 h) ∙ word_bytes-append (take i xs) (get_or xs i 0 ∷ [])
    ∙ ap (λ zs. word_bytes (take i xs) ++ zs) (append-nil (to_le_bytes w32 (get_or xs i 0)))

pub unit_bytes-take : (xs : List ℕ) (i : ℕ) → i < length xs → unit_bytes (take (i + 1) xs) ≡ unit_bytes (take i xs) ++ to_le_bytes w16 (get_or xs i 0)
unfolding unit_bytes
unit_bytes-take xs i h = ap unit_bytes (take_more xs i 0 h) ∙ unit_bytes-append (take i xs) (get_or xs i 0 ∷ [])
    ∙ ap (λ zs. unit_bytes (take i xs) ++ zs) (append-nil (to_le_bytes w16 (get_or xs i 0)))

-- one piece more is put behind what was put before
module _ (old mid new : List ℕ) (end next : ℕ) where
  pub put_before : (at : ℕ) (done from : List ℕ) → take end mid ≡ take at old ++ done → take next new ≡ take end mid ++ from
      → take next new ≡ take at old ++ (done ++ from)
  put_before at done from before put = put ∙ ap (λ zs. zs ++ from) before ∙ append_assoc (take at old) done from

  pub put_after : end ≤ next → drop end mid ≡ drop end old → drop next new ≡ drop next mid → drop next new ≡ drop next old
  put_after fits after put =
      let same : end + (next - end) ≡ next = omega arith in
      let there = λ (xs : List ℕ). drop-drop (next - end) end xs ∙ ap (λ n. drop n xs) same in
      put ∙ sym (there mid) ∙ ap (drop (next - end)) after ∙ there old
