-- The stamp of a file, as it is taken.
use Rattle.std.proofs.Common.{◌≡◌, inl, inr, ℕ, zero, suc, ◌+◌, ◌-◌, ◌*◌, ◌%◌, ◌^◌, ◌<◌, ◌≤◌, min, List, [], ◌∷◌, length, length-drop, take, drop, refl, sym, ◌∙◌, ap, arith}
use Rattle.std.proofs.Math.ListN.{drop_of_length-le}
use Rattle.std.proofs.lemmas.Bool.{cases_lt}
use Rattle.std.proofs.lemmas.List.{take_all}
use Rattle.std.proofs.lemmas.Nat.{mod_below}
use Rattle.cfb_format.specs.Medium.{part}
use Rattle.cfb_journal.specs.Stamp.{stamp_of, step_of, summed, summed_over}

-- ---- it has 8 bytes

summed-fits : (sum : ℕ) (bytes : List ℕ) → sum < 2 ^ 64 → summed sum bytes < 2 ^ 64
unfolding summed
summed-fits sum [] fits = fits
summed-fits sum (byte ∷ rest) fits = summed-fits ((sum * 6364136223846793005 % 2 ^ 64 + (byte + 1)) % 2 ^ 64) rest (mod_below (sum * 6364136223846793005 % 2 ^ 64 + (byte + 1)) (2 ^ 64) (omega arith))

over-fits : (left step at : ℕ) (file : List ℕ) (sum : ℕ) → sum < 2 ^ 64 → summed_over left step at file sum < 2 ^ 64
unfolding summed_over
over-fits zero step at file sum fits = fits
over-fits (suc left) step at file sum fits = over-fits left step (at + step) file (summed sum (part file at 4096)) (summed-fits sum (part file at 4096) fits)

pub stamp-fits : (file : List ℕ) → stamp_of file < 2 ^ 64
unfolding stamp_of
stamp-fits file = over-fits 64 (step_of (length file)) 0 file 1442695040888963407 (omega arith)

-- ---- one block after the other

take-nil : (n : ℕ) → ◌≡◌ {A = List ℕ} (take n []) []
take-nil zero = refl
take-nil (suc n) = refl

part_past : (file : List ℕ) (at n : ℕ) → length file ≤ at → part file at n ≡ []
part_past file at n past = ap (take n) (drop_of_length-le file past) ∙ take-nil n

summed_none : (sum : ℕ) (bytes : List ℕ) → bytes ≡ [] → summed sum bytes ≡ sum
unfolding summed
summed_none sum bytes none = ap (summed sum) none

-- behind the end nothing is added
over_past : (left step at : ℕ) (file : List ℕ) (sum : ℕ) → length file ≤ at → summed_over left step at file sum ≡ sum
unfolding summed_over
over_past zero step at file sum past = refl
over_past (suc left) step at file sum past =
    over_past left step (at + step) file (summed sum (part file at 4096)) (omega (arith, past)) ∙ summed_none sum (part file at 4096) (part_past file at 4096 past)

-- a block, as far as the file goes
part_short : (file : List ℕ) (at len size : ℕ) → len ≡ length file → at < len → size ≡ min (len - at) 4096 → part file at size ≡ part file at 4096
part_short file at len size is inside size_is =
    elim (cases_lt (len - at) 4096) [
      | inl short ↦
          let rest = drop at file in
          let few : length rest ≤ size = omega (arith, length-drop at file, is, size_is, short) in
          let fewer : length rest ≤ 4096 = omega (arith, length-drop at file, is, short) in
          take_all size rest few ∙ sym (take_all 4096 rest fewer)
      | inr full ↦ let same : size ≡ 4096 = omega (arith, size_is, full) in ap (part file at) same
    ]

over_suc : (left step at len : ℕ) (file : List ℕ) (sum : ℕ) → len ≡ length file → at < len
    → summed_over left step (at + min step (len - at)) file (summed sum (part file at 4096)) ≡ summed_over (suc left) step at file sum
unfolding summed_over
over_suc left step at len file sum is inside =
    elim (cases_lt (len - at) step) [
      | inl last ↦
          let there : at + min step (len - at) ≡ len = omega (arith, last, inside) in
          over_past left step (at + min step (len - at)) file (summed sum (part file at 4096)) (omega (arith, there, is))
          ∙ sym (over_past left step (at + step) file (summed sum (part file at 4096)) (omega (arith, last, inside, is)))
      | inr more ↦ let same : min step (len - at) ≡ step = omega (arith, more) in ap (λ k. summed_over left step (at + k) file (summed sum (part file at 4096))) same
    ]

pub over_next : (left step at len size : ℕ) (file : List ℕ) (sum next : ℕ) (piece : List ℕ) → 0 < left → len ≡ length file → at < len → size ≡ min (len - at) 4096 → piece ≡ part file at size → next ≡ summed sum piece
    → summed_over (left - 1) step (at + min step (len - at)) file next ≡ summed_over left step at file sum
over_next zero step at len size file sum next piece some is inside size_is read next_is = absurd (omega arith)
over_next (suc left) step at len size file sum next piece some is inside size_is read next_is =
    let less : suc left - 1 ≡ left = omega arith in
    ap (λ k. summed_over k step (at + min step (len - at)) file next) less
    ∙ ap (summed_over left step (at + min step (len - at)) file) (next_is ∙ ap (summed sum) (read ∙ part_short file at len size is inside size_is))
    ∙ over_suc left step at len file sum is inside

over_none : (step at : ℕ) (file : List ℕ) (sum : ℕ) → summed_over 0 step at file sum ≡ sum
unfolding summed_over
over_none step at file sum = refl

-- all blocks are added
pub over_all : (left step at len : ℕ) (file : List ℕ) (sum : ℕ) → len ≡ length file → (0 < left → at < len → ⊥) → summed_over left step at file sum ≡ sum
over_all zero step at len file sum is done = over_none step at file sum
over_all (suc left) step at len file sum is done =
    elim (cases_lt at len) [
      | inl inside ↦ absurd (done (omega arith) inside)
      | inr past ↦ over_past (suc left) step at file sum (omega (arith, past, is))
    ]

pub over_first : (file : List ℕ) (len step : ℕ) → len ≡ length file → step ≡ step_of len → summed_over 64 step 0 file 1442695040888963407 ≡ stamp_of file
unfolding stamp_of
over_first file len step is step_is = ap (λ s. summed_over 64 s 0 file 1442695040888963407) (step_is ∙ ap step_of is)
