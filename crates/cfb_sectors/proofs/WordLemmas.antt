-- Words before and after a write.
use Rattle.std.proofs.Common.{refl, inl, inr, ◌≡◌, ℕ, ◌+◌, ◌<◌, ◌≤◌, ◌^◌, max, List, length, drop, slice_index, sym, ◌∙◌, arith, get_or-drop, get_or-take}
use Rattle.std.specs.Int.{from_le_bytes, to_le_bytes, w32, byte_worth}
use Rattle.std.proofs.lemmas.Nat.{from_le_bytes-to_le_bytes_4}
use Rattle.std.proofs.lemmas.Bool.{cases_lt}
use Rattle.cfb_format.specs.Bytes.{word_at}
use Rattle.cfb_format.specs.Medium.{part, written, ChangesOnlyBytes}
use Rattle.cfb_format.proofs.ByteLemmas.{written_at, written_below, written_above, length-written}
use Rattle.cfb_sectors.specs.Words.{Apart, with_word, RangeStays}

abbrev four : ℕ → ℕ → ℕ → ℕ → ℕ
four a b c d = byte_worth 0 a + byte_worth 1 b + byte_worth 2 c + byte_worth 3 d

same_four : (xs ys : List ℕ) → ((k : ℕ) → k < 4 → slice_index xs k ≡ slice_index ys k) → from_le_bytes w32 xs ≡ from_le_bytes w32 ys
same_four xs ys h = λ j. four (h 0 (omega arith) j) (h 1 (omega arith) j) (h 2 (omega arith) j) (h 3 (omega arith) j)

-- two words of the same bytes
pub word_same : (a b : List ℕ) (p : ℕ) → ((k : ℕ) → k < 4 → slice_index b (p + k) ≡ slice_index a (p + k)) → word_at b p ≡ word_at a p
unfolding word_at
word_same a b p h = same_four (drop p b) (drop p a) (λ k low. get_or-drop p b k 0 ∙ h k low ∙ sym (get_or-drop p a k 0))

-- a word is that of its four bytes
pub word_of_part : (b : List ℕ) (p : ℕ) → from_le_bytes w32 (part b p 4) ≡ word_at b p
unfolding word_at
word_of_part b p = same_four (part b p 4) (drop p b) (λ k low. get_or-take 4 (drop p b) k 0 low)

-- a word that a change leaves alone
pub word_apart : (at n p : ℕ) (a b : List ℕ) → ChangesOnlyBytes at n a b → p + 4 ≤ length a → Apart p 4 at n → word_at b p ≡ word_at a p
word_apart at n p a b change within apart =
    word_same a b p (λ k low. elim (cases_lt at (p + 4)) [
      | inl behind ↦ change.above (p + k) (omega arith) (omega arith)
      | inr before ↦ change.below (p + k) (omega arith) (omega arith)
    ])

-- the word that was written
pub word_with_word : (b : List ℕ) (at v : ℕ) → v < 2 ^ 32 → word_at (with_word b at v) at ≡ v
unfolding word_at with_word
word_with_word b at v fits =
    same_four (drop at (written b at (to_le_bytes w32 v))) (to_le_bytes w32 v)
    (λ k low. get_or-drop at (written b at (to_le_bytes w32 v)) k 0 ∙ written_at b at (to_le_bytes w32 v) k low)
    ∙ from_le_bytes-to_le_bytes_4 v fits

-- another word than the written one, also in the gap and past the end
pub word_with_word_apart : (b : List ℕ) (at v p : ℕ) → Apart p 4 at 4 → word_at (with_word b at v) p ≡ word_at b p
unfolding with_word
word_with_word_apart b at v p apart =
    word_same b _ p (λ k low. elim (cases_lt at (p + 4)) [
      | inr before ↦ written_below b at (to_le_bytes w32 v) (p + k) (omega arith)
      | inl behind ↦ written_above b at (to_le_bytes w32 v) (p + k) (let four_long : length (to_le_bytes w32 v) ≡ 4 = refl in omega arith)
    ])

pub length-with_word : (b : List ℕ) (at v : ℕ) → length (with_word b at v) ≡ max (length b) (at + 4)
unfolding with_word
length-with_word b at v = length-written b at (to_le_bytes w32 v)

-- a word in a stretch that stays
pub word_stays : (from to p : ℕ) (a b : List ℕ) → RangeStays from to a b → from ≤ p → p + 4 ≤ to → p + 4 ≤ length a → word_at b p ≡ word_at a p
word_stays from to p a b stays low high within = word_same a b p (λ k small. stays.each (p + k) (omega arith) (omega arith) (omega arith))

-- what a reader of words needs
pub ruleset words = (word_with_word, word_with_word_apart, length-with_word)
