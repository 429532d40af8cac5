-- Numbers in order, one number longer; runs, one longer or one more.
use Rattle.std.proofs.Common.{◌≡◌, ◌<◌, ℕ, zero, suc, ◌+◌, List, [], ◌∷◌, ◌++◌, ◌∙◌, ap, arith, false, length, length-append}
use Rattle.std.specs.List.{range_with_len}
use Rattle.cfb_format.specs.declared.consts.Run.{Run}
use Rattle.cfb_format.specs.Runs.{run_words, first_word, goes_on, AreLongest}

pub range_more : (first n last : ℕ) → first + n ≡ last → range_with_len first (n + 1) ≡ range_with_len first n ++ last ∷ []
range_more first zero last is = ap (λ m. m ∷ []) (let e : first ≡ last = omega (arith, is) in e)
range_more first (suc n) last is =
    let one : suc n + 1 ≡ suc (n + 1) = omega arith in
    ap (range_with_len first) one ∙ ap (λ ms. first ∷ ms) (range_more (first + 1) n last (omega (arith, is)))

-- the last run changed for another that begins as it does
pub longest-changed : (rest : List Run) (a b : Run) → AreLongest (rest ++ a ∷ []) → first_word b ≡ first_word a → 0 < length (run_words b) → AreLongest (rest ++ b ∷ [])
longest-changed [] a b long same full = full
longest-changed (r ∷ []) a b long same full = (long.0, ap (goes_on r) same ∙ long.1, full)
longest-changed (r ∷ s ∷ rest) a b long same full = (long.0, long.1, longest-changed (s ∷ rest) a b long.2 same full)

-- a run behind the last one, which does not go on with it
pub longest-more : (rest : List Run) (a b : Run) → AreLongest (rest ++ a ∷ []) → goes_on a (first_word b) ≡ false → 0 < length (run_words b) → AreLongest (rest ++ a ∷ b ∷ [])
longest-more [] a b long apart full = (long, apart, full)
longest-more (r ∷ []) a b long apart full = (long.0, long.1, (long.2, apart, full))
longest-more (r ∷ s ∷ rest) a b long apart full = (long.0, long.1, longest-more (s ∷ rest) a b long.2 apart full)

pub full_of_words : (run : Run) (ws : List ℕ) (word : ℕ) → run_words run ≡ ws ++ word ∷ [] → 0 < length (run_words run)
full_of_words run ws word is =
    let len : length (run_words run) ≡ length ws + 1 = ap length is ∙ length-append ws (word ∷ []) in
    omega (arith, len)
