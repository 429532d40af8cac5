-- The words that a run of a table's words stands for, and which runs are as long as they can be.
use Rattle.std.specs.Prelude.{ℕ, ◌+◌, ◌<◌, ◌≤◌, ◌^◌, ◌≡◌, List, [], ◌∷◌, Bool, false, ◌&&◌, ◌==◌, nat_lt, nat_le, length, replicate, ⊤}
use Rattle.std.specs.List.{range_with_len}
use Rattle.cfb_format.specs.declared.consts.Run.{Run}
use Rattle.cfb_format.specs.declared.consts.Run.TheVariants.{Free, End, Fat, Difat, Numbers}
use Rattle.cfb_format.specs.Bytes.{end_of_chain, free_sector, fat_sector, difat_sector, invalid_sector}

abbrev pub run_words : Run → List ℕ
run_words (Free count) = replicate count free_sector
run_words End = end_of_chain ∷ []
run_words (Fat count) = replicate count fat_sector
run_words (Difat count) = replicate count difat_sector
run_words (Numbers first more) = range_with_len first (more + 1)

-- a run of numbers has no mark among its words: the marks begin behind the number that is none (MS-CFB 2.1)
abbrev pub StaysBelowMarks : Run → Type 0
StaysBelowMarks (Numbers first more) = first + more ≤ invalid_sector
StaysBelowMarks (Free count) = ⊤
StaysBelowMarks End = ⊤
StaysBelowMarks (Fat count) = ⊤
StaysBelowMarks (Difat count) = ⊤

abbrev pub first_word : Run → ℕ
first_word (Free count) = free_sector
first_word End = end_of_chain
first_word (Fat count) = fat_sector
first_word (Difat count) = difat_sector
first_word (Numbers first more) = first

-- one more of these words: the same mark, as long as 32 bits count it
abbrev pub counts_on : ℕ → ℕ → ℕ → Bool
counts_on mark count word = word == mark && nat_lt (count + 1) (2 ^ 32)

-- the word goes on with the run. The end of a chain stands alone
abbrev pub goes_on : Run → ℕ → Bool
goes_on (Free count) word = counts_on free_sector count word
goes_on End word = false
goes_on (Fat count) word = counts_on fat_sector count word
goes_on (Difat count) word = counts_on difat_sector count word
goes_on (Numbers first more) word = nat_le word invalid_sector && word == first + (more + 1)

-- none is empty, and none goes on with the next one's first word
abbrev pub AreLongest : List Run → Type 0
AreLongest [] = ⊤
AreLongest (run ∷ []) = 0 < length (run_words run)
AreLongest (run ∷ next ∷ runs) = (0 < length (run_words run)) × (goes_on run (first_word next) ≡ false) × AreLongest (next ∷ runs)
