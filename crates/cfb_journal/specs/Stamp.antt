-- The stamp of a file, by which a journal knows its file again: a checksum over at most 64 blocks of 4096 bytes, spread over the length. Of a file of
-- less than 256 KiB that is all of it.
use Rattle.std.specs.Prelude.{ℕ, zero, suc, ◌+◌, ◌*◌, ◌/◌, ◌%◌, ◌^◌, List, [], ◌∷◌, length}
use Rattle.cfb_format.specs.Medium.{part}

-- the checksum of these bytes, behind others of this checksum
unfoldable pub summed : ℕ → List ℕ → ℕ
summed sum [] = sum
summed sum (byte ∷ rest) = summed ((sum * 6364136223846793005 % 2 ^ 64 + (byte + 1)) % 2 ^ 64) rest

-- how far from one block to the next
abbrev pub step_of : ℕ → ℕ
step_of len = (len / 262144 + 1) * 4096

-- the checksum of so many blocks, the first of them at `at`
unfoldable pub summed_over : ℕ → ℕ → ℕ → List ℕ → ℕ → ℕ
summed_over zero step at file sum = sum
summed_over (suc left) step at file sum = summed_over left step (at + step) file (summed sum (part file at 4096))

unfoldable pub stamp_of : List ℕ → ℕ
stamp_of file = summed_over 64 (step_of (length file)) 0 file 1442695040888963407
