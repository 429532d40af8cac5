use Rattle.std.proofs.Common.{ℕ, ◌≡◌, ◌<◌, false}
use Rattle.std.specs.Prelude.{IsTrue, slice_index, slice_index_or}
use Rattle.cfb_format.specs.Bytes.{is_regular}
use Rattle.cfb_reading.proofs.fat_words.others_point_into.Given as goal

abbrev pub invariant-loop-i : goal.invariant-loop-i
invariant-loop-i l = (k : ℕ) → k < l.i → slice_index_or l.listed k false ≡ false → IsTrue (is_regular (slice_index l.words k)) → slice_index l.words k < l.num_sectors
