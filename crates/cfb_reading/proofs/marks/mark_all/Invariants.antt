use Rattle.std.proofs.Common.{ℕ, ◌≡◌, ◌<◌, false, length, take, ◌||◌}
use Rattle.std.specs.Prelude.{slice_index_or}
use Rattle.cfb_format.specs.Fat.{is_among}
use Rattle.cfb_reading.proofs.marks.mark_all.Given as goal

abbrev pub invariant-loop-number : goal.invariant-loop-number
invariant-loop-number l = record {
  len : length l.marks ≡ length l.initial.marks;
  marked : (i : ℕ) → i < length l.initial.marks
      → slice_index_or l.marks i false ≡ (slice_index_or l.initial.marks i false || is_among (take l.number-index l.numbers) i);
}
