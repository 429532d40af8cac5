use Rattle.std.proofs.Common.{◌≡◌, ℕ, length, take}
use Rattle.cfb_format.specs.Siblings.{entry_at}
use Rattle.cfb_soundness.specs.Parts.{parts_reading}
use Rattle.cfb_flaws.specs.Claims.{ClaimedInTurn, IsKnown, members_in, words_in}
use Rattle.cfb_flaws.proofs.owners.claim_streams.Given as goal

abbrev pub invariant-loop-number : goal.invariant-loop-number
invariant-loop-number g l = record {
  owners : length l.owners ≡ length (words_in l.fn.table l.parts);
  seen : length l.seen ≡ length (words_in l.fn.table l.parts);
  claimed : IsKnown (words_in l.fn.table l.parts) l.fn.owners l.fn.seen
      → ClaimedInTurn l.fn.owners (λ i. members_in l.fn.table (parts_reading l.parts) (entry_at (parts_reading l.parts).entries i)) (take l.number-index l.parts.streams.now) l.owners;
  known : IsKnown (words_in l.fn.table l.parts) l.fn.owners l.fn.seen → IsKnown (words_in l.fn.table l.parts) l.owners l.seen;
}
