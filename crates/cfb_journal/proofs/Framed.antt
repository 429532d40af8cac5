-- The file that the first bytes of a file are with frames over them, as it is read.
use Rattle.std.proofs.Common.{◌≡◌, ℕ, ◌+◌, ◌≤◌, IsTrue, List, length, take, sym, ◌∙◌, ap, subst, arith, length-take}
use Rattle.cfb_format.specs.Medium.{part}
use Rattle.cfb_format.proofs.ByteLemmas.{length-part}
use Rattle.cfb_journal.specs.Journal.{applied, frames_of, are_whole, LieWithin}
use Rattle.cfb_journal.specs.Seen.{ShowsFrames}
use Rattle.cfb_journal.proofs.LaidFrames.{part_first, whole_lies}
use Rattle.cfb_journal.proofs.Tables.{applied-length}

module _ (count len : ℕ) (bytes file : List ℕ) (within : len ≤ length file) (whole : IsTrue (are_whole len count bytes)) where
  first-length : length (take len file) ≡ len
  first-length = omega (arith, length-take len file, within)

  lies : LieWithin (length (take len file)) (frames_of count bytes)
  lies = subst (λ n. LieWithin n (frames_of count bytes)) (sym first-length) (whole_lies len count bytes whole)

  pub framed-length : length (applied (frames_of count bytes) (take len file)) ≡ len
  framed-length = applied-length (frames_of count bytes) (take len file) lies ∙ first-length

  -- bytes that were read, with the frames laid over them
  pub framed_part : (at n : ℕ) (old new : List ℕ) → at + n ≤ len → old ≡ part file at n → ShowsFrames (frames_of count bytes) at old new → new ≡ part (applied (frames_of count bytes) (take len file)) at n
  framed_part at n old new inside read shows =
      let size : length old ≡ n = omega (arith, ap length read, length-part file at n, inside, within) in
      let shown = read ∙ sym (part_first file len at n inside within) ∙ ap (part (take len file) at) (sym size) in
      shows.shows (take len file) lies (omega (arith, first-length, size, inside)) shown
      ∙ ap (part (applied (frames_of count bytes) (take len file)) at) (shows.same_length ∙ size)
