-- A file that is read as recovery would leave it.
use Rattle.std.specs.Prelude.{◌≡◌, ℕ, ◌+◌, ◌≤◌, List, length, take, drop, Option, None, Some}
use Rattle.cfb_format.specs.Medium.{part}
use Rattle.cfb_journal.specs.Journal.{applied, frames_of, stamped, LieWithin}

-- what stands behind the gates, the length, the stamp and the number of frames
abbrev pub frames_behind : List ℕ → List ℕ
frames_behind journal = drop 24 (drop 18 journal)

-- the first `len` bytes of a file with the first `count` frames of its journal over them
abbrev pub looked : (journal : List ℕ) (count len : ℕ) (file : List ℕ) → List ℕ
looked journal count len file = applied (frames_of count (frames_behind journal)) (take len file)

-- a file, if it has the stamp that it has to have
abbrev pub seen_with : Option ℕ → List ℕ → Option (List ℕ)
seen_with None file = Some file
seen_with (Some stamp) file = stamped stamp file

-- these bytes are those from a place on of this file
abbrev pub IsPartAt : ℕ → List ℕ → List ℕ → Type 0
IsPartAt at bytes file = bytes ≡ part file at (length bytes)

-- bytes that were those of a file from a place on are those of the file with frames over it
pub record ShowsFrames (frames : List (ℕ × List ℕ)) (at : ℕ) (old new : List ℕ) : Type 0 where
  pub same_length : length new ≡ length old
  pub shows : (file : List ℕ) → LieWithin (length file) frames → at + length old ≤ length file → IsPartAt at old file → IsPartAt at new (applied frames file)
