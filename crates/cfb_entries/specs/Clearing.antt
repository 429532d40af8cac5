-- All that is in one storage taken from the entries at once (MS-CFB 2.6).
use Rattle.std.specs.Prelude.{ℕ, ◌≡◌, ◌≢◌, List, length, Contains}
use Rattle.cfb_format.specs.Bytes.{no_stream}
use Rattle.cfb_format.specs.DirectoryEntry.{Entry, unallocated_entry}
use Rattle.cfb_format.specs.Siblings.{entry_at}
use Rattle.cfb_siblings.specs.Children.{ButChild}

-- the storage `top` has no child any more, the slots of all that was in it are free, and each other entry is as before
pub record HasCleared (old new : List Entry) (top : ℕ) (list : List ℕ) : Type 0 where
  pub longer : length new ≡ length old
  pub top_kept : ButChild (entry_at old top) (entry_at new top)
  pub none : (entry_at new top).child ≡ no_stream
  pub free : (k : ℕ) → Contains list k → entry_at new k ≡ unallocated_entry
  pub others_kept : (k : ℕ) → k ≢ top → (Contains list k → ⊥) → entry_at new k ≡ entry_at old k
