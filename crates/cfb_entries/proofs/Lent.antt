-- Lists that were lent as slices, and entries as the code holds them.
use Rattle.std.proofs.Common.{◌≡◌, ℕ, ◌<◌, List, ◌++◌, length, take, subst}
use Rattle.std.specs.Prelude.{slice_index_or}
use Rattle.std.proofs.Math.Seq.{take-append_seam}
use Rattle.std.proofs.lemmas.List.{get_or-map}
use Rattle.cfb_codecs.specs.declared.direntry.DirEntry.{DirEntry}
use Rattle.cfb_codecs.specs.EntryModel.{entry_of, entries_of}
use Rattle.cfb_format.specs.DirectoryEntry.{unallocated_entry}
use Rattle.cfb_format.specs.Siblings.{entry_at}

-- what was written through the slice is what the list has then
pub written-back : {X : Type 0} (n : ℕ) (xs ys : List X) → length xs ≡ n → take n (xs ++ ys) ≡ xs
written-back n xs ys e = subst (λ k. take k (xs ++ ys) ≡ xs) e (take-append_seam xs ys)

-- an entry as the code read it
pub read-entry : {A : Type 0} (list : List (DirEntry A)) (k : ℕ) (d : DirEntry A) → k < length list → entry_at (entries_of list) k ≡ entry_of (slice_index_or list k d)
read-entry list k d lt = get_or-map entry_of list k d unallocated_entry lt
