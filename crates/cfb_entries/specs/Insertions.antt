-- What an insertion needs.
use Rattle.std.specs.Prelude.{ℕ, ◌≡◌, List, chars, string_bytes}
use Rattle.cfb_format.specs.Names.{Cases}
use Rattle.cfb_format.specs.DirectoryEntry.{Entry}
use Rattle.cfb_outline.specs.Outlines.{IsReachedStorage}
use Rattle.cfb_siblings.specs.Laws.{grown_by}
use Rattle.cfb_siblings.specs.Order.{IsPlaceFor, steps_of}
use Rattle.cfb_entries.specs.declared.insertion.Insertion.{Insertion}

-- the characters of its name
abbrev pub name_in : {A : Type 0} → Insertion A → List ℕ
name_in insertion = chars (string_bytes insertion.name)

-- it has this name, and the place for it among the children of the storage
pub record IsInsertionOf {A : Type 0} (name : List ℕ) (cases : Cases) (entries : List Entry) (parent : ℕ) (insertion : Insertion A) : Type 0 where
  pub named : name_in insertion ≡ name
  pub placed : IsPlaceFor cases entries parent name (steps_of insertion.place)

-- it stays good as the directory grows, and so does the storage
abbrev pub InsertionsStay : Type 0 → Type 0
InsertionsStay A = (name : List ℕ) (cases : Cases) (entries : List Entry) (more parent : ℕ) (insertion : Insertion A) → IsInsertionOf name cases entries parent insertion → IsInsertionOf name cases (grown_by entries more) parent insertion

abbrev pub ReachedStay : Type 0
ReachedStay = (cases : Cases) (entries : List Entry) (more k : ℕ) → IsReachedStorage cases entries k → IsReachedStorage cases (grown_by entries more) k
