-- Which outlines opening takes, and what is below one storage.
use Rattle.std.specs.Prelude.{ℕ, ◌≡◌, ◌≢◌, List, ◌∷◌, Contains, true}
use Rattle.std.specs.List.{list_all}
use Rattle.cfb_format.specs.declared.objtype.ObjType.TheVariants.{Stream}
use Rattle.cfb_format.specs.declared.validate.Validation.{Validation}
use Rattle.cfb_format.specs.Header.{IfStrict}
use Rattle.cfb_format.specs.Names.{Cases}
use Rattle.cfb_format.specs.DirectoryEntry.{Entry}
use Rattle.cfb_format.specs.Siblings.{entry_at, is_red_apart, Below}
use Rattle.cfb_format.specs.Reading.{Outline, HasContents, IsOutline, siblings, numbers}

-- opening in this mode takes the entries with this outline: strict opening wants no red entry under a red one
pub record AcceptsOutline (validation : Validation) (cases : Cases) (entries : List Entry) (o : Outline) : Type 0 where
  pub outline : IsOutline cases entries o
  pub strict : IfStrict validation (list_all (is_red_apart entries) (numbers o) ≡ true)

-- k is the root, or a storage that is reached from it
pub record IsReachedStorage (cases : Cases) (entries : List Entry) (k : ℕ) : Type 0 where
  pub outline : Outline
  pub is : IsOutline cases entries outline
  pub reached : Contains (0 ∷ numbers outline) k
  pub kind : (entry_at entries k).obj_type ≢ Stream

-- the outline is all that is below the storage k, level by level
pub record HasInside (cases : Cases) (entries : List Entry) (k : ℕ) (o : Outline) : Type 0 where
  pub children : Below cases entries (entry_at entries k).child (siblings o)
  pub contents : HasContents cases entries o
