-- The names of each storage rise in the tree as they do in the directory.
use Rattle.std.proofs.Common.{◌≡◌, ℕ, List}
use Rattle.std.specs.List.{AllByRecursion}
use Rattle.std.specs.declared.cmp.Ordering.TheVariants.{Less}
use Rattle.cfb_format.specs.Names.{Cases, name_cmp}
use Rattle.cfb_format.specs.DirectoryEntry.{Entry}
use Rattle.cfb_format.specs.Siblings.{entry_at, RisesByName}
use Rattle.cfb_format.specs.Reading.{Outline, no_more, storage_at, stream_at, siblings, HasContents}
use Rattle.cfb_format.specs.Meaning.{objects_from}
use Rattle.cfb_format.specs.Tree.{names_in, IsOrdered}
use Rattle.cfb_places.specs.Laws.{TreeIsOrdered}

module _ (cases : Cases) (es : List Entry) (c : Entry → List ℕ) where
  -- what holds of the siblings' names holds of the objects' names
  of-names : (P : List ℕ → Type 0) (o : Outline) → AllByRecursion (λ k. P (entry_at es k).name) (siblings o) → AllByRecursion P (names_in (objects_from es c o))
  unfolding objects_from
  of-names P no_more h = tt
  of-names P (storage_at i inside rest) h = (h.0, of-names P rest h.1)
  of-names P (stream_at i rest) h = (h.0, of-names P rest h.1)

  ordered : (o : Outline) → RisesByName cases es (siblings o) → HasContents cases es o → IsOrdered cases (objects_from es c o)
  unfolding objects_from
  ordered no_more rises h = tt
  ordered (storage_at i inside rest) rises h =
      (of-names (λ name. name_cmp cases (entry_at es i).name name ≡ Less) rest rises.0, ordered inside h.1.rises h.2, ordered rest rises.1 h.3)
  ordered (stream_at i rest) rises h = (of-names (λ name. name_cmp cases (entry_at es i).name name ≡ Less) rest rises.0, ordered rest rises.1 h.1)

pub tree-is-ordered : TreeIsOrdered
tree-is-ordered cases es c o is = ordered cases es c o is.children.rises is.contents
