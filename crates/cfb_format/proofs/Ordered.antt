-- The names of each storage of a meant tree rise.
use Rattle.std.proofs.Common.{◌≡◌, ℕ, List, sym, subst}
use Rattle.std.specs.List.{AllByRecursion}
use Rattle.std.specs.declared.cmp.Ordering.TheVariants.{Less}
use Rattle.cfb_format.specs.Names.{Cases, name_cmp}
use Rattle.cfb_format.specs.Siblings.{entry_at, RisesByName}
use Rattle.cfb_format.specs.Reading.{Outline, no_more, storage_at, stream_at, siblings, HasContents}
use Rattle.cfb_format.specs.Content.{readable}
use Rattle.cfb_format.specs.Tree.{Tree, names_in, IsOrdered}
use Rattle.cfb_format.specs.Meaning.{Means, objects_from}
use Rattle.cfb_format.specs.DirectoryEntry.{Entry}

module _ (cases : Cases) (entries : List Entry) (content : Entry → List ℕ) where
  -- what holds of the siblings' names holds of the objects' names
  later : (P : List ℕ → Type 0) (o : Outline) → AllByRecursion (λ k. P (entry_at entries k).name) (siblings o) → AllByRecursion P (names_in (objects_from entries content o))
  unfolding objects_from
  later P no_more h = tt
  later P (storage_at i inside rest) h = (h.0, later P rest h.1)
  later P (stream_at i rest) h = (h.0, later P rest h.1)

  objects_ordered : (o : Outline) → RisesByName cases entries (siblings o) → HasContents cases entries o → IsOrdered cases (objects_from entries content o)
  unfolding objects_from
  objects_ordered no_more rises has = tt
  objects_ordered (storage_at i inside rest) rises has = (
    later (λ name. name_cmp cases (entry_at entries i).name name ≡ Less) rest rises.0,
    objects_ordered inside has.1.rises has.2,
    objects_ordered rest rises.1 has.3,
  )
  objects_ordered (stream_at i rest) rises has =
      (later (λ name. name_cmp cases (entry_at entries i).name name ≡ Less) rest rises.0, objects_ordered rest rises.1 has.1)

pub Means-IsOrdered : (cases : Cases) (bytes : List ℕ) (tree : Tree) → Means cases bytes tree → IsOrdered cases tree.objects
Means-IsOrdered cases bytes tree m =
    subst (λ (t : Tree). IsOrdered cases t.objects) (sym m.tree_is)
    (objects_ordered cases m.reading.entries (readable bytes m.reading) m.reading.outline m.reads.outline.children.rises m.reads.outline.contents)
