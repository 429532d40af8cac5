-- The names of a tree that bytes mean have no `/`, and so each is plain or is lost in paths.
use Rattle.std.proofs.Common.{◌≡◌, ℕ, ◌<◌, ◌≤◌, Bool, true, false, List, [], ◌∷◌, ◌++◌, length, refl, sym, ap, subst, inl, inr, ⊎_elim}
use Rattle.std.specs.Prelude.{Option, Some, None, if◌then◌else◌, ◌==◌, ◌⊎◌, ⊤, slice_index_or}
use Rattle.std.specs.Option.{option_map_or}
use Rattle.std.specs.List.{list_all, list_any, All, AllByRecursion, AllZip}
use Rattle.std.proofs.lemmas.Bool.{cases_lt}
use Rattle.std.proofs.lemmas.List.{get_or_past}
use Rattle.std.proofs.lemmas.List.Elements.{All-nil, All-cons, All-append}
use Rattle.std.proofs.lemmas.Option.{same_Some}
use Rattle.cfb_format.specs.declared.version.Version.{Version}
use Rattle.cfb_format.specs.declared.objtype.ObjType.TheVariants.{Storage, Stream}
use Rattle.cfb_format.specs.Content.{readable}
use Rattle.cfb_format.specs.DirectoryEntry.{Entry, IsEntry, stored_name, slots, unallocated_entry}
use Rattle.cfb_format.specs.Meaning.{Means, objects_from}
use Rattle.cfb_format.specs.Names.{Cases}
use Rattle.cfb_format.specs.Path.{slash, path_of_names, is_plain_name, child_path}
use Rattle.cfb_format.specs.Reading.{Outline, no_more, storage_at, stream_at, HasContents}
use Rattle.cfb_format.specs.Siblings.{entry_at}
use Rattle.cfb_format.specs.Tree.{Objects, nothing, storage, stream, Tree, Object, Found, a_storage, a_stream, is_same_name, object_named}
use Rattle.cfb_format.proofs.Ordered.{Means-IsOrdered}
use Rattle.cfb_rules.specs.Refusal.{not_found}
use Rattle.cfb_rules.specs.Calls.{EntryInfo, entries, refused}
use Rattle.cfb_rules.specs.CallReplies.{storage_entry, stream_entry, root_info, listed, listed_object}
use Rattle.cfb_rules.specs.Finding.{child_named, root_of, found_at, parent_names}
use Rattle.cfb_listing.specs.PathLaws.{WalkedAreFound, ListedAreFound}
use Rattle.cfb_listing.specs.Reached.{Reached, reached, reached_object, reached_from}
use Rattle.cfb_listing.proofs.FoundNames.{found-holds}
use Rattle.cfb_listing.proofs.PathNames.{path-plain}
use Rattle.cfb_listing.proofs.PlainPaths.{both, IsFree, allowed-free, plain-free, free-plain, free-names}
use Rattle.cfb_listing.proofs.ReachedFound.{same-entries, plain-walked, plain-listed}
use Rattle.cfb_format.proofs.Slots.{stored_free}

-- ---- of the entries

abbrev FreeIfOfTree : Entry → Type 0
FreeIfOfTree e = (e.obj_type ≡ Storage) ⊎ (e.obj_type ≡ Stream) → IsFree e.name

slot-free : (v : Version) (slot : List ℕ) (e : Entry) → IsEntry v slot e → FreeIfOfTree e
slot-free v slot e entry kind = elim kind [
  | inl is ↦ let h = stored_free Storage e.obj_type e.name (stored_name slot) is entry.name entry.name_allowed in subst IsFree (sym h.0) (allowed-free (stored_name slot) h.1)
  | inr is ↦ let h = stored_free Stream e.obj_type e.name (stored_name slot) is entry.name entry.name_allowed in subst IsFree (sym h.0) (allowed-free (stored_name slot) h.1)
]

slots-free : (v : Version) (from : List (List ℕ)) (es : List Entry) → AllZip (IsEntry v) from es → All FreeIfOfTree es
slots-free v [] [] zip = All-nil FreeIfOfTree
slots-free v [] (e ∷ es) zip = absurd zip
slots-free v (slot ∷ from) [] zip = absurd zip
slots-free v (slot ∷ from) (e ∷ es) zip = All-cons FreeIfOfTree e es (slot-free v slot e zip.0) (slots-free v from es zip.1)

-- past the end stands an entry with the empty name
entry-free : (es : List Entry) (i : ℕ) → All FreeIfOfTree es → FreeIfOfTree (entry_at es i)
entry-free es i all kind = ⊎_elim
    (λ (within : i < length es). all i unallocated_entry within kind)
    (λ (past : length es ≤ i). ap (λ (e : Entry). list_any (λ c. c == slash) e.name) (get_or_past es i unallocated_entry past))
    (cases_lt i (length es))

-- ---- of the tree

abbrev FreeIn : Objects → Type 0
FreeIn nothing = ⊤
FreeIn (storage name info inside rest) = IsFree name × FreeIn inside × FreeIn rest
FreeIn (stream name info rest) = IsFree name × FreeIn rest

abbrev FreeInside : Object → Type 0
FreeInside (a_storage info inside) = FreeIn inside
FreeInside (a_stream info) = ⊤

abbrev FreeFound : Found → Type 0
FreeFound x = IsFree x.name × FreeInside x.object

module _ (cases : Cases) (es : List Entry) (content : Entry → List ℕ) (all : All FreeIfOfTree es) where
  outline-free : (o : Outline) → HasContents cases es o → FreeIn (objects_from es content o)
  unfolding objects_from
  outline-free no_more has = tt
  outline-free (storage_at i inside rest) has = (entry-free es i all (inl has.0), outline-free inside has.2, outline-free rest has.3)
  outline-free (stream_at i rest) has = (entry-free es i all (inr has.0), outline-free rest has.1)

meant-free : (cases : Cases) (bytes : List ℕ) (tree : Tree) → Means cases bytes tree → FreeIn tree.objects
meant-free cases bytes tree m =
    let r = m.reading in
    subst (λ (t : Tree). FreeIn t.objects) (sym m.tree_is)
    (outline-free cases r.entries (readable bytes r) (slots-free r.header.version (slots r.header.version bytes r.directory) r.entries m.reads.directory.slots)
    r.outline m.reads.outline.contents)

module _ (cases : Cases) where
  named-free : (asked : List ℕ) (objects : Objects) (x : Found) → FreeIn objects → object_named cases asked objects ≡ Some x → FreeFound x
  named-free asked nothing x free e = cc
  named-free asked (storage name info inside rest) x free e = go (is_same_name cases asked name) e (named-free asked rest x free.2)
    where
      go : (b : Bool) → (if b then Some (record { name = name; object = a_storage info inside }) else object_named cases asked rest) ≡ Some x
          → (object_named cases asked rest ≡ Some x → FreeFound x) → FreeFound x
      go true e next = subst FreeFound (same_Some (record { name = name; object = a_storage info inside }) x e) (free.0, free.1)
      go false e next = next e
  named-free asked (stream name info rest) x free e = go (is_same_name cases asked name) e (named-free asked rest x free.1)
    where
      go : (b : Bool) → (if b then Some (record { name = name; object = a_stream info }) else object_named cases asked rest) ≡ Some x
          → (object_named cases asked rest ≡ Some x → FreeFound x) → FreeFound x
      go true e next = subst FreeFound (same_Some (record { name = name; object = a_stream info }) x e) (free.0, tt)
      go false e next = next e

  child-free : (x y : Found) (name : List ℕ) → FreeFound x → child_named cases name x.object ≡ Some y → FreeFound y
  child-free x y name free e = go x.object free.1 e
    where
      go : (object : Object) → FreeInside object → child_named cases name object ≡ Some y → FreeFound y
      go (a_storage info inside) free e = named-free name inside y free e
      go (a_stream info) free e = cc

  found-free : (tree : Tree) (names : List (List ℕ)) (x : Found) → FreeIn tree.objects → found_at cases tree names ≡ Some x → FreeFound x
  found-free tree names x free e = found-holds cases FreeFound child-free names (root_of tree) x (refl, free) e

-- ---- of what a walk reaches

abbrev FreeWay : Reached → Type 0
FreeWay r = AllByRecursion IsFree r.names

one-more : (names : List (List ℕ)) (name : List ℕ) → AllByRecursion IsFree names → IsFree name → AllByRecursion IsFree (names ++ name ∷ [])
one-more [] name before here = (here, tt)
one-more (first ∷ names) name before here = (before.0, one-more names name before.1 here)

inside-free : (names : List (List ℕ)) (path : List ℕ) (objects : Objects) → AllByRecursion IsFree names → FreeIn objects → All FreeWay (reached names path objects)
inside-free names path nothing before free = All-nil FreeWay
inside-free names path (storage name info inside rest) before free =
    let below = names ++ name ∷ [] in
    let here = one-more names name before free.0 in
    let first : Reached = record { names = below; told = storage_entry Storage 0 (child_path path name) name info } in
    All-cons FreeWay first (reached below (child_path path name) inside ++ reached names path rest) here
    (All-append FreeWay (reached below (child_path path name) inside) (reached names path rest)
    (inside-free below (child_path path name) inside here free.1) (inside-free names path rest before free.2))
inside-free names path (stream name info rest) before free =
    let first : Reached = record { names = names ++ name ∷ []; told = stream_entry (child_path path name) name info } in
    All-cons FreeWay first (reached names path rest) (one-more names name before free.0) (inside-free names path rest before free.1)

object-free : (parents : List (List ℕ)) (path name : List ℕ) (object : Object) → AllByRecursion IsFree parents → IsFree name → FreeInside object
    → All FreeWay (reached_object parents path name object)
object-free parents path name (a_storage info inside) before here free =
    let first : Reached = record { names = parents ++ name ∷ []; told = storage_entry Storage 0 path name info } in
    All-cons FreeWay first (reached (parents ++ name ∷ []) path inside) (one-more parents name before here)
    (inside-free (parents ++ name ∷ []) path inside (one-more parents name before here) free)
object-free parents path name (a_stream info) before here free =
    let first : Reached = record { names = parents ++ name ∷ []; told = stream_entry path name info } in
    All-cons FreeWay first [] (one-more parents name before here) (All-nil FreeWay)

-- the asked names have no `/` either
parents-free : (name : List ℕ) (names : List (List ℕ)) → list_all is_plain_name (name ∷ names) ≡ true → AllByRecursion IsFree (parent_names (name ∷ names))
parents-free name [] plain = tt
parents-free name (next ∷ names) plain =
    let each = both (is_plain_name name) (list_all is_plain_name (next ∷ names)) plain in
    (plain-free name each.0, parents-free next names each.1)

module _ (cases : Cases) (root_len : ℕ) (tree : Tree) (free : FreeIn tree.objects) where
  walk-free : (names : List (List ℕ)) → list_all is_plain_name names ≡ true → All FreeWay (reached_from cases root_len tree names)
  walk-free [] plain =
      All-cons FreeWay (record { names = []; told = root_info root_len tree }) (reached [] (path_of_names []) tree.objects) tt
      (inside-free [] (path_of_names []) tree.objects tt free)
  walk-free (name ∷ names) plain = go (found_at cases tree (name ∷ names)) refl
    where
      go : (o : Option Found) → found_at cases tree (name ∷ names) ≡ o
          → All FreeWay (option_map_or (λ (x : Found). reached_object (parent_names (name ∷ names)) (child_path (path_of_names (parent_names (name ∷ names))) x.name) x.name x.object) o [])
      go None e = All-nil FreeWay
      go (Some x) e =
          let h = found-free cases tree (name ∷ names) x free e in
          object-free (parent_names (name ∷ names)) (child_path (path_of_names (parent_names (name ∷ names))) x.name) x.name x.object (parents-free name names plain) h.0 h.1

pub walked-found : WalkedAreFound
walked-found cases bytes sound root_len tree path names means at =
    let free = walk-free cases root_len tree (meant-free cases bytes tree means) names (path-plain path names at) in
    let found = plain-walked cases sound root_len tree names (Means-IsOrdered cases bytes tree means) in
    λ k d within kept. found k d within (free-names (slice_index_or (reached_from cases root_len tree names) k d).names (free k d within) kept)

-- ---- of what is listed

listed-free : (path : List ℕ) (objects : Objects) → FreeIn objects → All (λ (e : EntryInfo). IsFree e.name) (listed path objects)
listed-free path nothing free = All-nil (λ (e : EntryInfo). IsFree e.name)
listed-free path (storage name info inside rest) free =
    All-cons (λ (e : EntryInfo). IsFree e.name) (storage_entry Storage 0 (child_path path name) name info) (listed path rest) free.0 (listed-free path rest free.2)
listed-free path (stream name info rest) free =
    All-cons (λ (e : EntryInfo). IsFree e.name) (stream_entry (child_path path name) name info) (listed path rest) free.0 (listed-free path rest free.1)

children-free : (path : List ℕ) (object : Object) → FreeInside object → All (λ (e : EntryInfo). IsFree e.name) (listed_object path object)
children-free path (a_storage info inside) free = listed-free path inside free
children-free path (a_stream info) free = All-nil (λ (e : EntryInfo). IsFree e.name)

read-free : (cases : Cases) (tree : Tree) (names : List (List ℕ)) (list : List EntryInfo) (o : Option Found) → FreeIn tree.objects → found_at cases tree names ≡ o
    → option_map_or (λ (x : Found). entries (listed_object (path_of_names names) x.object)) o (refused not_found) ≡ entries list
    → All (λ (e : EntryInfo). IsFree e.name) list
read-free cases tree names list None free at e = cc
read-free cases tree names list (Some x) free at e =
    subst (All (λ (t : EntryInfo). IsFree t.name)) (same-entries (listed_object (path_of_names names) x.object) list e)
    (children-free (path_of_names names) x.object (found-free cases tree names x free at).1)

pub listed-found : ListedAreFound
listed-found cases bytes sound root_len tree path names list means at e =
    let free = read-free cases tree names list (found_at cases tree names) (meant-free cases bytes tree means) refl e in
    let found = plain-listed cases sound root_len tree path names list (Means-IsOrdered cases bytes tree means) at e in
    λ k d within kept. found k d within (free-plain (slice_index_or list k d).name (free k d within) kept)
