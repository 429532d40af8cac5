-- After a call the names of each storage still rise.
use Rattle.std.proofs.Common.{◌≡◌, ℕ, List, [], ◌∷◌, Bool, true, false, refl, sym, ◌∙◌, ap, subst}
use Rattle.std.specs.Prelude.{Option, Some, None, MatchOption, option_and_then, option_map, is_some, if◌then◌else◌}
use Rattle.std.specs.Option.{option_map_or}
use Rattle.std.specs.List.{AllByRecursion}
use Rattle.std.specs.Ordering.{is_eq, is_lt, ordering_reverse}
use Rattle.std.specs.declared.cmp.Ordering.{Ordering}
use Rattle.std.specs.declared.cmp.Ordering.TheVariants.{Less, Equal, Greater}
use Rattle.cfb_format.specs.Names.{Cases, name_cmp, is_valid_name}
use Rattle.cfb_format.specs.Path.{names_of_path}
use Rattle.cfb_format.specs.Tree.{StorageInfo, StreamInfo, Objects, nothing, storage, stream, Tree, names_in, IsOrdered, Object, a_storage, a_stream, Found, is_same_name, object_named, put_in_order, without}
use Rattle.cfb_format.proofs.NameOrder.{name_cmp-total}
use Rattle.cfb_rules.specs.Refusal.{Refusal, already_exists, invalid_input}
use Rattle.cfb_rules.specs.Calls.{Call, create_storage, create_storage_all, create_stream, create_new_stream, remove_storage, remove_storage_all, remove_stream, set_storage_clsid, set_state_bits, set_created_time, set_modified_time, touch, Reply, refused}
use Rattle.cfb_rules.specs.Finding.{child_named, found_from, last_name, parent_names, object_at, found_at}
use Rattle.cfb_rules.specs.CallRefusals.{never, is_a_stream, place_refusal, creation_refusal, path_refusal, refusal_of}
use Rattle.cfb_rules.specs.CallChanges.{inside_changed, changed_at, with_fields, new_storage, new_stream, with_objects, fields_changed_at, content_changed_at, storage_added_at, stream_added_at, storages_added, stream_created_at, removed_at, touched_at, at_path, tree_after, same_storage, same_stream, with_content}
use Rattle.cfb_rules.specs.CallReplies.{reply_of}
use Rattle.cfb_rules.specs.Steps.{outcome, unsound_refusal, Step}
use Rattle.cfb_rules.proofs.DoneSteps.{no_refusal}

if_true : {A : Type 0} (x y : A) (b : Bool) → b ≡ true → (if b then x else y) ≡ x
if_true x y b e = ap (λ c. if c then x else y) e

if_false : {A : Type 0} (x y : A) (b : Bool) → b ≡ false → (if b then x else y) ≡ y
if_false x y b e = ap (λ c. if c then x else y) e

no_some : {A : Type 0} {X : Type 0} (x : A) → Some x ≡ None → X
no_some x e = let f : true ≡ false = ap is_some e in cc

none_some : {A : Type 0} {X : Type 0} (x : A) → None ≡ Some x → X
none_some x e = let f : false ≡ true = ap is_some e in cc

objects_or : Objects → Option Objects → Objects
objects_or d None = d
objects_or d (Some x) = x

same_objects : (a b : Objects) → Some a ≡ Some b → a ≡ b
unfolding objects_or
same_objects a b e = ap (objects_or a) e

module _ (cases : Cases) where
  -- the name rises to all of these
  abbrev Below : List ℕ → List (List ℕ) → Type 0
  Below name names = AllByRecursion (λ later. name_cmp cases name later ≡ Less) names

  below_all : (name other : List ℕ) (names : List (List ℕ)) → name_cmp cases name other ≡ Less → Below other names → Below name names
  below_all name other [] e h = tt
  below_all name other (next ∷ names) e h = ((name_cmp-total cases).trans name other next e h.0, below_all name other names e h.1)

  less_by_test : (o : Ordering) → is_lt o ≡ true → o ≡ Less
  less_by_test Less e = refl
  less_by_test Equal e = cc
  less_by_test Greater e = cc

  greater_by_tests : (o : Ordering) → is_lt o ≡ false → is_eq o ≡ false → o ≡ Greater
  greater_by_tests Less e f = cc
  greater_by_tests Equal e f = cc
  greater_by_tests Greater e f = refl

  head_absent : (b : Bool) (x : Found) (rest : Option Found) → (if b then Some x else rest) ≡ None → (b ≡ false) × (rest ≡ None)
  head_absent true x rest e = no_some x e
  head_absent false x rest e = (refl, e)

  -- ---- an object that is put

  names_put : (P : List ℕ → Type 0) (name : List ℕ) (before : Objects → Objects) → ((rest : Objects) → AllByRecursion P (names_in rest) → AllByRecursion P (names_in (before rest)))
      → (objects : Objects) → AllByRecursion P (names_in objects) → AllByRecursion P (names_in (put_in_order cases name before objects))
  names_put P name before add nothing h = add nothing h
  names_put P name before add (storage other info inside rest) h = go (is_lt (name_cmp cases name other)) (names_put P name before add rest h.1)
    where
      go : (b : Bool) → AllByRecursion P (names_in (put_in_order cases name before rest))
          → AllByRecursion P (names_in (if b then before (storage other info inside rest) else storage other info inside (put_in_order cases name before rest)))
      go true more = add (storage other info inside rest) h
      go false more = (h.0, more)
  names_put P name before add (stream other info rest) h = go (is_lt (name_cmp cases name other)) (names_put P name before add rest h.1)
    where
      go : (b : Bool) → AllByRecursion P (names_in (put_in_order cases name before rest))
          → AllByRecursion P (names_in (if b then before (stream other info rest) else stream other info (put_in_order cases name before rest)))
      go true more = add (stream other info rest) h
      go false more = (h.0, more)

  after_it : (name other : List ℕ) → is_lt (name_cmp cases name other) ≡ false → is_same_name cases name other ≡ false → name_cmp cases other name ≡ Less
  after_it name other e f = (name_cmp-total cases).antisymm other name ∙ ap ordering_reverse (greater_by_tests (name_cmp cases name other) e f)

  put-IsOrdered : (name : List ℕ) (before : Objects → Objects)
      → ((P : List ℕ → Type 0) (rest : Objects) → P name → AllByRecursion P (names_in rest) → AllByRecursion P (names_in (before rest)))
      → ((rest : Objects) → Below name (names_in rest) → IsOrdered cases rest → IsOrdered cases (before rest))
      → (objects : Objects) → object_named cases name objects ≡ None → IsOrdered cases objects → IsOrdered cases (put_in_order cases name before objects)
  put-IsOrdered name before add keep nothing absent o = keep nothing tt tt
  put-IsOrdered name before add keep (storage other info inside rest) absent o =
      let here = head_absent (is_same_name cases name other) (record { name = other; object = a_storage info inside }) (object_named cases name rest) absent in
      go (is_lt (name_cmp cases name other)) refl here.0 (put-IsOrdered name before add keep rest here.1 o.2)
    where
      go : (b : Bool) → is_lt (name_cmp cases name other) ≡ b → is_same_name cases name other ≡ false → IsOrdered cases (put_in_order cases name before rest)
          → IsOrdered cases (if b then before (storage other info inside rest) else storage other info inside (put_in_order cases name before rest))
      go true t apart more =
          let less = less_by_test (name_cmp cases name other) t in
          keep (storage other info inside rest) (less, below_all name other (names_in rest) less o.0) o
      go false t apart more =
          (names_put (λ later. name_cmp cases other later ≡ Less) name before (λ r h. add (λ later. name_cmp cases other later ≡ Less) r (after_it name other t apart) h) rest o.0, o.1, more)
  put-IsOrdered name before add keep (stream other info rest) absent o =
      let here = head_absent (is_same_name cases name other) (record { name = other; object = a_stream info }) (object_named cases name rest) absent in
      go (is_lt (name_cmp cases name other)) refl here.0 (put-IsOrdered name before add keep rest here.1 o.1)
    where
      go : (b : Bool) → is_lt (name_cmp cases name other) ≡ b → is_same_name cases name other ≡ false → IsOrdered cases (put_in_order cases name before rest)
          → IsOrdered cases (if b then before (stream other info rest) else stream other info (put_in_order cases name before rest))
      go true t apart more =
          let less = less_by_test (name_cmp cases name other) t in
          keep (stream other info rest) (less, below_all name other (names_in rest) less o.0) o
      go false t apart more =
          (names_put (λ later. name_cmp cases other later ≡ Less) name before (λ r h. add (λ later. name_cmp cases other later ≡ Less) r (after_it name other t apart) h) rest o.0, more)

  storage_put : (name : List ℕ) (info : StorageInfo) (inside objects : Objects) → IsOrdered cases inside → object_named cases name objects ≡ None → IsOrdered cases objects
      → IsOrdered cases (put_in_order cases name (storage name info inside) objects)
  storage_put name info inside objects i absent o =
      put-IsOrdered name (storage name info inside) (λ P rest here h. (here, h)) (λ rest below r. (below, i, r)) objects absent o

  stream_put : (name : List ℕ) (info : StreamInfo) (objects : Objects) → object_named cases name objects ≡ None → IsOrdered cases objects
      → IsOrdered cases (put_in_order cases name (stream name info) objects)
  stream_put name info objects absent o =
      put-IsOrdered name (stream name info) (λ P rest here h. (here, h)) (λ rest below r. (below, r)) objects absent o

  -- ---- an object that is removed

  names_without : (P : List ℕ → Type 0) (name : List ℕ) (objects : Objects) → AllByRecursion P (names_in objects) → AllByRecursion P (names_in (without cases name objects))
  names_without P name nothing h = tt
  names_without P name (storage other info inside rest) h = go (is_same_name cases name other) (names_without P name rest h.1)
    where
      go : (b : Bool) → AllByRecursion P (names_in (without cases name rest)) → AllByRecursion P (names_in (if b then rest else storage other info inside (without cases name rest)))
      go true more = h.1
      go false more = (h.0, more)
  names_without P name (stream other info rest) h = go (is_same_name cases name other) (names_without P name rest h.1)
    where
      go : (b : Bool) → AllByRecursion P (names_in (without cases name rest)) → AllByRecursion P (names_in (if b then rest else stream other info (without cases name rest)))
      go true more = h.1
      go false more = (h.0, more)

  without-IsOrdered : (name : List ℕ) (objects : Objects) → IsOrdered cases objects → IsOrdered cases (without cases name objects)
  without-IsOrdered name nothing o = tt
  without-IsOrdered name (storage other info inside rest) o = go (is_same_name cases name other) (without-IsOrdered name rest o.2)
    where
      go : (b : Bool) → IsOrdered cases (without cases name rest) → IsOrdered cases (if b then rest else storage other info inside (without cases name rest))
      go true more = o.2
      go false more = (names_without (λ later. name_cmp cases other later ≡ Less) name rest o.0, o.1, more)
  without-IsOrdered name (stream other info rest) o = go (is_same_name cases name other) (without-IsOrdered name rest o.1)
    where
      go : (b : Bool) → IsOrdered cases (without cases name rest) → IsOrdered cases (if b then rest else stream other info (without cases name rest))
      go true more = o.1
      go false more = (names_without (λ later. name_cmp cases other later ≡ Less) name rest o.0, more)

  -- ---- other fields

  names_fields : (name : List ℕ) (f : StorageInfo → StorageInfo) (g : StreamInfo → StreamInfo) (objects : Objects) → names_in (with_fields cases name f g objects) ≡ names_in objects
  names_fields name f g nothing = refl
  names_fields name f g (storage other info inside rest) = go (is_same_name cases name other) (names_fields name f g rest)
    where
      go : (b : Bool) → names_in (with_fields cases name f g rest) ≡ names_in rest
          → names_in (if b then storage other (f info) inside rest else storage other info inside (with_fields cases name f g rest)) ≡ other ∷ names_in rest
      go true more = refl
      go false more = ap (λ ns. other ∷ ns) more
  names_fields name f g (stream other info rest) = go (is_same_name cases name other) (names_fields name f g rest)
    where
      go : (b : Bool) → names_in (with_fields cases name f g rest) ≡ names_in rest
          → names_in (if b then stream other (g info) rest else stream other info (with_fields cases name f g rest)) ≡ other ∷ names_in rest
      go true more = refl
      go false more = ap (λ ns. other ∷ ns) more

  fields-IsOrdered : (name : List ℕ) (f : StorageInfo → StorageInfo) (g : StreamInfo → StreamInfo) (objects : Objects) → IsOrdered cases objects → IsOrdered cases (with_fields cases name f g objects)
  fields-IsOrdered name f g nothing o = tt
  fields-IsOrdered name f g (storage other info inside rest) o = go (is_same_name cases name other) (fields-IsOrdered name f g rest o.2)
    where
      go : (b : Bool) → IsOrdered cases (with_fields cases name f g rest)
          → IsOrdered cases (if b then storage other (f info) inside rest else storage other info inside (with_fields cases name f g rest))
      go true more = o
      go false more = (subst (Below other) (sym (names_fields name f g rest)) o.0, o.1, more)
  fields-IsOrdered name f g (stream other info rest) o = go (is_same_name cases name other) (fields-IsOrdered name f g rest o.1)
    where
      go : (b : Bool) → IsOrdered cases (with_fields cases name f g rest)
          → IsOrdered cases (if b then stream other (g info) rest else stream other info (with_fields cases name f g rest))
      go true more = o
      go false more = (subst (Below other) (sym (names_fields name f g rest)) o.0, more)

  -- ---- a change inside a storage

  names_inside : (name : List ℕ) (f : Objects → Objects) (objects : Objects) → names_in (inside_changed cases name f objects) ≡ names_in objects
  names_inside name f nothing = refl
  names_inside name f (storage other info inside rest) = go (is_same_name cases name other) (names_inside name f rest)
    where
      go : (b : Bool) → names_in (inside_changed cases name f rest) ≡ names_in rest
          → names_in (if b then storage other info (f inside) rest else storage other info inside (inside_changed cases name f rest)) ≡ other ∷ names_in rest
      go true more = refl
      go false more = ap (λ ns. other ∷ ns) more
  names_inside name f (stream other info rest) = go (is_same_name cases name other) (names_inside name f rest)
    where
      go : (b : Bool) → names_in (inside_changed cases name f rest) ≡ names_in rest
          → names_in (if b then stream other info rest else stream other info (inside_changed cases name f rest)) ≡ other ∷ names_in rest
      go true more = refl
      go false more = ap (λ ns. other ∷ ns) more

  -- f keeps the order of what is in the storage of that name
  abbrev KeepsInside : List ℕ → (Objects → Objects) → Objects → Type 0
  KeepsInside name f objects = (other : List ℕ) (info : StorageInfo) (inside : Objects)
      → object_named cases name objects ≡ Some (record { name = other; object = a_storage info inside }) → IsOrdered cases inside → IsOrdered cases (f inside)

  inside-IsOrdered : (name : List ℕ) (f : Objects → Objects) (objects : Objects) → KeepsInside name f objects → IsOrdered cases objects → IsOrdered cases (inside_changed cases name f objects)
  inside-IsOrdered name f nothing keeps o = tt
  inside-IsOrdered name f (storage other info inside rest) keeps o = go (is_same_name cases name other) refl (λ k. inside-IsOrdered name f rest k o.2)
    where
      go : (b : Bool) → is_same_name cases name other ≡ b → (KeepsInside name f rest → IsOrdered cases (inside_changed cases name f rest))
          → IsOrdered cases (if b then storage other info (f inside) rest else storage other info inside (inside_changed cases name f rest))
      go true t more = (o.0, keeps other info inside (if_true (Some (record { name = other; object = a_storage info inside })) (object_named cases name rest) (is_same_name cases name other) t) o.1, o.2)
      go false t more = (
        subst (Below other) (sym (names_inside name f rest)) o.0,
        o.1,
        more (λ n i x e. keeps n i x (if_false (Some (record { name = other; object = a_storage info inside })) (object_named cases name rest) (is_same_name cases name other) t ∙ e)),
      )
  inside-IsOrdered name f (stream other info rest) keeps o = go (is_same_name cases name other) refl (λ k. inside-IsOrdered name f rest k o.1)
    where
      go : (b : Bool) → is_same_name cases name other ≡ b → (KeepsInside name f rest → IsOrdered cases (inside_changed cases name f rest))
          → IsOrdered cases (if b then stream other info rest else stream other info (inside_changed cases name f rest))
      go true t more = o
      go false t more = (
        subst (Below other) (sym (names_inside name f rest)) o.0,
        more (λ n i x e. keeps n i x (if_false (Some (record { name = other; object = a_stream info })) (object_named cases name rest) (is_same_name cases name other) t ∙ e)),
      )

  -- what is in the storage at these names below an object
  abbrev inside_of : Object → List (List ℕ) → Option Objects
  inside_of (a_stream info) names = None
  inside_of (a_storage info inside) [] = Some inside
  inside_of (a_storage info inside) (name ∷ names) = option_and_then (λ found. inside_of found.object names) (object_named cases name inside)

  changed-IsOrdered : (f : Objects → Objects) (names : List (List ℕ)) (root : StorageInfo) (objects : Objects)
      → ((inside : Objects) → inside_of (a_storage root objects) names ≡ Some inside → IsOrdered cases inside → IsOrdered cases (f inside))
      → IsOrdered cases objects → IsOrdered cases (changed_at cases f names objects)
  changed-IsOrdered f [] root objects keeps o = keeps objects refl o
  changed-IsOrdered f (name ∷ names) root objects keeps o =
      inside-IsOrdered name (changed_at cases f names) objects
      (λ other info inside e i. changed-IsOrdered f names info inside (λ x at k. keeps x (ap (option_and_then (λ found. inside_of found.object names)) e ∙ at) k) i) o

  -- ---- a new object has no namesake

  absent_below : (object : Object) (name : List ℕ) (names : List (List ℕ))
      → option_and_then (λ found. found_from cases found names) (child_named cases name object) ≡ None
      → (inside : Objects) → inside_of object (parent_names (name ∷ names)) ≡ Some inside → object_named cases (last_name (name ∷ names)) inside ≡ None
  absent_below (a_stream info) name names absent inside e = none_some inside (stream_has_none names e)
    where
      stream_has_none : (more : List (List ℕ)) → inside_of (a_stream info) (parent_names (name ∷ more)) ≡ Some inside → None ≡ Some inside
      stream_has_none more h = h
  absent_below (a_storage info objects) name [] absent inside e =
      subst (λ x. object_named cases name x ≡ None) (same_objects objects inside e) (is_none (object_named cases name objects) absent)
    where
      is_none : (o : Option Found) → option_and_then (λ found. Some found) o ≡ None → o ≡ None
      is_none None h = refl
      is_none (Some x) h = no_some x h
  absent_below (a_storage info objects) name (next ∷ more) absent inside e =
      go (object_named cases name objects) absent e (λ object a at. absent_below object next more a inside at)
    where
      go : (o : Option Found) → option_and_then (λ found. found_from cases found (next ∷ more)) o ≡ None
          → option_and_then (λ found. inside_of found.object (parent_names (next ∷ more))) o ≡ Some inside
          → ((object : Object) → option_and_then (λ found. found_from cases found more) (child_named cases next object) ≡ None
          → inside_of object (parent_names (next ∷ more)) ≡ Some inside → object_named cases (last_name (next ∷ more)) inside ≡ None)
          → object_named cases (last_name (next ∷ more)) inside ≡ None
      go None a at below = none_some inside at
      go (Some found) a at below = below found.object a at

  -- ---- trees

  no_object : (o : Option Found) → option_map (λ found. found.object) o ≡ None → o ≡ None
  no_object None e = refl
  no_object (Some x) e = no_some x.object e

  module _ (tree : Tree) (ordered : IsOrdered cases tree.objects) where
    new_name : (name : List ℕ) (names : List (List ℕ)) → object_at cases tree (name ∷ names) ≡ None
        → (inside : Objects) → inside_of (a_storage tree.root tree.objects) (parent_names (name ∷ names)) ≡ Some inside → object_named cases (last_name (name ∷ names)) inside ≡ None
    new_name name names e = absent_below (a_storage tree.root tree.objects) name names (no_object (found_at cases tree (name ∷ names)) e)

    storage_added : (moment : ℕ) (name : List ℕ) (names : List (List ℕ)) → object_at cases tree (name ∷ names) ≡ None → IsOrdered cases (storage_added_at cases moment (name ∷ names) tree).objects
    storage_added moment name names e =
        changed-IsOrdered (put_in_order cases (last_name (name ∷ names)) (storage (last_name (name ∷ names)) (new_storage moment) nothing)) (parent_names (name ∷ names)) tree.root tree.objects
        (λ inside at o. storage_put (last_name (name ∷ names)) (new_storage moment) nothing inside tt (new_name name names e inside at) o) ordered

    stream_added : (name : List ℕ) (names : List (List ℕ)) → object_at cases tree (name ∷ names) ≡ None → IsOrdered cases (stream_added_at cases (name ∷ names) tree).objects
    stream_added name names e =
        changed-IsOrdered (put_in_order cases (last_name (name ∷ names)) (stream (last_name (name ∷ names)) new_stream)) (parent_names (name ∷ names)) tree.root tree.objects
        (λ inside at o. stream_put (last_name (name ∷ names)) new_stream inside (new_name name names e inside at) o) ordered

    pub fields_changed : (f : StorageInfo → StorageInfo) (g : StreamInfo → StreamInfo) (names : List (List ℕ)) → IsOrdered cases (fields_changed_at cases f g names tree).objects
    fields_changed f g [] = ordered
    fields_changed f g (name ∷ names) =
        changed-IsOrdered (with_fields cases (last_name (name ∷ names)) f g) (parent_names (name ∷ names)) tree.root tree.objects
        (λ inside at o. fields-IsOrdered (last_name (name ∷ names)) f g inside o) ordered

    removed : (names : List (List ℕ)) → IsOrdered cases (removed_at cases names tree).objects
    removed [] = tt
    removed (name ∷ names) =
        changed-IsOrdered (without cases (last_name (name ∷ names))) (parent_names (name ∷ names)) tree.root tree.objects
        (λ inside at o. without-IsOrdered (last_name (name ∷ names)) inside o) ordered

    touched : (moment : ℕ) (names : List (List ℕ)) → IsOrdered cases (touched_at cases moment names tree).objects
    touched moment [] = ordered
    touched moment (name ∷ names) = fields_changed (λ info. record info { modified = moment }) same_stream (name ∷ names)

    -- what is there is in the way
    nothing_there : (object parent : Option Object) → place_refusal never object parent ≡ None → object ≡ None
    nothing_there None parent e = refl
    nothing_there (Some object) parent e = no_some already_exists e

    new_object : (names : List (List ℕ)) (after : List (List ℕ) → Tree)
        → ((name : List ℕ) (more : List (List ℕ)) → object_at cases tree (name ∷ more) ≡ None → IsOrdered cases (after (name ∷ more)).objects)
        → creation_refusal cases tree never names ≡ None → IsOrdered cases (after names).objects
    new_object [] after keeps e = no_some already_exists e
    new_object (name ∷ names) after keeps e = go (is_valid_name (last_name (name ∷ names))) e
      where
        go : (b : Bool) → (if b then place_refusal never (object_at cases tree (name ∷ names)) (object_at cases tree (parent_names (name ∷ names))) else Some invalid_input) ≡ None
            → IsOrdered cases (after (name ∷ names)).objects
        go true h = keeps name names (nothing_there (object_at cases tree (name ∷ names)) (object_at cases tree (parent_names (name ∷ names))) h)
        go false h = no_some invalid_input h

    stream_created : (names : List (List ℕ)) → creation_refusal cases tree is_a_stream names ≡ None → IsOrdered cases (stream_created_at cases names tree).objects
    stream_created [] e = no_some already_exists e
    stream_created (name ∷ names) e = go (object_at cases tree (name ∷ names)) refl
      where
        go : (o : Option Object) → object_at cases tree (name ∷ names) ≡ o
            → IsOrdered cases (if is_some o then content_changed_at cases [] (name ∷ names) tree else stream_added_at cases (name ∷ names) tree).objects
        go None t = stream_added name names t
        go (Some x) t = fields_changed same_storage (with_content []) (name ∷ names)

    -- a path's names
    at_names : (rule : List (List ℕ) → Option Refusal) (change : List (List ℕ) → Tree → Tree) (path : List ℕ)
        → ((names : List (List ℕ)) → rule names ≡ None → IsOrdered cases (change names tree).objects)
        → path_refusal rule path ≡ None → IsOrdered cases (at_path change path tree).objects
    at_names rule change path keeps e = go (names_of_path path) e
      where
        go : (o : Option (List (List ℕ))) → option_map_or rule o (Some invalid_input) ≡ None → IsOrdered cases (option_map_or (λ names. change names tree) o tree).objects
        go None h = ordered
        go (Some names) h = keeps names h

    -- the same where no refusal matters
    at_all : (change : List (List ℕ) → Tree → Tree) (path : List ℕ) → ((names : List (List ℕ)) → IsOrdered cases (change names tree).objects) → IsOrdered cases (at_path change path tree).objects
    at_all change path keeps = go (names_of_path path)
      where
        go : (o : Option (List (List ℕ))) → IsOrdered cases (option_map_or (λ names. change names tree) o tree).objects
        go None = ordered
        go (Some names) = keeps names

  storages-IsOrdered : (moment : ℕ) (names : List (List ℕ)) (objects : Objects) → IsOrdered cases objects → IsOrdered cases (storages_added cases moment names objects)
  storages-IsOrdered moment [] objects o = o
  storages-IsOrdered moment (name ∷ names) objects o = go (object_named cases name objects) refl (λ x k. storages-IsOrdered moment names x k)
    where
      go : (found : Option Found) → object_named cases name objects ≡ found → ((x : Objects) → IsOrdered cases x → IsOrdered cases (storages_added cases moment names x))
          → IsOrdered cases (if is_some found then inside_changed cases name (storages_added cases moment names) objects
          else put_in_order cases name (storage name (new_storage moment) (storages_added cases moment names nothing)) objects)
      go (Some x) t more = inside-IsOrdered name (storages_added cases moment names) objects (λ other info inside e k. more inside k) o
      go None t more = storage_put name (new_storage moment) (storages_added cases moment names nothing) objects (more nothing tt) t o

  after-IsOrdered : (tree : Tree) → IsOrdered cases tree.objects → (call : Call) → refusal_of cases tree call ≡ None → IsOrdered cases (tree_after cases call tree).objects
  after-IsOrdered tree o (create_storage path moment) e =
      at_names tree o (creation_refusal cases tree never) (storage_added_at cases moment) path (λ names. new_object tree o names (λ ns. storage_added_at cases moment ns tree) (storage_added tree o moment)) e
  after-IsOrdered tree o (create_storage_all path moment) e =
      at_all tree o (λ names before. with_objects before (storages_added cases moment names before.objects)) path (λ names. storages-IsOrdered moment names tree.objects o)
  after-IsOrdered tree o (create_stream path) e =
      at_names tree o (creation_refusal cases tree is_a_stream) (stream_created_at cases) path (stream_created tree o) e
  after-IsOrdered tree o (create_new_stream path) e =
      at_names tree o (creation_refusal cases tree never) (stream_added_at cases) path (λ names. new_object tree o names (λ ns. stream_added_at cases ns tree) (stream_added tree o)) e
  after-IsOrdered tree o (remove_storage path) e = at_all tree o (removed_at cases) path (removed tree o)
  after-IsOrdered tree o (remove_storage_all path) e = at_all tree o (removed_at cases) path (removed tree o)
  after-IsOrdered tree o (remove_stream path) e = at_all tree o (removed_at cases) path (removed tree o)
  after-IsOrdered tree o (set_storage_clsid path clsid) e =
      at_all tree o (fields_changed_at cases (λ info. record info { clsid = clsid }) same_stream) path (fields_changed tree o (λ info. record info { clsid = clsid }) same_stream)
  after-IsOrdered tree o (set_state_bits path bits) e =
      at_all tree o (fields_changed_at cases (λ info. record info { state_bits = bits }) (λ info. record info { state_bits = bits })) path
      (fields_changed tree o (λ info. record info { state_bits = bits }) (λ info. record info { state_bits = bits }))
  after-IsOrdered tree o (set_created_time path moment) e =
      at_all tree o (fields_changed_at cases (λ info. record info { created = moment }) same_stream) path (fields_changed tree o (λ info. record info { created = moment }) same_stream)
  after-IsOrdered tree o (set_modified_time path moment) e =
      at_all tree o (fields_changed_at cases (λ info. record info { modified = moment }) same_stream) path (fields_changed tree o (λ info. record info { modified = moment }) same_stream)
  after-IsOrdered tree o (touch path moment) e = at_all tree o (touched_at cases moment) path (touched tree o moment)
  after-IsOrdered tree o call e = o

pub Step-IsOrdered : (cases : Cases) (sound : Bool) (n : ℕ) (tree tree' : Tree) (call : Call) (reply : Reply) → IsOrdered cases tree.objects → Step cases sound n tree call reply tree' → IsOrdered cases tree'.objects
Step-IsOrdered cases sound n tree tree' call reply o = go (outcome cases sound tree call) refl
  where
    go : (x : Option Refusal) → outcome cases sound tree call ≡ x
        → MatchOption x ((reply ≡ reply_of cases n tree call) × (tree' ≡ tree_after cases call tree)) (λ r. (reply ≡ refused r) × (tree' ≡ tree)) → IsOrdered cases tree'.objects
    go None t h = subst (λ u. IsOrdered cases u.objects) (sym h.1) (after-IsOrdered cases tree o call (no_refusal (refusal_of cases tree call) (unsound_refusal sound call) t))
    go (Some r) t h = subst (λ u. IsOrdered cases u.objects) (sym h.1) o
