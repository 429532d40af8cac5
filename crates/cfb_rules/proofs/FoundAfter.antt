-- What is found at the names of an object that was set, emptied or removed.
use Rattle.std.proofs.Common.{◌≡◌, ℕ, List, [], ◌∷◌, Bool, true, false, refl, sym, ◌∙◌, ap, inl, inr, ◌⊎◌}
use Rattle.std.specs.Prelude.{⊤, Option, Some, None, is_some, option_and_then, option_map, if◌then◌else◌}
use Rattle.cfb_format.specs.Names.{Cases, is_valid_name}
use Rattle.cfb_format.specs.Tree.{StorageInfo, StreamInfo, Objects, nothing, storage, stream, Tree, IsOrdered, Object, a_storage, a_stream, Found, is_same_name, object_named, without}
use Rattle.cfb_format.proofs.TreeMap.{object_named-without}
use Rattle.cfb_rules.specs.Refusal.{already_exists, invalid_input}
use Rattle.cfb_rules.specs.Calls.{create_stream, remove_storage, remove_storage_all, remove_stream, set_storage_clsid, set_state_bits, set_created_time, set_modified_time, touch}
use Rattle.cfb_rules.specs.CallChanges.{with_fields, fields_changed_at, same_storage, same_stream, with_content, stream_added_at, stream_created_at, removed_at, touched_at}
use Rattle.cfb_rules.specs.CallRefusals.{creation_refusal, never, always, is_a_storage, is_a_stream, is_empty_storage, place_refusal, object_refusal, inner_refusal}
use Rattle.cfb_rules.specs.Finding.{child_named, found_from, root_of, found_at, last_name, parent_names, object_at}
use Rattle.cfb_rules.specs.Laws.{StorageTurns, StreamTurns, Appears, Vanishes, EmptiedStreamIsFound, ClsidIsSet, StateBitsAreSet, CreatedTimeIsSet, ModifiedTimeIsSet, TouchedTimeIsSet, RootIsNotTouched, RemovedStorageIsGone, RemovedStreamIsGone, RemovedAllIsGone, RootIsEmptied}
use Rattle.cfb_rules.proofs.CreatedFound.{object_of, child_of, inner_object, inner, found_changed, found_last, same_itself, stream_appears, appears_in}
use Rattle.cfb_rules.proofs.DoneSteps.{done_rule, done_change, allowed_object, allowed_name}

-- one object with other fields
abbrev pub object_with : (StorageInfo → StorageInfo) → (StreamInfo → StreamInfo) → Object → Object
object_with f g (a_storage info inside) = a_storage (f info) inside
object_with f g (a_stream info) = a_stream (g info)

-- ---- fields that were set

module _ (cases : Cases) (f : StorageInfo → StorageInfo) (g : StreamInfo → StreamInfo) where
  abbrev with_these : Found → Found
  with_these x = record { name = x.name; object = object_with f g x.object }

  named_fields : (name : List ℕ) (objects : Objects) → object_named cases name (with_fields cases name f g objects) ≡ option_map with_these (object_named cases name objects)
  named_fields name nothing = refl
  named_fields name (storage other info inside rest) = go (is_same_name cases name other) refl (named_fields name rest)
    where
      go : (b : Bool) → is_same_name cases name other ≡ b
          → object_named cases name (with_fields cases name f g rest) ≡ option_map with_these (object_named cases name rest)
          → object_named cases name (if b then storage other (f info) inside rest else storage other info inside (with_fields cases name f g rest))
          ≡ option_map with_these (if b then Some (record { name = other; object = a_storage info inside }) else object_named cases name rest)
      go true e next = ap (λ (b : Bool). if b then Some (record { name = other; object = a_storage (f info) inside }) else object_named cases name rest) e
      go false e next = ap (λ (b : Bool). if b then Some (record { name = other; object = a_storage info inside }) else object_named cases name (with_fields cases name f g rest)) e
          ∙ next
  named_fields name (stream other info rest) = go (is_same_name cases name other) refl (named_fields name rest)
    where
      go : (b : Bool) → is_same_name cases name other ≡ b
          → object_named cases name (with_fields cases name f g rest) ≡ option_map with_these (object_named cases name rest)
          → object_named cases name (if b then stream other (g info) rest else stream other info (with_fields cases name f g rest))
          ≡ option_map with_these (if b then Some (record { name = other; object = a_stream info }) else object_named cases name rest)
      go true e next = ap (λ (b : Bool). if b then Some (record { name = other; object = a_stream (g info) }) else object_named cases name rest) e
      go false e next = ap (λ (b : Bool). if b then Some (record { name = other; object = a_stream info }) else object_named cases name (with_fields cases name f g rest)) e
          ∙ next

  child_fields : (name : List ℕ) (object : Object) → child_named cases name (inner_object (with_fields cases name f g) object) ≡ option_map with_these (child_named cases name object)
  child_fields name (a_storage info inside) = named_fields name inside
  child_fields name (a_stream info) = refl

  in_found : (name : List ℕ) (o : Option Found) → child_of cases name (option_map (inner (with_fields cases name f g)) o) ≡ option_map with_these (child_of cases name o)
  in_found name None = refl
  in_found name (Some x) = child_fields name x.object

  objects_with : (o : Option Found) → object_of (option_map with_these o) ≡ option_map (object_with f g) (object_of o)
  objects_with None = refl
  objects_with (Some x) = refl

  pub fields_found : (names : List (List ℕ)) (tree : Tree) → object_at cases (fields_changed_at cases f g names tree) names ≡ option_map (object_with f g) (object_at cases tree names)
  fields_found [] tree = refl
  fields_found (name ∷ names) tree =
      let last = last_name (name ∷ names) in
      let parents = parent_names (name ∷ names) in
      let after = found_last cases (root_of (fields_changed_at cases f g (name ∷ names) tree)) name names in
      let within = found_changed cases (with_fields cases last f g) parents (root_of tree).name tree.root tree.objects in
      let before = found_last cases (root_of tree) name names in
      ap object_of (after ∙ ap (child_of cases last) within ∙ in_found last (found_at cases tree parents) ∙ ap (option_map with_these) (sym before))
      ∙ objects_with (found_at cases tree (name ∷ names))

  -- ---- an object that was there, by its kind

  module _ (names : List (List ℕ)) (tree tree' : Tree) (after : tree' ≡ fields_changed_at cases f g names tree) where
    turned : (object : Object) → object_at cases tree names ≡ Some object → object_at cases tree' names ≡ Some (object_with f g object)
    turned object there = ap (λ (t : Tree). object_at cases t names) after ∙ fields_found names tree ∙ ap (option_map (object_with f g)) there

    storage_turned : (object : Object) → object_at cases tree names ≡ Some object → is_a_storage object ≡ true → StorageTurns cases f names tree tree'
    storage_turned (a_storage info inside) there right = (info, inside, there, turned (a_storage info inside) there)
    storage_turned (a_stream info) there right = cc

    stream_turned : (object : Object) → object_at cases tree names ≡ Some object → is_a_stream object ≡ true → StreamTurns cases g names tree tree'
    stream_turned (a_storage info inside) there right = cc
    stream_turned (a_stream info) there right = (info, there, turned (a_stream info) there)

    object_turned : (object : Object) → object_at cases tree names ≡ Some object → StorageTurns cases f names tree tree' ⊎ StreamTurns cases g names tree tree'
    object_turned (a_storage info inside) there = inl (info, inside, there, turned (a_storage info inside) there)
    object_turned (a_stream info) there = inr (info, there, turned (a_stream info) there)

    pub storage_set : object_refusal is_a_storage (object_at cases tree names) ≡ None → StorageTurns cases f names tree tree'
    storage_set rule = let o = allowed_object is_a_storage (object_at cases tree names) rule in storage_turned o.0 o.1 o.2

    pub object_set : object_refusal always (object_at cases tree names) ≡ None → StorageTurns cases f names tree tree' ⊎ StreamTurns cases g names tree tree'
    object_set rule = let o = allowed_object always (object_at cases tree names) rule in object_turned o.0 o.1

pub clsid_set : ClsidIsSet
clsid_set cases clsid names tree tree' d =
    storage_set cases (λ info. record info { clsid = clsid }) same_stream names tree tree'
    (done_change cases (λ path. set_storage_clsid path clsid) names tree tree' (fields_changed_at cases (λ info. record info { clsid = clsid }) same_stream) (λ path. refl) d)
    (done_rule cases (λ path. set_storage_clsid path clsid) names tree tree' (λ ns. object_refusal is_a_storage (object_at cases tree ns)) (λ path. refl) d)

pub state_bits_set : StateBitsAreSet
state_bits_set cases bits names tree tree' d =
    object_set cases (λ info. record info { state_bits = bits }) (λ info. record info { state_bits = bits }) names tree tree'
    (done_change cases (λ path. set_state_bits path bits) names tree tree'
    (fields_changed_at cases (λ info. record info { state_bits = bits }) (λ info. record info { state_bits = bits })) (λ path. refl) d)
    (done_rule cases (λ path. set_state_bits path bits) names tree tree' (λ ns. object_refusal always (object_at cases tree ns)) (λ path. refl) d)

pub created_time_set : CreatedTimeIsSet
created_time_set cases moment names tree tree' d =
    object_set cases (λ info. record info { created = moment }) same_stream names tree tree'
    (done_change cases (λ path. set_created_time path moment) names tree tree' (fields_changed_at cases (λ info. record info { created = moment }) same_stream) (λ path. refl) d)
    (done_rule cases (λ path. set_created_time path moment) names tree tree' (λ ns. object_refusal always (object_at cases tree ns)) (λ path. refl) d)

pub modified_time_set : ModifiedTimeIsSet
modified_time_set cases moment names tree tree' d =
    object_set cases (λ info. record info { modified = moment }) same_stream names tree tree'
    (done_change cases (λ path. set_modified_time path moment) names tree tree' (fields_changed_at cases (λ info. record info { modified = moment }) same_stream) (λ path. refl) d)
    (done_rule cases (λ path. set_modified_time path moment) names tree tree' (λ ns. object_refusal always (object_at cases tree ns)) (λ path. refl) d)

pub touched_time_set : TouchedTimeIsSet
touched_time_set cases moment name names tree tree' d =
    object_set cases (λ info. record info { modified = moment }) same_stream (name ∷ names) tree tree'
    (done_change cases (λ path. touch path moment) (name ∷ names) tree tree' (touched_at cases moment) (λ path. refl) d)
    (done_rule cases (λ path. touch path moment) (name ∷ names) tree tree' (λ ns. object_refusal always (object_at cases tree ns)) (λ path. refl) d)

pub root_untouched : RootIsNotTouched
root_untouched cases moment tree tree' d = done_change cases (λ path. touch path moment) [] tree tree' (touched_at cases moment) (λ path. refl) d

-- ---- a stream that was created where one may have been

module _ (cases : Cases) (tree : Tree) (name : List ℕ) (more : List (List ℕ)) where
  abbrev names : List (List ℕ)
  names = name ∷ more

  -- what stands there then, by what stood there
  abbrev IsEmptied : Tree → Type 0
  IsEmptied tree' = Appears cases (a_stream (record { state_bits = 0; len = 0; content = [] })) names tree tree'
      ⊎ StreamTurns cases (λ info. record { state_bits = info.state_bits; len = 0; content = [] }) names tree tree'

  -- where nothing is, nothing may stay
  none_stays : (here parent : Option Object) → here ≡ None → place_refusal is_a_stream here parent ≡ place_refusal never here parent
  none_stays None parent e = refl
  none_stays (Some object) parent e = cc

  as_new : (here : Option Object) (b : Bool) → here ≡ None
      → (if b then place_refusal is_a_stream here (object_at cases tree (parent_names names)) else Some invalid_input)
      ≡ (if b then place_refusal never here (object_at cases tree (parent_names names)) else Some invalid_input)
  as_new here true e = none_stays here (object_at cases tree (parent_names names)) e
  as_new here false e = refl

  -- what is there may stay only if it is a stream
  may_stay : (object : Object) (parent : Option Object) → place_refusal is_a_stream (Some object) parent ≡ None → is_a_stream object ≡ true
  may_stay (a_storage info inside) parent e = cc
  may_stay (a_stream info) parent e = refl

  pub created_there : (tree' : Tree) (o : Option Object) → object_at cases tree names ≡ o → creation_refusal cases tree is_a_stream names ≡ None
      → tree' ≡ (if is_some o then fields_changed_at cases same_storage (with_content []) names tree else stream_added_at cases names tree) → IsEmptied tree'
  created_there tree' None e allowed after =
      inl (appears_in cases (a_stream (record { state_bits = 0; len = 0; content = [] })) names tree (stream_added_at cases names tree) tree' after
      (stream_appears cases tree name more (sym (as_new (object_at cases tree names) (is_valid_name (last_name names)) e) ∙ allowed)))
  created_there tree' (Some object) e allowed after =
      let parent = object_at cases tree (parent_names names) in
      let rule = allowed_name (is_valid_name (last_name names)) (place_refusal is_a_stream (object_at cases tree names) parent) allowed in
      inr (stream_turned cases same_storage (with_content []) names tree tree' after object e
      (may_stay object parent (ap (λ (o : Option Object). place_refusal is_a_stream o parent) (sym e) ∙ rule)))

pub emptied_stream : EmptiedStreamIsFound
emptied_stream cases [] tree tree' d =
    let rule : Some already_exists ≡ None = done_rule cases (λ path. create_stream path) [] tree tree' (creation_refusal cases tree is_a_stream) (λ path. refl) d in cc
emptied_stream cases (name ∷ more) tree tree' d =
    created_there cases tree name more tree' (object_at cases tree (name ∷ more)) refl
    (done_rule cases (λ path. create_stream path) (name ∷ more) tree tree' (creation_refusal cases tree is_a_stream) (λ path. refl) d)
    (done_change cases (λ path. create_stream path) (name ∷ more) tree tree' (stream_created_at cases) (λ path. refl) d)

-- ---- an object that was removed

module _ (cases : Cases) where
  -- what is in an object is in order
  abbrev pub IsOrderedInside : Object → Type 0
  IsOrderedInside (a_storage info inside) = IsOrdered cases inside
  IsOrderedInside (a_stream info) = ⊤

  abbrev pub IsOrderedFound : Option Found → Type 0
  IsOrderedFound None = ⊤
  IsOrderedFound (Some x) = IsOrderedInside x.object

  pub named_ordered : (name : List ℕ) (objects : Objects) → IsOrdered cases objects → IsOrderedFound (object_named cases name objects)
  named_ordered name nothing o = tt
  named_ordered name (storage other info inside rest) o = go (is_same_name cases name other) (named_ordered name rest o.2)
    where
      go : (b : Bool) → IsOrderedFound (object_named cases name rest)
          → IsOrderedFound (if b then Some (record { name = other; object = a_storage info inside }) else object_named cases name rest)
      go true next = o.1
      go false next = next
  named_ordered name (stream other info rest) o = go (is_same_name cases name other) (named_ordered name rest o.1)
    where
      go : (b : Bool) → IsOrderedFound (object_named cases name rest)
          → IsOrderedFound (if b then Some (record { name = other; object = a_stream info }) else object_named cases name rest)
      go true next = tt
      go false next = next

  child_ordered : (name : List ℕ) (object : Object) → IsOrderedInside object → IsOrderedFound (child_named cases name object)
  child_ordered name (a_storage info inside) o = named_ordered name inside o
  child_ordered name (a_stream info) o = tt

  found_ordered : (names : List (List ℕ)) (start : Found) → IsOrderedInside start.object → IsOrderedFound (found_from cases start names)
  found_ordered [] start o = o
  found_ordered (name ∷ names) start o = go (child_named cases name start.object) (child_ordered name start.object o) (found_ordered names)
    where
      go : (c : Option Found) → IsOrderedFound c → ((start : Found) → IsOrderedInside start.object → IsOrderedFound (found_from cases start names))
          → IsOrderedFound (option_and_then (λ (x : Found). found_from cases x names) c)
      go None o next = tt
      go (Some x) o next = next x o

  child_without : (name : List ℕ) (object : Object) → IsOrderedInside object → child_named cases name (inner_object (without cases name) object) ≡ None
  child_without name (a_storage info inside) o =
      object_named-without cases name name inside o ∙ ap (λ (b : Bool). if b then None else object_named cases name inside) (same_itself cases name)
  child_without name (a_stream info) o = refl

  found_without : (name : List ℕ) (o : Option Found) → IsOrderedFound o → child_of cases name (option_map (inner (without cases name)) o) ≡ None
  found_without name None o = refl
  found_without name (Some x) o = child_without name x.object o

  pub removed_found : (name : List ℕ) (names : List (List ℕ)) (tree : Tree) → IsOrdered cases tree.objects
      → object_at cases (removed_at cases (name ∷ names) tree) (name ∷ names) ≡ None
  removed_found name names tree o =
      let last = last_name (name ∷ names) in
      let parents = parent_names (name ∷ names) in
      let after = found_last cases (root_of (removed_at cases (name ∷ names) tree)) name names in
      let within = found_changed cases (without cases last) parents (root_of tree).name tree.root tree.objects in
      ap object_of (after ∙ ap (child_of cases last) within ∙ found_without last (found_at cases tree parents) (found_ordered parents (root_of tree) o))

  -- ---- each removal

  module _ (tree tree' : Tree) (ordered : IsOrdered cases tree.objects) (name : List ℕ) (names : List (List ℕ)) (after : tree' ≡ removed_at cases (name ∷ names) tree) where
    gone : object_at cases tree' (name ∷ names) ≡ None
    gone = ap (λ (t : Tree). object_at cases t (name ∷ names)) after ∙ removed_found name names tree ordered

    pub vanishes : (test : Object → Bool) (IsRight : Object → Type 0) → ((object : Object) → test object ≡ true → IsRight object)
        → object_refusal test (object_at cases tree (name ∷ names)) ≡ None → Vanishes cases IsRight (name ∷ names) tree tree'
    vanishes test IsRight right rule =
        let o = allowed_object test (object_at cases tree (name ∷ names)) rule in ((o.0, o.1, right o.0 o.2), gone)

empty_storage : (object : Object) → is_empty_storage object ≡ true → (info : StorageInfo) × (object ≡ a_storage info nothing)
empty_storage (a_storage info nothing) e = (info, refl)
empty_storage (a_storage info (storage name other inside rest)) e = cc
empty_storage (a_storage info (stream name other rest)) e = cc
empty_storage (a_stream info) e = cc

any_stream : (object : Object) → is_a_stream object ≡ true → (info : StreamInfo) × (object ≡ a_stream info)
any_stream (a_storage info inside) e = cc
any_stream (a_stream info) e = (info, refl)

pub removed_storage : RemovedStorageIsGone
removed_storage cases [] tree tree' ordered d =
    let rule : Some invalid_input ≡ None = done_rule cases (λ path. remove_storage path) [] tree tree' (inner_refusal cases tree is_empty_storage) (λ path. refl) d in cc
removed_storage cases (name ∷ names) tree tree' ordered d =
    vanishes cases tree tree' ordered name names
    (done_change cases (λ path. remove_storage path) (name ∷ names) tree tree' (removed_at cases) (λ path. refl) d)
    is_empty_storage (λ object. (info : StorageInfo) × (object ≡ a_storage info nothing)) empty_storage
    (done_rule cases (λ path. remove_storage path) (name ∷ names) tree tree' (inner_refusal cases tree is_empty_storage) (λ path. refl) d)

pub removed_stream : RemovedStreamIsGone
removed_stream cases [] tree tree' ordered d =
    let rule : Some invalid_input ≡ None = done_rule cases (λ path. remove_stream path) [] tree tree' (λ ns. object_refusal is_a_stream (object_at cases tree ns)) (λ path. refl) d in cc
removed_stream cases (name ∷ names) tree tree' ordered d =
    vanishes cases tree tree' ordered name names
    (done_change cases (λ path. remove_stream path) (name ∷ names) tree tree' (removed_at cases) (λ path. refl) d)
    is_a_stream (λ object. (info : StreamInfo) × (object ≡ a_stream info)) any_stream
    (done_rule cases (λ path. remove_stream path) (name ∷ names) tree tree' (λ ns. object_refusal is_a_stream (object_at cases tree ns)) (λ path. refl) d)

pub removed_all : RemovedAllIsGone
removed_all cases name names tree tree' ordered d =
    vanishes cases tree tree' ordered name names
    (done_change cases (λ path. remove_storage_all path) (name ∷ names) tree tree' (removed_at cases) (λ path. refl) d)
    always (λ object. ⊤) (λ object e. tt)
    (done_rule cases (λ path. remove_storage_all path) (name ∷ names) tree tree' (λ ns. object_refusal always (object_at cases tree ns)) (λ path. refl) d)

pub root_emptied : RootIsEmptied
root_emptied cases tree tree' d = done_change cases (λ path. remove_storage_all path) [] tree tree' (removed_at cases) (λ path. refl) d
