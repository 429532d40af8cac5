-- What was created is found at its path.
use Rattle.std.proofs.Common.{◌≡◌, ℕ, List, [], ◌∷◌, Bool, true, false, refl, sym, ◌∙◌, ap, subst, inl, inr, ◌⊎◌}
use Rattle.std.specs.Prelude.{Option, Some, None, is_some, option_and_then, option_map, if◌then◌else◌}
use Rattle.std.specs.Option.{option_map_or}
use Rattle.std.specs.Ordering.{is_eq}
use Rattle.std.specs.List.{list_all}
use Rattle.cfb_format.specs.Names.{Cases, is_valid_name}
use Rattle.cfb_format.specs.Tree.{StorageInfo, StreamInfo, Objects, nothing, storage, stream, Tree, Object, a_storage, a_stream, Found, is_same_name, object_named, put_in_order}
use Rattle.cfb_format.proofs.NameOrder.{name_cmp-equal}
use Rattle.cfb_format.proofs.TreeMap.{object_named-put_in_order}
use Rattle.cfb_rules.specs.Refusal.{already_exists, invalid_input}
use Rattle.cfb_rules.specs.Calls.{create_storage, create_storage_all, create_new_stream}
use Rattle.cfb_rules.specs.CallChanges.{inside_changed, changed_at, tree_changed_at, new_storage, new_stream, with_objects, storage_added_at, stream_added_at, storages_added}
use Rattle.cfb_rules.specs.CallRefusals.{creation_refusal, all_creation_refusal, way_refusal, never, parent_refusal, place_refusal, unless, is_a_storage}
use Rattle.cfb_rules.specs.Finding.{child_named, found_from, root_of, found_at, last_name, parent_names, object_at}
use Rattle.cfb_rules.specs.Laws.{Appears, CreatedStreamIsFound, CreatedStorageIsFound, AddedStorageIsFound}
use Rattle.cfb_rules.proofs.DoneSteps.{done_rule, done_change, allowed_name}

-- the object that was found, and the object of that name in it
abbrev pub object_of : Option Found → Option Object
object_of o = option_map (λ (x : Found). x.object) o

abbrev pub child_of : Cases → List ℕ → Option Found → Option Found
child_of cases name o = option_and_then (λ (x : Found). child_named cases name x.object) o

pub none_found : (o : Option Found) → object_of o ≡ None → o ≡ None
none_found None e = refl
none_found (Some x) e = cc

-- ---- what is found after a change within a storage

-- the object with a change of what is in it
abbrev pub inner_object : (Objects → Objects) → Object → Object
inner_object f (a_storage info inside) = a_storage info (f inside)
inner_object f (a_stream info) = a_stream info

abbrev pub inner : (Objects → Objects) → Found → Found
inner f x = record { name = x.name; object = inner_object f x.object }

module _ (cases : Cases) where
  pub named_inside : (name : List ℕ) (f : Objects → Objects) (objects : Objects)
      → object_named cases name (inside_changed cases name f objects) ≡ option_map (inner f) (object_named cases name objects)
  named_inside name f nothing = refl
  named_inside name f (storage other info inside rest) = go (is_same_name cases name other) refl (named_inside name f rest)
    where
      go : (b : Bool) → is_same_name cases name other ≡ b
          → object_named cases name (inside_changed cases name f rest) ≡ option_map (inner f) (object_named cases name rest)
          → object_named cases name (if b then storage other info (f inside) rest else storage other info inside (inside_changed cases name f rest))
          ≡ option_map (inner f) (if b then Some (record { name = other; object = a_storage info inside }) else object_named cases name rest)
      go true e next = ap (λ (b : Bool). if b then Some (record { name = other; object = a_storage info (f inside) }) else object_named cases name rest) e
      go false e next = ap (λ (b : Bool). if b then Some (record { name = other; object = a_storage info inside }) else object_named cases name (inside_changed cases name f rest)) e
          ∙ next
  named_inside name f (stream other info rest) = go (is_same_name cases name other) refl (named_inside name f rest)
    where
      go : (b : Bool) → is_same_name cases name other ≡ b
          → object_named cases name (inside_changed cases name f rest) ≡ option_map (inner f) (object_named cases name rest)
          → object_named cases name (if b then stream other info rest else stream other info (inside_changed cases name f rest))
          ≡ option_map (inner f) (if b then Some (record { name = other; object = a_stream info }) else object_named cases name rest)
      go true e next = ap (λ (b : Bool). if b then Some (record { name = other; object = a_stream info }) else object_named cases name rest) e
      go false e next = ap (λ (b : Bool). if b then Some (record { name = other; object = a_stream info }) else object_named cases name (inside_changed cases name f rest)) e
          ∙ next

  below_stream : (k : List ℕ) (info : StreamInfo) (f : Objects → Objects) (names : List (List ℕ))
      → found_from cases (record { name = k; object = a_stream info }) names ≡ option_map (inner f) (found_from cases (record { name = k; object = a_stream info }) names)
  below_stream k info f [] = refl
  below_stream k info f (name ∷ names) = refl

  pub found_changed : (f : Objects → Objects) (names : List (List ℕ)) (k : List ℕ) (info : StorageInfo) (objects : Objects)
      → found_from cases (record { name = k; object = a_storage info (changed_at cases f names objects) }) names
      ≡ option_map (inner f) (found_from cases (record { name = k; object = a_storage info objects }) names)
  found_changed f [] k info objects = refl
  found_changed f (name ∷ names) k info objects =
      ap (option_and_then (λ (x : Found). found_from cases x names)) (named_inside name (changed_at cases f names) objects) ∙ go (object_named cases name objects) (found_changed f names)
    where
      below : (n : List ℕ) (ob : Object)
          → ((n : List ℕ) (i : StorageInfo) (o : Objects) → found_from cases (record { name = n; object = a_storage i (changed_at cases f names o) }) names
          ≡ option_map (inner f) (found_from cases (record { name = n; object = a_storage i o }) names))
          → found_from cases (record { name = n; object = inner_object (changed_at cases f names) ob }) names
          ≡ option_map (inner f) (found_from cases (record { name = n; object = ob }) names)
      below n (a_storage i o) next = next n i o
      below n (a_stream i) next = below_stream n i f names

      go : (o : Option Found)
          → ((n : List ℕ) (i : StorageInfo) (o : Objects) → found_from cases (record { name = n; object = a_storage i (changed_at cases f names o) }) names
          ≡ option_map (inner f) (found_from cases (record { name = n; object = a_storage i o }) names))
          → option_and_then (λ (x : Found). found_from cases x names) (option_map (inner (changed_at cases f names)) o)
          ≡ option_map (inner f) (option_and_then (λ (x : Found). found_from cases x names) o)
      go None next = refl
      go (Some x) next = below x.name x.object next

  -- ---- the last of some names

  pub found_last : (start : Found) (name : List ℕ) (names : List (List ℕ))
      → found_from cases start (name ∷ names)
      ≡ option_and_then (λ (x : Found). child_named cases (last_name (name ∷ names)) x.object) (found_from cases start (parent_names (name ∷ names)))
  found_last start name [] = go (child_named cases name start.object)
    where
      go : (o : Option Found) → option_and_then (λ (x : Found). Some x) o ≡ o
      go None = refl
      go (Some x) = refl
  found_last start name (next ∷ names) = go (child_named cases name start.object) (λ x. found_last x next names)
    where
      go : (o : Option Found)
          → ((x : Found) → found_from cases x (next ∷ names)
          ≡ option_and_then (λ (y : Found). child_named cases (last_name (next ∷ names)) y.object) (found_from cases x (parent_names (next ∷ names))))
          → option_and_then (λ (x : Found). found_from cases x (next ∷ names)) o
          ≡ option_and_then (λ (x : Found). child_named cases (last_name (next ∷ names)) x.object) (option_and_then (λ (x : Found). found_from cases x (parent_names (next ∷ names))) o)
      go None more = refl
      go (Some x) more = more x

  -- ---- a new object

  pub same_itself : (name : List ℕ) → is_same_name cases name name ≡ true
  same_itself name = ap is_eq ((name_cmp-equal cases name name).1 refl)

  -- an object of this name is put before others
  abbrev pub Puts : List ℕ → (Objects → Objects) → Object → Type 0
  Puts last before object = (rest : Objects)
      → object_named cases last (before rest) ≡ (if is_same_name cases last last then Some (record { name = last; object = object }) else object_named cases last rest)

  put_found : (last : List ℕ) (before : Objects → Objects) (object : Object) → Puts last before object → (objects : Objects) → object_named cases last objects ≡ None
      → object_named cases last (put_in_order cases last before objects) ≡ Some (record { name = last; object = object })
  put_found last before object is objects absent =
      object_named-put_in_order cases last before (record { name = last; object = object }) last is objects absent
      ∙ ap (λ (b : Bool). if b then Some (record { name = last; object = object }) else object_named cases last objects) (same_itself last)

  allowed_place : (here parent : Option Object) → place_refusal never here parent ≡ None → (here ≡ None) × (parent_refusal parent ≡ None)
  allowed_place None parent e = (refl, e)
  allowed_place (Some object) parent e = cc

  module _ (tree : Tree) (name : List ℕ) (names : List (List ℕ)) (before : Objects → Objects) (new : Object) (is : Puts (last_name (name ∷ names)) before new) where
    abbrev last : List ℕ
    last = last_name (name ∷ names)

    abbrev parents : List (List ℕ)
    parents = parent_names (name ∷ names)

    abbrev put : Objects → Objects
    put objects = put_in_order cases last before objects

    in_object : (ob : Object) → object_of (child_named cases last ob) ≡ None → unless (is_a_storage ob) invalid_input ≡ None
        → object_of (child_named cases last (inner_object put ob)) ≡ Some new
    in_object (a_storage info inside) absent allowed = ap object_of (put_found last before new is inside (none_found (object_named cases last inside) absent))
    in_object (a_stream info) absent allowed = cc

    in_parent : (o : Option Found) → object_of (child_of cases last o) ≡ None → parent_refusal (object_of o) ≡ None
        → object_of (child_of cases last (option_map (inner put) o)) ≡ Some new
    in_parent None absent allowed = cc
    in_parent (Some x) absent allowed = in_object x.object absent allowed

    pub added_found : creation_refusal cases tree never (name ∷ names) ≡ None → Appears cases new (name ∷ names) tree (tree_changed_at cases put parents tree)
    added_found e =
        let rule = allowed_name (is_valid_name last) (place_refusal never (object_at cases tree (name ∷ names)) (object_at cases tree parents)) e in
        let free = allowed_place (object_at cases tree (name ∷ names)) (object_at cases tree parents) rule in
        let earlier = found_last (root_of tree) name names in
        let after = found_last (root_of (tree_changed_at cases put parents tree)) name names in
        let within = found_changed put parents (root_of tree).name tree.root tree.objects in (
          free.0,
          ap object_of (after ∙ ap (child_of cases last) within)
              ∙ in_parent (found_at cases tree parents) (sym (ap object_of earlier) ∙ free.0) free.1,
        )

  pub stream_appears : (tree : Tree) (name : List ℕ) (names : List (List ℕ)) → creation_refusal cases tree never (name ∷ names) ≡ None
      → Appears cases (a_stream new_stream) (name ∷ names) tree (stream_added_at cases (name ∷ names) tree)
  stream_appears tree name names = added_found tree name names (stream (last_name (name ∷ names)) new_stream) (a_stream new_stream) (λ rest. refl)

  pub storage_appears : (moment : ℕ) (tree : Tree) (name : List ℕ) (names : List (List ℕ)) → creation_refusal cases tree never (name ∷ names) ≡ None
      → Appears cases (a_storage (new_storage moment) nothing) (name ∷ names) tree (storage_added_at cases moment (name ∷ names) tree)
  storage_appears moment tree name names =
      added_found tree name names (storage (last_name (name ∷ names)) (new_storage moment) nothing) (a_storage (new_storage moment) nothing) (λ rest. refl)

  -- the same in a tree that is equal
  pub appears_in : (object : Object) (names : List (List ℕ)) (tree t u : Tree) → u ≡ t → Appears cases object names tree t → Appears cases object names tree u
  appears_in object names tree t u e h = (h.0, ap (λ (w : Tree). object_at cases w names) e ∙ h.1)

pub created_stream : CreatedStreamIsFound
created_stream cases [] tree tree' d =
    let rule : Some already_exists ≡ None = done_rule cases (λ path. create_new_stream path) [] tree tree' (creation_refusal cases tree never) (λ path. refl) d in cc
created_stream cases (name ∷ more) tree tree' d =
    appears_in cases (a_stream new_stream) (name ∷ more) tree (stream_added_at cases (name ∷ more) tree) tree'
    (done_change cases (λ path. create_new_stream path) (name ∷ more) tree tree' (stream_added_at cases) (λ path. refl) d)
    (stream_appears cases tree name more
    (done_rule cases (λ path. create_new_stream path) (name ∷ more) tree tree' (creation_refusal cases tree never) (λ path. refl) d))

pub created_storage : CreatedStorageIsFound
created_storage cases moment [] tree tree' d =
    let rule : Some already_exists ≡ None = done_rule cases (λ path. create_storage path moment) [] tree tree' (creation_refusal cases tree never) (λ path. refl) d in cc
created_storage cases moment (name ∷ more) tree tree' d =
    appears_in cases (a_storage (new_storage moment) nothing) (name ∷ more) tree (storage_added_at cases moment (name ∷ more) tree) tree'
    (done_change cases (λ path. create_storage path moment) (name ∷ more) tree tree' (storage_added_at cases moment) (λ path. refl) d)
    (storage_appears cases moment tree name more
    (done_rule cases (λ path. create_storage path moment) (name ∷ more) tree tree' (creation_refusal cases tree never) (λ path. refl) d))

-- ---- storages that are created on the way

module _ (cases : Cases) (moment : ℕ) where
  -- what stands at the end of the way, by what stood there: a new storage, or a storage as before
  abbrev WayEnds : Option Object → Option Object → Type 0
  WayEnds earlier later = ((earlier ≡ None) × (later ≡ Some (a_storage (new_storage moment) nothing)))
      ⊎ ((info : StorageInfo) × (inside : Objects) × (earlier ≡ Some (a_storage info inside)) × (later ≡ Some (a_storage info inside)))

  abbrev storage_in : List ℕ → StorageInfo → Objects → Found
  storage_in name info inside = record { name = name; object = a_storage info inside }

  -- in a storage with nothing in it the whole way is new
  new_way : (names : List (List ℕ)) (name : List ℕ)
      → object_of (found_from cases (storage_in name (new_storage moment) (storages_added cases moment names nothing)) names) ≡ Some (a_storage (new_storage moment) nothing)
  new_way [] name = refl
  new_way (next ∷ names) name =
      ap (λ (b : Bool). object_of (option_and_then (λ (x : Found). found_from cases x names)
      (if b then Some (storage_in next (new_storage moment) (storages_added cases moment names nothing)) else None))) (same_itself cases next)
      ∙ new_way names next

  abbrev below : List (List ℕ) → Option Found → Option Object
  below names c = object_of (option_and_then (λ (x : Found). found_from cases x names) c)

  way_ends : (names : List (List ℕ)) (k : List ℕ) (info : StorageInfo) (objects : Objects) → way_refusal cases (a_storage info objects) names ≡ None
      → WayEnds (object_of (found_from cases (storage_in k info objects) names)) (object_of (found_from cases (storage_in k info (storages_added cases moment names objects)) names))
  way_ends [] k info objects allowed = inr (info, objects, refl, refl)
  way_ends (name ∷ names) k info objects allowed = go (object_named cases name objects) refl allowed (λ n i inside. way_ends names n i inside)
    where
      in_object : (n : List ℕ) (ob : Object) → way_refusal cases ob names ≡ None
          → ((n : List ℕ) (i : StorageInfo) (inside : Objects) → way_refusal cases (a_storage i inside) names ≡ None
          → WayEnds (object_of (found_from cases (storage_in n i inside) names)) (object_of (found_from cases (storage_in n i (storages_added cases moment names inside)) names)))
          → WayEnds (object_of (found_from cases (record { name = n; object = ob }) names))
          (object_of (found_from cases (record { name = n; object = inner_object (λ inside. storages_added cases moment names inside) ob }) names))
      in_object n (a_storage i inside) e more = more n i inside e
      in_object n (a_stream i) e more = let f : Some already_exists ≡ None = e in cc

      go : (c : Option Found) → object_named cases name objects ≡ c → option_map_or (λ (x : Found). way_refusal cases x.object names) c None ≡ None
          → ((n : List ℕ) (i : StorageInfo) (inside : Objects) → way_refusal cases (a_storage i inside) names ≡ None
          → WayEnds (object_of (found_from cases (storage_in n i inside) names)) (object_of (found_from cases (storage_in n i (storages_added cases moment names inside)) names)))
          → WayEnds (object_of (option_and_then (λ (x : Found). found_from cases x names) (object_named cases name objects)))
          (object_of (option_and_then (λ (x : Found). found_from cases x names) (object_named cases name (if is_some c then inside_changed cases name (storages_added cases moment names) objects
          else put_in_order cases name (storage name (new_storage moment) (storages_added cases moment names nothing)) objects))))
      go None absent e more =
          inl (
            ap (below names) absent,
            ap (below names) (put_found cases name (storage name (new_storage moment) (storages_added cases moment names nothing))
                (a_storage (new_storage moment) (storages_added cases moment names nothing)) (λ rest. refl) objects absent)
                ∙ new_way names name,
          )
      go (Some x) is e more =
          subst (λ (o : Option Object). WayEnds o (below names (object_named cases name (inside_changed cases name (storages_added cases moment names) objects)))) (sym (ap (below names) is))
          (subst (WayEnds (below names (Some x))) (sym (ap (below names) (named_inside cases name (storages_added cases moment names) objects ∙ ap (option_map (inner (storages_added cases moment names))) is)))
          (in_object x.name x.object e more))

pub added_storage : AddedStorageIsFound
added_storage cases moment names tree tree' d =
    let rule = allowed_name (list_all is_valid_name names) (way_refusal cases (root_of tree).object names)
    (done_rule cases (λ path. create_storage_all path moment) names tree tree' (all_creation_refusal cases tree) (λ path. refl) d) in
    let after : tree' ≡ with_objects tree (storages_added cases moment names tree.objects) =
    done_change cases (λ path. create_storage_all path moment) names tree tree' (λ ns before. with_objects before (storages_added cases moment ns before.objects)) (λ path. refl) d in
    let same = ap (λ (t : Tree). object_at cases t names) after in
    elim (way_ends cases moment names (root_of tree).name tree.root tree.objects rule) [
      | inl new ↦ inl (new.0, same ∙ new.1)
      | inr there ↦ inr (there.0, there.1, there.2, same ∙ there.3)
    ]
