-- What a call changes of what stands at other names: nothing.
use Rattle.std.proofs.Common.{◌≡◌, ℕ, inl, inr, List, [], ◌∷◌, Bool, true, false, refl, sym, ◌∙◌, ap, subst}
use Rattle.std.specs.Prelude.{⊤, Option, Some, None, MatchOption, is_some, option_and_then, option_map, if◌then◌else◌}
use Rattle.std.specs.Option.{option_map_or}
use Rattle.cfb_format.specs.Names.{Cases, is_valid_name}
use Rattle.cfb_format.specs.Path.{names_of_path}
use Rattle.cfb_format.specs.Tree.{StorageInfo, StreamInfo, Objects, nothing, storage, stream, Tree, IsOrdered, Object, a_storage, a_stream, Found, is_same_name, object_named, put_in_order, without}
use Rattle.cfb_format.proofs.TreeMap.{alike, alike_back, object_named-put_in_order, object_named-without}
use Rattle.cfb_rules.specs.Refusal.{Refusal, invalid_input}
use Rattle.cfb_rules.specs.Calls.{Call, create_storage, create_storage_all, create_stream, create_new_stream, open_stream, open_read_stream, remove_storage, remove_storage_all, remove_stream, set_storage_clsid, set_state_bits, set_created_time, set_modified_time, touch, flush, exists, is_stream, is_storage, root_entry, read_root_storage, walk, entry, read_storage, walk_storage, refused}
use Rattle.cfb_rules.specs.CallChanges.{inside_changed, changed_at, with_fields, new_storage, new_stream, with_content, with_objects, same_storage, same_stream, tree_changed_at, fields_changed_at, content_changed_at, storage_added_at, stream_added_at, storages_added, stream_created_at, removed_at, touched_at, at_path, changed_names, tree_after}
use Rattle.cfb_rules.specs.CallRefusals.{creation_refusal, never, place_refusal, refusal_of}
use Rattle.cfb_rules.specs.CallReplies.{reply_of}
use Rattle.cfb_rules.specs.Finding.{found_from, found_at, root_of, last_name, parent_names, object_at, PartWays}
use Rattle.cfb_rules.specs.Laws.{OthersAreFoundAsBefore, OnlyNamedCallsChange}
use Rattle.cfb_rules.specs.Steps.{outcome, unsound_refusal}
use Rattle.cfb_rules.proofs.CreatedFound.{object_of, child_of, none_found, inner_object, inner, named_inside, found_last}
use Rattle.cfb_rules.proofs.DoneSteps.{no_refusal, rule_of}
use Rattle.cfb_rules.proofs.FoundAfter.{IsOrderedInside, IsOrderedFound, named_ordered}

-- what may not stay isn't there
free_place : (b : Bool) (here parent : Option Object) → (if b then place_refusal never here parent else Some invalid_input) ≡ None → here ≡ None
free_place true None parent e = refl
free_place true (Some object) parent e = cc
free_place false here parent e = cc

module _ (cases : Cases) where
  -- ---- names of one key find the same, and names of other keys miss a change

  named_same : (q name : List ℕ) → is_same_name cases q name ≡ true → (objects : Objects) → object_named cases q objects ≡ object_named cases name objects
  named_same q name e nothing = refl
  named_same q name e (storage other info inside rest) =
      ap (λ (b : Bool). if b then Some (record { name = other; object = a_storage info inside }) else object_named cases q rest) (alike cases q name other e)
      ∙ ap (λ (o : Option Found). if is_same_name cases name other then Some (record { name = other; object = a_storage info inside }) else o) (named_same q name e rest)
  named_same q name e (stream other info rest) =
      ap (λ (b : Bool). if b then Some (record { name = other; object = a_stream info }) else object_named cases q rest) (alike cases q name other e)
      ∙ ap (λ (o : Option Found). if is_same_name cases name other then Some (record { name = other; object = a_stream info }) else o) (named_same q name e rest)

  -- two objects of which neither is the one that is sought
  both_missed : (q name other : List ℕ) (x y : Found) (rest : Option Found) → is_same_name cases q name ≡ false → is_same_name cases name other ≡ true
      → (if is_same_name cases q other then Some x else rest) ≡ (if is_same_name cases q other then Some y else rest)
  both_missed q name other x y rest apart e =
      let missed : is_same_name cases q other ≡ false = sym (alike_back cases q name other e) ∙ apart in
      ap (λ (b : Bool). if b then Some x else rest) missed ∙ sym (ap (λ (b : Bool). if b then Some y else rest) missed)

  apart_inside : (q name : List ℕ) → is_same_name cases q name ≡ false → (h : Objects → Objects) (objects : Objects)
      → object_named cases q (inside_changed cases name h objects) ≡ object_named cases q objects
  apart_inside q name apart h nothing = refl
  apart_inside q name apart h (storage other info inside rest) = go (is_same_name cases name other) refl (apart_inside q name apart h rest)
    where
      go : (b : Bool) → is_same_name cases name other ≡ b → object_named cases q (inside_changed cases name h rest) ≡ object_named cases q rest
          → object_named cases q (if b then storage other info (h inside) rest else storage other info inside (inside_changed cases name h rest))
          ≡ object_named cases q (storage other info inside rest)
      go true e next =
          both_missed q name other (record { name = other; object = a_storage info (h inside) }) (record { name = other; object = a_storage info inside }) (object_named cases q rest) apart e
      go false e next = ap (λ (o : Option Found). if is_same_name cases q other then Some (record { name = other; object = a_storage info inside }) else o) next
  apart_inside q name apart h (stream other info rest) = go (is_same_name cases name other) (apart_inside q name apart h rest)
    where
      go : (b : Bool) → object_named cases q (inside_changed cases name h rest) ≡ object_named cases q rest
          → object_named cases q (if b then stream other info rest else stream other info (inside_changed cases name h rest)) ≡ object_named cases q (stream other info rest)
      go true next = refl
      go false next = ap (λ (o : Option Found). if is_same_name cases q other then Some (record { name = other; object = a_stream info }) else o) next

  apart_fields : (q name : List ℕ) → is_same_name cases q name ≡ false → (f : StorageInfo → StorageInfo) (g : StreamInfo → StreamInfo) (objects : Objects)
      → object_named cases q (with_fields cases name f g objects) ≡ object_named cases q objects
  apart_fields q name apart f g nothing = refl
  apart_fields q name apart f g (storage other info inside rest) = go (is_same_name cases name other) refl (apart_fields q name apart f g rest)
    where
      go : (b : Bool) → is_same_name cases name other ≡ b → object_named cases q (with_fields cases name f g rest) ≡ object_named cases q rest
          → object_named cases q (if b then storage other (f info) inside rest else storage other info inside (with_fields cases name f g rest))
          ≡ object_named cases q (storage other info inside rest)
      go true e next =
          both_missed q name other (record { name = other; object = a_storage (f info) inside }) (record { name = other; object = a_storage info inside }) (object_named cases q rest) apart e
      go false e next = ap (λ (o : Option Found). if is_same_name cases q other then Some (record { name = other; object = a_storage info inside }) else o) next
  apart_fields q name apart f g (stream other info rest) = go (is_same_name cases name other) refl (apart_fields q name apart f g rest)
    where
      go : (b : Bool) → is_same_name cases name other ≡ b → object_named cases q (with_fields cases name f g rest) ≡ object_named cases q rest
          → object_named cases q (if b then stream other (g info) rest else stream other info (with_fields cases name f g rest))
          ≡ object_named cases q (stream other info rest)
      go true e next =
          both_missed q name other (record { name = other; object = a_stream (g info) }) (record { name = other; object = a_stream info }) (object_named cases q rest) apart e
      go false e next = ap (λ (o : Option Found). if is_same_name cases q other then Some (record { name = other; object = a_stream info }) else o) next

  -- ---- a change that spares all names but one, in the storage at some names

  abbrev Spares : List ℕ → (Objects → Objects) → Objects → Type 0
  Spares last f objects = (q : List ℕ) → is_same_name cases q last ≡ false → object_named cases q (f objects) ≡ object_named cases q objects

  abbrev SparesAt : List ℕ → (Objects → Objects) → List (List ℕ) → Object → Type 0
  SparesAt last f [] (a_storage info inside) = Spares last f inside
  SparesAt last f [] (a_stream info) = ⊤
  SparesAt last f (name ∷ names) (a_storage info inside) = (x : Found) → object_named cases name inside ≡ Some x → SparesAt last f names x.object
  SparesAt last f (name ∷ names) (a_stream info) = ⊤

  -- what was found below a change of what is in it, and what is found there then
  below_change : (h : Objects → Objects) (os : List (List ℕ)) (c : Option Found)
      → ((x : Found) → c ≡ Some x → found_from cases (inner h x) os ≡ found_from cases x os)
      → option_and_then (λ (x : Found). found_from cases x os) (option_map (inner h) c) ≡ option_and_then (λ (x : Found). found_from cases x os) c
  below_change h os None same = refl
  below_change h os (Some x) same = same x refl

  below_object : (h : Objects → Objects) (os : List (List ℕ)) (n : List ℕ) (object : Object)
      → ((info : StorageInfo) (inside : Objects) → object ≡ a_storage info inside
      → found_from cases (record { name = n; object = a_storage info (h inside) }) os ≡ found_from cases (record { name = n; object = a_storage info inside }) os)
      → found_from cases (record { name = n; object = inner_object h object }) os ≡ found_from cases (record { name = n; object = object }) os
  below_object h os n (a_storage info inside) same = same info inside refl
  below_object h os n (a_stream info) same = refl

  others_found : (f : Objects → Objects) (name : List ℕ) (more others : List (List ℕ)) (k : List ℕ) (info : StorageInfo) (objects : Objects) → PartWays cases (name ∷ more) others
      → SparesAt (last_name (name ∷ more)) f (parent_names (name ∷ more)) (a_storage info objects)
      → found_from cases (record { name = k; object = a_storage info (changed_at cases f (parent_names (name ∷ more)) objects) }) others
      ≡ found_from cases (record { name = k; object = a_storage info objects }) others
  others_found f name more [] k info objects part spares = elim part [ ]
  others_found f name [] (o ∷ os) k info objects part spares = elim part [
    | inl apart ↦ ap (option_and_then (λ (x : Found). found_from cases x os)) (spares o apart)
    | inr below ↦ elim (below.1) [ ]
  ]
  others_found f name (next ∷ more) (o ∷ os) k info objects part spares = elim part [
    | inl apart ↦ ap (option_and_then (λ (x : Found). found_from cases x os)) (apart_inside o name apart (changed_at cases f (parent_names (next ∷ more))) objects)
    | inr below ↦
        let h = changed_at cases f (parent_names (next ∷ more)) in
        let same = named_same o name below.0 in
        let after : object_named cases o (inside_changed cases name h objects) ≡ option_map (inner h) (object_named cases o objects) =
        same (inside_changed cases name h objects) ∙ named_inside cases name h objects ∙ ap (option_map (inner h)) (sym (same objects)) in
        ap (option_and_then (λ (x : Found). found_from cases x os)) after
        ∙ below_change h os (object_named cases o objects) (λ x is. below_object h os x.name x.object (λ i inside e.
        others_found f next more os x.name i inside below.1
        (subst (SparesAt (last_name (next ∷ more)) f (parent_names (next ∷ more))) e (spares x (sym (same objects) ∙ is)))))
  ]

  -- ---- the changes that do

  pub spares_fields : (last : List ℕ) (f : StorageInfo → StorageInfo) (g : StreamInfo → StreamInfo) (names : List (List ℕ)) (object : Object)
      → SparesAt last (with_fields cases last f g) names object
  spares_fields last f g [] (a_storage info inside) = λ q apart. apart_fields q last apart f g inside
  spares_fields last f g [] (a_stream info) = tt
  spares_fields last f g (name ∷ names) (a_storage info inside) = λ x e. spares_fields last f g names x.object
  spares_fields last f g (name ∷ names) (a_stream info) = tt

  pub spares_without : (last : List ℕ) (names : List (List ℕ)) (object : Object) → IsOrderedInside cases object → SparesAt last (without cases last) names object
  spares_without last [] (a_storage info inside) o =
      λ q apart. object_named-without cases last q inside o ∙ ap (λ (b : Bool). if b then None else object_named cases q inside) apart
  spares_without last [] (a_stream info) o = tt
  spares_without last (name ∷ names) (a_storage info inside) o =
      λ x e. spares_without last names x.object (subst (IsOrderedFound cases) e (named_ordered cases name inside o))
  spares_without last (name ∷ names) (a_stream info) o = tt

  -- where nothing of that name is, an object is put
  pub spares_put : (last : List ℕ) (before : Objects → Objects) (new : Found)
      → ((q : List ℕ) (rest : Objects) → object_named cases q (before rest) ≡ (if is_same_name cases q last then Some new else object_named cases q rest))
      → (names : List (List ℕ)) (k : List ℕ) (object : Object) → child_of cases last (found_from cases (record { name = k; object = object }) names) ≡ None
      → SparesAt last (put_in_order cases last before) names object
  spares_put last before new is [] k (a_storage info inside) absent =
      λ q apart. object_named-put_in_order cases last before new q (is q) inside absent ∙ ap (λ (b : Bool). if b then Some new else object_named cases q inside) apart
  spares_put last before new is [] k (a_stream info) absent = tt
  spares_put last before new is (name ∷ names) k (a_storage info inside) absent =
      λ x e. spares_put last before new is names x.name x.object
      (sym (ap (λ (c : Option Found). child_of cases last (option_and_then (λ (y : Found). found_from cases y names) c)) e) ∙ absent)
  spares_put last before new is (name ∷ names) k (a_stream info) absent = tt

  pub others_at : (f : Objects → Objects) (name : List ℕ) (more others : List (List ℕ)) (tree : Tree) → PartWays cases (name ∷ more) others
      → SparesAt (last_name (name ∷ more)) f (parent_names (name ∷ more)) (a_storage tree.root tree.objects)
      → object_at cases (tree_changed_at cases f (parent_names (name ∷ more)) tree) others ≡ object_at cases tree others
  others_at f name more others tree part spares = ap object_of (others_found f name more others (root_of tree).name tree.root tree.objects part spares)

  -- ---- storages that are added on the way

  in_nothing : (n : List ℕ) (info : StorageInfo) (names others : List (List ℕ)) → PartWays cases names others
      → found_from cases (record { name = n; object = a_storage info nothing }) others ≡ None
  in_nothing n info names [] part = no_part names part
    where
      no_part : (names : List (List ℕ)) → PartWays cases names [] → found_from cases (record { name = n; object = a_storage info nothing }) [] ≡ None
      no_part [] part = elim part [ ]
      no_part (name ∷ more) part = elim part [ ]
  in_nothing n info names (o ∷ os) part = refl

  abbrev way_of : ℕ → List ℕ → List (List ℕ) → Found
  way_of moment name names = record { name = name; object = a_storage (new_storage moment) (storages_added cases moment names nothing) }

  storages_found : (moment : ℕ) (names others : List (List ℕ)) (k : List ℕ) (info : StorageInfo) (objects : Objects) → PartWays cases names others
      → found_from cases (record { name = k; object = a_storage info (storages_added cases moment names objects) }) others
      ≡ found_from cases (record { name = k; object = a_storage info objects }) others
  storages_found moment [] others k info objects part = elim part [ ]
  storages_found moment (name ∷ names) [] k info objects part = elim part [ ]
  storages_found moment (name ∷ names) (o ∷ os) k info objects part =
      go (object_named cases name objects) refl (λ below n i inside. storages_found moment names os n i inside below)
    where
      put : object_named cases name objects ≡ None
          → object_named cases o (put_in_order cases name (storage name (new_storage moment) (storages_added cases moment names nothing)) objects)
          ≡ (if is_same_name cases o name then Some (way_of moment name names) else object_named cases o objects)
      put absent = object_named-put_in_order cases name (storage name (new_storage moment) (storages_added cases moment names nothing)) (way_of moment name names) o (λ rest. refl) objects absent

      go : (c : Option Found) → object_named cases name objects ≡ c
          → (PartWays cases names os → (n : List ℕ) (i : StorageInfo) (inside : Objects)
          → found_from cases (record { name = n; object = a_storage i (storages_added cases moment names inside) }) os
          ≡ found_from cases (record { name = n; object = a_storage i inside }) os)
          → option_and_then (λ (x : Found). found_from cases x os) (object_named cases o (if is_some c then inside_changed cases name (storages_added cases moment names) objects
          else put_in_order cases name (storage name (new_storage moment) (storages_added cases moment names nothing)) objects))
          ≡ option_and_then (λ (x : Found). found_from cases x os) (object_named cases o objects)
      go None absent next = elim part [
        | inl apart ↦ ap (option_and_then (λ (x : Found). found_from cases x os)) (put absent ∙ ap (λ (b : Bool). if b then Some (way_of moment name names) else object_named cases o objects) apart)
        | inr below ↦
            let there = put absent ∙ ap (λ (b : Bool). if b then Some (way_of moment name names) else object_named cases o objects) below.0 in
            let none : object_named cases o objects ≡ None = named_same o name below.0 objects ∙ absent in
            ap (option_and_then (λ (x : Found). found_from cases x os)) there
            ∙ next below.1 name (new_storage moment) nothing
            ∙ in_nothing name (new_storage moment) names os below.1
            ∙ sym (ap (option_and_then (λ (x : Found). found_from cases x os)) none)
      ]
      go (Some x) is next = elim part [
        | inl apart ↦ ap (option_and_then (λ (x : Found). found_from cases x os)) (apart_inside o name apart (storages_added cases moment names) objects)
        | inr below ↦
            let h = storages_added cases moment names in
            let same = named_same o name below.0 in
            let after : object_named cases o (inside_changed cases name h objects) ≡ option_map (inner h) (object_named cases o objects) =
            same (inside_changed cases name h objects) ∙ named_inside cases name h objects ∙ ap (option_map (inner h)) (sym (same objects)) in
            ap (option_and_then (λ (x : Found). found_from cases x os)) after
            ∙ below_change h os (object_named cases o objects) (λ y e. below_object h os y.name y.object (λ i inside q. next below.1 y.name i inside))
      ]

  -- ---- each call

  module _ (tree : Tree) (ordered : IsOrdered cases tree.objects) where
    abbrev Stays : List (List ℕ) → Tree → Type 0
    Stays others tree' = object_at cases tree' others ≡ object_at cases tree others

    fields_stay : (f : StorageInfo → StorageInfo) (g : StreamInfo → StreamInfo) (names others : List (List ℕ)) → PartWays cases names others → Stays others (fields_changed_at cases f g names tree)
    fields_stay f g [] others part = elim part [ ]
    fields_stay f g (name ∷ more) others part =
        others_at (with_fields cases (last_name (name ∷ more)) f g) name more others tree part
        (spares_fields (last_name (name ∷ more)) f g (parent_names (name ∷ more)) (a_storage tree.root tree.objects))

    touched_stay : (moment : ℕ) (names others : List (List ℕ)) → PartWays cases names others → Stays others (touched_at cases moment names tree)
    touched_stay moment [] others part = elim part [ ]
    touched_stay moment (name ∷ more) others part = fields_stay (λ info. record info { modified = moment }) same_stream (name ∷ more) others part

    removed_stay : (names others : List (List ℕ)) → PartWays cases names others → Stays others (removed_at cases names tree)
    removed_stay [] others part = elim part [ ]
    removed_stay (name ∷ more) others part =
        others_at (without cases (last_name (name ∷ more))) name more others tree part
        (spares_without (last_name (name ∷ more)) (parent_names (name ∷ more)) (a_storage tree.root tree.objects) ordered)

    -- nothing is in the parent where nothing stands at the names
    absent_in : (name : List ℕ) (more : List (List ℕ)) → object_at cases tree (name ∷ more) ≡ None
        → child_of cases (last_name (name ∷ more)) (found_at cases tree (parent_names (name ∷ more))) ≡ None
    absent_in name more absent = sym (found_last cases (root_of tree) name more) ∙ none_found (found_at cases tree (name ∷ more)) absent

    put_stays : (name : List ℕ) (more others : List (List ℕ)) (before : Objects → Objects) (new : Found)
        → ((q : List ℕ) (rest : Objects) → object_named cases q (before rest) ≡ (if is_same_name cases q (last_name (name ∷ more)) then Some new else object_named cases q rest))
        → PartWays cases (name ∷ more) others → object_at cases tree (name ∷ more) ≡ None
        → Stays others (tree_changed_at cases (put_in_order cases (last_name (name ∷ more)) before) (parent_names (name ∷ more)) tree)
    put_stays name more others before new is part absent =
        others_at (put_in_order cases (last_name (name ∷ more)) before) name more others tree part
        (spares_put (last_name (name ∷ more)) before new is (parent_names (name ∷ more)) (root_of tree).name (a_storage tree.root tree.objects) (absent_in name more absent))

    storage_stays : (moment : ℕ) (name : List ℕ) (more others : List (List ℕ)) → PartWays cases (name ∷ more) others → object_at cases tree (name ∷ more) ≡ None
        → Stays others (storage_added_at cases moment (name ∷ more) tree)
    storage_stays moment name more others part absent =
        put_stays name more others (storage (last_name (name ∷ more)) (new_storage moment) nothing)
        (record { name = last_name (name ∷ more); object = a_storage (new_storage moment) nothing }) (λ q rest. refl) part absent

    stream_stays : (name : List ℕ) (more others : List (List ℕ)) → PartWays cases (name ∷ more) others → object_at cases tree (name ∷ more) ≡ None
        → Stays others (stream_added_at cases (name ∷ more) tree)
    stream_stays name more others part absent =
        put_stays name more others (stream (last_name (name ∷ more)) new_stream) (record { name = last_name (name ∷ more); object = a_stream new_stream }) (λ q rest. refl) part absent

    created_stays : (names others : List (List ℕ)) → PartWays cases names others → Stays others (stream_created_at cases names tree)
    created_stays [] others part = elim part [ ]
    created_stays (name ∷ more) others part = go (object_at cases tree (name ∷ more)) refl
      where
        go : (o : Option Object) → object_at cases tree (name ∷ more) ≡ o
            → Stays others (if is_some o then content_changed_at cases [] (name ∷ more) tree else stream_added_at cases (name ∷ more) tree)
        go None absent = stream_stays name more others part absent
        go (Some object) is = fields_stay same_storage (with_content []) (name ∷ more) others part

    -- creating where nothing may stay
    free_names : (name : List ℕ) (more : List (List ℕ)) → creation_refusal cases tree never (name ∷ more) ≡ None → object_at cases tree (name ∷ more) ≡ None
    free_names name more allowed = free_place (is_valid_name (last_name (name ∷ more))) (object_at cases tree (name ∷ more)) (object_at cases tree (parent_names (name ∷ more))) allowed

    new_storage_stays : (moment : ℕ) (names others : List (List ℕ)) → creation_refusal cases tree never names ≡ None → PartWays cases names others
        → Stays others (storage_added_at cases moment names tree)
    new_storage_stays moment [] others allowed part = elim part [ ]
    new_storage_stays moment (name ∷ more) others allowed part = storage_stays moment name more others part (free_names name more allowed)

    new_stream_stays : (names others : List (List ℕ)) → creation_refusal cases tree never names ≡ None → PartWays cases names others → Stays others (stream_added_at cases names tree)
    new_stream_stays [] others allowed part = elim part [ ]
    new_stream_stays (name ∷ more) others allowed part = stream_stays name more others part (free_names name more allowed)

    -- a change of what a path stands for
    on_path : (change : List (List ℕ) → Tree → Tree) (path : List ℕ) (names others : List (List ℕ)) → names_of_path path ≡ Some names
        → Stays others (change names tree) → Stays others (at_path change path tree)
    on_path change path names others at stays = ap (λ (o : Option (List (List ℕ))). object_at cases (option_map_or (λ ns. change ns tree) o tree) others) at ∙ stays

    after_call : (call : Call) (names others : List (List ℕ)) → changed_names call ≡ Some names → PartWays cases names others → refusal_of cases tree call ≡ None
        → Stays others (tree_after cases call tree)
    after_call (create_storage path moment) names others at part allowed =
        on_path (storage_added_at cases moment) path names others at (new_storage_stays moment names others (rule_of (creation_refusal cases tree never) path names at allowed) part)
    after_call (create_storage_all path moment) names others at part allowed =
        on_path (λ ns before. with_objects before (storages_added cases moment ns before.objects)) path names others at
        (ap object_of (storages_found moment names others (root_of tree).name tree.root tree.objects part))
    after_call (create_stream path) names others at part allowed = on_path (stream_created_at cases) path names others at (created_stays names others part)
    after_call (create_new_stream path) names others at part allowed =
        on_path (stream_added_at cases) path names others at (new_stream_stays names others (rule_of (creation_refusal cases tree never) path names at allowed) part)
    after_call (remove_storage path) names others at part allowed = on_path (removed_at cases) path names others at (removed_stay names others part)
    after_call (remove_storage_all path) names others at part allowed = on_path (removed_at cases) path names others at (removed_stay names others part)
    after_call (remove_stream path) names others at part allowed = on_path (removed_at cases) path names others at (removed_stay names others part)
    after_call (set_storage_clsid path clsid) names others at part allowed =
        on_path (fields_changed_at cases (λ info. record info { clsid = clsid }) same_stream) path names others at (fields_stay (λ info. record info { clsid = clsid }) same_stream names others part)
    after_call (set_state_bits path bits) names others at part allowed =
        on_path (fields_changed_at cases (λ info. record info { state_bits = bits }) (λ info. record info { state_bits = bits })) path names others at
        (fields_stay (λ info. record info { state_bits = bits }) (λ info. record info { state_bits = bits }) names others part)
    after_call (set_created_time path moment) names others at part allowed =
        on_path (fields_changed_at cases (λ info. record info { created = moment }) same_stream) path names others at (fields_stay (λ info. record info { created = moment }) same_stream names others part)
    after_call (set_modified_time path moment) names others at part allowed =
        on_path (fields_changed_at cases (λ info. record info { modified = moment }) same_stream) path names others at (fields_stay (λ info. record info { modified = moment }) same_stream names others part)
    after_call (touch path moment) names others at part allowed = on_path (touched_at cases moment) path names others at (touched_stay moment names others part)
    after_call (open_stream path) names others at part allowed = refl
    after_call (open_read_stream path) names others at part allowed = refl
    after_call flush names others at part allowed = refl
    after_call (exists path) names others at part allowed = refl
    after_call (is_stream path) names others at part allowed = refl
    after_call (is_storage path) names others at part allowed = refl
    after_call root_entry names others at part allowed = refl
    after_call read_root_storage names others at part allowed = refl
    after_call walk names others at part allowed = refl
    after_call (entry path) names others at part allowed = refl
    after_call (read_storage path) names others at part allowed = refl
    after_call (walk_storage path) names others at part allowed = refl

pub others_stay : OthersAreFoundAsBefore
others_stay cases sound root_len tree tree' call reply names others at part ordered = go (outcome cases sound tree call) refl
  where
    go : (o : Option Refusal) → outcome cases sound tree call ≡ o
        → MatchOption o ((reply ≡ reply_of cases root_len tree call) × (tree' ≡ tree_after cases call tree)) (λ r. (reply ≡ refused r) × (tree' ≡ tree))
        → object_at cases tree' others ≡ object_at cases tree others
    go None e h =
        ap (λ (t : Tree). object_at cases t others) h.1
        ∙ after_call cases tree ordered call names others at part (no_refusal (refusal_of cases tree call) (unsound_refusal sound call) e)
    go (Some r) e h = ap (λ (t : Tree). object_at cases t others) h.1

pub unnamed_stay : OnlyNamedCallsChange
unnamed_stay cases sound root_len tree tree' call reply unnamed = go (outcome cases sound tree call)
  where
    -- a path that has no names is no place of a change
    at_none : (change : List (List ℕ) → Tree → Tree) (path : List ℕ) → names_of_path path ≡ None → at_path change path tree ≡ tree
    at_none change path none = ap (λ (o : Option (List (List ℕ))). option_map_or (λ ns. change ns tree) o tree) none

    after : (call : Call) → changed_names call ≡ None → tree_after cases call tree ≡ tree
    after (create_storage path moment) none = at_none (storage_added_at cases moment) path none
    after (create_storage_all path moment) none = at_none (λ ns before. with_objects before (storages_added cases moment ns before.objects)) path none
    after (create_stream path) none = at_none (stream_created_at cases) path none
    after (create_new_stream path) none = at_none (stream_added_at cases) path none
    after (remove_storage path) none = at_none (removed_at cases) path none
    after (remove_storage_all path) none = at_none (removed_at cases) path none
    after (remove_stream path) none = at_none (removed_at cases) path none
    after (set_storage_clsid path clsid) none = at_none (fields_changed_at cases (λ info. record info { clsid = clsid }) same_stream) path none
    after (set_state_bits path bits) none = at_none (fields_changed_at cases (λ info. record info { state_bits = bits }) (λ info. record info { state_bits = bits })) path none
    after (set_created_time path moment) none = at_none (fields_changed_at cases (λ info. record info { created = moment }) same_stream) path none
    after (set_modified_time path moment) none = at_none (fields_changed_at cases (λ info. record info { modified = moment }) same_stream) path none
    after (touch path moment) none = at_none (touched_at cases moment) path none
    after (open_stream path) none = refl
    after (open_read_stream path) none = refl
    after flush none = refl
    after (exists path) none = refl
    after (is_stream path) none = refl
    after (is_storage path) none = refl
    after root_entry none = refl
    after read_root_storage none = refl
    after walk none = refl
    after (entry path) none = refl
    after (read_storage path) none = refl
    after (walk_storage path) none = refl

    go : (o : Option Refusal)
        → MatchOption o ((reply ≡ reply_of cases root_len tree call) × (tree' ≡ tree_after cases call tree)) (λ r. (reply ≡ refused r) × (tree' ≡ tree))
        → tree' ≡ tree
    go None h = h.1 ∙ after call unnamed
    go (Some r) h = h.1
