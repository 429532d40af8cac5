-- What names find: by the stored name of an object too, and each object of a storage by its own name.
use Rattle.std.proofs.Common.{◌≡◌, ℕ, Bool, true, false, List, [], ◌∷◌, ◌++◌, refl, sym, ap, ◌∙◌, subst}
use Rattle.std.specs.Prelude.{Option, Some, None, option_and_then, if◌then◌else◌}
use Rattle.std.specs.List.{AllByRecursion}
use Rattle.std.specs.Ordering.{is_eq, ordering_reverse}
use Rattle.std.specs.declared.cmp.Ordering.TheVariants.{Less}
use Rattle.std.proofs.lemmas.Option.{same_Some}
use Rattle.cfb_format.specs.Names.{Cases, name_cmp}
use Rattle.cfb_format.specs.Tree.{StorageInfo, Objects, nothing, storage, stream, Tree, Object, Found, a_storage, a_stream, is_same_name, object_named}
use Rattle.cfb_format.proofs.NameOrder.{name_cmp-total}
use Rattle.cfb_format.proofs.TreeMap.{alike}
use Rattle.cfb_rules.specs.Finding.{child_named, found_from, root_of, found_at, last_name, parent_names}
use Rattle.cfb_rules.proofs.CreatedFound.{same_itself, found_last}

one : (o : Option Found) → option_and_then (λ (x : Found). Some x) o ≡ o
one None = refl
one (Some x) = refl

module _ (cases : Cases) where
  -- what holds of an object holds of all that names find below it, if it goes down to children
  pub found-holds : (Holds : Found → Type 0) → ((x y : Found) (name : List ℕ) → Holds x → child_named cases name x.object ≡ Some y → Holds y)
      → (names : List (List ℕ)) (start found : Found) → Holds start → found_from cases start names ≡ Some found → Holds found
  found-holds Holds down [] start found h e = subst Holds (same_Some start found e) h
  found-holds Holds down (name ∷ names) start found h e = go (child_named cases name start.object) refl e (λ x. found-holds Holds down names x found)
    where
      go : (o : Option Found) → child_named cases name start.object ≡ o → option_and_then (λ (x : Found). found_from cases x names) o ≡ Some found
          → ((x : Found) → Holds x → found_from cases x names ≡ Some found → Holds found) → Holds found
      go None at e next = cc
      go (Some x) at e next = next x (down start x name h at) e

  found-append : (start : Found) (names more : List (List ℕ))
      → found_from cases start (names ++ more) ≡ option_and_then (λ (x : Found). found_from cases x more) (found_from cases start names)
  found-append start [] more = refl
  found-append start (name ∷ names) more = go (child_named cases name start.object) (λ x. found-append x names more)
    where
      go : (o : Option Found)
          → ((x : Found) → found_from cases x (names ++ more) ≡ option_and_then (λ (y : Found). found_from cases y more) (found_from cases x names))
          → option_and_then (λ (x : Found). found_from cases x (names ++ more)) o
          ≡ option_and_then (λ (x : Found). found_from cases x more) (option_and_then (λ (x : Found). found_from cases x names) o)
      go None next = refl
      go (Some x) next = next x

  -- ---- by the stored name

  pub head-found : (name : List ℕ) (x : Found) (rest : Option Found) → (if is_same_name cases name name then Some x else rest) ≡ Some x
  head-found name x rest = ap (λ (b : Bool). if b then Some x else rest) (same_itself cases name)

  -- what an asked name finds has that name's key, and its own name finds it too
  abbrev IsByStored : List ℕ → Objects → Found → Type 0
  IsByStored asked objects found = (is_same_name cases asked found.name ≡ true) × (object_named cases found.name objects ≡ Some found)

  stored-step : (asked other : List ℕ) (object : Object) (old new : Objects) (found : Found)
      → ((q : List ℕ) → object_named cases q new ≡ (if is_same_name cases q other then Some (record { name = other; object = object }) else object_named cases q old))
      → (object_named cases asked old ≡ Some found → IsByStored asked old found) → object_named cases asked new ≡ Some found → IsByStored asked new found
  stored-step asked other object old new found is next e = go (is_same_name cases asked other) refl (sym (is asked) ∙ e)
    where
      go : (b : Bool) → is_same_name cases asked other ≡ b → (if b then Some (record { name = other; object = object }) else object_named cases asked old) ≡ Some found
          → IsByStored asked new found
      go true same e = subst (IsByStored asked new) (same_Some (record { name = other; object = object }) found e)
          (same, is other ∙ head-found other (record { name = other; object = object }) (object_named cases other old))
      go false apart e =
          let below = next e in
          let missed : is_same_name cases found.name other ≡ false = sym (alike cases asked found.name other below.0) ∙ apart in
          (below.0, is found.name ∙ ap (λ (b : Bool). if b then Some (record { name = other; object = object }) else object_named cases found.name old) missed ∙ below.1)

  by-stored : (asked : List ℕ) (objects : Objects) (found : Found) → object_named cases asked objects ≡ Some found → IsByStored asked objects found
  by-stored asked nothing found e = cc
  by-stored asked (storage other info inside rest) found e =
      stored-step asked other (a_storage info inside) rest (storage other info inside rest) found (λ q. refl) (by-stored asked rest found) e
  by-stored asked (stream other info rest) found e =
      stored-step asked other (a_stream info) rest (stream other info rest) found (λ q. refl) (by-stored asked rest found) e

  child-by-stored : (asked : List ℕ) (object : Object) (found : Found) → child_named cases asked object ≡ Some found → child_named cases found.name object ≡ Some found
  child-by-stored asked (a_storage info inside) found e = (by-stored asked inside found e).1
  child-by-stored asked (a_stream info) found e = cc

  pub found-by-stored : (tree : Tree) (name : List ℕ) (names : List (List ℕ)) (found : Found) → found_at cases tree (name ∷ names) ≡ Some found
      → found_at cases tree (parent_names (name ∷ names) ++ found.name ∷ []) ≡ Some found
  found-by-stored tree name names found e =
      found-append (root_of tree) (parent_names (name ∷ names)) (found.name ∷ [])
      ∙ go (found_at cases tree (parent_names (name ∷ names))) (sym (found_last cases (root_of tree) name names) ∙ e)
    where
      go : (o : Option Found) → option_and_then (λ (x : Found). child_named cases (last_name (name ∷ names)) x.object) o ≡ Some found
          → option_and_then (λ (x : Found). found_from cases x (found.name ∷ [])) o ≡ Some found
      go None e = cc
      go (Some x) e = one (child_named cases found.name x.object) ∙ child-by-stored (last_name (name ∷ names)) x.object found e

  -- ---- each object of a storage

  -- a name behind one that rises before it is another one
  later-other : (first later : List ℕ) → name_cmp cases first later ≡ Less → is_same_name cases later first ≡ false
  later-other first later rises = ap is_eq ((name_cmp-total cases).antisymm later first ∙ ap ordering_reverse rises)

  module _ (tree : Tree) where
    -- below these names each of the later ones finds what it names among the objects
    abbrev pub Finds : List (List ℕ) → List (List ℕ) → Objects → Type 0
    Finds names later objects = AllByRecursion (λ (q : List ℕ). found_at cases tree (names ++ q ∷ []) ≡ object_named cases q objects) later

    pub finds-rest : (names : List (List ℕ)) (name : List ℕ) (x : Found) (objects rest : Objects)
        → ((q : List ℕ) → object_named cases q objects ≡ (if is_same_name cases q name then Some x else object_named cases q rest))
        → (later : List (List ℕ)) → AllByRecursion (λ (q : List ℕ). name_cmp cases name q ≡ Less) later → Finds names later objects → Finds names later rest
    finds-rest names name x objects rest is [] rises finds = tt
    finds-rest names name x objects rest is (q ∷ later) rises finds = (
      finds.0 ∙ is q ∙ ap (λ (b : Bool). if b then Some x else object_named cases q rest) (later-other name q rises.0),
      finds-rest names name x objects rest is later rises.1 finds.1,
    )

    pub finds-inside : (names : List (List ℕ)) (name : List ℕ) (info : StorageInfo) (inside : Objects)
        → found_at cases tree names ≡ Some (record { name = name; object = a_storage info inside })
        → (later : List (List ℕ)) → Finds names later inside
    finds-inside names name info inside at [] = tt
    finds-inside names name info inside at (q ∷ later) = (
      found-append (root_of tree) names (q ∷ [])
          ∙ ap (option_and_then (λ (x : Found). found_from cases x (q ∷ []))) at
          ∙ one (object_named cases q inside),
      finds-inside names name info inside at later,
    )
