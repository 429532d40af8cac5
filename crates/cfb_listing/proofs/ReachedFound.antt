-- What a walk reaches is found by its path, and so is what is listed of a storage.
use Rattle.std.proofs.Common.{◌≡◌, ℕ, Bool, true, List, [], ◌∷◌, ◌++◌, refl, sym, ap, ◌∙◌, subst}
use Rattle.std.specs.Prelude.{Option, Some, None, option_map, MatchOption, ◌&&◌, map}
use Rattle.std.specs.List.{list_all, All}
use Rattle.std.specs.Option.{option_map_or}
use Rattle.std.proofs.lemmas.List.{map-append}
use Rattle.std.proofs.lemmas.List.Elements.{All-nil, All-cons, All-append}
use Rattle.std.proofs.lemmas.List.Folds.{list_all-append}
use Rattle.cfb_format.specs.declared.objtype.ObjType.TheVariants.{Storage}
use Rattle.cfb_format.specs.Names.{Cases}
use Rattle.cfb_format.specs.Path.{names_of_path, path_of_names, is_plain_name, child_path}
use Rattle.cfb_format.specs.Tree.{Objects, nothing, storage, stream, names_in, IsOrdered, Tree, Object, Found, a_storage, a_stream, object_named}
use Rattle.cfb_codecs.proofs.PathBack.{names-back}
use Rattle.cfb_rules.specs.Refusal.{Refusal, not_found, invalid_input}
use Rattle.cfb_rules.specs.Calls.{EntryInfo, Reply, entry, one_entry, entries, refused}
use Rattle.cfb_rules.specs.Finding.{child_named, root_of, found_at, parent_names}
use Rattle.cfb_rules.specs.CallRefusals.{always, object_refusal, path_refusal}
use Rattle.cfb_rules.specs.CallReplies.{storage_entry, stream_entry, object_entry, root_info, listed, listed_object, walked, walked_object, entry_reply, path_reply}
use Rattle.cfb_rules.specs.Steps.{Step}
use Rattle.cfb_rules.proofs.FoundAfter.{IsOrderedInside, IsOrderedFound, named_ordered}
use Rattle.cfb_listing.specs.PathLaws.{ReachedIsWalked, IsFoundByPath, PlainWalkedAreFound, PlainListedAreFound}
use Rattle.cfb_listing.specs.Reached.{Reached, reached, reached_object, reached_from}
use Rattle.cfb_listing.proofs.FoundNames.{found-holds, head-found, found-by-stored, Finds, finds-rest, finds-inside}
use Rattle.cfb_listing.proofs.PathNames.{path-plain}
use Rattle.cfb_listing.proofs.PlainPaths.{both, child-of-names}

-- ---- the walk

told-along : (names : List (List ℕ)) (path : List ℕ) (objects : Objects) → map (λ (r : Reached). r.told) (reached names path objects) ≡ walked path objects
told-along names path nothing = refl
told-along names path (storage name info inside rest) =
    let below = child_path path name in
    let here = storage_entry Storage 0 below name info in
    ap (λ (list : List EntryInfo). here ∷ list)
    (map-append (λ (r : Reached). r.told) (reached (names ++ name ∷ []) below inside) (reached names path rest)
    ∙ ap (λ (list : List EntryInfo). list ++ map (λ (r : Reached). r.told) (reached names path rest)) (told-along (names ++ name ∷ []) below inside)
    ∙ ap (λ (list : List EntryInfo). walked below inside ++ list) (told-along names path rest))
told-along names path (stream name info rest) =
    ap (λ (list : List EntryInfo). stream_entry (child_path path name) name info ∷ list) (told-along names path rest)

object-told : (parents : List (List ℕ)) (path name : List ℕ) (object : Object) → map (λ (r : Reached). r.told) (reached_object parents path name object) ≡ walked_object path name object
object-told parents path name (a_storage info inside) =
    ap (λ (list : List EntryInfo). storage_entry Storage 0 path name info ∷ list) (told-along (parents ++ name ∷ []) path inside)
object-told parents path name (a_stream info) = refl

pub same-entries : (a b : List EntryInfo) → ◌≡◌ {A = Reply} (entries a) (entries b) → a ≡ b
same-entries a b e = cc

pub reached-walked : ReachedIsWalked
reached-walked cases root_len tree [] list e =
    ap (λ (rest : List EntryInfo). root_info root_len tree ∷ rest) (told-along [] (path_of_names []) tree.objects)
    ∙ same-entries (root_info root_len tree ∷ walked (path_of_names []) tree.objects) list e
reached-walked cases root_len tree (name ∷ names) list e = go (found_at cases tree (name ∷ names)) e
  where
    go : (o : Option Found)
        → option_map_or (λ (x : Found). entries (walked_object (child_path (path_of_names (parent_names (name ∷ names))) x.name) x.name x.object)) o (refused not_found) ≡ entries list
        → map (λ (r : Reached). r.told)
        (option_map_or (λ (x : Found). reached_object (parent_names (name ∷ names)) (child_path (path_of_names (parent_names (name ∷ names))) x.name) x.name x.object) o [])
        ≡ list
    go None e = cc
    go (Some x) e =
        let path = child_path (path_of_names (parent_names (name ∷ names))) x.name in
        object-told (parent_names (name ∷ names)) path x.name x.object ∙ same-entries (walked_object path x.name x.object) list e

-- ---- by path

-- a child's path is that of one name more
child-path-is : (names : List (List ℕ)) (path name : List ℕ) → (list_all is_plain_name names ≡ true → path ≡ path_of_names names)
    → list_all is_plain_name (names ++ name ∷ []) ≡ true → child_path path name ≡ path_of_names (names ++ name ∷ [])
child-path-is names path name path-is plain =
    let before = (both (list_all is_plain_name names) (list_all is_plain_name (name ∷ [])) (sym (list_all-append is_plain_name names (name ∷ [])) ∙ plain)).0 in
    ap (λ (p : List ℕ). child_path p name) (path-is before) ∙ child-of-names names name before

module _ (cases : Cases) (sound : Bool) (root_len : ℕ) (tree : Tree) where
  -- what the call answers where its path has these names, and these find something
  step-found : (path : List ℕ) (names : List (List ℕ)) (x : Found) (told : EntryInfo)
      → names_of_path path ≡ Some names → found_at cases tree names ≡ Some x → entry_reply cases root_len tree names ≡ one_entry told
      → Step cases sound root_len tree (entry path) (one_entry told) tree
  step-found path names x told at found answers =
      let rule = λ (ns : List (List ℕ)). object_refusal always (option_map (λ (f : Found). f.object) (found_at cases tree ns)) in
      let passed : path_refusal rule path ≡ None =
      ap (λ (o : Option (List (List ℕ))). option_map_or rule o (Some invalid_input)) at ∙ ap (λ (o : Option Found). object_refusal always (option_map (λ (f : Found). f.object) o)) found in
      let told-is : one_entry told ≡ path_reply (entry_reply cases root_len tree) path =
      sym (ap (λ (o : Option (List (List ℕ))). option_map_or (entry_reply cases root_len tree) o (refused invalid_input)) at ∙ answers) in
      subst (λ (o : Option Refusal). MatchOption (option_map_or (λ (r : Refusal). Some r) o None)
      ((one_entry told ≡ path_reply (entry_reply cases root_len tree) path) × (tree ≡ tree))
      (λ r. (one_entry told ≡ refused r) × (tree ≡ tree))) (sym passed) (told-is, refl)

  reply-below : (names : List (List ℕ)) (name : List ℕ) (x : Found) → found_at cases tree (names ++ name ∷ []) ≡ Some x
      → entry_reply cases root_len tree (names ++ name ∷ []) ≡ one_entry (object_entry (path_of_names (names ++ name ∷ [])) x.name x.object)
  reply-below [] name x found =
      ap (λ (o : Option Found). option_map_or (λ (f : Found). one_entry (object_entry (path_of_names (name ∷ [])) f.name f.object)) o (refused not_found)) found
  reply-below (first ∷ rest) name x found =
      ap (λ (o : Option Found). option_map_or (λ (f : Found). one_entry (object_entry (path_of_names (first ∷ (rest ++ name ∷ []))) f.name f.object)) o (refused not_found)) found

  -- what stands at the names of a parent and at its own stored name is found by the path that is told
  child-found : (names : List (List ℕ)) (path name : List ℕ) (object : Object)
      → (list_all is_plain_name names ≡ true → path ≡ path_of_names names)
      → found_at cases tree (names ++ name ∷ []) ≡ Some (record { name = name; object = object })
      → list_all is_plain_name (names ++ name ∷ []) ≡ true
      → Step cases sound root_len tree (entry (child_path path name)) (one_entry (object_entry (child_path path name) name object)) tree
  child-found names path name object path-is found plain =
      let here = child-path-is names path name path-is plain in
      let entry_of = λ (p : List ℕ). object_entry p name object in
      subst (λ (p : List ℕ). Step cases sound root_len tree (entry p) (one_entry (entry_of p)) tree) (sym here)
      (step-found (path_of_names (names ++ name ∷ [])) (names ++ name ∷ []) (record { name = name; object = object }) (entry_of (path_of_names (names ++ name ∷ [])))
      (names-back (names ++ name ∷ []) plain) found (reply-below names name (record { name = name; object = object }) found))

  -- ---- of a walk

  abbrev Promised : Reached → Type 0
  Promised r = list_all is_plain_name r.names ≡ true → IsFoundByPath cases sound root_len tree r.told

  inside-found : (names : List (List ℕ)) (path : List ℕ) (objects : Objects)
      → (list_all is_plain_name names ≡ true → path ≡ path_of_names names) → Finds cases tree names (names_in objects) objects → IsOrdered cases objects
      → All Promised (reached names path objects)
  inside-found names path nothing path-is finds ordered = All-nil Promised
  inside-found names path (storage name info inside rest) path-is finds ordered =
      let x : Found = record { name = name; object = a_storage info inside } in
      let here = finds.0 ∙ head-found cases name x (object_named cases name rest) in
      let first : Reached = record { names = names ++ name ∷ []; told = storage_entry Storage 0 (child_path path name) name info } in
      let below = names ++ name ∷ [] in
      All-cons Promised first (reached below (child_path path name) inside ++ reached names path rest)
      (child-found names path name (a_storage info inside) path-is here)
      (All-append Promised (reached below (child_path path name) inside) (reached names path rest)
      (inside-found below (child_path path name) inside (child-path-is names path name path-is)
      (finds-inside cases tree below name info inside here (names_in inside)) ordered.1)
      (inside-found names path rest path-is
      (finds-rest cases tree names name x (storage name info inside rest) rest (λ q. refl) (names_in rest) ordered.0 finds.1) ordered.2))
  inside-found names path (stream name info rest) path-is finds ordered =
      let x : Found = record { name = name; object = a_stream info } in
      let here = finds.0 ∙ head-found cases name x (object_named cases name rest) in
      let first : Reached = record { names = names ++ name ∷ []; told = stream_entry (child_path path name) name info } in
      All-cons Promised first (reached names path rest)
      (child-found names path name (a_stream info) path-is here)
      (inside-found names path rest path-is
      (finds-rest cases tree names name x (stream name info rest) rest (λ q. refl) (names_in rest) ordered.0 finds.1) ordered.1)

  object-found : (parents : List (List ℕ)) (name : List ℕ) (object : Object) → found_at cases tree (parents ++ name ∷ []) ≡ Some (record { name = name; object = object })
      → IsOrderedInside cases object → All Promised (reached_object parents (child_path (path_of_names parents) name) name object)
  object-found parents name (a_storage info inside) found ordered =
      let path = child_path (path_of_names parents) name in
      let first : Reached = record { names = parents ++ name ∷ []; told = storage_entry Storage 0 path name info } in
      All-cons Promised first (reached (parents ++ name ∷ []) path inside)
      (child-found parents (path_of_names parents) name (a_storage info inside) (λ plain. refl) found)
      (inside-found (parents ++ name ∷ []) path inside (child-path-is parents (path_of_names parents) name (λ plain. refl))
      (finds-inside cases tree (parents ++ name ∷ []) name info inside found (names_in inside)) ordered)
  object-found parents name (a_stream info) found ordered =
      let first : Reached = record { names = parents ++ name ∷ []; told = stream_entry (child_path (path_of_names parents) name) name info } in
      All-cons Promised first [] (child-found parents (path_of_names parents) name (a_stream info) (λ plain. refl) found) (All-nil Promised)

  child-ordered : (x y : Found) (name : List ℕ) → IsOrderedInside cases x.object → child_named cases name x.object ≡ Some y → IsOrderedInside cases y.object
  child-ordered x y name ordered e = subst (IsOrderedFound cases) e (go x.object ordered)
    where
      go : (object : Object) → IsOrderedInside cases object → IsOrderedFound cases (child_named cases name object)
      go (a_storage info inside) o = named_ordered cases name inside o
      go (a_stream info) o = tt

  found-ordered : (names : List (List ℕ)) (x : Found) → IsOrdered cases tree.objects → found_at cases tree names ≡ Some x → IsOrderedInside cases x.object
  found-ordered names x ordered e = found-holds cases (λ (y : Found). IsOrderedInside cases y.object) child-ordered names (root_of tree) x ordered e

  walk-found : (names : List (List ℕ)) → IsOrdered cases tree.objects → All Promised (reached_from cases root_len tree names)
  walk-found [] ordered =
      All-cons Promised (record { names = []; told = root_info root_len tree }) (reached [] (path_of_names []) tree.objects)
      (λ plain. step-found (path_of_names []) [] (root_of tree) (root_info root_len tree) (names-back [] refl) refl refl)
      (inside-found [] (path_of_names []) tree.objects (λ plain. refl) (finds-inside cases tree [] (root_of tree).name tree.root tree.objects refl (names_in tree.objects)) ordered)
  walk-found (name ∷ names) ordered = go (found_at cases tree (name ∷ names)) refl
    where
      go : (o : Option Found) → found_at cases tree (name ∷ names) ≡ o
          → All Promised (option_map_or (λ (x : Found). reached_object (parent_names (name ∷ names)) (child_path (path_of_names (parent_names (name ∷ names))) x.name) x.name x.object) o [])
      go None e = All-nil Promised
      go (Some x) e = object-found (parent_names (name ∷ names)) x.name x.object (found-by-stored cases tree name names x e) (found-ordered (name ∷ names) x ordered e)

  -- ---- of what is listed

  abbrev ListedWell : EntryInfo → Type 0
  ListedWell told = is_plain_name told.name ≡ true → IsFoundByPath cases sound root_len tree told

  last-plain : (names : List (List ℕ)) (name : List ℕ) → list_all is_plain_name names ≡ true → is_plain_name name ≡ true → list_all is_plain_name (names ++ name ∷ []) ≡ true
  last-plain names name all plain =
      list_all-append is_plain_name names (name ∷ []) ∙ ap (λ (b : Bool). b && (is_plain_name name && true)) all ∙ ap (λ (b : Bool). b && true) plain

  listed-found : (names : List (List ℕ)) (objects : Objects) → list_all is_plain_name names ≡ true → Finds cases tree names (names_in objects) objects → IsOrdered cases objects
      → All ListedWell (listed (path_of_names names) objects)
  listed-found names nothing all finds ordered = All-nil ListedWell
  listed-found names (storage name info inside rest) all finds ordered =
      let x : Found = record { name = name; object = a_storage info inside } in
      let here = finds.0 ∙ head-found cases name x (object_named cases name rest) in
      let path = path_of_names names in
      All-cons ListedWell (storage_entry Storage 0 (child_path path name) name info) (listed path rest)
      (λ plain. child-found names path name (a_storage info inside) (λ p. refl) here (last-plain names name all plain))
      (listed-found names rest all (finds-rest cases tree names name x (storage name info inside rest) rest (λ q. refl) (names_in rest) ordered.0 finds.1) ordered.2)
  listed-found names (stream name info rest) all finds ordered =
      let x : Found = record { name = name; object = a_stream info } in
      let here = finds.0 ∙ head-found cases name x (object_named cases name rest) in
      let path = path_of_names names in
      All-cons ListedWell (stream_entry (child_path path name) name info) (listed path rest)
      (λ plain. child-found names path name (a_stream info) (λ p. refl) here (last-plain names name all plain))
      (listed-found names rest all (finds-rest cases tree names name x (stream name info rest) rest (λ q. refl) (names_in rest) ordered.0 finds.1) ordered.1)

  children-found : (names : List (List ℕ)) (name : List ℕ) (object : Object) → list_all is_plain_name names ≡ true
      → found_at cases tree names ≡ Some (record { name = name; object = object }) → IsOrderedInside cases object → All ListedWell (listed_object (path_of_names names) object)
  children-found names name (a_storage info inside) all found ordered =
      listed-found names inside all (finds-inside cases tree names name info inside found (names_in inside)) ordered
  children-found names name (a_stream info) all found ordered = All-nil ListedWell

  read-found : (names : List (List ℕ)) (list : List EntryInfo) (o : Option Found) → list_all is_plain_name names ≡ true → IsOrdered cases tree.objects → found_at cases tree names ≡ o
      → option_map_or (λ (x : Found). entries (listed_object (path_of_names names) x.object)) o (refused not_found) ≡ entries list
      → All ListedWell list
  read-found names list None all ordered at e = cc
  read-found names list (Some x) all ordered at e =
      subst (All ListedWell) (same-entries (listed_object (path_of_names names) x.object) list e)
      (children-found names x.name x.object all at (found-ordered names x ordered at))

pub plain-walked : PlainWalkedAreFound
plain-walked cases sound root_len tree names ordered = walk-found cases sound root_len tree names ordered

pub plain-listed : PlainListedAreFound
plain-listed cases sound root_len tree path names list ordered at e =
    read-found cases sound root_len tree names list (found_at cases tree names) (path-plain path names at) ordered refl e
