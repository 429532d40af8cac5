-- What is still to be listed: of each storage the objects that come after those that were listed.
use Rattle.std.proofs.Common.{◌≡◌, ℕ, ◌<◌, true, false, List, [], ◌∷◌, ◌++◌, length, refl, sym, ◌∙◌, ap, subst, arith, append_assoc}
use Rattle.std.specs.Prelude.{Option, Some, None, map, ⊤}
use Rattle.std.proofs.lemmas.List.{length-append, get_or_append_left}
use Rattle.cfb_format.specs.declared.objtype.ObjType.{ObjType}
use Rattle.cfb_format.specs.declared.objtype.ObjType.TheVariants.{Storage, Stream}
use Rattle.cfb_format.specs.Names.{Cases}
use Rattle.cfb_format.specs.Path.{child_path}
use Rattle.cfb_format.specs.DirectoryEntry.{Entry, unallocated_entry}
use Rattle.cfb_format.specs.Siblings.{entry_at, Below}
use Rattle.cfb_format.specs.Reading.{Outline, no_more, storage_at, stream_at, siblings, HasContents}
use Rattle.cfb_format.specs.Meaning.{objects_from}
use Rattle.cfb_outline.specs.Families.{is_storage_kind, IsInside}
use Rattle.cfb_outline.proofs.Insides.{present, no-storage, no-stream}
use Rattle.cfb_rules.specs.Calls.{EntryInfo}
use Rattle.cfb_rules.specs.CallReplies.{walked}
use Rattle.cfb_listing.specs.declared.listing.EntriesOrder.{EntriesOrder}
use Rattle.cfb_listing.specs.declared.listing.EntriesOrder.TheVariants.{Nonrecursive, Preorder}
use Rattle.cfb_listing.specs.declared.listing.Waiting.{Waiting}
use Rattle.cfb_listing.specs.Told.{entry_info}
use Rattle.cfb_listing.specs.Listings.{listed_by}
use Rattle.cfb_listing.specs.Waiting.{waits_in, path_at, is_entered}
use Rattle.cfb_listing.proofs.Telling.{stream-listed, storage-listed, storage-walked, none-listed}

-- the rest of the objects of a storage with this path, which stands at this place of the list, and then those of others
pub data Levels : Type 0 where
  no_level : Levels
  level : (path : List ℕ) → (parent : Option ℕ) → (rest : Outline) → Levels → Levels

-- the objects that wait, and what is listed once they are reached
abbrev pub waiting : Levels → List Waiting
waiting no_level = []
waiting (level path parent rest levels) = map (waits_in parent) (siblings rest) ++ waiting levels

abbrev pub to_come : EntriesOrder → List Entry → (Entry → List ℕ) → Levels → List EntryInfo
to_come order es content no_level = []
to_come order es content (level path parent rest levels) = listed_by order path (objects_from es content rest) ++ to_come order es content levels

-- they are objects of the directory, in storages whose paths the list has
abbrev pub Stand : Cases → List Entry → List ℕ → List EntryInfo → Levels → Type 0
Stand cases es asked list no_level = ⊤
Stand cases es asked list (level path parent rest levels) =
    HasContents cases es rest × IsInside list parent × (path_at asked list parent ≡ path) × Stand cases es asked list levels

-- ---- a longer list

grown-inside : (list : List EntryInfo) (x : EntryInfo) (parent : Option ℕ) → IsInside list parent → IsInside (list ++ x ∷ []) parent
grown-inside list x None i = tt
grown-inside list x (Some k) i = omega (arith, i, length-append list (x ∷ []))

grown-path : (asked : List ℕ) (list : List EntryInfo) (x : EntryInfo) (parent : Option ℕ) → IsInside list parent → path_at asked (list ++ x ∷ []) parent ≡ path_at asked list parent
grown-path asked list x None i = refl
grown-path asked list x (Some k) i = ap (λ (e : EntryInfo). e.path) (get_or_append_left list (x ∷ []) (entry_info [] unallocated_entry) k i)

pub grown : (cases : Cases) (es : List Entry) (asked : List ℕ) (list : List EntryInfo) (x : EntryInfo) (levels : Levels) → Stand cases es asked list levels → Stand cases es asked (list ++ x ∷ []) levels
grown cases es asked list x no_level s = tt
grown cases es asked list x (level path parent rest levels) (c, i, p, s) =
    (c, grown-inside list x parent i, grown-path asked list x parent i ∙ p, grown cases es asked list x levels s)

-- ---- the next object

-- where the next object stands, and that something is to be listed
pub record Next (es : List Entry) (list : List EntryInfo) (w : Waiting) (come : List EntryInfo) : Type 0 where
  pub within : w.number < length es
  pub parent : IsInside list w.parent
  pub some : 0 < length come

-- it is listed, and what is in it is not
pub record Passed (order : EntriesOrder) (cases : Cases) (es : List Entry) (content : Entry → List ℕ) (asked : List ℕ) (list : List EntryInfo) (w : Waiting) (later : List Waiting)
    (come : List EntryInfo) : Type 0 where
  pub levels : Levels
  pub stand : Stand cases es asked list levels
  pub here : waiting levels ≡ later
  pub told : come ≡ entry_info (child_path (path_at asked list w.parent) (entry_at es w.number).name) (entry_at es w.number) ∷ to_come order es content levels

-- it is listed, and what is in it comes next
pub record Entered (order : EntriesOrder) (cases : Cases) (es : List Entry) (content : Entry → List ℕ) (asked : List ℕ) (list : List EntryInfo) (w : Waiting) (later : List Waiting)
    (come : List EntryInfo) : Type 0 where
  pub inside : Outline
  pub below : Below cases es (entry_at es w.number).child (siblings inside)
  pub contents : HasContents cases es inside
  pub levels : Levels
  pub stand : Stand cases es asked list levels
  pub here : waiting levels ≡ later
  pub told : come ≡ entry_info (child_path (path_at asked list w.parent) (entry_at es w.number).name) (entry_at es w.number)
      ∷ (listed_by order (child_path (path_at asked list w.parent) (entry_at es w.number).name) (objects_from es content inside) ++ to_come order es content levels)

-- one that is a storage and is passed, or entered, tells the order
passed-storage : (order : EntriesOrder) (kind : ObjType) → kind ≡ Storage → is_entered order kind ≡ false → order ≡ Nonrecursive
passed-storage Nonrecursive kind k e = refl
passed-storage Preorder kind k e = let f : is_storage_kind Storage ≡ false = subst (λ t. is_storage_kind t ≡ false) k e in cc

entered-order : (order : EntriesOrder) (kind : ObjType) → is_entered order kind ≡ true → order ≡ Preorder
entered-order Nonrecursive kind e = cc
entered-order Preorder kind e = refl

not-entered : (order : EntriesOrder) (kind : ObjType) → kind ≡ Stream → is_entered order kind ≡ true → ⊥
not-entered Nonrecursive kind k e = cc
not-entered Preorder kind k e = let f : is_storage_kind Stream ≡ true = subst (λ t. is_storage_kind t ≡ true) k e in cc

-- a storage is told, whatever follows
storage-counts : (order : EntriesOrder) (es : List Entry) (content : Entry → List ℕ) (path : List ℕ) (i : ℕ) (inside rest : Outline) → (entry_at es i).obj_type ≡ Storage
    → 0 < length (listed_by order path (objects_from es content (storage_at i inside rest)))
storage-counts Nonrecursive es content path i inside rest kind = let e = ap (length {A = EntryInfo}) (storage-listed es content path i inside rest kind) in omega (arith, e)
storage-counts Preorder es content path i inside rest kind = let e = ap (length {A = EntryInfo}) (storage-walked es content path i inside rest kind) in omega (arith, e)

pub next-in : (order : EntriesOrder) (cases : Cases) (es : List Entry) (content : Entry → List ℕ) (asked : List ℕ) (list : List EntryInfo) (w : Waiting) (later : List Waiting) (levels : Levels)
    → Stand cases es asked list levels → waiting levels ≡ w ∷ later → Next es list w (to_come order es content levels)
next-in order cases es content asked list w later no_level s e = cc
next-in order cases es content asked list w later (level path parent no_more levels) s e =
    let n = next-in order cases es content asked list w later levels s.3 e in
    record {
      within = n.within;
      parent = n.parent;
      some = omega (arith, n.some, length-append (listed_by order path (objects_from es content no_more)) (to_come order es content levels));
    }
next-in order cases es content asked list w later (level path parent (stream_at i rest) levels) s e =
    let e0 : waits_in parent i ≡ w = cc in
    let more = ap (length {A = EntryInfo}) (stream-listed es content path i order rest s.0.0) in
    record {
      within = subst (λ (n : ℕ). n < length es) (ap (λ (x : Waiting). x.number) e0) (present es i Stream no-stream s.0.0);
      parent = subst (IsInside list) (ap (λ (x : Waiting). x.parent) e0) s.1;
      some = omega (arith, more, length-append (listed_by order path (objects_from es content (stream_at i rest))) (to_come order es content levels));
    }
next-in order cases es content asked list w later (level path parent (storage_at i inside rest) levels) s e =
    let e0 : waits_in parent i ≡ w = cc in
    record {
      within = subst (λ (n : ℕ). n < length es) (ap (λ (x : Waiting). x.number) e0) (present es i Storage no-storage s.0.0);
      parent = subst (IsInside list) (ap (λ (x : Waiting). x.parent) e0) s.1;
      some = omega (
        arith,
        storage-counts order es content path i inside rest s.0.0,
        length-append (listed_by order path (objects_from es content (storage_at i inside rest))) (to_come order es content levels),
      );
    }

-- what is told of the next object
told-next : (es : List Entry) (asked : List ℕ) (list : List EntryInfo) (path : List ℕ) (parent : Option ℕ) (i : ℕ) (w : Waiting) → waits_in parent i ≡ w → path_at asked list parent ≡ path
    → entry_info (child_path path (entry_at es i).name) (entry_at es i)
    ≡ entry_info (child_path (path_at asked list w.parent) (entry_at es w.number).name) (entry_at es w.number)
told-next es asked list path parent i w e0 p =
    ap (λ (q : List ℕ). entry_info (child_path q (entry_at es i).name) (entry_at es i)) (sym p)
    ∙ ap (λ (x : Waiting). entry_info (child_path (path_at asked list x.parent) (entry_at es x.number).name) (entry_at es x.number)) e0

pub pass : (order : EntriesOrder) (cases : Cases) (es : List Entry) (content : Entry → List ℕ) (asked : List ℕ) (list : List EntryInfo) (w : Waiting) (later : List Waiting) (levels : Levels)
    → Stand cases es asked list levels → waiting levels ≡ w ∷ later → is_entered order (entry_at es w.number).obj_type ≡ false
    → Passed order cases es content asked list w later (to_come order es content levels)
pass order cases es content asked list w later no_level s e f = cc
pass order cases es content asked list w later (level path parent no_more levels) s e f =
    let p = pass order cases es content asked list w later levels s.3 e f in
    record {
      levels = p.levels;
      stand = p.stand;
      here = p.here;
      told = ap (λ xs. xs ++ to_come order es content levels) (none-listed es content order path) ∙ p.told;
    }
pass order cases es content asked list w later (level path parent (stream_at i rest) levels) s e f =
    let e0 : waits_in parent i ≡ w = cc in
    let e1 : map (waits_in parent) (siblings rest) ++ waiting levels ≡ later = cc in
    record {
      levels = level path parent rest levels;
      stand = (s.0.1, s.1, s.2, s.3);
      here = e1;
      told = ap (λ xs. xs ++ to_come order es content levels) (stream-listed es content path i order rest s.0.0)
          ∙ ap (λ x. x ∷ (listed_by order path (objects_from es content rest) ++ to_come order es content levels)) (told-next es asked list path parent i w e0 s.2);
    }
pass order cases es content asked list w later (level path parent (storage_at i inside rest) levels) s e f =
    let e0 : waits_in parent i ≡ w = cc in
    let e1 : map (waits_in parent) (siblings rest) ++ waiting levels ≡ later = cc in
    let kind : (entry_at es w.number).obj_type ≡ Storage = subst (λ (n : ℕ). (entry_at es n).obj_type ≡ Storage) (ap (λ (x : Waiting). x.number) e0) s.0.0 in
    let flat : order ≡ Nonrecursive = passed-storage order (entry_at es w.number).obj_type kind f in
    record {
      levels = level path parent rest levels;
      stand = (s.0.3, s.1, s.2, s.3);
      here = e1;
      told = subst (λ (o : EntriesOrder). to_come o es content (level path parent (storage_at i inside rest) levels)
          ≡ entry_info (child_path (path_at asked list w.parent) (entry_at es w.number).name) (entry_at es w.number) ∷ to_come o es content (level path parent rest levels)) (sym flat)
          (ap (λ xs. xs ++ to_come Nonrecursive es content levels) (storage-listed es content path i inside rest s.0.0)
          ∙ ap (λ x. x ∷ (listed_by Nonrecursive path (objects_from es content rest) ++ to_come Nonrecursive es content levels)) (told-next es asked list path parent i w e0 s.2));
    }

pub enter : (order : EntriesOrder) (cases : Cases) (es : List Entry) (content : Entry → List ℕ) (asked : List ℕ) (list : List EntryInfo) (w : Waiting) (later : List Waiting) (levels : Levels)
    → Stand cases es asked list levels → waiting levels ≡ w ∷ later → is_entered order (entry_at es w.number).obj_type ≡ true
    → Entered order cases es content asked list w later (to_come order es content levels)
enter order cases es content asked list w later no_level s e t = cc
enter order cases es content asked list w later (level path parent no_more levels) s e t =
    let n = enter order cases es content asked list w later levels s.3 e t in
    record {
      inside = n.inside;
      below = n.below;
      contents = n.contents;
      levels = n.levels;
      stand = n.stand;
      here = n.here;
      told = ap (λ xs. xs ++ to_come order es content levels) (none-listed es content order path) ∙ n.told;
    }
enter order cases es content asked list w later (level path parent (stream_at i rest) levels) s e t =
    let e0 : waits_in parent i ≡ w = cc in
    let kind : (entry_at es w.number).obj_type ≡ Stream = subst (λ (n : ℕ). (entry_at es n).obj_type ≡ Stream) (ap (λ (x : Waiting). x.number) e0) s.0.0 in
    absurd (not-entered order (entry_at es w.number).obj_type kind t)
enter order cases es content asked list w later (level path parent (storage_at i inside rest) levels) s e t =
    let e0 : waits_in parent i ≡ w = cc in
    let e1 : map (waits_in parent) (siblings rest) ++ waiting levels ≡ later = cc in
    let n : i ≡ w.number = ap (λ (x : Waiting). x.number) e0 in
    let deep : order ≡ Preorder = entered-order order (entry_at es w.number).obj_type t in
    let info = told-next es asked list path parent i w e0 s.2 in
    let deeper : child_path path (entry_at es i).name ≡ child_path (path_at asked list w.parent) (entry_at es w.number).name =
    ap (λ (q : List ℕ). child_path q (entry_at es i).name) (sym s.2) ∙ ap (λ (x : Waiting). child_path (path_at asked list x.parent) (entry_at es x.number).name) e0 in
    record {
      inside = inside;
      below = subst (λ (k : ℕ). Below cases es (entry_at es k).child (siblings inside)) n s.0.1;
      contents = s.0.2;
      levels = level path parent rest levels;
      stand = (s.0.3, s.1, s.2, s.3);
      here = e1;
      told = subst (λ (o : EntriesOrder). to_come o es content (level path parent (storage_at i inside rest) levels)
          ≡ entry_info (child_path (path_at asked list w.parent) (entry_at es w.number).name) (entry_at es w.number)
          ∷ (listed_by o (child_path (path_at asked list w.parent) (entry_at es w.number).name) (objects_from es content inside) ++ to_come o es content (level path parent rest levels))) (sym deep)
          (ap (λ xs. xs ++ to_come Preorder es content levels) (storage-walked es content path i inside rest s.0.0)
          ∙ ap (λ xs. entry_info (child_path path (entry_at es i).name) (entry_at es i) ∷ xs)
          (append_assoc (walked (child_path path (entry_at es i).name) (objects_from es content inside)) (walked path (objects_from es content rest)) (to_come Preorder es content levels))
          ∙ (λ k. info k ∷ (walked (deeper k) (objects_from es content inside) ++ (walked path (objects_from es content rest) ++ to_come Preorder es content levels))));
    }

pub none-come : (order : EntriesOrder) (es : List Entry) (content : Entry → List ℕ) (levels : Levels) → waiting levels ≡ [] → to_come order es content levels ≡ []
none-come order es content no_level e = refl
none-come order es content (level path parent no_more levels) e = ap (λ xs. xs ++ to_come order es content levels) (none-listed es content order path) ∙ none-come order es content levels e
none-come order es content (level path parent (stream_at i rest) levels) e = cc
none-come order es content (level path parent (storage_at i inside rest) levels) e = cc
