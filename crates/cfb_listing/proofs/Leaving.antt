-- What was listed of a storage, and what is still to come.
use Rattle.std.proofs.Common.{◌≡◌, ℕ, ◌+◌, ◌<◌, ◌≤◌, true, false, List, [], ◌∷◌, ◌++◌, length, refl, sym, ◌∙◌, ap, subst, arith, append_assoc, append-nil, reverse}
use Rattle.std.specs.Prelude.{Option, Some, None, map}
use Rattle.std.proofs.lemmas.List.{length-append, map-append, reverse-append, reverse-reverse}
use Rattle.std.proofs.Math.Seq.{get_or-append_seam}
use Rattle.cfb_format.specs.Names.{Cases}
use Rattle.cfb_format.specs.Path.{child_path}
use Rattle.cfb_format.specs.DirectoryEntry.{Entry, unallocated_entry}
use Rattle.cfb_format.specs.Siblings.{entry_at, Below}
use Rattle.cfb_format.specs.Reading.{Outline, no_more, storage_at, stream_at, siblings, numbers, HasContents}
use Rattle.cfb_format.specs.Meaning.{objects_from}
use Rattle.cfb_outline.specs.Families.{IsInside}
use Rattle.cfb_outline.specs.Outlines.{HasInside, IsReachedStorage}
use Rattle.cfb_outline.proofs.Counts.{tally-length}
use Rattle.cfb_outline.proofs.Insides.{storage-is-inside, contents-past}
use Rattle.cfb_rules.specs.Calls.{EntryInfo}
use Rattle.cfb_rules.specs.CallReplies.{listed, walked}
use Rattle.cfb_listing.specs.declared.listing.EntriesOrder.{EntriesOrder}
use Rattle.cfb_listing.specs.declared.listing.EntriesOrder.TheVariants.{Nonrecursive, Preorder}
use Rattle.cfb_listing.specs.declared.listing.Waiting.{Waiting}
use Rattle.cfb_listing.specs.Told.{entry_info}
use Rattle.cfb_listing.specs.Listings.{listed_by}
use Rattle.cfb_listing.specs.Waiting.{waits_in, path_at, is_entered}
use Rattle.cfb_listing.proofs.Levels.{Levels, no_level, level, waiting, to_come, Stand, Next, grown, next-in, pass, enter, none-come}

-- of all that is to be listed so much is in the list, and the rest comes when these were reached
pub record Left (order : EntriesOrder) (cases : Cases) (es : List Entry) (content : Entry → List ℕ) (asked : List ℕ) (all : List EntryInfo) (waits : List Waiting) (list : List EntryInfo) : Type 0 where
  pub levels : Levels
  pub stand : Stand cases es asked list levels
  pub here : waiting levels ≡ waits
  pub all_is : all ≡ list ++ to_come order es content levels

-- one more of it
one-more : (list : List EntryInfo) (x : EntryInfo) (come : List EntryInfo) → list ++ x ∷ come ≡ (list ++ x ∷ []) ++ come
one-more list x come = sym (append_assoc list (x ∷ []) come)

module _ (order : EntriesOrder) (cases : Cases) (es : List Entry) (content : Entry → List ℕ) (asked : List ℕ) where
  pub left-start : (inside : Outline) (list : List EntryInfo) → HasContents cases es inside
      → Left order cases es content asked (list ++ listed_by order asked (objects_from es content inside)) (map (waits_in None) (siblings inside)) list
  left-start inside list contents = record {
    levels = level asked None inside no_level;
    stand = (contents, tt, refl, tt);
    here = append-nil (map (waits_in None) (siblings inside));
    all_is = ap (λ xs. list ++ xs) (sym (append-nil (listed_by order asked (objects_from es content inside))));
  }

  pub left-next : (all : List EntryInfo) (w : Waiting) (later : List Waiting) (list : List EntryInfo) (left : Left order cases es content asked all (w ∷ later) list)
      → Next es list w (to_come order es content left.levels)
  left-next all w later list left = next-in order cases es content asked list w later left.levels left.stand left.here

  pub left-pass : (all : List EntryInfo) (w : Waiting) (later : List Waiting) (list : List EntryInfo) (x : EntryInfo) → Left order cases es content asked all (w ∷ later) list
      → is_entered order (entry_at es w.number).obj_type ≡ false
      → x ≡ entry_info (child_path (path_at asked list w.parent) (entry_at es w.number).name) (entry_at es w.number)
      → Left order cases es content asked all later (list ++ x ∷ [])
  left-pass all w later list x left flat is =
      let p = pass order cases es content asked list w later left.levels left.stand left.here flat in
      record {
        levels = p.levels;
        stand = grown cases es asked list x p.levels p.stand;
        here = p.here;
        all_is = left.all_is ∙ ap (λ xs. list ++ xs) (p.told ∙ ap (λ y. y ∷ to_come order es content p.levels) (sym is)) ∙ one-more list x (to_come order es content p.levels);
      }

  -- the objects in the storage come next
  pub record Opened (all : List EntryInfo) (w : Waiting) (later : List Waiting) (list : List EntryInfo) (x : EntryInfo) : Type 0 where
    pub inside : Outline
    pub below : Below cases es (entry_at es w.number).child (siblings inside)
    pub left : Left order cases es content asked all (map (waits_in (Some (length list))) (siblings inside) ++ later) (list ++ x ∷ [])

  pub left-enter : (all : List EntryInfo) (w : Waiting) (later : List Waiting) (list : List EntryInfo) (x : EntryInfo) → Left order cases es content asked all (w ∷ later) list
      → is_entered order (entry_at es w.number).obj_type ≡ true
      → x ≡ entry_info (child_path (path_at asked list w.parent) (entry_at es w.number).name) (entry_at es w.number)
      → Opened all w later list x
  left-enter all w later list x left deep is =
      let n = enter order cases es content asked list w later left.levels left.stand left.here deep in
      let path = child_path (path_at asked list w.parent) (entry_at es w.number).name in
      let here : path_at asked (list ++ x ∷ []) (Some (length list)) ≡ path =
      ap (λ (e : EntryInfo). e.path) (get_or-append_seam list x [] (entry_info [] unallocated_entry) ∙ is) in
      record {
        inside = n.inside;
        below = n.below;
        left = record {
          levels = level path (Some (length list)) n.inside n.levels;
          stand = (n.contents, omega (arith, length-append list (x ∷ [])), here, grown cases es asked list x n.levels n.stand);
          here = ap (λ ws. map (waits_in (Some (length list))) (siblings n.inside) ++ ws) n.here;
          all_is = left.all_is ∙ ap (λ xs. list ++ xs) (n.told ∙ ap (λ y. y ∷ (listed_by order path (objects_from es content n.inside) ++ to_come order es content n.levels)) (sym is))
              ∙ one-more list x (listed_by order path (objects_from es content n.inside) ++ to_come order es content n.levels);
        };
      }

  pub left-end : (all list : List EntryInfo) → Left order cases es content asked all [] list → list ≡ all
  left-end all list left = sym (left.all_is ∙ ap (λ xs. list ++ xs) (none-come order es content left.levels left.here) ∙ append-nil list)

-- ---- how much is listed at most

listed-count : (es : List Entry) (content : Entry → List ℕ) (o : Outline) (path : List ℕ) → length (listed path (objects_from es content o)) ≤ length (numbers o)
unfolding objects_from
listed-count es content no_more path = omega arith
listed-count es content (storage_at i inside rest) path = omega (arith, listed-count es content rest path, length-append (numbers inside) (numbers rest))
listed-count es content (stream_at i rest) path = omega (arith, listed-count es content rest path)

walked-count : (es : List Entry) (content : Entry → List ℕ) (o : Outline) (path : List ℕ) → length (walked path (objects_from es content o)) ≤ length (numbers o)
unfolding objects_from
walked-count es content no_more path = omega arith
walked-count es content (storage_at i inside rest) path =
    omega (
      arith,
      walked-count es content inside (child_path path (entry_at es i).name),
      walked-count es content rest path,
      length-append (walked (child_path path (entry_at es i).name) (objects_from es content inside)) (walked path (objects_from es content rest)),
      length-append (numbers inside) (numbers rest),
    )
walked-count es content (stream_at i rest) path = omega (arith, walked-count es content rest path)

by-count : (es : List Entry) (content : Entry → List ℕ) (order : EntriesOrder) (o : Outline) (path : List ℕ) → length (listed_by order path (objects_from es content o)) ≤ length (numbers o)
by-count es content Nonrecursive o path = listed-count es content o path
by-count es content Preorder o path = walked-count es content o path

-- ---- a storage that is listed

-- whatever its objects are, so much is left of them
pub record Listing (order : EntriesOrder) (es : List Entry) (asked : List ℕ) (k : ℕ) (begun : List EntryInfo) (waits : List Waiting) (list : List EntryInfo) : Type 0 where
  pub left : (cases : Cases) (inside : Outline) (content : Entry → List ℕ) → HasInside cases es k inside
      → Left order cases es content asked (begun ++ listed_by order asked (objects_from es content inside)) waits list

empty : Entry → List ℕ
empty e = []

module _ (order : EntriesOrder) (es : List Entry) (asked : List ℕ) (k : ℕ) (begun : List EntryInfo) where
  -- as it is known to be
  known : (cases : Cases) (r : IsReachedStorage cases es k) (waits : List Waiting) (list : List EntryInfo) → Listing order es asked k begun waits list
      → Left order cases es empty asked (begun ++ listed_by order asked (objects_from es empty (storage-is-inside cases es k r).outline)) waits list
  known cases r waits list l = l.left cases (storage-is-inside cases es k r).outline empty (storage-is-inside cases es k r).has

  pub within : (cases : Cases) → IsReachedStorage cases es k → (w : Waiting) (later : List Waiting) (list : List EntryInfo) → Listing order es asked k begun (w ∷ later) list → w.number < length es
  within cases r w later list l = (left-next order cases es empty asked _ w later list (known cases r (w ∷ later) list l)).within

  pub parent-in : (cases : Cases) → IsReachedStorage cases es k → (w : Waiting) (later : List Waiting) (list : List EntryInfo) → Listing order es asked k begun (w ∷ later) list → IsInside list w.parent
  parent-in cases r w later list l = (left-next order cases es empty asked _ w later list (known cases r (w ∷ later) list l)).parent

  pub room : (cases : Cases) → IsReachedStorage cases es k → (w : Waiting) (later : List Waiting) (list : List EntryInfo) → Listing order es asked k begun (w ∷ later) list
      → length list < length begun + length es
  room cases r w later list l =
      let i = storage-is-inside cases es k r in
      let left = known cases r (w ∷ later) list l in
      let next = left-next order cases es empty asked _ w later list left in
      let most = tally-length (numbers i.outline) (length es) i.once (contents-past cases es i.outline i.has.contents) in
      let count = ap (length {A = EntryInfo}) left.all_is in
      omega (
        arith,
        next.some,
        most,
        count,
        by-count es empty order i.outline asked,
        length-append begun (listed_by order asked (objects_from es empty i.outline)),
        length-append list (to_come order es empty left.levels),
      )

-- ---- the stack of what waits, the next one last

map-reverse : {X Y : Type 0} (f : X → Y) (xs : List X) → reverse (map f xs) ≡ map f (reverse xs)
map-reverse f [] = refl
map-reverse f (x ∷ xs) =
    reverse-append (f x ∷ []) (map f xs) ∙ ap (λ ys. ys ++ f x ∷ []) (map-reverse f xs) ∙ sym (map-append f (reverse xs) (x ∷ [])) ∙ ap (map f) (sym (reverse-append (x ∷ []) xs))

-- siblings that were pushed, the greatest name first
pub pushed : (parent : Option ℕ) (old : List Waiting) (xs : List ℕ) → reverse (old ++ map (waits_in parent) (reverse xs)) ≡ map (waits_in parent) xs ++ reverse old
pushed parent old xs =
    reverse-append old (map (waits_in parent) (reverse xs))
    ∙ ap (λ ws. ws ++ reverse old) (map-reverse (waits_in parent) (reverse xs) ∙ ap (map (waits_in parent)) (reverse-reverse xs))

pub popped : (old : List Waiting) (w : Waiting) → reverse (old ++ w ∷ []) ≡ w ∷ reverse old
popped old w = reverse-append old (w ∷ [])

-- ---- the steps of a listing

module _ (order : EntriesOrder) (es : List Entry) (asked : List ℕ) (k : ℕ) (begun : List EntryInfo) where
  pub listing-start : (waits : List Waiting) → ((cases : Cases) (inside : Outline) → HasInside cases es k inside → waits ≡ map (waits_in None) (siblings inside))
      → Listing order es asked k begun waits begun
  listing-start waits first = record {
    left = λ cases inside content has.
        subst (λ ws. Left order cases es content asked (begun ++ listed_by order asked (objects_from es content inside)) ws begun) (sym (first cases inside has))
        (left-start order cases es content asked inside begun has.contents);
  }

  pub listing-pass : (w : Waiting) (later : List Waiting) (list : List EntryInfo) (x : EntryInfo) → Listing order es asked k begun (w ∷ later) list
      → is_entered order (entry_at es w.number).obj_type ≡ false
      → x ≡ entry_info (child_path (path_at asked list w.parent) (entry_at es w.number).name) (entry_at es w.number)
      → Listing order es asked k begun later (list ++ x ∷ [])
  listing-pass w later list x l flat is = record {
    left = λ cases inside content has. left-pass order cases es content asked _ w later list x (l.left cases inside content has) flat is;
  }

  pub listing-below : (cases : Cases) → IsReachedStorage cases es k → (w : Waiting) (later : List Waiting) (list : List EntryInfo) → Listing order es asked k begun (w ∷ later) list
      → is_entered order (entry_at es w.number).obj_type ≡ true
      → (siblings_there : List ℕ) × Below cases es (entry_at es w.number).child siblings_there
  listing-below cases r w later list l deep =
      let opened = left-enter order cases es empty asked _ w later list _ (known order es asked k begun cases r (w ∷ later) list l) deep refl in
      (siblings opened.inside, opened.below)

  pub listing-enter : (w : Waiting) (later : List Waiting) (list : List EntryInfo) (x : EntryInfo) (waits : List Waiting) → Listing order es asked k begun (w ∷ later) list
      → is_entered order (entry_at es w.number).obj_type ≡ true
      → x ≡ entry_info (child_path (path_at asked list w.parent) (entry_at es w.number).name) (entry_at es w.number)
      → ((cases : Cases) (there : List ℕ) → Below cases es (entry_at es w.number).child there → waits ≡ map (waits_in (Some (length list))) there ++ later)
      → Listing order es asked k begun waits (list ++ x ∷ [])
  listing-enter w later list x waits l deep is next = record {
    left = λ cases inside content has.
        let opened = left-enter order cases es content asked _ w later list x (l.left cases inside content has) deep is in
        subst (λ ws. Left order cases es content asked (begun ++ listed_by order asked (objects_from es content inside)) ws (list ++ x ∷ []))
        (sym (next cases (siblings opened.inside) opened.below)) opened.left;
  }

  pub listing-end : (list : List EntryInfo) → Listing order es asked k begun [] list → (cases : Cases) (inside : Outline) (content : Entry → List ℕ) → HasInside cases es k inside
      → list ≡ begun ++ listed_by order asked (objects_from es content inside)
  listing-end list l cases inside content has = left-end order cases es content asked _ list (l.left cases inside content has)
