-- A walk over all objects: what was listed, and what is still waiting.
use Rattle.std.proofs.Common.{◌≡◌, ℕ, ◌+◌, ◌<◌, ◌≤◌, true, false, List, [], ◌∷◌, ◌++◌, length, refl, sym, ◌∙◌, ap, subst, arith, append_assoc, append-nil, reverse}
use Rattle.std.specs.Prelude.{Option, Some, None, map}
use Rattle.std.proofs.lemmas.List.{length-append, map-append, reverse-append, reverse-reverse}
use Rattle.cfb_format.specs.declared.objtype.ObjType.TheVariants.{Unallocated, Root}
use Rattle.cfb_format.specs.Names.{Cases}
use Rattle.cfb_format.specs.DirectoryEntry.{Entry}
use Rattle.cfb_format.specs.Siblings.{entry_at, Below}
use Rattle.cfb_format.specs.Reading.{Outline, no_more, storage_at, stream_at, siblings, numbers, IsOutline}
use Rattle.cfb_outline.specs.Families.{is_storage_kind}
use Rattle.cfb_outline.proofs.Counts.{distinct-tally, tally-length}
use Rattle.cfb_outline.proofs.Insides.{contents-past, present}
use Rattle.cfb_places.specs.cfb_siblings.Paths.{HasOutline}
use Rattle.cfb_places.specs.declared.walk.Place.{Place}
use Rattle.cfb_places.specs.Places.{placed_in, places_in, places_of}
use Rattle.cfb_places.proofs.Levels.{Levels, no_level, level, waiting, to_come, Stand, next-within, pass, enter, none-come}

-- ---- how many there are

pub places-count : (count : ℕ) (parent : Option ℕ) (o : Outline) → length (places_in count parent o) ≡ length (numbers o)
places-count count parent no_more = refl
places-count count parent (storage_at i inside rest) =
    omega (
      arith,
      length-append (places_in (count + 1) (Some count) inside) (places_in (count + 1 + length (numbers inside)) parent rest),
      length-append (numbers inside) (numbers rest),
      places-count (count + 1) (Some count) inside,
      places-count (count + 1 + length (numbers inside)) parent rest,
    )
places-count count parent (stream_at i rest) = let n = places-count (count + 1) parent rest in omega (arith, n)

-- no more than there are entries
pub few : (cases : Cases) (es : List Entry) (o : Outline) → IsOutline cases es o → length (places_of o) ≤ length es
few cases es o is =
    let most = tally-length (numbers o) (length es) (λ k. let a = distinct-tally (0 ∷ numbers o) is.distinct k in omega (arith, a)) (contents-past cases es o is.contents) in
    omega (arith, most, places-count 0 None o)

-- ---- what is left

-- of all objects so much is in the list, and the rest comes when these were reached
pub record Left (cases : Cases) (es : List Entry) (all waits list : List Place) : Type 0 where
  pub levels : Levels
  pub stand : Stand cases es levels
  pub here : waiting levels ≡ waits
  pub all_is : all ≡ list ++ to_come (length list) levels

module _ (cases : Cases) (es : List Entry) where
  left-start : (o : Outline) → IsOutline cases es o → Left cases es (places_of o) (map (placed_in None) (siblings o)) []
  left-start o is = record {
    levels = level None o no_level;
    stand = (is.contents, tt);
    here = append-nil (map (placed_in None) (siblings o));
    all_is = sym (append-nil (places_of o));
  }

  -- behind the list with one more
  behind : (list : List Place) (w : Place) (levels : Levels) → list ++ w ∷ to_come (length list + 1) levels ≡ (list ++ w ∷ []) ++ to_come (length (list ++ w ∷ [])) levels
  behind list w levels =
      let more : length list + 1 ≡ length (list ++ w ∷ []) = omega (arith, length-append list (w ∷ [])) in
      (λ k. list ++ w ∷ to_come (more k) levels) ∙ sym (append_assoc list (w ∷ []) (to_come (length (list ++ w ∷ [])) levels))

  left-pass : (all : List Place) (w : Place) (later list : List Place) → Left cases es all (w ∷ later) list → is_storage_kind (entry_at es w.entry).obj_type ≡ false
      → Left cases es all later (list ++ w ∷ [])
  left-pass all w later list left f =
      let p = pass cases es (length list) w later left.levels left.stand left.here f in
      record {
        levels = p.levels;
        stand = p.stand;
        here = p.here;
        all_is = left.all_is ∙ ap (λ (xs : List Place). list ++ xs) p.told ∙ behind list w p.levels;
      }

  -- the objects in the storage come next
  record Opened (all : List Place) (w : Place) (later list : List Place) : Type 0 where
    inside : Outline
    below : Below cases es (entry_at es w.entry).child (siblings inside)
    left : Left cases es all (map (placed_in (Some (length list))) (siblings inside) ++ later) (list ++ w ∷ [])

  left-enter : (all : List Place) (w : Place) (later list : List Place) → Left cases es all (w ∷ later) list → is_storage_kind (entry_at es w.entry).obj_type ≡ true
      → Opened all w later list
  left-enter all w later list left t =
      let n = enter cases es (length list) w later left.levels left.stand left.here t in
      record {
        inside = n.inside;
        below = n.below;
        left = record {
          levels = level (Some (length list)) n.inside n.levels;
          stand = (n.contents, n.stand);
          here = ap (λ (ws : List Place). map (placed_in (Some (length list))) (siblings n.inside) ++ ws) n.here;
          all_is = left.all_is ∙ ap (λ (xs : List Place). list ++ xs) n.told ∙ behind list w (level (Some (length list)) n.inside n.levels);
        };
      }

  left-end : (all list : List Place) → Left cases es all [] list → list ≡ all
  left-end all list left = sym (left.all_is ∙ ap (λ (xs : List Place). list ++ xs) (none-come (length list) left.levels left.here) ∙ append-nil list)

  -- the next one makes the list longer
  left-room : (all : List Place) (w : Place) (later list : List Place) → Left cases es all (w ∷ later) list → length list < length all
  left-room all w later list left = go (is_storage_kind (entry_at es w.entry).obj_type) refl
    where
      longer : (come rest : List Place) → come ≡ w ∷ rest → all ≡ list ++ come → length list < length all
      longer come rest told is =
          let a = ap (length {A = Place}) is in let b = ap (length {A = Place}) told in omega (arith, a, b, length-append list come)

      go : (b : _) → is_storage_kind (entry_at es w.entry).obj_type ≡ b → length list < length all
      go true t = let n = enter cases es (length list) w later left.levels left.stand left.here t in longer _ _ n.told left.all_is
      go false f = let p = pass cases es (length list) w later left.levels left.stand left.here f in longer _ _ p.told left.all_is

-- ---- the stack of what waits, the next one last

map-reverse : {X Y : Type 0} (f : X → Y) (xs : List X) → reverse (map f xs) ≡ map f (reverse xs)
map-reverse f [] = refl
map-reverse f (x ∷ xs) =
    reverse-append (f x ∷ []) (map f xs) ∙ ap (λ ys. ys ++ f x ∷ []) (map-reverse f xs) ∙ sym (map-append f (reverse xs) (x ∷ [])) ∙ ap (map f) (sym (reverse-append (x ∷ []) xs))

-- siblings that were pushed, the greatest name first
pub pushed : (parent : Option ℕ) (old : List Place) (xs : List ℕ) → reverse (old ++ map (placed_in parent) (reverse xs)) ≡ map (placed_in parent) xs ++ reverse old
pushed parent old xs =
    reverse-append old (map (placed_in parent) (reverse xs))
    ∙ ap (λ ws. ws ++ reverse old) (map-reverse (placed_in parent) (reverse xs) ∙ ap (map (placed_in parent)) (reverse-reverse xs))

pub popped : (old : List Place) (w : Place) → reverse (old ++ w ∷ []) ≡ w ∷ reverse old
popped old w = reverse-append old (w ∷ [])

-- ---- the steps of the walk

-- whatever outline the entries have, so much is left of it
pub record Walking (es : List Entry) (waits list : List Place) : Type 0 where
  pub left : (cases : Cases) (o : Outline) → IsOutline cases es o → Left cases es (places_of o) waits list

no-root : Unallocated ≡ Root → ⊥
no-root e = cc

pub root-within : (cases : Cases) (es : List Entry) → HasOutline cases es → 0 < length es
root-within cases es has = present es 0 Root no-root has.1.root

module _ (es : List Entry) where
  pub walking-start : (waits : List Place) → ((cases : Cases) (o : Outline) → IsOutline cases es o → waits ≡ map (placed_in None) (siblings o)) → Walking es waits []
  walking-start waits first = record {
    left = λ cases o is. subst (λ (ws : List Place). Left cases es (places_of o) ws []) (sym (first cases o is)) (left-start cases es o is);
  }

  pub walking-pass : (w : Place) (later list : List Place) → Walking es (w ∷ later) list → is_storage_kind (entry_at es w.entry).obj_type ≡ false → Walking es later (list ++ w ∷ [])
  walking-pass w later list walk f = record { left = λ cases o is. left-pass cases es (places_of o) w later list (walk.left cases o is) f }

  pub walking-enter : (w : Place) (later list waits : List Place) → Walking es (w ∷ later) list → is_storage_kind (entry_at es w.entry).obj_type ≡ true
      → ((cases : Cases) (there : List ℕ) → Below cases es (entry_at es w.entry).child there → waits ≡ map (placed_in (Some (length list))) there ++ later)
      → Walking es waits (list ++ w ∷ [])
  walking-enter w later list waits walk t next = record {
    left = λ cases o is.
        let opened = left-enter cases es (places_of o) w later list (walk.left cases o is) t in
        subst (λ (ws : List Place). Left cases es (places_of o) ws (list ++ w ∷ [])) (sym (next cases (siblings opened.inside) opened.below)) opened.left;
  }

  pub walking-end : (list : List Place) → Walking es [] list → (cases : Cases) (o : Outline) → IsOutline cases es o → list ≡ places_of o
  walking-end list walk cases o is = left-end cases es (places_of o) list (walk.left cases o is)

  module _ (cases : Cases) (has : HasOutline cases es) (w : Place) (later list : List Place) (walk : Walking es (w ∷ later) list) where
    pub within : w.entry < length es
    within = let left = walk.left cases has.0 has.1 in next-within cases es w later left.levels left.stand left.here

    pub room : length list < length es
    room = omega (arith, left-room cases es (places_of has.0) w later list (walk.left cases has.0 has.1), few cases es has.0 has.1)

    pub below : is_storage_kind (entry_at es w.entry).obj_type ≡ true → (there : List ℕ) × Below cases es (entry_at es w.entry).child there
    below t = let opened = left-enter cases es (places_of has.0) w later list (walk.left cases has.0 has.1) t in (siblings opened.inside, opened.below)
