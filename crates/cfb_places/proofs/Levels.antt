-- What is still to come of a walk: of each storage that was entered, the objects behind those that were listed.
use Rattle.std.proofs.Common.{◌≡◌, ℕ, ◌+◌, ◌<◌, true, false, List, [], ◌∷◌, ◌++◌, length, refl, ◌∙◌, ap, subst, arith, append_assoc}
use Rattle.std.specs.Prelude.{Option, Some, map, ⊤}
use Rattle.std.proofs.lemmas.List.{length-append}
use Rattle.cfb_format.specs.declared.objtype.ObjType.{ObjType}
use Rattle.cfb_format.specs.declared.objtype.ObjType.TheVariants.{Storage, Stream}
use Rattle.cfb_format.specs.Names.{Cases}
use Rattle.cfb_format.specs.DirectoryEntry.{Entry}
use Rattle.cfb_format.specs.Siblings.{entry_at, Below}
use Rattle.cfb_format.specs.Reading.{Outline, no_more, storage_at, stream_at, siblings, numbers, HasContents}
use Rattle.cfb_outline.specs.Families.{is_storage_kind}
use Rattle.cfb_outline.proofs.Insides.{present, no-storage, no-stream}
use Rattle.cfb_places.specs.declared.walk.Place.{Place}
use Rattle.cfb_places.specs.Places.{placed_in, places_in}

-- the rest of the objects of the storage at this place, and then those of others
pub data Levels : Type 0 where
  no_level : Levels
  level : (parent : Option ℕ) → (rest : Outline) → Levels → Levels

-- the objects that wait, and what is listed from them on, behind `count` others
abbrev pub waiting : Levels → List Place
waiting no_level = []
waiting (level parent rest levels) = map (placed_in parent) (siblings rest) ++ waiting levels

abbrev pub to_come : ℕ → Levels → List Place
to_come count no_level = []
to_come count (level parent rest levels) = places_in count parent rest ++ to_come (count + length (numbers rest)) levels

-- they are objects of the directory
abbrev pub Stand : Cases → List Entry → Levels → Type 0
Stand cases es no_level = ⊤
Stand cases es (level parent rest levels) = HasContents cases es rest × Stand cases es levels

-- the next one is listed, and nothing is in it
pub record Passed (cases : Cases) (es : List Entry) (count : ℕ) (w : Place) (later come : List Place) : Type 0 where
  pub levels : Levels
  pub stand : Stand cases es levels
  pub here : waiting levels ≡ later
  pub told : come ≡ w ∷ to_come (count + 1) levels

-- it is listed, and what is in it comes next
pub record Entered (cases : Cases) (es : List Entry) (count : ℕ) (w : Place) (later come : List Place) : Type 0 where
  pub inside : Outline
  pub below : Below cases es (entry_at es w.entry).child (siblings inside)
  pub contents : HasContents cases es inside
  pub levels : Levels
  pub stand : Stand cases es levels
  pub here : waiting levels ≡ later
  pub told : come ≡ w ∷ to_come (count + 1) (level (Some count) inside levels)

-- the kinds are two
stream-enters : (kind : ObjType) → kind ≡ Stream → is_storage_kind kind ≡ true → ⊥
stream-enters kind k t = let f : is_storage_kind Stream ≡ true = subst (λ (s : ObjType). is_storage_kind s ≡ true) k t in cc

storage-passes : (kind : ObjType) → kind ≡ Storage → is_storage_kind kind ≡ false → ⊥
storage-passes kind k f = let t : is_storage_kind Storage ≡ false = subst (λ (s : ObjType). is_storage_kind s ≡ false) k f in cc

module _ (cases : Cases) (es : List Entry) where
  none-here : (count : ℕ) (parent : Option ℕ) (levels : Levels) → to_come count (level parent no_more levels) ≡ to_come count levels
  none-here count parent levels = let same : count + 0 ≡ count = omega arith in ap (λ (n : ℕ). to_come n levels) same

  -- the number of the one that waits
  number : (parent : Option ℕ) (i : ℕ) (w : Place) → placed_in parent i ≡ w → i ≡ w.entry
  number parent i w e = ap (λ (p : Place). p.entry) e

  pub next-within : (w : Place) (later : List Place) (levels : Levels) → Stand cases es levels → waiting levels ≡ w ∷ later → w.entry < length es
  next-within w later no_level s e = cc
  next-within w later (level parent no_more levels) s e = next-within w later levels s.1 e
  next-within w later (level parent (stream_at i rest) levels) s e =
      let e0 : placed_in parent i ≡ w = cc in
      subst (λ (n : ℕ). n < length es) (number parent i w e0) (present es i Stream no-stream s.0.0)
  next-within w later (level parent (storage_at i inside rest) levels) s e =
      let e0 : placed_in parent i ≡ w = cc in
      subst (λ (n : ℕ). n < length es) (number parent i w e0) (present es i Storage no-storage s.0.0)

  pub pass : (count : ℕ) (w : Place) (later : List Place) (levels : Levels) → Stand cases es levels → waiting levels ≡ w ∷ later
      → is_storage_kind (entry_at es w.entry).obj_type ≡ false → Passed cases es count w later (to_come count levels)
  pass count w later no_level s e f = cc
  pass count w later (level parent no_more levels) s e f =
      let p = pass count w later levels s.1 e f in
      record { levels = p.levels; stand = p.stand; here = p.here; told = none-here count parent levels ∙ p.told }
  pass count w later (level parent (stream_at i rest) levels) s e f =
      let e0 : placed_in parent i ≡ w = cc in
      let e1 : map (placed_in parent) (siblings rest) ++ waiting levels ≡ later = cc in
      let next : count + length (i ∷ numbers rest) ≡ count + 1 + length (numbers rest) = omega arith in
      record {
        levels = level parent rest levels;
        stand = (s.0.1, s.1);
        here = e1;
        told = λ k. e0 k ∷ (places_in (count + 1) parent rest ++ to_come (next k) levels);
      }
  pass count w later (level parent (storage_at i inside rest) levels) s e f =
      let e0 : placed_in parent i ≡ w = cc in
      absurd (storage-passes (entry_at es w.entry).obj_type (subst (λ (n : ℕ). (entry_at es n).obj_type ≡ Storage) (number parent i w e0) s.0.0) f)

  pub enter : (count : ℕ) (w : Place) (later : List Place) (levels : Levels) → Stand cases es levels → waiting levels ≡ w ∷ later
      → is_storage_kind (entry_at es w.entry).obj_type ≡ true → Entered cases es count w later (to_come count levels)
  enter count w later no_level s e t = cc
  enter count w later (level parent no_more levels) s e t =
      let n = enter count w later levels s.1 e t in
      record {
        inside = n.inside;
        below = n.below;
        contents = n.contents;
        levels = n.levels;
        stand = n.stand;
        here = n.here;
        told = none-here count parent levels ∙ n.told;
      }
  enter count w later (level parent (stream_at i rest) levels) s e t =
      let e0 : placed_in parent i ≡ w = cc in
      absurd (stream-enters (entry_at es w.entry).obj_type (subst (λ (n : ℕ). (entry_at es n).obj_type ≡ Stream) (number parent i w e0) s.0.0) t)
  enter count w later (level parent (storage_at i inside rest) levels) s e t =
      let e0 : placed_in parent i ≡ w = cc in
      let e1 : map (placed_in parent) (siblings rest) ++ waiting levels ≡ later = cc in
      let next : count + length (i ∷ (numbers inside ++ numbers rest)) ≡ count + 1 + length (numbers inside) + length (numbers rest) =
      omega (arith, length-append (numbers inside) (numbers rest)) in
      record {
        inside = inside;
        below = subst (λ (n : ℕ). Below cases es (entry_at es n).child (siblings inside)) (number parent i w e0) s.0.1;
        contents = s.0.2;
        levels = level parent rest levels;
        stand = (s.0.3, s.1);
        here = e1;
        told = (λ k. e0 k ∷ ((places_in (count + 1) (Some count) inside ++ places_in (count + 1 + length (numbers inside)) parent rest) ++ to_come (next k) levels))
            ∙ ap (λ (xs : List Place). w ∷ xs)
            (append_assoc (places_in (count + 1) (Some count) inside) (places_in (count + 1 + length (numbers inside)) parent rest)
            (to_come (count + 1 + length (numbers inside) + length (numbers rest)) levels));
      }

pub none-come : (count : ℕ) (levels : Levels) → waiting levels ≡ [] → to_come count levels ≡ []
none-come count no_level e = refl
none-come count (level parent no_more levels) e = none-come (count + 0) levels e
none-come count (level parent (stream_at i rest) levels) e = cc
none-come count (level parent (storage_at i inside rest) levels) e = cc
