-- All streams of a tree can be read exactly if each that stands in the list can.
use Rattle.std.proofs.Common.{◌≡◌, ℕ, ◌+◌, List, ◌++◌, length, sym, ◌∙◌, subst, arith}
use Rattle.std.specs.Prelude.{Option, Some, None, All}
use Rattle.std.proofs.lemmas.List.{length-append, get_or_append_left, get_or-append-add}
use Rattle.std.proofs.lemmas.List.Elements.{All-nil, All-cons, All-head, All-tail, All-append}
use Rattle.cfb_format.specs.declared.objtype.ObjType.TheVariants.{Storage, Stream}
use Rattle.cfb_format.specs.Names.{Cases}
use Rattle.cfb_format.specs.DirectoryEntry.{Entry}
use Rattle.cfb_format.specs.Reading.{Outline, no_more, storage_at, stream_at, numbers, HasContents}
use Rattle.cfb_format.specs.Meaning.{objects_from}
use Rattle.cfb_format.specs.Tree.{AreWhole}
use Rattle.cfb_places.specs.declared.walk.Place.{Place}
use Rattle.cfb_places.specs.Places.{placed_in, places_in}
use Rattle.cfb_places.specs.Laws.{IsWholeAt, StreamsAreWhole}

all-left : {X : Type 0} (P : X → Type 0) (xs ys : List X) → All P (xs ++ ys) → All P xs
all-left P xs ys all k d lt = subst P (get_or_append_left xs ys d k lt) (all k d (omega (arith, lt, length-append xs ys)))

all-right : {X : Type 0} (P : X → Type 0) (xs ys : List X) → All P (xs ++ ys) → All P ys
all-right P xs ys all k d lt = subst P (get_or-append-add xs ys k d) (all (length xs + k) d (omega (arith, lt, length-append xs ys)))

module _ (cases : Cases) (es : List Entry) (c : Entry → List ℕ) where
  abbrev IsWholePlace : Place → Type 0
  IsWholePlace p = IsWholeAt es c p.entry

  each : (count : ℕ) (parent : Option ℕ) (o : Outline) → HasContents cases es o → AreWhole (objects_from es c o) → All IsWholePlace (places_in count parent o)
  unfolding objects_from
  each count parent no_more h w = All-nil IsWholePlace
  each count parent (storage_at i inside rest) h w =
      All-cons IsWholePlace (placed_in parent i) (places_in (count + 1) (Some count) inside ++ places_in (count + 1 + length (numbers inside)) parent rest)
      (λ e. let q : Storage ≡ Stream = sym h.0 ∙ e in cc)
      (All-append IsWholePlace (places_in (count + 1) (Some count) inside) (places_in (count + 1 + length (numbers inside)) parent rest)
      (each (count + 1) (Some count) inside h.2 w.0) (each (count + 1 + length (numbers inside)) parent rest h.3 w.1))
  each count parent (stream_at i rest) h w =
      All-cons IsWholePlace (placed_in parent i) (places_in (count + 1) parent rest) (λ e. w.0) (each (count + 1) parent rest h.1 w.1)

  whole : (count : ℕ) (parent : Option ℕ) (o : Outline) → HasContents cases es o → All IsWholePlace (places_in count parent o) → AreWhole (objects_from es c o)
  unfolding objects_from
  whole count parent no_more h all = tt
  whole count parent (storage_at i inside rest) h all =
      let inner = places_in (count + 1) (Some count) inside in
      let later = places_in (count + 1 + length (numbers inside)) parent rest in
      let tail = All-tail IsWholePlace (placed_in parent i) (inner ++ later) all in
      (whole (count + 1) (Some count) inside h.2 (all-left IsWholePlace inner later tail), whole (count + 1 + length (numbers inside)) parent rest h.3 (all-right IsWholePlace inner later tail))
  whole count parent (stream_at i rest) h all = (
    All-head IsWholePlace (placed_in parent i) (places_in (count + 1) parent rest) all h.0,
    whole (count + 1) parent rest h.1 (All-tail IsWholePlace (placed_in parent i) (places_in (count + 1) parent rest) all),
  )

pub streams-are-whole : StreamsAreWhole
streams-are-whole cases es c o is = (λ w. each cases es c 0 None o is.contents w, λ all. whole cases es c 0 None o is.contents all)
