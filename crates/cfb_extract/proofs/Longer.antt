-- Files that grow, and folders that keep what stands in them.
use Rattle.std.proofs.Common.{◌≡◌, ℕ, ◌+◌, ◌≤◌, List, [], ◌∷◌, ◌++◌, length, refl, sym, ◌∙◌, ap, subst, take, drop, arith, append_assoc, append-nil, get_or}
use Rattle.std.specs.Prelude.{Err, OnErr, Ok, Result, Some, Vec, map}
use Rattle.std.specs.List.{slice_set}
use Rattle.std.proofs.lemmas.List.{length-map, length-append, map-set}
use Rattle.std.proofs.Math.ListN.{get_or-map}
use Rattle.std.proofs.Math.Seq.{get_or-append_seam, set-append_seam, take-add}
use Rattle.cfb_extract.specs.declared.memory.MemoryItem.{MemoryItem}
use Rattle.cfb_extract.specs.Items.{Item, IsKept, IsLonger, IsLongerSo, IsPartlyLonger, a_file, texts}
use Rattle.cfb_extract.specs.Memory.{item_of, made_item}

pub on-err : {T E P : Type 0} (r : Result T E) → P → OnErr r P
on-err (Ok x) p = tt
on-err (Err e) p = p

-- ---- one file

pub longer-none : (items : List Item) → IsLonger [] items items
longer-none items = record { longer = λ before place content is. is ∙ ap (λ xs. before ++ a_file place xs ∷ []) (sym (append-nil content)) }

pub longer-more : (xs ys : List ℕ) (a b c : List Item) → IsLonger xs a b → IsLonger ys b c → IsLonger (xs ++ ys) a c
longer-more xs ys a b c one other = record {
  longer = λ before place content is.
      other.longer before place (content ++ xs) (one.longer before place content is) ∙ ap (λ zs. before ++ a_file place zs ∷ []) (append_assoc content xs ys);
}

pub so-none : (items : List Item) → IsLongerSo items items
so-none items = record { bytes = []; longer = longer-none items }

pub so-more : (ys : List ℕ) (a b c : List Item) → IsLongerSo a b → IsLonger ys b c → IsLongerSo a c
so-more ys a b c one other = record { bytes = one.bytes ++ ys; longer = longer-more one.bytes ys a b c one.longer other }

pub partly-none : (bytes : List ℕ) (items : List Item) → IsPartlyLonger bytes items items
partly-none bytes items = record { count = 0; longer = longer-none items }

-- ---- the folder

pub kept-none : (items : List Item) → IsKept items items
kept-none items = record { more = []; kept = sym (append-nil items) }

pub kept-more : (xs a b c : List Item) → IsKept a b → c ≡ b ++ xs → IsKept a c
kept-more xs a b c one is = record { more = one.more ++ xs; kept = is ∙ ap (λ zs. zs ++ xs) one.kept ∙ append_assoc a one.more xs }

pub kept-then : (a b c : List Item) → IsKept a b → IsKept b c → IsKept a c
kept-then a b c one other = kept-more other.more a b c one other.kept

pub kept-same : (a b : List Item) → b ≡ a → IsKept a b
kept-same a b is = record { more = []; kept = is ∙ sym (append-nil a) }

-- a file was made, and has grown
pub kept-longer : (a b c : List Item) (place : List (List ℕ)) → b ≡ a ++ a_file place [] ∷ [] → IsLongerSo b c → IsKept a c
kept-longer a b c place is so = record { more = a_file place so.bytes ∷ []; kept = so.longer.longer a place [] is }

-- ---- in memory

-- the item that stands last in the list gets more bytes
pub grown : {A : Type 0} (items : List (MemoryItem A)) (n : ℕ) (item : MemoryItem A) (bytes new : Vec ℕ A) (added : List ℕ) → length items ≡ n + 1 → item ≡ get_or items n item
    → item.content ≡ Some bytes → new.items ≡ bytes.items ++ added
    → IsLonger added (map item_of items) (map item_of (slice_set items n (record { place = item.place; content = Some new })))
grown {A} items n item bytes new added count is has more = record {
  longer = λ before place content old.
      let w : MemoryItem A = record { place = item.place; content = Some new } in
      let at : n ≡ length before = omega (arith, count, ap (length {A = Item}) old, length-map items item_of, length-append before (a_file place content ∷ [])) in
      let last : item_of item ≡ a_file place content =
      ap item_of is ∙ sym (get_or-map item_of items n item) ∙ ap (λ xs. get_or xs n (item_of item)) old ∙ ap (λ k. get_or (before ++ a_file place content ∷ []) k (item_of item)) at
      ∙ get_or-append_seam before (a_file place content) [] (item_of item) in
      let file : a_file (texts item.place.items) bytes.items ≡ a_file place content = sym (ap (made_item (texts item.place.items)) has) ∙ last in
      let now : a_file (texts item.place.items) new.items ≡ a_file place (content ++ added) = cc (file, more) in
      map-set item_of items n w ∙ ap (λ xs. slice_set xs n (item_of w)) old ∙ ap (λ k. slice_set (before ++ a_file place content ∷ []) k (item_of w)) at
      ∙ set-append_seam before (a_file place content) [] (item_of w) ∙ ap (λ x. before ++ x ∷ []) now;
}
