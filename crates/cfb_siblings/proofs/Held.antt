-- Entries as the code holds them.
use Rattle.std.proofs.Common.{◌≡◌, inl, inr, Bool, true, false, ℕ, ◌<◌, List, length, get_or, set, refl, ap, sym, ◌∙◌, arith, length-set, get_or-set_other, get_or-set_same}
use mathlib.Core.Bool.{beq}
use Rattle.std.specs.List.{swap}
use Rattle.std.proofs.lemmas.Bool.{cases_eq}
use Rattle.std.proofs.lemmas.List.{same_lists}
use Rattle.std.proofs.lemmas.List.Edits.{swap_is}
use Rattle.std.specs.Prelude.{chars, string_bytes}
use Rattle.cfb_format.specs.Names.{Cases, name_cmp}
use Rattle.cfb_siblings.specs.Way.{name_at}
use Rattle.cfb_siblings.specs.Taking.{vacated}
use Rattle.std.proofs.lemmas.List.{length-map, map-set, get_or-map}
use Rattle.cfb_codecs.specs.declared.direntry.DirEntry.{DirEntry}
use Rattle.cfb_format.specs.DirectoryEntry.{Entry, unallocated_entry}
use Rattle.cfb_codecs.specs.EntryModel.{entry_of}
use Rattle.cfb_format.specs.Siblings.{entry_at}
use Rattle.cfb_codecs.specs.EntryModel.{entries_of}

pub entries-length : {A : Type 0} (xs : List (DirEntry A)) → length (entries_of xs) ≡ length xs
entries-length xs = length-map xs entry_of

pub entry-write : {A : Type 0} (xs : List (DirEntry A)) (n : ℕ) (e : DirEntry A) → entries_of (set xs n e) ≡ set (entries_of xs) n (entry_of e)
entry-write xs n e = map-set entry_of xs n e

-- an entry changed in place
pub changed : {A : Type 0} (xs : List (DirEntry A)) (n : ℕ) (d : DirEntry A) (f : Entry → Entry) (e : DirEntry A) → n < length xs → entry_of e ≡ f (entry_of (get_or xs n d)) → entries_of (set xs n e) ≡ set (entries_of xs) n (f (entry_at (entries_of xs) n))
changed xs n d f e lt is =
    entry-write xs n e ∙ ap (set (entries_of xs) n) (is ∙ ap f (sym (get_or-map entry_of xs n d unallocated_entry lt)))

overwritten : {X : Type 0} (l : List X) (n m : ℕ) (a b e u : X) → n < length l → m < length l → set (set (set (set l n a) m b) n e) m u ≡ set (set l n e) m u
overwritten l n m a b e u ln lm =
    same_lists (set (set (set (set l n a) m b) n e) m u) (set (set l n e) m u)
    (simp length-set)
    (λ k d lt. elim (cases_eq k m) [
      | inl q ↦ rw q (get_or-set_same (set (set (set l n a) m b) n e) m u d (simp length-set lm) ∙ sym (get_or-set_same (set l n e) m u d (simp length-set lm)))
      | inr km ↦ get_or-set_other (set (set (set l n a) m b) n e) m k u d km ∙ (elim (cases_eq k n) [
        | inl q ↦ rw q (get_or-set_same (set (set l n a) m b) n e d (simp length-set ln) ∙ sym (get_or-set_same l n e d ln))
        | inr kn ↦ get_or-set_other (set (set l n a) m b) n k e d kn ∙ (get_or-set_other (set l n a) m k b d km ∙ (get_or-set_other l n k a d kn ∙ sym (get_or-set_other l n k e d kn)))
      ]
          ∙ sym (get_or-set_other (set l n e) m k u d km))
    ])

-- what the code does where an entry moves
pub moved-entry : {A : Type 0} (xs ys : List (DirEntry A)) (n m : ℕ) (d e u : DirEntry A) → n < length xs → m < length xs → ys ≡ swap xs n m
    → entry_of e ≡ record (entry_of (get_or ys n d)) { left_sibling = (entry_at (entries_of xs) n).left_sibling; right_sibling = (entry_at (entries_of xs) n).right_sibling; color = (entry_at (entries_of xs) n).color }
    → entry_of u ≡ unallocated_entry
    → entries_of (set (set ys n e) m u) ≡ vacated (entries_of xs) n m
moved-entry xs ys n m d e u ln lm is ee eu =
    let es : List Entry = entries_of xs in
    let el : length es ≡ length xs = entries-length xs in
    let a : DirEntry _ = get_or xs m d in
    let b : DirEntry _ = get_or xs n d in
    let ys-is : ys ≡ set (set xs n a) m b = is ∙ sym (swap_is xs n m d ln lm) in
    let here : get_or ys n d ≡ a = rw ys-is (elim (cases_eq n m) [
      | inl q ↦ rw (← q) (get_or-set_same (set xs n (get_or xs n d)) n (get_or xs n d) d (simp length-set ln))
      | inr q ↦ get_or-set_other (set xs n a) m n b d q ∙ get_or-set_same xs n a d ln
    ]) in
    let em : entry_of a ≡ entry_at es m = sym (get_or-map entry_of xs m d unallocated_entry lm) in
    let ee2 : entry_of e ≡ record (entry_at es m) { left_sibling = (entry_at es n).left_sibling; right_sibling = (entry_at es n).right_sibling; color = (entry_at es n).color }
    = ee ∙ ap (λ (x : Entry). record x { left_sibling = (entry_at es n).left_sibling; right_sibling = (entry_at es n).right_sibling; color = (entry_at es n).color }) (ap entry_of here ∙ em) in
    let l2 : entries_of ys ≡ set (set es n (entry_of a)) m (entry_of b) = ap entries_of ys-is ∙ (entry-write (set xs n a) m b ∙ ap (λ l. set l m (entry_of b)) (entry-write xs n a)) in
    entry-write (set ys n e) m u ∙ (ap (λ l. set l m (entry_of u)) (entry-write ys n e)
    ∙ (rw (l2, eu, ee2) (overwritten es n m (entry_of a) (entry_of b) (record (entry_at es m) { left_sibling = (entry_at es n).left_sibling; right_sibling = (entry_at es n).right_sibling; color = (entry_at es n).color }) unallocated_entry (omega arith) (omega arith))))

-- bounds on entries as the code asks for them
pub raw-in : {A : Type 0} (xs : List (DirEntry A)) (n : ℕ) → n < length (entries_of xs) → n < length xs
raw-in xs n h = omega (arith, entries-length xs)

pub name-read : {A : Type 0} (xs : List (DirEntry A)) (n : ℕ) (d : DirEntry A) → n < length xs → chars (string_bytes (get_or xs n d).name) ≡ name_at (entries_of xs) n
name-read xs n d lt = ap (λ (x : Entry). x.name) (sym (get_or-map entry_of xs n d unallocated_entry lt))

-- the order that the code has compared is that of the names in the entries
pub compared : {A : Type 0} (cases : Cases) (xs : List (DirEntry A)) (n : ℕ) (d : DirEntry A) (name bytes : List ℕ) → n < length (entries_of xs) → bytes ≡ string_bytes (get_or xs n d).name
    → name_cmp cases name (chars bytes) ≡ name_cmp cases name (name_at (entries_of xs) n)
compared cases xs n d name bytes lt is = ap (name_cmp cases name) (ap chars is ∙ name-read xs n d (raw-in xs n lt))

-- sides of steps
pub same-side : (a b c : Bool) → beq a b ≡ true → a ≡ c → b ≡ c
same-side true true c e h = h
same-side true false c e h = absurd (let q : false ≡ true = e in cc)
same-side false true c e h = absurd (let q : false ≡ true = e in cc)
same-side false false c e h = h

pub left-below-right : (a b : Bool) → beq a b ≡ false → b ≡ true → a ≡ false
left-below-right true b e h = absurd (let q : true ≡ false = sym (ap (beq true) h) ∙ e in cc)
left-below-right false b e h = refl

pub right-below-left : (a b : Bool) → beq a b ≡ false → b ≡ false → a ≡ true
right-below-left true b e h = refl
right-below-left false b e h = absurd (let q : true ≡ false = sym (ap (beq false) h) ∙ e in cc)

pub entries-in : {A : Type 0} (xs : List (DirEntry A)) (n : ℕ) → n < length xs → n < length (entries_of xs)
entries-in xs n h = omega (arith, entries-length xs)
