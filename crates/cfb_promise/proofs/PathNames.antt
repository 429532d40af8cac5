-- The names of a path are plain, so that the first so many of them have a path too.
use Rattle.std.proofs.Common.{◌≡◌, ◌∙◌, ℕ, zero, suc, Bool, true, false, List, [], ◌∷◌, refl, sym, ap, subst, take}
use Rattle.std.specs.Prelude.{Option, Some, None, not, option_map, reverse, ◌&&◌, ◌||◌, ◌==◌, if◌then◌else◌}
use Rattle.std.specs.List.{list_all, list_any, onto_first, slice_split}
use Rattle.std.proofs.lemmas.List.{reverse-append}
use Rattle.std.proofs.lemmas.List.Folds.{list_all-append}
use Rattle.std.proofs.lemmas.List.Splits.{slice_split-cons_no, slice_split-cons_yes}
use Rattle.std.proofs.lemmas.Option.{none-some, same_Some}
use Rattle.cfb_format.specs.Path.{is_plain_name, names_after, names_of_path, part_says_nothing, part_says_parent, path_of_names, slash, without_last}
use Rattle.cfb_codecs.proofs.PathBack.{names-back}

both : (a b : Bool) → (a && b) ≡ true → (a ≡ true) × (b ≡ true)
both true b e = (refl, e)
both false b e = cc

both_back : (a b : Bool) → a ≡ true → b ≡ true → (a && b) ≡ true
both_back true b e f = f
both_back false b e f = cc

abbrev is_slash : ℕ → Bool
is_slash c = c == slash

-- no character of the part is a `/`
abbrev is_free : List ℕ → Bool
is_free part = not (list_any is_slash part)

onto_free : (x : ℕ) → is_slash x ≡ false → (parts : List (List ℕ)) → list_all is_free parts ≡ true → list_all is_free (onto_first x parts) ≡ true
onto_free x e [] h = ap (λ b. not (b || false) && true) e
onto_free x e (part ∷ parts) h = ap (λ b. not (b || list_any is_slash part) && list_all is_free parts) e ∙ h

parts_free : (path : List ℕ) → list_all is_free (slice_split is_slash path) ≡ true
parts_free [] = refl
parts_free (x ∷ path) = go (is_slash x) refl (parts_free path)
  where
    go : (b : Bool) → is_slash x ≡ b → list_all is_free (slice_split is_slash path) ≡ true → list_all is_free (slice_split is_slash (x ∷ path)) ≡ true
    go true e h = ap (list_all is_free) (slice_split-cons_yes is_slash x path e) ∙ h
    go false e h = ap (list_all is_free) (slice_split-cons_no is_slash x path e) ∙ onto_free x e (slice_split is_slash path) h

module _ {X : Type 0} (p : X → Bool) where
  all_taken : (n : ℕ) (xs : List X) → list_all p xs ≡ true → list_all p (take n xs) ≡ true
  all_taken zero xs h = refl
  all_taken (suc n) [] h = refl
  all_taken (suc n) (x ∷ xs) h = let each = both (p x) (list_all p xs) h in both_back (p x) (list_all p (take n xs)) each.0 (all_taken n xs each.1)

  all_reversed : (xs : List X) → list_all p xs ≡ true → list_all p (reverse xs) ≡ true
  all_reversed [] h = refl
  all_reversed (x ∷ xs) h =
      let each = both (p x) (list_all p xs) h in
      ap (list_all p) (reverse-append (x ∷ []) xs) ∙ list_all-append p (reverse xs) (x ∷ [])
      ∙ both_back (list_all p (reverse xs)) (p x && true) (all_reversed xs each.1) (both_back (p x) true each.0 refl)

after_none : (parts : List (List ℕ)) → names_after parts None ≡ None
after_none [] = refl
after_none (part ∷ parts) = refl

-- what these parts find after plain names is plain
abbrev FoundPlain : List (List ℕ) → List (List ℕ) → Type 0
FoundPlain parts found = (ns : List (List ℕ)) → list_all is_plain_name ns ≡ true → names_after parts (Some ns) ≡ Some found → list_all is_plain_name found ≡ true

-- the names after the parts so far, last first
after_plain : (parts names : List (List ℕ)) (found : List (List ℕ)) → list_all is_free parts ≡ true → list_all is_plain_name names ≡ true → names_after parts (Some names) ≡ Some found
    → list_all is_plain_name found ≡ true
after_plain [] names found free plain is = subst (λ (ns : List (List ℕ)). list_all is_plain_name ns ≡ true) (same_Some names found is) plain
after_plain (part ∷ parts) names found free plain is =
    let each = both (is_free part) (list_all is_free parts) free in
    nothing each.0 (λ ns. after_plain parts ns found each.1) (part_says_nothing part) refl (part_says_parent part) refl
  where
    next : (a b : Bool) → part_says_nothing part ≡ a → part_says_parent part ≡ b → names_after parts (if a then Some names else if b then without_last names else Some (part ∷ names)) ≡ Some found
    next a b e f = (λ j. names_after parts (if sym e j then Some names else if sym f j then without_last names else Some (part ∷ names))) ∙ is

    parent : FoundPlain parts found → (ns : List (List ℕ)) → list_all is_plain_name ns ≡ true → names_after parts (without_last ns) ≡ Some found → list_all is_plain_name found ≡ true
    parent rest [] all at = absurd (none-some found (sym (after_none parts) ∙ at))
    parent rest (name ∷ ns) all at = rest ns (both (is_plain_name name) (list_all is_plain_name ns) all).1 at

    plain_part : is_free part ≡ true → part_says_nothing part ≡ false → part_says_parent part ≡ false → is_plain_name part ≡ true
    plain_part clear e f = (λ j. not (e j) && not (f j) && is_free part) ∙ clear

    nothing : is_free part ≡ true → FoundPlain parts found → (a : Bool) → part_says_nothing part ≡ a → (b : Bool) → part_says_parent part ≡ b → list_all is_plain_name found ≡ true
    nothing clear rest true e b f = rest names plain (next true b e f)
    nothing clear rest false e true f = parent rest names plain (next false true e f)
    nothing clear rest false e false f =
        rest (part ∷ names) (both_back (is_plain_name part) (list_all is_plain_name names) (plain_part clear e f) plain) (next false false e f)

names_plain : (path : List ℕ) (names : List (List ℕ)) → names_of_path path ≡ Some names → list_all is_plain_name names ≡ true
unfolding names_of_path
names_plain path names is = go (names_after (slice_split is_slash path) (Some [])) refl is
  where
    go : (found : Option (List (List ℕ))) → names_after (slice_split is_slash path) (Some []) ≡ found → option_map reverse found ≡ Some names → list_all is_plain_name names ≡ true
    go None e at = absurd (none-some names at)
    go (Some found) e at =
        subst (λ (ns : List (List ℕ)). list_all is_plain_name ns ≡ true) (same_Some (reverse found) names at)
        (all_reversed is_plain_name found (after_plain (slice_split is_slash path) [] found (parts_free path) refl e))

-- a path of the first so many of them
pub part_named : (path : List ℕ) (names : List (List ℕ)) (count : ℕ) → names_of_path path ≡ Some names → names_of_path (path_of_names (take count names)) ≡ Some (take count names)
part_named path names count is = names-back (take count names) (all_taken is_plain_name count names (names_plain path names is))
