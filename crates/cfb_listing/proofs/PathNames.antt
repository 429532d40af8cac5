-- The names of a path are plain.
use Rattle.std.proofs.Common.{◌≡◌, ℕ, Bool, true, false, List, [], ◌∷◌, refl, sym, ap, ◌∙◌}
use Rattle.std.specs.Prelude.{Option, Some, None, IfSome, option_map, reverse, cond, if◌then◌else◌, ◌==◌, ◌&&◌, ◌||◌}
use Rattle.std.specs.List.{list_all, list_any, slice_split, onto_first, AllByRecursion}
use Rattle.std.proofs.lemmas.List.{reverse-append}
use Rattle.std.proofs.lemmas.List.Folds.{list_all-append}
use Rattle.cfb_format.specs.Path.{slash, part_says_nothing, part_says_parent, without_last, names_with, names_after, names_of_path, is_plain_name}
use Rattle.cfb_listing.specs.PathLaws.{PathsSayPlainNames}
use Rattle.cfb_listing.proofs.PlainPaths.{both, IsFree, free-plain}

-- ---- a path is cut at each `/`

free-onto : (c : ℕ) (parts : List (List ℕ)) → (c == slash) ≡ false → AllByRecursion IsFree parts → AllByRecursion IsFree (onto_first c parts)
free-onto c [] other free = (ap (λ (b : Bool). b || false) other, tt)
free-onto c (part ∷ parts) other free = (ap (λ (b : Bool). b || list_any (λ d. d == slash) part) other ∙ free.0, free.1)

parts-free : (path : List ℕ) → AllByRecursion IsFree (slice_split (λ c. c == slash) path)
parts-free [] = (refl, tt)
parts-free (c ∷ path) = go (c == slash) refl (parts-free path)
  where
    go : (b : Bool) → (c == slash) ≡ b → AllByRecursion IsFree (slice_split (λ d. d == slash) path)
        → AllByRecursion IsFree (cond b ([] ∷ slice_split (λ d. d == slash) path) (onto_first c (slice_split (λ d. d == slash) path)))
    go true e free = (refl, free)
    go false e free = free-onto c (slice_split (λ d. d == slash) path) e free

-- ---- the parts that are names

abbrev ArePlain : List (List ℕ) → Type 0
ArePlain names = list_all is_plain_name names ≡ true

plain-rest : (names : List (List ℕ)) → ArePlain names → IfSome (without_last names) ArePlain
plain-rest [] plain = tt
plain-rest (name ∷ names) plain = (both (is_plain_name name) (list_all is_plain_name names) plain).1

plain-with : (part : List ℕ) (names : List (List ℕ)) → IsFree part → ArePlain names → IfSome (names_with part names) ArePlain
plain-with part names free plain = go (part_says_nothing part) (part_says_parent part) refl refl
  where
    go : (nothing parent : Bool) → part_says_nothing part ≡ nothing → part_says_parent part ≡ parent
        → IfSome (if nothing then Some names else if parent then without_last names else Some (part ∷ names)) ArePlain
    go true parent n p = plain
    go false true n p = plain-rest names plain
    go false false n p =
        let here : is_plain_name part ≡ true =
        free-plain part free (ap (λ (b : Bool). b || part_says_parent part) n ∙ p) in
        ap (λ (b : Bool). b && list_all is_plain_name names) here ∙ plain

plain-after : (parts : List (List ℕ)) (names : Option (List (List ℕ))) → AllByRecursion IsFree parts → IfSome names ArePlain → IfSome (names_after parts names) ArePlain
plain-after [] names free plain = plain
plain-after (part ∷ parts) None free plain = tt
plain-after (part ∷ parts) (Some names) free plain = plain-after parts (names_with part names) free.1 (plain-with part names free.0 plain)

plain-reversed : (names : List (List ℕ)) → ArePlain names → ArePlain (reverse names)
plain-reversed [] plain = refl
plain-reversed (name ∷ names) plain =
    let each = both (is_plain_name name) (list_all is_plain_name names) plain in
    ap (list_all is_plain_name) (reverse-append (name ∷ []) names)
    ∙ list_all-append is_plain_name (reverse names) (name ∷ [])
    ∙ ap (λ (b : Bool). b && (is_plain_name name && true)) (plain-reversed names each.1)
    ∙ ap (λ (b : Bool). b && true) each.0

plain-result : (o : Option (List (List ℕ))) (names : List (List ℕ)) → IfSome o ArePlain → option_map reverse o ≡ Some names → ArePlain names
plain-result None names plain e = cc
plain-result (Some found) names plain e =
    let same : reverse found ≡ names = cc in
    ap (list_all is_plain_name) (sym same) ∙ plain-reversed found plain

pub path-plain : PathsSayPlainNames
unfolding names_of_path
path-plain path names e =
    plain-result (names_after (slice_split (λ c. c == slash) path) (Some [])) names (plain-after (slice_split (λ c. c == slash) path) (Some []) (parts-free path) refl) e
