-- The paths of plain names: each says its names, and a child's path is the path of one name more.
use Rattle.std.proofs.Common.{◌≡◌, ℕ, Bool, true, false, List, [], ◌∷◌, ◌++◌, refl, sym, ap, ◌∙◌, append-nil}
use Rattle.std.specs.Prelude.{not, ◌==◌, ◌&&◌, ◌||◌}
use Rattle.std.specs.List.{list_all, list_any, AllByRecursion}
use Rattle.std.proofs.lemmas.List.Concat.{flat_map-append}
use Rattle.cfb_format.specs.Names.{is_forbidden_character}
use Rattle.cfb_format.specs.Path.{slash, part_says_nothing, part_says_parent, slashed, path_of_names, is_plain_name, ends_with_slash, child_path}
use Rattle.cfb_listing.specs.Reached.{is_lost_in_paths}
use Rattle.cfb_listing.proofs.Slashes.{below-unended}

pub both : (a b : Bool) → (a && b) ≡ true → (a ≡ true) × (b ≡ true)
both true b e = (refl, e)
both false b e = cc

pub neither : (a b : Bool) → (a || b) ≡ false → (a ≡ false) × (b ≡ false)
neither false b e = (refl, e)
neither true b e = cc

-- ---- which paths end with a `/`

ends-behind : (front : List ℕ) (c : ℕ) (cs : List ℕ) → ends_with_slash (front ++ c ∷ cs) ≡ ends_with_slash (c ∷ cs)
ends-behind [] c cs = refl
ends-behind (a ∷ []) c cs = refl
ends-behind (a ∷ b ∷ front) c cs = ends-behind (b ∷ front) c cs

unended-name : (name : List ℕ) → list_any (λ c. c == slash) name ≡ false → ends_with_slash name ≡ false
unended-name [] free = refl
unended-name (c ∷ []) free = (neither (c == slash) false free).0
unended-name (c ∷ d ∷ cs) free = unended-name (d ∷ cs) ((neither (c == slash) (list_any (λ e. e == slash) (d ∷ cs)) free).1)

of-plain : (a b c : Bool) → (not a && not b && not c) ≡ true → (a ≡ false) × (c ≡ false)
of-plain false false false e = (refl, refl)
of-plain false false true e = cc
of-plain false true c e = cc
of-plain true b c e = cc

unended-last : (name : List ℕ) → is_plain_name name ≡ true → ends_with_slash (slash ∷ (name ++ [])) ≡ false
unended-last [] plain = cc
unended-last (c ∷ cs) plain =
    let free = (of-plain (part_says_nothing (c ∷ cs)) (part_says_parent (c ∷ cs)) (list_any (λ d. d == slash) (c ∷ cs)) plain).1 in
    ap (λ (xs : List ℕ). ends_with_slash (slash ∷ xs)) (append-nil (c ∷ cs)) ∙ unended-name (c ∷ cs) free

unended-names : (name : List ℕ) (names : List (List ℕ)) → list_all is_plain_name (name ∷ names) ≡ true → ends_with_slash (slashed (name ∷ names)) ≡ false
unended-names name [] all = unended-last name ((both (is_plain_name name) true all).0)
unended-names name (next ∷ names) all =
    ends-behind (slash ∷ name) slash (next ++ slashed names)
    ∙ unended-names next names ((both (is_plain_name name) (list_all is_plain_name (next ∷ names)) all).1)

pub child-of-names : (names : List (List ℕ)) (name : List ℕ) → list_all is_plain_name names ≡ true → child_path (path_of_names names) name ≡ path_of_names (names ++ name ∷ [])
child-of-names [] name all = ap (λ (cs : List ℕ). slash ∷ cs) (sym (append-nil name))
child-of-names (first ∷ rest) name all =
    below-unended (slashed (first ∷ rest)) name (unended-names first rest all)
    ∙ ap (λ (cs : List ℕ). slashed (first ∷ rest) ++ slash ∷ cs) (sym (append-nil name))
    ∙ sym (flat_map-append (λ (n : List ℕ). slash ∷ n) (first ∷ rest) (name ∷ []))

-- ---- names without a `/`

abbrev pub IsFree : List ℕ → Type 0
IsFree name = list_any (λ c. c == slash) name ≡ false

pub allowed-free : (name : List ℕ) → list_any is_forbidden_character name ≡ false → IsFree name
allowed-free [] allowed = refl
allowed-free (c ∷ cs) allowed =
    let here = neither (is_forbidden_character c) (list_any is_forbidden_character cs) allowed in
    let first = neither (c == 0x2F || c == 0x5C) (c == 0x3A || c == 0x21) here.0 in
    ap (λ (b : Bool). b || list_any (λ d. d == slash) cs) ((neither (c == 0x2F) (c == 0x5C) first.0).0) ∙ allowed-free cs here.1

pub plain-free : (name : List ℕ) → is_plain_name name ≡ true → IsFree name
plain-free name plain = (of-plain (part_says_nothing name) (part_says_parent name) (list_any (λ c. c == slash) name) plain).1

-- such a name is plain unless it is empty, `.` or `..`
kept : (a b c : Bool) → (a || b) ≡ false → c ≡ false → (not a && not b && not c) ≡ true
kept false false false e f = refl
kept false false true e f = cc
kept false true c e f = cc
kept true b c e f = cc

pub free-plain : (name : List ℕ) → IsFree name → is_lost_in_paths name ≡ false → is_plain_name name ≡ true
free-plain name free found = kept (part_says_nothing name) (part_says_parent name) (list_any (λ c. c == slash) name) found free

pub free-names : (names : List (List ℕ)) → AllByRecursion IsFree names → list_any is_lost_in_paths names ≡ false → list_all is_plain_name names ≡ true
free-names [] free found = refl
free-names (name ∷ names) free found =
    let each = neither (is_lost_in_paths name) (list_any is_lost_in_paths names) found in
    ap (λ (b : Bool). b && list_all is_plain_name names) (free-plain name free.0 each.0) ∙ free-names names free.1 each.1
