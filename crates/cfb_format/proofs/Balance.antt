-- A balanced tree is low.
use Rattle.std.proofs.Common.{◌≡◌, ◌≤◌, ◌+◌, ◌*◌, ◌^◌, max, ℕ, zero, suc, List, [], ◌∷◌, ◌++◌, Bool, true, false, refl, sym, ◌∙◌, ap, eq-eqb, subst, length, map, arith, length-append}
use Rattle.std.specs.Prelude.{if◌then◌else◌, not, ◌&&◌}
use Rattle.std.specs.List.{AllByRecursion, list_all}
use Rattle.std.proofs.Math.Nat.{pow-succ'}
use Rattle.cfb_format.specs.DirectoryEntry.{Entry}
use Rattle.cfb_format.proofs.Unique.{HangsAt-unique}
use Rattle.cfb_format.specs.Siblings.{SiblingTree, leaf, node, in_order, entry_at, is_red_color, is_red_at, is_red_apart, black_counts, depth, HangsAt, Balanced}
use Rattle.cfb_format.specs.Bytes.{no_stream}
use Rattle.std.proofs.lemmas.Bool.{ne_eqb}
use Rattle.std.proofs.lemmas.List.Folds.{list_all-append}

-- ---- no red under red, as a fold over the tree

abbrev is_red_top : List Entry → SiblingTree → Bool
is_red_top entries leaf = false
is_red_top entries (node left i right) = is_red_color (entry_at entries i).color

abbrev no_red_under_red : List Entry → SiblingTree → Bool
no_red_under_red entries leaf = true
no_red_under_red entries (node left i right) =
    not (is_red_color (entry_at entries i).color && (is_red_top entries left))
    && not (is_red_color (entry_at entries i).color && (is_red_top entries right))
    && no_red_under_red entries left && no_red_under_red entries right

top-red : (entries : List Entry) (top : ℕ) (t : SiblingTree) → HangsAt entries top t → is_red_top entries t ≡ is_red_at entries top
top-red entries top leaf h = sym (ap (λ b. if b then false else is_red_color (entry_at entries top).color) (eq-eqb top no_stream h))
top-red entries top (node l i r) (e, ne, lt, hl, hr) =
    ap (λ k. is_red_color (entry_at entries k).color) (sym e) ∙ sym (ap (λ b. if b then false else is_red_color (entry_at entries top).color) (ne_eqb top no_stream ne))

moved : (a x y : Bool) → ((a && x) && y) ≡ (x && (a && y))
moved true x y = refl
moved false true y = refl
moved false false y = refl

-- the test entry by entry is the fold
apart-each : (entries : List Entry) (top : ℕ) (t : SiblingTree) → HangsAt entries top t → no_red_under_red entries t ≡ list_all (is_red_apart entries) (in_order t)
apart-each entries top leaf h = refl
apart-each entries top (node l i r) (e, ne, lt, hl, hr) =
    (λ j. not (is_red_color (entry_at entries i).color && top-red entries (entry_at entries i).left_sibling l hl j)
    && not (is_red_color (entry_at entries i).color && top-red entries (entry_at entries i).right_sibling r hr j)
    && apart-each entries (entry_at entries i).left_sibling l hl j && apart-each entries (entry_at entries i).right_sibling r hr j)
    ∙ moved (is_red_apart entries i) (list_all (is_red_apart entries) (in_order l)) (list_all (is_red_apart entries) (in_order r))
    ∙ sym (list_all-append (is_red_apart entries) (in_order l) (i ∷ in_order r))

-- ---- all elements of a list

pub left_of : {X : Type 0} (P : X → Type 0) (xs ys : List X) → AllByRecursion P (xs ++ ys) → AllByRecursion P xs
left_of P [] ys h = tt
left_of P (x ∷ xs) ys h = (h.0, left_of P xs ys h.1)

pub right_of : {X : Type 0} (P : X → Type 0) (xs ys : List X) → AllByRecursion P (xs ++ ys) → AllByRecursion P ys
right_of P [] ys h = h
right_of P (x ∷ xs) ys h = right_of P xs ys h.1

pub under_map : {X Y : Type 0} (P : Y → Type 0) (Q : X → Type 0) (f : X → Y) → ((x : X) → P (f x) → Q x) → (xs : List X) → AllByRecursion P (map f xs) → AllByRecursion Q xs
under_map P Q f g [] h = tt
under_map P Q f g (x ∷ xs) h = (g x h.0, under_map P Q f g xs h.1)

-- each tree has a way down
pub some_way : (entries : List Entry) (t : SiblingTree) (P : ℕ → Type 0) → AllByRecursion P (black_counts entries t) → (n : ℕ) × P n
some_way entries leaf P h = (0, h.0)
some_way entries (node l i r) P h =
    let f : ℕ → ℕ = λ n. if is_red_color (entry_at entries i).color then n else n + 1 in
    let w = some_way entries l (λ n. P (f n)) (left_of (λ n. P (f n)) (black_counts entries l) (black_counts entries r)
    (under_map P (λ n. P (f n)) f (λ n p. p) (black_counts entries l ++ black_counts entries r) h)) in
    (f w.0, w.1)

-- the parts of the test on colours
split : (a b c d : Bool) → ((not a && not b) && c) && d ≡ true → (a ≡ false) × (b ≡ false) × (c ≡ true) × (d ≡ true)
split true b c d e = cc
split false true c d e = cc
split false false false d e = cc
split false false true d e = (refl, refl, refl, e)

-- one more for a red top
abbrev pub red_extra : Bool → ℕ
red_extra true = 1
red_extra false = 0

abbrev Counts : List Entry → SiblingTree → ℕ → Type 0
Counts entries t b = AllByRecursion (λ n. n ≡ b) (black_counts entries t)

-- what is known of a node's parts
record Parts (entries : List Entry) (l r : SiblingTree) (red : Bool) (b : ℕ) : Type 0 where
  below : ℕ
  is_below : below + red_extra (not red) ≡ b
  left : Counts entries l below
  right : Counts entries r below

parts : (entries : List Entry) (l : SiblingTree) (i : ℕ) (r : SiblingTree) (b : ℕ) (red : Bool) → is_red_color (entry_at entries i).color ≡ red
    → AllByRecursion (λ n. n ≡ b) (map (λ n. if red then n else n + 1) (black_counts entries l ++ black_counts entries r)) → Parts entries l r red b
parts entries l i r b true e h =
    let both = under_map (λ n. n ≡ b) (λ n. n ≡ b) (λ n. n) (λ n p. p) (black_counts entries l ++ black_counts entries r) h in
    record {
      below = b;
      is_below = omega arith;
      left = left_of (λ n. n ≡ b) (black_counts entries l) (black_counts entries r) both;
      right = right_of (λ n. n ≡ b) (black_counts entries l) (black_counts entries r) both;
    }
parts entries l i r zero false e h =
    let both = under_map (λ n. n ≡ 0) (λ n. n + 1 ≡ 0) (λ n. n + 1) (λ n p. p) (black_counts entries l ++ black_counts entries r) h in
    let w = some_way entries l (λ n. n + 1 ≡ 0) (left_of (λ n. n + 1 ≡ 0) (black_counts entries l) (black_counts entries r) both) in
    absurd (omega (arith, w.1))
parts entries l i r (suc c) false e h =
    let both = under_map (λ n. n ≡ suc c) (λ n. n ≡ c) (λ n. n + 1) (λ n p. omega (arith, p)) (black_counts entries l ++ black_counts entries r) h in
    record {
      below = c;
      is_below = omega arith;
      left = left_of (λ n. n ≡ c) (black_counts entries l) (black_counts entries r) both;
      right = right_of (λ n. n ≡ c) (black_counts entries l) (black_counts entries r) both;
    }

at_most_one : (b : Bool) → red_extra b ≤ 1
at_most_one true = omega arith
at_most_one false = omega arith

power_above : (c b : ℕ) → suc c ≡ b → 2 ^ b ≡ 2 * 2 ^ c
power_above c b e = subst (λ n. 2 ^ n ≡ 2 * 2 ^ c) e (pow-succ' 2 c)

-- a tree with no red under a red and b black nodes on each way down has at most 2b levels, and one more under a red top, and at least 2^b - 1 nodes
low : (entries : List Entry) (t : SiblingTree) (b : ℕ) → no_red_under_red entries t ≡ true → Counts entries t b
    → (depth t ≤ 2 * b + red_extra (is_red_top entries t)) × (2 ^ b ≤ length (in_order t) + 1)
low entries leaf b apart counts = (omega arith, subst (λ n. 2 ^ n ≤ 1) counts.0 (omega arith))
low entries (node l i r) b apart counts = go (is_red_color (entry_at entries i).color) refl apart counts
    (λ k a h. low entries l k a h) (λ k a h. low entries r k a h)
  where
    go : (red : Bool) → is_red_color (entry_at entries i).color ≡ red
        → ((not (red && is_red_top entries l) && not (red && is_red_top entries r)) && no_red_under_red entries l) && no_red_under_red entries r ≡ true
        → AllByRecursion (λ n. n ≡ b) (map (λ n. if red then n else n + 1) (black_counts entries l ++ black_counts entries r))
        → ((k : ℕ) → no_red_under_red entries l ≡ true → Counts entries l k → (depth l ≤ 2 * k + red_extra (is_red_top entries l)) × (2 ^ k ≤ length (in_order l) + 1))
        → ((k : ℕ) → no_red_under_red entries r ≡ true → Counts entries r k → (depth r ≤ 2 * k + red_extra (is_red_top entries r)) × (2 ^ k ≤ length (in_order r) + 1))
        → (max (depth l) (depth r) + 1 ≤ 2 * b + red_extra red) × (2 ^ b ≤ length (in_order l ++ i ∷ in_order r) + 1)
    go true e apart counts on_l on_r =
        let p = parts entries l i r b true e counts in
        let s = split (is_red_top entries l) (is_red_top entries r) (no_red_under_red entries l) (no_red_under_red entries r) apart in
        let fl = on_l p.below s.2 p.left in
        let fr = on_r p.below s.3 p.right in
        let tl : red_extra (is_red_top entries l) ≡ 0 = ap red_extra s.0 in
        let tr : red_extra (is_red_top entries r) ≡ 0 = ap red_extra s.1 in
        let same : p.below ≡ b = omega (arith, p.is_below) in
        let power : 2 ^ b ≤ length (in_order l) + 1 = subst (λ n. 2 ^ n ≤ length (in_order l) + 1) same fl.1 in
        (omega (arith, fl.0, fr.0, tl, tr, same), omega (arith, power, length-append (in_order l) (i ∷ in_order r)))
    go false e apart counts on_l on_r =
        let p = parts entries l i r b false e counts in
        let s = split false false (no_red_under_red entries l) (no_red_under_red entries r) apart in
        let fl = on_l p.below s.2 p.left in
        let fr = on_r p.below s.3 p.right in
        let same : suc p.below ≡ b = omega (arith, p.is_below) in (
          omega (arith, fl.0, fr.0, at_most_one (is_red_top entries l), at_most_one (is_red_top entries r), same),
          omega (arith, fl.1, fr.1, power_above p.below b same, length-append (in_order l) (i ∷ in_order r)),
        )

-- a balanced sibling tree of so many names is low
pub Balanced-low : (entries : List Entry) (top b : ℕ) (t : SiblingTree) → Balanced entries top b → HangsAt entries top t
    → (depth t ≤ 2 * b) × (2 ^ b ≤ length (in_order t) + 1)
Balanced-low entries top b t h hangs =
    let same : h.tree ≡ t = HangsAt-unique entries top h.tree t h.hangs hangs in
    let both = low entries h.tree b (apart-each entries top h.tree h.hangs ∙ h.red_apart) h.counts in
    let black : red_extra (is_red_top entries h.tree) ≡ 0 = ap red_extra (top-red entries top h.tree h.hangs ∙ h.black_top) in
    let depth_of : depth h.tree ≤ 2 * b = omega (arith, both.0, black) in
    (subst (λ u. depth u ≤ 2 * b) same depth_of, subst (λ u. 2 ^ b ≤ length (in_order u) + 1) same both.1)
