-- One child of a storage has a name.
use Rattle.std.proofs.Common.{◌≡◌, inl, inr, ℕ, ◌≤◌, true, false, List, [], ◌∷◌, ap, sym, ◌∙◌, arith}
use Rattle.std.specs.Prelude.{Contains}
use Rattle.std.specs.List.{AllByRecursion}
use Rattle.std.specs.declared.cmp.Ordering.TheVariants.{Less}
use Rattle.cfb_format.specs.Names.{Cases, name_cmp}
use Rattle.cfb_format.specs.Tree.{is_same_name}
use Rattle.cfb_format.specs.DirectoryEntry.{Entry}
use Rattle.cfb_format.specs.Siblings.{entry_at, RisesByName}
use Rattle.cfb_format.proofs.TreeMap.{alike}
use Rattle.cfb_siblings.specs.Painted.{times_in}
use Rattle.cfb_siblings.proofs.NameFacts.{later-not-same}
use Rattle.cfb_siblings.proofs.Tallies.{all-at, counted, hit-cases}

apart-names : (cases : Cases) (entries : List Entry) (name : List ℕ) (i k : ℕ) (list : List ℕ) → AllByRecursion (λ j. name_cmp cases (entry_at entries i).name (entry_at entries j).name ≡ Less) list
    → 1 ≤ times_in k list → is_same_name cases name (entry_at entries k).name ≡ true → is_same_name cases name (entry_at entries i).name ≡ false
apart-names cases entries name i k list a m s =
    alike cases name (entry_at entries k).name (entry_at entries i).name s
    ∙ later-not-same cases (entry_at entries i).name (entry_at entries k).name (all-at (λ j. name_cmp cases (entry_at entries i).name (entry_at entries j).name ≡ Less) list k a m)

named-once : (cases : Cases) (entries : List Entry) (name list : List ℕ) (j k : ℕ) → RisesByName cases entries list → 1 ≤ times_in j list → 1 ≤ times_in k list
    → is_same_name cases name (entry_at entries j).name ≡ true → is_same_name cases name (entry_at entries k).name ≡ true → j ≡ k
unfolding times_in
named-once cases entries name [] j k r m n e f = absurd (omega (arith, m))
named-once cases entries name (i ∷ list) j k r m n e f = elim (hit-cases j i) [
  | inl a ↦ elim (hit-cases k i) [
    | inl b ↦ a ∙ sym b
    | inr y ↦ absurd (let q : false ≡ true = sym (apart-names cases entries name i k list r.0 (omega (arith, n, y)) f) ∙ (ap (λ (z : ℕ). is_same_name cases name (entry_at entries z).name) (sym a) ∙ e) in cc)
  ]
  | inr z ↦ elim (hit-cases k i) [
    | inl b ↦ absurd (let q : false ≡ true = sym (apart-names cases entries name i j list r.0 (omega (arith, m, z)) e) ∙ (ap (λ (w : ℕ). is_same_name cases name (entry_at entries w).name) (sym b) ∙ f) in cc)
    | inr y ↦ named-once cases entries name list j k r.1 (omega (arith, m, z)) (omega (arith, n, y)) e f
  ]
]

pub one-named : (cases : Cases) (entries : List Entry) (name list : List ℕ) (j k : ℕ) → RisesByName cases entries list → Contains list j → Contains list k
    → is_same_name cases name (entry_at entries j).name ≡ true → is_same_name cases name (entry_at entries k).name ≡ true → j ≡ k
one-named cases entries name list j k r m n e f = named-once cases entries name list j k r (counted j list m) (counted k list n) e f
