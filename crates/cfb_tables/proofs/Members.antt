-- Members of lists of numbers, and values of a table.
use Rattle.std.proofs.Common.{◌≡◌, ◌≢◌, ℕ, ◌+◌, ◌<◌, ◌≤◌, ◌⊎◌, inl, inr, List, ◌++◌, length, set}
use Rattle.std.specs.Prelude.{Contains}
use Rattle.std.proofs.lemmas.List.{get_or_past, get_or_append_left, get_or-set_same, get_or-set_other, get_or-append-add}
use Rattle.std.proofs.lemmas.List.Elements.{Contains-append_left, Contains-append_right, Contains-append_cases}
use Rattle.cfb_format.specs.Bytes.{free_sector}
use Rattle.cfb_format.specs.Chain.{value}

-- ---- membership

-- a member of more, of fats or of difats
pub in_three : (more fats difats : List ℕ) (i : ℕ) → Contains (more ++ fats ++ difats) i → Contains more i ⊎ (Contains fats i ⊎ Contains difats i)
in_three more fats difats i m = elim (Contains-append_cases (more ++ fats) difats i m) [
  | inl l ↦ elim (Contains-append_cases more fats i l) [ inl a ↦ inl a | inr b ↦ inr (inl b) ]
  | inr r ↦ inr (inr r)
]

pub first_of_three : (more fats difats : List ℕ) (i : ℕ) → Contains more i → Contains (more ++ fats ++ difats) i
first_of_three more fats difats i m = Contains-append_left (more ++ fats) difats i (Contains-append_left more fats i m)

pub second_of_three : (more fats difats : List ℕ) (i : ℕ) → Contains fats i → Contains (more ++ fats ++ difats) i
second_of_three more fats difats i m = Contains-append_left (more ++ fats) difats i (Contains-append_right more fats i m)

pub third_of_three : (more fats difats : List ℕ) (i : ℕ) → Contains difats i → Contains (more ++ fats ++ difats) i
third_of_three more fats difats i m = Contains-append_right (more ++ fats) difats i m

-- ---- values

pub value-past : (table : List ℕ) (i : ℕ) → length table ≤ i → value table i ≡ free_sector
value-past table i ge = get_or_past table i free_sector ge

pub value-set : (table : List ℕ) (x w : ℕ) → x < length table → value (set table x w) x ≡ w
value-set table x w lt = get_or-set_same table x w free_sector lt

pub value-set_other : (table : List ℕ) (x i w : ℕ) → i ≢ x → value (set table x w) i ≡ value table i
value-set_other table x i w ne = get_or-set_other table x i w free_sector ne

pub value-left : (table ws : List ℕ) (i : ℕ) → i < length table → value (table ++ ws) i ≡ value table i
value-left table ws i lt = get_or_append_left table ws free_sector i lt

pub value-right : (table ws : List ℕ) (k : ℕ) → value (table ++ ws) (length table + k) ≡ value ws k
value-right table ws k = get_or-append-add table ws k free_sector
