-- Unallocated entries at the end of a directory change nothing of the children of a storage.
use Rattle.std.proofs.Common.{◌≡◌, inl, inr, ℕ, ◌-◌, ◌≤◌, List, [], ◌∷◌, false, refl, sym, ◌∙◌, ap, subst, length, arith}
use Rattle.std.specs.Prelude.{replicate, ◌==◌, if◌then◌else◌}
use Rattle.std.specs.List.{AllByRecursion, list_all}
use Rattle.std.proofs.lemmas.Bool.{cases_lt}
use Rattle.std.proofs.lemmas.List.{get_or_append_left, get_or-append_right, get_or-replicate, get_or_past, length-replicate, length-append}
use Rattle.cfb_format.specs.Names.{Cases}
use Rattle.cfb_format.specs.Tree.{is_same_name}
use Rattle.cfb_format.specs.Bytes.{no_stream}
use Rattle.cfb_format.specs.DirectoryEntry.{Entry, unallocated_entry}
use Rattle.cfb_format.specs.Siblings.{SiblingTree, leaf, node, HangsAt, in_order, entry_at, is_red_color, is_red_at, is_red_apart, black_counts, Below, Balanced}
use Rattle.cfb_format.proofs.Unique.{HangsAt-unique}
use Rattle.cfb_siblings.specs.declared.links.PathStep.{PathStep}
use Rattle.cfb_siblings.specs.Painted.{Painted, Leaf, Node, Shape, tree_numbers}
use Rattle.cfb_siblings.specs.Way.{name_at, before, behind}
use Rattle.cfb_siblings.specs.Order.{Dir, IsPlaceFor}
use Rattle.cfb_siblings.specs.Children.{HasChildren, IsParent, IsAbsent, HasRedApart}
use Rattle.cfb_siblings.specs.Laws.{grown_by}
use Rattle.cfb_siblings.proofs.Removing.{above-on, below-on, increasing-on}

pub past-is-unallocated : (more i : ℕ) → entry_at (replicate more unallocated_entry) i ≡ unallocated_entry
past-is-unallocated more i = elim (cases_lt i more) [
  | inl l ↦ get_or-replicate more i unallocated_entry unallocated_entry l
  | inr g ↦ get_or_past (replicate more unallocated_entry) i unallocated_entry (omega (arith, g, length-replicate more unallocated_entry))
]

pub entry-stays : (es : List Entry) (more k : ℕ) → entry_at (grown_by es more) k ≡ entry_at es k
entry-stays es more k = elim (cases_lt k (length es)) [
  | inl l ↦ get_or_append_left es (replicate more unallocated_entry) unallocated_entry k l
  | inr g ↦ get_or-append_right es (replicate more unallocated_entry) (length es) k unallocated_entry refl g ∙ (past-is-unallocated more (k - length es) ∙ sym (get_or_past es k unallocated_entry g))
]

pub length-grows : (es : List Entry) (more : ℕ) → length es ≤ length (grown_by es more)
length-grows es more = omega (arith, length-append es (replicate more unallocated_entry))

-- ---- entries that read the same

module _ (old new : List Entry) (same : (k : ℕ) → entry_at new k ≡ entry_at old k) where
  -- names, colours and links are the same
  names : (k : ℕ) → name_at new k ≡ name_at old k
  names k = ap (λ (x : Entry). x.name) (same k)

  pub absent-same : (cases : Cases) (name : List ℕ) (list : List ℕ) → IsAbsent cases old name list → IsAbsent cases new name list
  absent-same cases name [] a = tt
  absent-same cases name (k ∷ list) a = (ap (is_same_name cases name) (names k) ∙ a.0, absent-same cases name list a.1)

  red-same : (i : ℕ) → is_red_at new i ≡ is_red_at old i
  red-same i = ap (λ (x : Entry). if i == no_stream then false else is_red_color x.color) (same i)

  apart-same : (i : ℕ) → is_red_apart new i ≡ is_red_apart old i
  apart-same i = rw (same i, red-same (entry_at old i).left_sibling, red-same (entry_at old i).right_sibling) refl

  all-apart-same : (list : List ℕ) → list_all (is_red_apart new) list ≡ list_all (is_red_apart old) list
  all-apart-same [] = refl
  all-apart-same (i ∷ list) = rw (apart-same i, all-apart-same list) refl

  pub red-apart-same : (parent : ℕ) (list : List ℕ) → HasRedApart old parent list → HasRedApart new parent list
  red-apart-same parent list (top, all) =
      (ap (λ (x : Entry). is_red_at new x.child) (same parent) ∙ (red-same (entry_at old parent).child ∙ top), all-apart-same list ∙ all)

  counts-same : (t : SiblingTree) → black_counts new t ≡ black_counts old t
  counts-same leaf = refl
  counts-same (node l i r) = rw (same i, counts-same l, counts-same r) refl

  module _ (longer : length old ≤ length new) where
    hangs-same : (top : ℕ) (t : SiblingTree) → HangsAt old top t → HangsAt new top t
    hangs-same top leaf h = h
    hangs-same top (node l i r) (is, ne, lt, hl, hr) = (
      is,
      ne,
      omega (arith, lt, longer),
      subst (λ (x : Entry). HangsAt new x.left_sibling l) (sym (same i)) (hangs-same (entry_at old i).left_sibling l hl),
      subst (λ (x : Entry). HangsAt new x.right_sibling r) (sym (same i)) (hangs-same (entry_at old i).right_sibling r hr),
    )

    shape-same : (link : ℕ) (t : Painted) → Shape old link t → Shape new link t
    shape-same link Leaf s = s
    shape-same link (Node c a n b) (is, lt, red, sa, sb) = (
      is,
      omega (arith, lt, longer),
      ap (λ (x : Entry). is_red_color x.color) (same n) ∙ red,
      subst (λ (x : Entry). Shape new x.left_sibling a) (sym (same n)) (shape-same (entry_at old n).left_sibling a sa),
      subst (λ (x : Entry). Shape new x.right_sibling b) (sym (same n)) (shape-same (entry_at old n).right_sibling b sb),
    )

    pub balanced-same : (top black : ℕ) → Balanced old top black → Balanced new top black
    balanced-same top black bal = record {
      tree = bal.tree;
      hangs = hangs-same top bal.tree bal.hangs;
      black_top = red-same top ∙ bal.black_top;
      red_apart = all-apart-same (in_order bal.tree) ∙ bal.red_apart;
      counts = subst (AllByRecursion (λ n. n ≡ black)) (sym (counts-same bal.tree)) bal.counts;
    }

    module _ (cases : Cases) where
      below-same : (top : ℕ) (list : List ℕ) → Below cases old top list → Below cases new top list
      below-same top list b = record {
        tree = b.tree;
        hangs = hangs-same top b.tree b.hangs;
        is_in_order = b.is_in_order;
        distinct = b.distinct;
        rises = increasing-on cases old new list (λ k h. names k) b.rises;
      }

      pub children-same : (parent : ℕ) (list : List ℕ) → HasChildren cases old parent list → HasChildren cases new parent list
      children-same parent list h = record {
        parent_in = omega (arith, h.parent_in, longer);
        below = subst (λ (x : Entry). Below cases new x.child list) (sym (same parent)) (below-same (entry_at old parent).child list h.below);
        apart = h.apart;
      }

      -- the tree hangs at the same link, so it is the only one there
      pub children-back : (parent : ℕ) (list : List ℕ) → IsParent cases old parent → HasChildren cases new parent list → HasChildren cases old parent list
      children-back parent list (was, h) now =
          let hangs = subst (λ (x : Entry). HangsAt new x.child now.below.tree) (same parent) now.below.hangs in
          let e = HangsAt-unique new (entry_at old parent).child h.below.tree now.below.tree (hangs-same (entry_at old parent).child h.below.tree h.below.hangs) hangs in
          subst (HasChildren cases old parent) (h.below.is_in_order ∙ (ap in_order e ∙ sym now.below.is_in_order)) h

      dir-same : (parent : ℕ) (t : Painted) → Dir cases old parent t → Dir cases new parent t
      dir-same parent t d = record {
        stands = (omega (arith, d.stands.0, longer), subst (λ (x : Entry). Shape new x.child t) (sym (same parent)) (shape-same (entry_at old parent).child t d.stands.1));
        increasing = increasing-on cases old new (tree_numbers t) (λ k h. names k) d.increasing;
        apart = d.apart;
      }

      pub place-same : (parent : ℕ) (name : List ℕ) (steps : List PathStep) → IsPlaceFor cases old parent name steps → IsPlaceFor cases new parent name steps
      place-same parent name steps p = record {
        tree = p.tree;
        frames = p.frames;
        dir = dir-same parent p.tree p.dir;
        place = record {
          part = p.place.part;
          shape = refl;
          way_is = p.place.way_is;
          below = below-on cases old new name (before p.frames) (λ k h. names k) p.place.below;
          above = above-on cases old new name (behind p.frames) (λ k h. names k) p.place.above;
        };
      }
