-- Searches along chains, one number more.
use Rattle.std.proofs.Common.{◌≡◌, ◌≢◌, ◌<◌, ◌≤◌, ◌+◌, ◌⊎◌, ◌↔◌, inl, inr, ℕ, List, [], ◌∷◌, ◌++◌, Bool, true, false, length, refl, sym, ◌∙◌, ap, subst, arith, append_assoc}
use Rattle.std.specs.Prelude.{Contains, IsTrue, slice_index}
use Rattle.std.proofs.lemmas.Bool.{cases_lt, cases_eq}
use Rattle.std.proofs.lemmas.List.{length-append, append-nil}
use Rattle.std.proofs.lemmas.List.Elements.{Contains-append_left, Contains-append_right, Contains-append_cases}
use Rattle.cfb_format.specs.Bytes.{end_of_chain, is_regular, max_regular_sector}
use Rattle.cfb_format.specs.Chain.{Follows}
use Rattle.cfb_format.proofs.Members.{Contains-here, Contains-there, Contains-nil, Contains-one}
use Rattle.cfb_format.proofs.Walks.{follows-next, le-regular, regular-le}
use Rattle.cfb_soundness.proofs.MarkLemmas.{true_false}
use Rattle.cfb_flaws.specs.declared.owner.Owner.{Owner}
use Rattle.cfb_flaws.specs.Claims.{IsPath}
use Rattle.cfb_flaws.specs.Flaws.{Comes, IsOutside}
use Rattle.cfb_flaws.specs.Owners.{owner_at}
use Rattle.cfb_flaws.specs.Searches.{GoesOn, HaveOwner, IsRun, IsWithin, OwnEnd, RunEnd}
use Rattle.cfb_flaws.proofs.Paths.{path-push, path-joins, path-splits}

abbrev pub IsInside : List ℕ → ℕ → Type 0
IsInside table number = (number < length table) × (number ≤ max_regular_sector)

pub not-end : (i : ℕ) → i ≤ max_regular_sector → i ≢ end_of_chain
not-end i le e = omega (arith, le, e)

pub outside : (b : Bool) (table : List ℕ) (number : ℕ) → (IsTrue b ↔ IsInside table number) → b ≡ false → number ≢ end_of_chain → IsOutside table number
outside b table number iff e ne = (
  ne,
  λ le. elim (cases_lt number (length table)) [ inl lt ↦ absurd (true_false b (iff.1 (lt, le)) e) | inr ge ↦ ge ],
)

-- where a chain goes on the number is one of the table's
pub inside-of : (b : Bool) (table : List ℕ) (number : ℕ) (rest : List ℕ) → (IsTrue b ↔ IsInside table number) → b ≡ false → Follows table number rest → number ≡ end_of_chain
inside-of b table number rest iff e f = elim (cases_eq number end_of_chain) [
  | inl is ↦ is
  | inr ne ↦
      let n = follows-next table number rest ne f in
      absurd (true_false b (iff.1 (n.2, regular-le number n.4)) e)
]

pub comes-next : (table : List ℕ) (start number : ℕ) → Comes table start number → number < length table → number ≤ max_regular_sector → Comes table start (slice_index table number)
comes-next table start number c lt le = (c.0 ++ number ∷ [], path-push table start c.0 number c.1 (not-end number le) lt (le-regular number le))

-- ---- the short chain

pub ended : (table : List ℕ) (start : ℕ) (list : List ℕ) (number : ℕ) → IsPath table start list number → number ≡ end_of_chain → Follows table start list
ended table start list number p e = subst (λ (z : List ℕ). Follows table start z) (append-nil list) (path-joins table start list number [] p e)

pub none-outside : (b : Bool) (table : List ℕ) (start : ℕ) (list : List ℕ) (number : ℕ) → IsPath table start list number → (IsTrue b ↔ IsInside table number) → b ≡ false
    → number ≢ end_of_chain → (xs : List ℕ) → Follows table start xs → ⊥
none-outside b table start list number p iff e ne xs f =
    let s = path-splits table start list number xs p f in
    ne (inside-of b table number s.0 iff e s.2)

pub none-longer : (table : List ℕ) (start : ℕ) (list : List ℕ) (number most : ℕ) → IsPath table start list number → most ≤ length list → number ≢ end_of_chain
    → (xs : List ℕ) → Follows table start xs → length xs ≤ most → ⊥
none-longer table start list number most p le ne xs f short =
    let s = path-splits table start list number xs p f in
    let n = follows-next table number s.0 ne s.2 in
    let both = ap length s.1 ∙ length-append list s.0 in
    let more = ap length n.1 in
    omega (arith, both, more, short, le)

-- ---- what an owner has of a chain

pub record OwnSoFar (table : List ℕ) (owners : List Owner) (o : Owner) (list : List ℕ) (number count : ℕ) : Type 0 where
  pub path : List ℕ
  pub rest : List ℕ
  pub split : list ≡ path ++ rest
  pub follows : Follows table number rest
  pub owned : HaveOwner owners o path
  pub count_is : length path ≡ count

pub own-start : (table : List ℕ) (owners : List Owner) (o : Owner) (list : List ℕ) (start : ℕ) → Follows table start list → OwnSoFar table owners o list start 0
own-start table owners o list start f = record { path = []; rest = list; split = refl; follows = f; owned = λ i m. absurd (Contains-nil i m); count_is = refl }

pub own-more : (table : List ℕ) (owners : List Owner) (o : Owner) (list : List ℕ) (number count : ℕ) → number ≢ end_of_chain → owner_at owners number ≡ o
    → OwnSoFar table owners o list number count → OwnSoFar table owners o list (slice_index table number) (count + 1)
own-more table owners o list number count ne is s =
    let n = follows-next table number s.rest ne s.follows in
    record {
      path = s.path ++ number ∷ [];
      rest = n.0;
      split = s.split ∙ ap (λ (z : List ℕ). s.path ++ z) n.1 ∙ sym (append_assoc s.path (number ∷ []) n.0);
      follows = n.3;
      owned = λ i m. elim (Contains-append_cases s.path (number ∷ []) i m) [
        | inl l ↦ s.owned i l
        | inr r ↦ ap (owner_at owners) (sym (Contains-one number i r)) ∙ is
      ];
      count_is = let l = length-append s.path (number ∷ []) in let c = s.count_is in omega (arith, l, c);
    }

pub own-stops : (table : List ℕ) (owners : List Owner) (o : Owner) (list : List ℕ) (number count : ℕ) → (number ≡ end_of_chain) ⊎ (owner_at owners number ≢ o)
    → OwnSoFar table owners o list number count → OwnEnd table owners o list number
own-stops table owners o list number count stops s = record { path = s.path; rest = s.rest; split = s.split; follows = s.follows; owned = s.owned; stops = stops }

no-more : (table : List ℕ) (number : ℕ) (rest : List ℕ) → length rest ≤ 0 → Follows table number rest → number ≡ end_of_chain
no-more table number [] le f = f
no-more table number (x ∷ rest) le f = absurd (omega (arith, le))

pub own-whole : (table : List ℕ) (owners : List Owner) (o : Owner) (list : List ℕ) (number count : ℕ) → length list ≤ count
    → OwnSoFar table owners o list number count → OwnEnd table owners o list number
own-whole table owners o list number count few s =
    let both = ap length s.split ∙ length-append s.path s.rest in
    let c = s.count_is in
    own-stops table owners o list number count (inl (no-more table number s.rest (omega (arith, both, c, few)) s.follows)) s

-- ---- runs

pub within-next : (table list : List ℕ) (i : ℕ) → i ≢ end_of_chain → IsWithin table list i → IsWithin table list (slice_index table i)
within-next table list i ne w =
    let n = follows-next table i w.rest ne w.follows in
    record { rest = n.0; follows = n.3; inside = λ j m. w.inside j (subst (λ (z : List ℕ). Contains z j) (sym n.1) (Contains-there i n.0 j m)) }

pub within-here : (table list : List ℕ) (i : ℕ) → i ≢ end_of_chain → IsWithin table list i → (i < length table) × Contains list i
within-here table list i ne w =
    let n = follows-next table i w.rest ne w.follows in
    (n.2, w.inside i (subst (λ (z : List ℕ). Contains z i) (sym n.1) (Contains-here i n.0)))

pub run-start : (table : List ℕ) (owners : List Owner) (list : List ℕ) (first : ℕ) → RunEnd table owners list first first
run-start table owners list first w ne = record {
  within = w;
  goes_on = ne;
  each = λ i a b.
      let same : first ≡ i = omega (arith, a, b) in
      let h = within-here table list first ne w in
      subst (λ (k : ℕ). (k < length table) × Contains list k × (owner_at owners k ≡ owner_at owners first)) same (h.0, h.1, refl);
}

pub run-more : (table : List ℕ) (owners : List Owner) (list : List ℕ) (first last : ℕ) → GoesOn table owners last → first ≤ last → RunEnd table owners list first last
    → RunEnd table owners list first (last + 1)
run-more table owners list first last g le before w ne =
    let b = before w ne in
    let on : IsWithin table list (last + 1) = subst (IsWithin table list) g.next (within-next table list last b.goes_on b.within) in
    let next_ne : last + 1 ≢ end_of_chain = not-end (last + 1) g.regular in
    record {
      within = on;
      goes_on = next_ne;
      each = λ i low high. elim (cases_lt last i) [
        | inr earlier ↦ b.each i low earlier
        | inl later ↦
            let same : last + 1 ≡ i = omega (arith, later, high) in
            let h = within-here table list (last + 1) next_ne on in
            subst (λ (k : ℕ). (k < length table) × Contains list k × (owner_at owners k ≡ owner_at owners first)) same
            (h.0, h.1, g.same ∙ (b.each last le (omega arith)).2)
      ];
    }
