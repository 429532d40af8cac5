-- Words of a sector that are read as marks, one sector after the other.
use Rattle.std.proofs.Common.{◌≡◌, ◌<◌, ◌≤◌, ℕ, ◌+◌, ◌*◌, List, ◌∷◌, ◌++◌, length, drop, get_or, sym, ◌∙◌, ap, arith, append_assoc, append-nil, drop-cons, add-one}
use Rattle.std.specs.Prelude.{flat_map, Option}
use Rattle.std.proofs.lemmas.List.{drop_all}
use Rattle.std.proofs.lemmas.List.Concat.{flat_map-cons}
use Rattle.cfb_mending.specs.declared.patches.Patch.{Patch}
use Rattle.cfb_mending.specs.Missing.{mark_at, marked}

-- ---- words that are read as marks

pub marked-none : (mark : ℕ → Option ℕ) (from : ℕ) (old : List Patch) → old ≡ old ++ marked mark from 0
unfolding marked
marked-none mark from old = sym (append-nil old)

pub marked-more : (mark : ℕ → Option ℕ) (from k : ℕ) (old now new : List Patch) (m : Option ℕ) → m ≡ mark k → now ≡ old ++ marked mark from k
    → new ≡ now ++ mark_at (from + 4 * k) m → new ≡ old ++ marked mark from (k + 1)
unfolding marked
marked-more mark from k old now new m m-is now-is new-is =
    new-is ∙ (λ j. now-is j ++ mark_at (from + 4 * k) (m-is j)) ∙ append_assoc old (marked mark from k) (mark_at (from + 4 * k) (mark k))
    ∙ ap (λ (n : ℕ). old ++ marked mark from n) (sym (add-one k))

pub marked-all : (mark : ℕ → Option ℕ) (from k n : ℕ) (old now : List Patch) → k ≤ n → n ≤ k → now ≡ old ++ marked mark from k → now ≡ old ++ marked mark from n
marked-all mark from k n old now low high is = is ∙ ap (λ (i : ℕ). old ++ marked mark from i) (let e : k ≡ n = omega (arith, low, high) in e)

-- ---- one sector after the other

pub each-more : {X : Type 0} (f : ℕ → List X) (sectors : List ℕ) (i d : ℕ) (now new all : List X) → i < length sectors → now ++ flat_map f (drop i sectors) ≡ all
    → new ≡ now ++ f (get_or sectors i d) → new ++ flat_map f (drop (i + 1) sectors) ≡ all
each-more {X} f sectors i d now new all below now-is new-is =
    let s = get_or sectors i d in
    let rest = drop (i + 1) sectors in
    let cut : drop i sectors ≡ s ∷ rest = drop-cons sectors i d below ∙ ap (λ (n : ℕ). s ∷ drop n sectors) (sym (add-one i)) in
    ap (λ (l : List X). l ++ flat_map f rest) new-is ∙ append_assoc now (f s) (flat_map f rest) ∙ ap (λ (l : List X). now ++ l) (sym (flat_map-cons f s rest))
    ∙ sym (ap (λ (l : List ℕ). now ++ flat_map f l) cut) ∙ now-is

pub each-all : {X : Type 0} (f : ℕ → List X) (sectors : List ℕ) (i : ℕ) (now all : List X) → length sectors ≤ i → now ++ flat_map f (drop i sectors) ≡ all → now ≡ all
each-all {X} f sectors i now all past is = sym (append-nil now) ∙ sym (ap (λ (l : List ℕ). now ++ flat_map f l) (drop_all i sectors past)) ∙ is
