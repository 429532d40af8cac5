-- What holds of the lists in memory as they change.
use Rattle.std.proofs.Common.{◌≡◌, ◌≢◌, ℕ, zero, suc, ◌+◌, ◌<◌, ◌≤◌, inl, inr, List, [], ◌∷◌, ◌++◌, length, set, refl, sym, subst, arith, length-set, length-append}
use Rattle.std.proofs.lemmas.List.Elements.{Contains-push}
use Rattle.cfb_format.specs.declared.version.Version.{Version}
use Rattle.cfb_format.specs.Bytes.{free_sector, end_of_chain, fat_sector, difat_sector, max_regular_sector}
use Rattle.cfb_format.specs.Chain.{value}
use Rattle.cfb_tables.specs.declared.lists.Sizes.{Sizes}
use Rattle.cfb_tables.specs.Changes.{ListsFree, NoneFree}
use Rattle.cfb_tables.specs.Tables.{TableState, IsKept, AreSizes, sizes_of, numbers_needed, grown_sizes, grown, grown_state}
use Rattle.cfb_tables.proofs.FreeLemmas.{lists-pop, lists-push, lists-link, lists-grow}
use Rattle.cfb_tables.proofs.SizeLemmas.{needed-cases, are-sizes-grown}

-- the words that are appended: how many, and none is FREE
grown-cases : (v : Version) (s : Sizes) → let m = numbers_needed v s in
    (NoneFree (grown m)) × (length (grown m) ≡ m)
grown-cases v s = elim (needed-cases v s) [
  | inl c ↦ rw c.0 (one_word, refl)
  | inr q ↦ elim q [ inl c ↦ rw c.0 (two_words, refl) | inr c ↦ rw c.0 (three_words, refl) ]
]
  where
    one_word : NoneFree (end_of_chain ∷ [])
    one_word zero lt e = omega (arith, e)
    one_word (suc i) lt e = omega (arith, lt)

    two_words : NoneFree (fat_sector ∷ end_of_chain ∷ [])
    two_words zero lt e = omega (arith, e)
    two_words (suc zero) lt e = omega (arith, e)
    two_words (suc (suc i)) lt e = omega (arith, lt)

    three_words : NoneFree (fat_sector ∷ difat_sector ∷ end_of_chain ∷ [])
    three_words zero lt e = omega (arith, e)
    three_words (suc zero) lt e = omega (arith, e)
    three_words (suc (suc zero)) lt e = omega (arith, e)
    three_words (suc (suc (suc i))) lt e = omega (arith, lt)

pub grown-length : (v : Version) (s : Sizes) → length (grown (numbers_needed v s)) ≡ numbers_needed v s
grown-length v s = (grown-cases v s).1

pub grown-busy : (v : Version) (s : Sizes) → NoneFree (grown (numbers_needed v s))
grown-busy v s = (grown-cases v s).0

-- the sizes of the grown tables are the grown sizes
pub sizes-grown : (t : TableState) → let m = numbers_needed t.version (sizes_of t) in sizes_of (grown_state t m) ≡ grown_sizes (sizes_of t) m
sizes-grown t = elim (needed-cases t.version (sizes_of t)) [
  | inl c ↦ rw c.0 (λ i. record {
    sectors = length-append t.fat (end_of_chain ∷ []) i;
    fats = length-append t.fat_sectors [] i;
    difats = length-append t.difat_sectors [] i;
  })
  | inr q ↦ elim q [
    | inl c ↦ rw c.0 (λ i. record {
      sectors = length-append t.fat (fat_sector ∷ end_of_chain ∷ []) i;
      fats = length-append t.fat_sectors (length t.fat ∷ []) i;
      difats = length-append t.difat_sectors [] i;
    })
    | inr c ↦ rw c.0 (λ i. record {
      sectors = length-append t.fat (fat_sector ∷ difat_sector ∷ end_of_chain ∷ []) i;
      fats = length-append t.fat_sectors (length t.fat ∷ []) i;
      difats = length-append t.difat_sectors ((length t.fat + 1) ∷ []) i;
    })
  ]
]

-- ---- what is kept stays right

pub kept-pop : (t : TableState) (free : List ℕ) (x : ℕ) → IsKept t (free ++ x ∷ []) → IsKept (record t { fat = set t.fat x end_of_chain }) free
kept-pop t free x k =
    let same = length-set t.fat x end_of_chain in
    let lx : x < length t.fat = (k.listed.sound x (Contains-push free x)).0 in
    record {
      listed = subst (λ n. ListsFree n free (set t.fat x end_of_chain)) (sym same) (lists-pop (length t.fat) free t.fat x end_of_chain lx (λ e. omega (arith, e)) k.listed);
      sizes = rw same (k.sizes);
      limit = k.limit;
    }

pub kept-link : (t : TableState) (free : List ℕ) (x w : ℕ) → value t.fat x ≢ free_sector → w ≢ free_sector → IsKept t free → IsKept (record t { fat = set t.fat x w }) free
kept-link t free x w was busy k =
    let same = length-set t.fat x w in
    record {
      listed = subst (λ n. ListsFree n free (set t.fat x w)) (sym same) (lists-link (length t.fat) free t.fat x w was busy k.listed);
      sizes = rw same (k.sizes);
      limit = k.limit;
    }

pub kept-push : (t : TableState) (free : List ℕ) (x : ℕ) → x < length t.fat → value t.fat x ≢ free_sector → IsKept t free → IsKept (record t { fat = set t.fat x free_sector }) (free ++ x ∷ [])
kept-push t free x lx busy k =
    let same = length-set t.fat x free_sector in
    record {
      listed = subst (λ n. ListsFree n (free ++ x ∷ []) (set t.fat x free_sector)) (sym same) (lists-push (length t.fat) free t.fat x lx busy k.listed);
      sizes = rw same (k.sizes);
      limit = k.limit;
    }

pub kept-grown : (t : TableState) (free : List ℕ) → let m = numbers_needed t.version (sizes_of t) in length t.fat + m ≤ max_regular_sector → IsKept t free → IsKept (grown_state t m) free
kept-grown t free fits k = record {
  listed = lists-grow free t.fat (grown (numbers_needed t.version (sizes_of t))) (grown-busy t.version (sizes_of t)) k.listed;
  sizes = subst (AreSizes t.version) (sym (sizes-grown t)) (are-sizes-grown t.version (sizes_of t) fits k.sizes);
  limit = k.limit;
}
