-- What owners share.
use Rattle.std.proofs.Common.{◌≡◌, ◌≢◌, ◌<◌, ◌≤◌, ◌⊎◌, inl, inr, ℕ, List, [], ◌∷◌, ◌++◌, Bool, true, false, length, get_or, refl, sym, ◌∙◌, ap, subst, arith}
use Rattle.std.specs.Prelude.{Contains, Option, Some, None, unwrap_or}
use Rattle.std.proofs.lemmas.List.Elements.{Contains-append_left, Contains-append_right, Contains-append_cases}
use Rattle.std.proofs.lemmas.List.{get_or_default}
use Rattle.cfb_format.specs.Bytes.{end_of_chain}
use Rattle.cfb_format.specs.Chain.{Follows, chain_from}
use Rattle.cfb_format.specs.Names.{Cases}
use Rattle.cfb_format.specs.Reading.{Reading, Reads}
use Rattle.cfb_format.proofs.Chains.{chain_from-IsChain, Follows-length}
use Rattle.cfb_format.proofs.Members.{Contains-nil}
use Rattle.cfb_format.proofs.Walks.{follows-member, follows-next}
use Rattle.cfb_soundness.proofs.Decision.{known as known-of}
use Rattle.cfb_soundness.proofs.MarkLemmas.{true_false}
use Rattle.std.proofs.lemmas.Bool.{cases_eq}
use Rattle.cfb_flaws.specs.declared.flaw.Flaw.{Flaw}
use Rattle.cfb_flaws.specs.declared.flaw.Flaw.TheVariants.{UsedTwice}
use Rattle.cfb_flaws.specs.declared.known.Known.{Known}
use Rattle.cfb_flaws.specs.declared.owner.Owner.{Owner}
use Rattle.cfb_flaws.specs.declared.owner.Table.{Table}
use Rattle.cfb_flaws.specs.declared.owner.Table.TheVariants.{Fat}
use Rattle.cfb_flaws.specs.Claims.{Arrives, chain_of, words_of}
use Rattle.cfb_flaws.specs.Flaws.{Has, HasAll, Holds, IsUsedTwice, OwnsIn, owner_in, twice_in}
use Rattle.cfb_flaws.specs.Owners.{is_chained, meant, owner_at}
use Rattle.cfb_flaws.specs.Searches.{HaveOwner, IsRun, IsWithin, OwnEnd}
use Rattle.cfb_flaws.specs.Telling.{KnowsFile, Told, owners_of}
use Rattle.cfb_flaws.proofs.Knowing.{chain-is}
use Rattle.cfb_flaws.proofs.Truths.{owners-len, owner-known, chained-follows, follows-chained, starts-in}

-- the chain from a start, if the start has a member at all
pub member-follows : (table : List ℕ) (start i : ℕ) → Contains (chain_of table start) i → Follows table start (chain_of table start)
member-follows table start i m = go (chain_from table start) refl m
  where
    go : (o : Option (List ℕ)) → chain_from table start ≡ o → Contains (unwrap_or o []) i → Follows table start (chain_of table start)
    go None e m = absurd (Contains-nil i m)
    go (Some list) e m =
        subst (λ (z : List ℕ). Follows table start z) (sym (ap (λ (o : Option (List ℕ)). unwrap_or o []) e)) ((chain_from-IsChain table start list).0 e).follows

no-rest : (table : List ℕ) (next : ℕ) (rest : List ℕ) → next ≡ end_of_chain → Follows table next rest → rest ≡ []
no-rest table next [] e f = refl
no-rest table next (x ∷ rest) e f = absurd (f.1 e)

module _ {A : Type 0} (known : Known A) (cases : Cases) (bytes : List ℕ) (r : Reading) (reads : Reads cases bytes r) (knows : KnowsFile known bytes r) (t : Table) where
  -- a start on a chain begins one
  pub start-follows : (start : ℕ) → Arrives (owners_of t known) start → Follows (words_of t r) start (chain_of (words_of t r) start)
  start-follows start (inl ended) =
      let f : Follows (words_of t r) start [] = ended in
      subst (λ (z : List ℕ). Follows (words_of t r) start z) (sym (chain-is (words_of t r) start [] f)) f
  start-follows start (inr chained) =
      let c = chained-follows known cases bytes r reads knows t start chained in
      subst (λ (z : List ℕ). Follows (words_of t r) start z) (sym (chain-is (words_of t r) start c.0 c.1)) c.1

  -- a start that is on none has no member
  pub off-chain-none : (o : Owner) (start : ℕ) → is_chained o ≡ true → HasAll t r o (chain_of (words_of t r) start)
      → start ≢ end_of_chain → is_chained (owner_at (owners_of t known) start) ≡ false → (i : ℕ) → Contains (chain_of (words_of t r) start) i → ⊥
  off-chain-none o start c has ne off i m =
      let f = member-follows (words_of t r) start i m in
      let s = starts-in (words_of t r) start (chain_of (words_of t r) start) ne f in
      true_false (is_chained (owner_at (owners_of t known) start))
      (follows-chained known cases bytes r reads knows t o start (chain_of (words_of t r) start) c ne f (has start s)) off

  -- where the owner has all of a chain it is the first to have it
  pub all-owned : (o : Owner) (start next : ℕ) → Follows (words_of t r) start (chain_of (words_of t r) start)
      → OwnEnd (words_of t r) (owners_of t known) o (chain_of (words_of t r) start) next → next ≡ end_of_chain → OwnsIn t r o (chain_of (words_of t r) start)
  all-owned o start next f e end i m =
      let w : List ℕ = words_of t r in
      let below = (follows-member w start (chain_of w start) f i m).0 in
      let len = owners-len known bytes r knows t in
      let none = no-rest w next e.rest end e.follows in
      let here : Contains e.path i = elim (Contains-append_cases e.path e.rest i (subst (λ (z : List ℕ). Contains z i) e.split m)) [
        | inl l ↦ l
        | inr n ↦ absurd (Contains-nil i (subst (λ (z : List ℕ). Contains z i) none n))
      ] in
      sym (owner-known known bytes r knows t i (omega (arith, below, len))) ∙ ap meant (e.owned i here)

  -- what is behind the owner's part is within the chain
  pub behind-own : (o : Owner) (list : List ℕ) (next : ℕ) → OwnEnd (words_of t r) (owners_of t known) o list next → IsWithin (words_of t r) list next
  behind-own o list next e = record {
    rest = e.rest;
    follows = e.follows;
    inside = λ i m. subst (λ (z : List ℕ). Contains z i) (sym e.split) (Contains-append_right e.path e.rest i m);
  }

  -- a run of numbers of another owner
  pub run-true : (o a : Owner) (list : List ℕ) (first last : ℕ) → a ≡ owner_at (owners_of t known) first → IsRun (words_of t r) (owners_of t known) list first last → HasAll t r o list
      → first ≤ last → owner_at (owners_of t known) first ≢ o → Holds bytes r (UsedTwice t first last a o)
  run-true o a list first last same run has le other = (
    le,
    λ i low high.
        let here = run.each i low high in
        let len = owners-len known bytes r knows t in
        let lt = here.0 in
        (sym (owner-known known bytes r knows t i (omega (arith, lt, len))) ∙ ap meant (here.2 ∙ sym same), has i here.1, λ e. other (sym same ∙ e)),
  )

-- one number of another owner
pub one-true : {A : Type 0} (known : Known A) (bytes : List ℕ) (r : Reading) → KnowsFile known bytes r → (t : Table) (o a : Owner) (n : ℕ) → n < length (owners_of t known)
    → a ≡ owner_at (owners_of t known) n → Has t r o n → a ≢ o → Holds bytes r (UsedTwice t n n a o)
one-true known bytes r knows t o a n lt same has other = (
  omega arith,
  λ i low high.
      let at : n ≡ i = omega (arith, low, high) in
      subst (λ (k : ℕ). IsUsedTwice t r k a o) at (sym (owner-known known bytes r knows t n lt) ∙ ap meant (sym same), has, other),
)

-- a DIFAT sector is a number of the FAT
pub difat-inside : {A : Type 0} (known : Known A) (cases : Cases) (bytes : List ℕ) (r : Reading) → Reads cases bytes r → KnowsFile known bytes r → (n : ℕ) → Contains r.difat_sectors n
    → n < length (owners_of Fat known)
difat-inside known cases bytes r reads knows n m =
    let b = (known-of cases bytes r reads).below n
    (Contains-append_left (r.fat_sectors ++ r.difat_sectors ++ r.directory) r.minifat_sectors n
    (Contains-append_left (r.fat_sectors ++ r.difat_sectors) r.directory n (Contains-append_right r.fat_sectors r.difat_sectors n m))) in
    let l = owners-len known bytes r knows Fat in
    omega (arith, b, l)

-- a member of a list by its place
pub member-at : (list other : List ℕ) (k : ℕ) → k < length list → list ≡ other → Contains other (get_or list k 0)
member-at list other k lt same = subst (λ (z : List ℕ). Contains z (get_or list k 0)) same (k, lt, sym (get_or_default list k 0 (get_or list k 0) lt))
