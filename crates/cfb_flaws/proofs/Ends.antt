-- Loose ends, by what is known of owners.
use Rattle.std.proofs.Common.{◌≡◌, ◌≢◌, ◌<◌, ◌≤◌, inl, inr, ℕ, List, [], ◌∷◌, ◌++◌, Bool, true, false, length, refl, sym, ◌∙◌, ap, subst, arith}
use Rattle.std.specs.Prelude.{Contains, IsTrue, slice_index}
use Rattle.std.proofs.lemmas.Bool.{cases_lt}
use Rattle.std.proofs.lemmas.List.{get_or_past}
use Rattle.cfb_format.specs.Bytes.{is_regular, max_regular_sector}
use Rattle.cfb_format.specs.Chain.{value}
use Rattle.cfb_format.specs.Names.{Cases}
use Rattle.cfb_format.specs.Reading.{Reading, Reads}
use Rattle.cfb_format.specs.Soundness.{IsLoose, no_owner}
use Rattle.cfb_format.proofs.Walks.{le-regular, regular-le, value-at}
use Rattle.cfb_soundness.proofs.MarkLemmas.{true_false}
use Rattle.cfb_flaws.specs.declared.flaw.Flaw.TheVariants.{Loose}
use Rattle.cfb_flaws.specs.declared.known.Known.{Known}
use Rattle.cfb_flaws.specs.declared.owner.Owner.{Owner}
use Rattle.cfb_flaws.specs.declared.owner.Owner.TheVariants.{Fat as FatOwner, Difat, Directory, Minifat as MinifatOwner, MiniStream, Stream, Free, Unused}
use Rattle.cfb_flaws.specs.declared.owner.Table.{Table}
use Rattle.cfb_flaws.specs.Claims.{words_in, words_of}
use Rattle.cfb_flaws.specs.Flaws.{Holds, IsLoosePair, owner_in, used_in}
use Rattle.cfb_flaws.specs.Owners.{is_unused, meant, owner_at}
use Rattle.cfb_flaws.specs.Telling.{KnowsFile, owners_of}
use Rattle.cfb_flaws.proofs.Loosing.{is-none, none-loose, owner-no, words-inside}
use Rattle.cfb_flaws.proofs.Truths.{owners-len, owner-known, unused-is, used-not, value-known, words-known}

meant-none : (o : Owner) → is-none (meant o) ≡ is_unused o
unfolding is-none
meant-none FatOwner = refl
meant-none Difat = refl
meant-none Directory = refl
meant-none MinifatOwner = refl
meant-none MiniStream = refl
meant-none (Stream k) = refl
meant-none Free = refl
meant-none Unused = refl

used-meant : (o : Owner) → is_unused o ≡ false → meant o ≢ no_owner
unfolding is-none
used-meant o e is = true_false (is-none (meant o)) (ap is-none is) (meant-none o ∙ e)

module _ {A : Type 0} (known : Known A) (cases : Cases) (bytes : List ℕ) (r : Reading) (reads : Reads cases bytes r) (knows : KnowsFile known bytes r) (t : Table)
    (i next : ℕ) (lt : i < length (words_in t known.parts.now)) (is : slice_index (words_in t known.parts.now) i ≡ next) where
  below : i < length (words_of t r)
  below = subst (λ (z : List ℕ). i < length z) (words-known known bytes r knows t) lt

  inside : i < length (owners_of t known)
  inside = let l = owners-len known bytes r knows t in let b = below in omega (arith, b, l)

  leads : value (words_of t r) i ≡ next
  leads = value-known known bytes r knows t i lt ∙ is

  next-below : next ≤ max_regular_sector → next < length (words_of t r)
  next-below le =
      let w : slice_index (words_of t r) i ≡ next = sym (value-at (words_of t r) i below) ∙ leads in
      let b = words-inside cases bytes r reads t i below (subst (λ (n : ℕ). IsTrue (is_regular n)) (sym w) (le-regular next le)) in
      omega (arith, b, w)

  next-inside : next ≤ max_regular_sector → next < length (owners_of t known)
  next-inside le = let l = owners-len known bytes r knows t in let b = next-below le in omega (arith, b, l)

  -- it points nowhere
  pub pair-ended : max_regular_sector < next → IsLoosePair t r i
  pair-ended past loose regular = let le = regular-le (value (words_of t r) i) regular in let l = leads in absurd (omega (arith, le, past, l))

  -- it has a use, or is free
  pub pair-used : is_unused (owner_at (owners_of t known) i) ≡ false → IsLoosePair t r i
  pair-used used loose regular =
      absurd (owner-no t r i (λ b e. used-meant (owner_at (owners_of t known) i) used (owner-known known bytes r knows t i inside ∙ e)) loose)

  -- it points to a loose one
  pub pair-loose : next ≤ max_regular_sector → is_unused (owner_at (owners_of t known) next) ≡ true → IsLoosePair t r i
  pair-loose le free loose regular =
      subst (IsLoose (words_of t r) (used_in t r)) (sym leads)
      (none-loose t r next (next-below le) (sym (owner-known known bytes r knows t next (next-inside le)) ∙ ap meant (unused-is (owner_at (owners_of t known) next) free)))

  -- or to another
  pub pair-broken : (o : Owner) → o ≡ owner_at (owners_of t known) next → next ≤ max_regular_sector → is_unused (owner_at (owners_of t known) i) ≡ true
      → is_unused o ≡ false → Holds bytes r (Loose t i next o)
  pair-broken o same le free used = (
    sym (owner-known known bytes r knows t i inside) ∙ ap meant (unused-is (owner_at (owners_of t known) i) free),
    leads,
    le-regular next le,
    sym (owner-known known bytes r knows t next (next-inside le)) ∙ ap meant (sym same),
    used-not o used,
  )
