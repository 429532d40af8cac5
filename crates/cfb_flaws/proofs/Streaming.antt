-- Streams by the numbers of their entries.
use Rattle.std.proofs.Common.{◌+◌, ◌≡◌, ◌≢◌, ◌<◌, ◌≤◌, inl, inr, ℕ, List, [], ◌∷◌, ◌++◌, Bool, true, false, length, refl, sym, ◌∙◌, ap, subst, arith, take, get_or, add-one}
use Rattle.std.proofs.Math.Seq.{take-suc}
use Rattle.std.specs.Prelude.{Contains, IsSome, Option, Some, None, map, slice_index_or, unwrap_or, if◌then◌else◌}
use Rattle.std.proofs.lemmas.List.{take_all}
use Rattle.std.proofs.lemmas.List.Elements.{Contains-append_cases}
use Rattle.cfb_codecs.specs.declared.direntry.DirEntry.{DirEntry}
use Rattle.cfb_codecs.specs.EntryModel.{entry_of}
use Rattle.cfb_format.specs.Bytes.{end_of_chain}
use Rattle.cfb_format.specs.Chain.{Follows, chain_from}
use Rattle.cfb_format.specs.Content.{content_chain, is_large, mini_chain, sector_chain}
use Rattle.cfb_format.specs.DirectoryEntry.{Entry, unallocated_entry}
use Rattle.cfb_format.specs.Names.{Cases}
use Rattle.cfb_format.specs.Reading.{Reading, Reads}
use Rattle.cfb_format.specs.Siblings.{entry_at}
use Rattle.cfb_format.specs.Soundness.{streams}
use Rattle.cfb_format.proofs.Chains.{chain_from-IsChain}
use Rattle.cfb_format.proofs.Members.{Contains-nil, Contains-one}
use Rattle.cfb_format.proofs.Walks.{chain_of as as_chain}
use Rattle.cfb_soundness.proofs.MarkLemmas.{true_false}
use Rattle.cfb_soundness.proofs.StreamLemmas.{entry-there, entry-past}
use Rattle.cfb_flaws.specs.declared.flaw.Flaw.{Flaw}
use Rattle.cfb_flaws.specs.declared.known.Known.{Known}
use Rattle.cfb_flaws.specs.declared.owner.Owner.TheVariants.{Stream}
use Rattle.cfb_flaws.specs.declared.owner.Table.{Table}
use Rattle.cfb_flaws.specs.declared.owner.Table.TheVariants.{Fat, Minifat}
use Rattle.cfb_flaws.specs.Claims.{Arrives, LiesIn, chain_of, members_in, words_of}
use Rattle.cfb_flaws.specs.Flaws.{Clause, HasAll}
use Rattle.cfb_flaws.specs.Owners.{is_chained, owner_at}
use Rattle.cfb_flaws.specs.Telling.{KnowsFile, Told, owners_of}
use Rattle.cfb_flaws.proofs.Knowing.{chain-is}
use Rattle.cfb_flaws.proofs.Lying.{lies-large, lies-small, lies-members, small-chain}
use Rattle.cfb_flaws.proofs.Sharing.{member-follows, start-follows, off-chain-none}
use Rattle.cfb_flaws.proofs.Tellings.{told-same, told-map, told-then}
use Rattle.cfb_flaws.proofs.Truths.{members-has, some-chain, starts-in}

-- ---- entries

module _ {A : Type 0} (known : Known A) (bytes : List ℕ) (r : Reading) (knows : KnowsFile known bytes r) where
  pub known-entry : (i : ℕ) (e : DirEntry A) → i < length known.parts.now.entries.now → entry_at r.entries i ≡ entry_of (slice_index_or known.parts.now.entries.now i e)
  known-entry i e lt = ap (λ (es : List Entry). entry_at es i) (sym knows.parts.entries) ∙ entry-there known.parts.now.entries.now i e lt

  pub known-past : (i : ℕ) → length known.parts.now.entries.now ≤ i → entry_at r.entries i ≡ unallocated_entry
  known-past i ge = ap (λ (es : List Entry). entry_at es i) (sym knows.parts.entries) ∙ entry-past known.parts.now.entries.now i ge

pub past-members : (t : Table) (r : Reading) → members_in t r unallocated_entry ≡ []
past-members Fat r = refl
past-members Minifat r = refl

pub past-lies : (t : Table) → LiesIn t unallocated_entry → ⊥
past-lies t l = omega (arith, l.some)

-- ---- where a stream lies

pub lies-content : (t : Table) (r : Reading) (e : Entry) → LiesIn t e → content_chain r e ≡ chain_from (words_of t r) e.start_sector
lies-content Fat r e l = ap (λ (b : Bool). if b then sector_chain r e else mini_chain r e) (lies-large e l)
lies-content Minifat r e l = ap (λ (b : Bool). if b then sector_chain r e else mini_chain r e) (lies-small e l) ∙ small-chain r e l.some

pub some-from : (table : List ℕ) (start : ℕ) (list : List ℕ) → Follows table start list → chain_from table start ≡ Some list
some-from table start list f = (chain_from-IsChain table start list).1 (as_chain table start list f)

module _ {A : Type 0} (known : Known A) (cases : Cases) (bytes : List ℕ) (r : Reading) (reads : Reads cases bytes r) (knows : KnowsFile known bytes r) (t : Table) (k : ℕ) (m : Contains (streams r) k)
    (e : Entry) (is : entry_at r.entries k ≡ e) (lies : LiesIn t e) where
  -- the stream has what lies on its chain
  pub stream-has : HasAll t r (Stream k) (chain_of (words_of t r) e.start_sector)
  stream-has i c = members-has t r k m i (subst (λ (z : List ℕ). Contains z i) (sym (ap (members_in t r) is ∙ lies-members t r e lies)) c)

  -- on a chain it has one
  pub on-chain-some : Arrives (owners_of t known) e.start_sector → IsSome (content_chain r (entry_at r.entries k))
  on-chain-some a =
      let f = start-follows known cases bytes r reads knows t e.start_sector a in
      subst IsSome (sym (ap (content_chain r) is ∙ lies-content t r e lies ∙ some-from (words_of t r) e.start_sector (chain_of (words_of t r) e.start_sector) f)) refl

  -- and off any it has none
  pub off-chain-no-chain : e.start_sector ≢ end_of_chain → is_chained (owner_at (owners_of t known) e.start_sector) ≡ false → content_chain r (entry_at r.entries k) ≡ None
  off-chain-no-chain ne off = ap (content_chain r) is ∙ lies-content t r e lies ∙ elim (some-chain (chain_from (words_of t r) e.start_sector)) [
    | inl none ↦ none
    | inr some ↦
        let w : List ℕ = words_of t r in
        let f : Follows w e.start_sector some.0 = ((chain_from-IsChain w e.start_sector some.0).0 some.1).follows in
        let here : Contains (chain_of w e.start_sector) e.start_sector =
        subst (λ (z : List ℕ). Contains z e.start_sector) (sym (chain-is w e.start_sector some.0 f)) (starts-in w e.start_sector some.0 ne f) in
        absurd (off-chain-none known cases bytes r reads knows t (Stream k) e.start_sector refl stream-has ne off e.start_sector here)
  ]

-- ---- one number of a list after the other

module _ (bytes : List ℕ) (r : Reading) (c : Clause) (P : ℕ → Type 0) (list : List ℕ) where
  pub told-start : (xs : List Flaw) → Told c ((i : ℕ) → Contains (take 0 list) i → P i) bytes r xs xs
  told-start xs = told-same bytes r c ((i : ℕ) → Contains (take 0 list) i → P i) xs (λ i m. absurd (Contains-nil i m))

  pub told-step : (k : ℕ) (xs ys zs : List Flaw) → k < length list → Told c ((i : ℕ) → Contains (take k list) i → P i) bytes r xs ys → Told c (P (get_or list k 0)) bytes r ys zs
      → Told c ((i : ℕ) → Contains (take (k + 1) list) i → P i) bytes r xs zs
  told-step k xs ys zs lt t u =
      let x = get_or list k 0 in
      let more : take (k + 1) list ≡ take k list ++ x ∷ [] = ap (λ (n : ℕ). take n list) (add-one k) ∙ take-suc list k 0 lt in
      told-then bytes r c ((i : ℕ) → Contains (take k list) i → P i) (P x) ((i : ℕ) → Contains (take (k + 1) list) i → P i) xs ys zs
      (λ all one i m. elim (Contains-append_cases (take k list) (x ∷ []) i (subst (λ (z : List ℕ). Contains z i) more m)) [
        | inl l ↦ all i l
        | inr n ↦ subst P (Contains-one x i n) one
      ]) t u

  pub told-end : (k : ℕ) (xs ys : List Flaw) → length list ≤ k → Told c ((i : ℕ) → Contains (take k list) i → P i) bytes r xs ys → Told c ((i : ℕ) → Contains list i → P i) bytes r xs ys
  told-end k xs ys ge t = subst (λ (z : List ℕ). Told c ((i : ℕ) → Contains z i → P i) bytes r xs ys) (take_all k list ge) t
