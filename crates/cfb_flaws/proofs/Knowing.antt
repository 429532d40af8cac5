-- What walks know of a table.
use Rattle.std.proofs.Common.{ℕ, ◌≡◌, ◌≢◌, ◌<◌, ◌≤◌, ◌⊎◌, ◌↔◌, List, [], ◌∷◌, ◌++◌, Bool, true, false, length, refl, sym, ◌∙◌, ap, subst, inl, inr, arith}
use Rattle.std.specs.Prelude.{Contains, IsTrue, slice_index, unwrap_or, Option, Some, None, ◌&&◌, if◌then◌else◌}
use Rattle.std.proofs.lemmas.List.Elements.{Contains-append_left, Contains-append_right, Contains-append_cases}
use Rattle.cfb_format.specs.Bytes.{end_of_chain, is_regular, max_regular_sector}
use Rattle.cfb_format.specs.Chain.{Follows, chain_from}
use Rattle.cfb_format.specs.Fat.{is_among}
use Rattle.cfb_format.proofs.Chains.{chain_from-IsChain}
use Rattle.cfb_format.proofs.Members.{Contains-or, Contains-among, not-among}
use Rattle.cfb_format.proofs.Walks.{chain_of as as_chain, follows-next, regular-le}
use Rattle.cfb_soundness.specs.Marks.{mark_at, AreFresh, Marked}
use Rattle.cfb_soundness.proofs.MarkLemmas.{true_false}
use Rattle.cfb_flaws.specs.declared.owner.Owner.{Owner}
use Rattle.cfb_flaws.specs.declared.owner.Owner.TheVariants.{Fat, Difat, Directory, Minifat, MiniStream, Stream, Free, Unused}
use Rattle.cfb_flaws.specs.Owners.{is_unused, is_chained, owner_at}
use Rattle.cfb_flaws.specs.Claims.{Given, Arrives, IsPath, Stops, chain_of, claimed_by, Claimed, IsKnown}
use Rattle.cfb_flaws.proofs.Paths.{path-joins, path-splits, path-from, no-way-round}

-- what a chain has is used
pub chained-used : (o : Owner) → is_chained o ≡ true → is_unused o ≡ false
chained-used Fat e = refl
chained-used Difat e = refl
chained-used Directory e = refl
chained-used Minifat e = refl
chained-used MiniStream e = refl
chained-used (Stream k) e = refl
chained-used Free e = refl
chained-used Unused e = sym e

pub used-stays : (o new : Owner) (b : Bool) → is_unused o ≡ false → claimed_by o b new ≡ o
used-stays o new b e = ap (λ (u : Bool). if u && b then new else o) e

pub unused-claimed : (o new : Owner) → is_unused o ≡ true → claimed_by o true new ≡ new
unused-claimed o new e = ap (λ (u : Bool). if u && true then new else o) e

pub not-claimed : (o new : Owner) → claimed_by o false new ≡ o
not-claimed o new = go (is_unused o)
  where
    go : (u : Bool) → (if u && false then new else o) ≡ o
    go true = refl
    go false = refl

pub not-arrived : (owners : List Owner) (next : ℕ) (b : Bool) → (IsTrue b ↔ Arrives owners next) → b ≡ false
    → (next ≢ end_of_chain) × (is_chained (owner_at owners next) ≡ false)
not-arrived owners next b iff unheld = ((λ e. true_false b (iff.1 (inl e)) unheld), go (is_chained (owner_at owners next)) refl)
  where
    go : (c : Bool) → is_chained (owner_at owners next) ≡ c → c ≡ false
    go true e = absurd (true_false b (iff.1 (inr e)) unheld)
    go false e = refl

pub chain-is : (table : List ℕ) (s : ℕ) (list : List ℕ) → Follows table s list → chain_of table s ≡ list
chain-is table s list f = ap (λ (o : Option (List ℕ)). unwrap_or o []) ((chain_from-IsChain table s list).1 (as_chain table s list f))

pub chain-none : (table : List ℕ) (s : ℕ) → ((list : List ℕ) → Follows table s list → ⊥) → chain_of table s ≡ []
chain-none table s none = go (chain_from table s) refl
  where
    go : (o : Option (List ℕ)) → chain_from table s ≡ o → unwrap_or o [] ≡ []
    go None e = refl
    go (Some list) e = absurd (none list ((chain_from-IsChain table s list).0 e).follows)

module _ (table : List ℕ) (old : List Owner) (seen seen' : List Bool) (start : ℕ) (path : List ℕ) (next : ℕ) (known : IsKnown table old seen)
    (is_path : IsPath table start path next) (fresh : AreFresh seen path) (marked : Marked seen path seen') where
  -- a number of the path had no owner
  path-unused : (i : ℕ) → Contains path i → is_unused (owner_at old i) ≡ true
  path-unused i m = go (is_unused (owner_at old i)) refl
    where
      go : (b : Bool) → is_unused (owner_at old i) ≡ b → b ≡ true
      go true e = refl
      go false e = absurd (fresh.unmarked i m (known.noted i e))

  -- the chain behind the path
  behind : Arrives old next → (rest : List ℕ) × Follows table next rest × ((j : ℕ) → Contains rest j → is_chained (owner_at old j) ≡ true)
  behind (inl ended) = ([], ended, λ j m. absurd (no_member j m))
    where
      no_member : (j : ℕ) → Contains [] j → ⊥
      no_member j m = omega (arith, m.1)
  behind (inr chained) = known.chained next chained

  module _ (owner : Owner) (new : List Owner) (is_chain : is_chained owner ≡ true) (given : Given old path owner new) where
    pub arrived-claimed : Arrives old next → Claimed old (chain_of table start) owner new
    arrived-claimed arrives =
        let b = behind arrives in
        let list : List ℕ = path ++ b.0 in
        let is : chain_of table start ≡ list = chain-is table start list (path-joins table start path next b.0 is_path b.1) in
        subst (λ (z : List ℕ). Claimed old z owner new) (sym is) record {
          len = given.len;
          each = λ i lt. elim (Contains-or path i) [
            | inl m ↦
                let among : is_among list i ≡ true = Contains-among list i (Contains-append_left path b.0 i m) in
                given.given i m ∙ sym (unused-claimed (owner_at old i) owner (path-unused i m)) ∙ ap (λ (c : Bool). claimed_by (owner_at old i) c owner) (sym among)
            | inr out ↦ given.others i out ∙ elim (Contains-or b.0 i) [
              | inl n ↦ sym (used-stays (owner_at old i) owner (is_among list i) (chained-used (owner_at old i) (b.2 i n)))
              | inr far ↦
                  let not : is_among list i ≡ false = not-among list i (λ c. elim (Contains-append_cases path b.0 i c) [ inl x ↦ out x | inr y ↦ far y ]) in
                  sym (ap (λ (c : Bool). claimed_by (owner_at old i) c owner) not ∙ not-claimed (owner_at old i) owner)
            ]
          ];
        }

    still : (j : ℕ) → is_chained (owner_at old j) ≡ true → is_chained (owner_at new j) ≡ true
    still j e = elim (Contains-or path j) [
      | inl m ↦ ap is_chained (given.given j m) ∙ is_chain
      | inr out ↦ ap is_chained (given.others j out) ∙ e
    ]

    pub arrived-known : Arrives old next → IsKnown table new seen'
    arrived-known arrives = record {
      chained = λ i e. elim (Contains-or path i) [
        | inl m ↦
            let b = behind arrives in
            let f = path-from table start path next i is_path m in (
              f.0 ++ b.0,
              path-joins table i f.0 next b.0 f.1 b.1,
              λ j c. elim (Contains-append_cases f.0 b.0 j c) [
                | inl x ↦ ap is_chained (given.given j (f.2 j x)) ∙ is_chain
                | inr y ↦ still j (b.2 j y)
              ],
            )
        | inr out ↦
            let c = known.chained i (ap is_chained (sym (given.others i out)) ∙ e) in
            (c.0, c.1, λ j m. still j (c.2 j m))
      ];
      broken = λ i e unheld list f. elim (Contains-or path i) [
        | inl m ↦ true_false (is_chained (owner_at new i)) (ap is_chained (given.given i m) ∙ is_chain) unheld
        | inr out ↦ elim (marked.only i e) [
          | inl was ↦ known.broken i was (ap is_chained (sym (given.others i out)) ∙ unheld) list f
          | inr m ↦ absurd (out m)
        ]
      ];
      noted = λ i e. elim (Contains-or path i) [
        | inl m ↦ marked.added i m
        | inr out ↦ marked.kept i (known.noted i (ap is_unused (sym (given.others i out)) ∙ e))
      ];
    }

  -- where it stops elsewhere there is no chain
  module _ (stops : Stops table seen' next) (off : next ≢ end_of_chain) (free : is_chained (owner_at old next) ≡ false) where
    none-behind : (rest : List ℕ) → Follows table next rest → ⊥
    none-behind rest f =
        let n = follows-next table next rest off f in
        elim (marked.only next (stops off (regular-le next n.4) n.2)) [
          | inl was ↦ known.broken next was free rest f
          | inr m ↦
              let p = path-from table start path next next is_path m in
              no-way-round table next p.0 rest p.1 p.3 off f
        ]

    pub stopped-none : (list : List ℕ) → Follows table start list → ⊥
    stopped-none list f = let s = path-splits table start path next list is_path f in none-behind s.0 s.2

    pub stopped-claimed : (owner : Owner) → Claimed old (chain_of table start) owner old
    stopped-claimed owner = subst (λ (z : List ℕ). Claimed old z owner old) (sym (chain-none table start stopped-none)) record {
      len = refl;
      each = λ i lt. sym (not-claimed (owner_at old i) owner);
    }

    pub stopped-known : IsKnown table old seen'
    stopped-known = record {
      chained = known.chained;
      broken = λ i e unheld list f. elim (marked.only i e) [
        | inl was ↦ known.broken i was unheld list f
        | inr m ↦
            let p = path-from table start path next i is_path m in
            let s = path-splits table i p.0 next list p.1 f in
            none-behind s.0 s.2
      ];
      noted = λ i e. marked.kept i (known.noted i e);
    }
