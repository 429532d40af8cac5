-- Claims, one number more.
use Rattle.std.proofs.Common.{◌≡◌, ◌≢◌, ◌<◌, ◌≤◌, ◌+◌, ◌⊎◌, inl, inr, ℕ, List, [], ◌∷◌, ◌++◌, Bool, true, false, length, set, refl, sym, ◌∙◌, ap, subst, arith}
use Rattle.std.specs.Prelude.{Contains, IsTrue, slice_index, slice_index_or, if◌then◌else◌, ◌&&◌}
use Rattle.std.proofs.lemmas.Bool.{cases_eq}
use Rattle.std.proofs.lemmas.List.{get_or-set_same, get_or-set_other, length-set}
use Rattle.std.proofs.lemmas.List.FromFn.{get_or-map-range_with_len}
use Rattle.std.proofs.lemmas.List.Elements.{Contains-append_left, Contains-append_right, Contains-append_cases}
use Rattle.cfb_format.specs.declared.version.Version.{Version}
use Rattle.cfb_format.specs.declared.version.Version.TheVariants.{V3, V4}
use Rattle.cfb_format.specs.Bytes.{end_of_chain, free_sector, fat_sector, difat_sector, is_regular, sector_count}
use Rattle.cfb_format.specs.Chain.{Follows}
use Rattle.cfb_format.specs.Fat.{is_among, fat_of, fat_value, raw_fat, ended_past_file}
use Rattle.cfb_format.specs.Names.{Cases}
use Rattle.cfb_format.specs.Reading.{Reading, Reads, HasLength}
use Rattle.cfb_format.proofs.Members.{Contains-or, Contains-one, Contains-here, Contains-nil, Contains-among, not-among, among-not}
use Rattle.cfb_format.proofs.Walks.{follows-next}
use Rattle.cfb_soundness.specs.Marks.{mark_at}
use Rattle.cfb_soundness.specs.Parts.{tables_and_directory}
use Rattle.cfb_soundness.proofs.Decision.{known}
use Rattle.cfb_soundness.proofs.MarkLemmas.{true_false}
use Rattle.cfb_flaws.specs.declared.owner.Owner.{Owner}
use Rattle.cfb_flaws.specs.declared.owner.Owner.TheVariants.{Unused}
use Rattle.cfb_flaws.specs.Owners.{is_unused, is_chained, owner_at}
use Rattle.cfb_flaws.specs.Claims.{Given, claimed_by, Claimed, IsKnown}
use Rattle.cfb_flaws.proofs.Knowing.{chained-used, used-stays, unused-claimed, not-claimed}

pub given-none : (old : List Owner) (owner : Owner) → Given old [] owner old
given-none old owner = record { len = refl; given = λ i m. absurd (Contains-nil i m); others = λ i out. refl }

pub given-more : (old cur : List Owner) (done : List ℕ) (owner : Owner) (x : ℕ) → x < length cur → Given old done owner cur → Given old (done ++ x ∷ []) owner (set cur x owner)
given-more old cur done owner x below g = record {
  len = length-set cur x owner ∙ g.len;
  given = λ i m. elim (cases_eq i x) [
    | inl at ↦ here i at
    | inr ne ↦ get_or-set_other cur x i owner Unused ne ∙ g.given i (elim (Contains-append_cases done (x ∷ []) i m) [ inl l ↦ l | inr r ↦ absurd (ne (sym (Contains-one x i r))) ])
  ];
  others = λ i out. elim (cases_eq i x) [
    | inl at ↦ absurd (out (subst (Contains (done ++ x ∷ [])) (sym at) (Contains-append_right done (x ∷ []) x (Contains-here x []))))
    | inr ne ↦ get_or-set_other cur x i owner Unused ne ∙ g.others i (λ l. out (Contains-append_left done (x ∷ []) i l))
  ];
}
  where
    here : (i : ℕ) → i ≡ x → owner_at (set cur x owner) i ≡ owner
    here i at = ap (owner_at (set cur x owner)) at ∙ get_or-set_same cur x owner Unused below

-- ---- lists

among-push : (done : List ℕ) (x i : ℕ) → i ≢ x → is_among (done ++ x ∷ []) i ≡ is_among done i
among-push done x i ne = elim (Contains-or done i) [
  | inl m ↦ Contains-among (done ++ x ∷ []) i (Contains-append_left done (x ∷ []) i m) ∙ sym (Contains-among done i m)
  | inr out ↦
      not-among (done ++ x ∷ []) i (λ m. elim (Contains-append_cases done (x ∷ []) i m) [ inl l ↦ out l | inr r ↦ ne (sym (Contains-one x i r)) ])
      ∙ sym (not-among done i out)
]

among-last : (done : List ℕ) (x i : ℕ) → i ≡ x → is_among (done ++ x ∷ []) i ≡ true
among-last done x i at = Contains-among (done ++ x ∷ []) i (subst (Contains (done ++ x ∷ [])) (sym at) (Contains-append_right done (x ∷ []) x (Contains-here x [])))

-- what is claimed now was not used before
was-unused : (o new : Owner) (b : Bool) → is_unused (claimed_by o b new) ≡ true → is_unused o ≡ true
was-unused o new b e = go (is_unused o) refl
  where
    go : (u : Bool) → is_unused o ≡ u → u ≡ true
    go true h = refl
    go false h = absurd (true_false (is_unused (claimed_by o b new)) e (ap is_unused (used-stays o new b h) ∙ h))

-- what is used keeps its owner, claimed or not
still-claimed : (o new : Owner) (b : Bool) → is_unused (claimed_by o b new) ≡ false → claimed_by o b new ≡ claimed_by o true new
still-claimed o new b e = go (is_unused o) refl b refl
  where
    go : (u : Bool) → is_unused o ≡ u → (c : Bool) → b ≡ c → claimed_by o b new ≡ claimed_by o true new
    go false h c f = used-stays o new b h ∙ sym (used-stays o new true h)
    go true h true f = ap (λ (d : Bool). claimed_by o d new) f
    go true h false f = absurd (true_false (is_unused o) h (sym (ap is_unused (ap (λ (d : Bool). claimed_by o d new) f ∙ not-claimed o new)) ∙ e))

pub claimed-none : (old : List Owner) (owner : Owner) → Claimed old [] owner old
claimed-none old owner = record { len = refl; each = λ i lt. sym (not-claimed (owner_at old i) owner) }

pub claimed-new : (old cur : List Owner) (done : List ℕ) (owner : Owner) (x : ℕ) → x < length cur → is_unused (owner_at cur x) ≡ true
    → Claimed old done owner cur → Claimed old (done ++ x ∷ []) owner (set cur x owner)
claimed-new old cur done owner x below free c = record {
  len = length-set cur x owner ∙ c.len;
  each = λ i lt. elim (cases_eq i x) [
    | inl at ↦
        let was : is_unused (owner_at old i) ≡ true = was-unused (owner_at old i) owner (is_among done i) (ap is_unused (sym (c.each i lt)) ∙ ap (λ (k : ℕ). is_unused (owner_at cur k)) at ∙ free) in
        ap (owner_at (set cur x owner)) at ∙ get_or-set_same cur x owner Unused below
        ∙ sym (ap (λ (b : Bool). claimed_by (owner_at old i) b owner) (among-last done x i at) ∙ unused-claimed (owner_at old i) owner was)
    | inr ne ↦
        get_or-set_other cur x i owner Unused ne ∙ c.each i lt ∙ sym (ap (λ (b : Bool). claimed_by (owner_at old i) b owner) (among-push done x i ne))
  ];
}

pub claimed-old : (old cur : List Owner) (done : List ℕ) (owner : Owner) (x : ℕ) → (x < length cur → is_unused (owner_at cur x) ≡ false)
    → Claimed old done owner cur → Claimed old (done ++ x ∷ []) owner cur
claimed-old old cur done owner x used c = record {
  len = c.len;
  each = λ i lt. elim (cases_eq i x) [
    | inl at ↦
        let inside : x < length cur = omega (arith, lt, at, c.len) in
        let is : is_unused (claimed_by (owner_at old i) (is_among done i) owner) ≡ false = ap is_unused (sym (c.each i lt)) ∙ ap (λ (k : ℕ). is_unused (owner_at cur k)) at ∙ used inside in
        c.each i lt ∙ still-claimed (owner_at old i) owner (is_among done i) is
        ∙ sym (ap (λ (b : Bool). claimed_by (owner_at old i) b owner) (among-last done x i at))
    | inr ne ↦ c.each i lt ∙ sym (ap (λ (b : Bool). claimed_by (owner_at old i) b owner) (among-push done x i ne))
  ];
}

-- a number of a table itself, which begins no chain, is known as such
pub known-more : (table : List ℕ) (cur : List Owner) (seen : List Bool) (owner : Owner) (x : ℕ) → x < length cur → x < length seen
    → is_unused (owner_at cur x) ≡ true → is_unused owner ≡ false → is_chained owner ≡ false → ((xs : List ℕ) → Follows table x xs → ⊥)
    → IsKnown table cur seen → IsKnown table (set cur x owner) (set seen x true)
known-more table cur seen owner x below there free used not_chain none k = record {
  chained = λ i e. elim (cases_eq i x) [
    | inl at ↦ absurd (true_false (is_chained (owner_at (set cur x owner) i)) e (ap is_chained (here i at) ∙ not_chain))
    | inr ne ↦
        let c = k.chained i (ap is_chained (sym (get_or-set_other cur x i owner Unused ne)) ∙ e) in (
          c.0,
          c.1,
          λ j m. elim (cases_eq j x) [
            | inl at ↦ absurd (true_false (is_unused (owner_at cur x)) free (chained-used (owner_at cur x) (ap (λ (n : ℕ). is_chained (owner_at cur n)) (sym at) ∙ c.2 j m)))
            | inr other ↦ ap is_chained (get_or-set_other cur x j owner Unused other) ∙ c.2 j m
          ],
        )
  ];
  broken = λ i e unheld list f. elim (cases_eq i x) [
    | inl at ↦ none list (subst (λ (n : ℕ). Follows table n list) at f)
    | inr ne ↦ k.broken i (sym (get_or-set_other seen x i true false ne) ∙ e) (ap is_chained (sym (get_or-set_other cur x i owner Unused ne)) ∙ unheld) list f
  ];
  noted = λ i e. elim (cases_eq i x) [
    | inl at ↦ ap (mark_at (set seen x true)) at ∙ get_or-set_same seen x true false there
    | inr ne ↦ get_or-set_other seen x i true false ne ∙ k.noted i (ap is_unused (sym (get_or-set_other cur x i owner Unused ne)) ∙ e)
  ];
}
  where
    here : (i : ℕ) → i ≡ x → owner_at (set cur x owner) i ≡ owner
    here i at = ap (owner_at (set cur x owner)) at ∙ get_or-set_same cur x owner Unused below

-- ---- the sectors of the tables begin no chain

marked-none : (table : List ℕ) (i w : ℕ) (list : List ℕ) → slice_index table i ≡ w → w ≢ end_of_chain → (IsTrue (is_regular w) → ⊥) → i ≢ end_of_chain → Follows table i list → ⊥
marked-none table i w list is ne unheld off f =
    let n = follows-next table i list off f in
    let m = follows-next table w n.0 ne (subst (λ (k : ℕ). Follows table k n.0) is n.3) in
    unheld m.4

pub fat-value-at : (cases : Cases) (bytes : List ℕ) (r : Reading) → Reads cases bytes r → (i : ℕ) → i < length r.fat
    → slice_index r.fat i ≡ fat_value (sector_count r.header.version bytes) r.fat_sectors r.difat_sectors (raw_fat r.header.version bytes r.fat_sectors) i
unfolding fat_of
fat-value-at cases bytes r reads i lt =
    let count = (known cases bytes r reads).count in
    let n : ℕ = sector_count r.header.version bytes in
    let inside : i < n = omega (arith, lt, count) in
    let at : 0 + i ≡ i = omega arith in
    ap (λ (z : List ℕ). slice_index z i) reads.fat.values
    ∙ get_or-map-range_with_len (fat_value n r.fat_sectors r.difat_sectors (raw_fat r.header.version bytes r.fat_sectors)) 0 n i i 0 inside at

few : (v : Version) (bytes : List ℕ) (i : ℕ) → HasLength v bytes → i < sector_count v bytes → i ≤ 0xFFFF_FFFA
few V3 bytes i h lt = let m = h.most in omega (arith, lt, m)
few V4 bytes i h lt = let m = h.most in omega (arith, lt, m)

pub tables-begin-none : (cases : Cases) (bytes : List ℕ) (r : Reading) → Reads cases bytes r → (i : ℕ) → Contains (r.fat_sectors ++ r.difat_sectors) i
    → (list : List ℕ) → Follows r.fat i list → ⊥
tables-begin-none cases bytes r reads i m list f =
    go (is_among r.fat_sectors i) refl (is_among r.difat_sectors i) refl
  where
    inside : i < length r.fat
    inside = (known cases bytes r reads).below i (Contains-append_left (r.fat_sectors ++ r.difat_sectors ++ r.directory) r.minifat_sectors i (Contains-append_left (r.fat_sectors ++ r.difat_sectors) r.directory i m))

    off : i ≢ end_of_chain
    off e =
        let count = (known cases bytes r reads).count in
        let le = few r.header.version bytes i reads.len (let h = inside in omega (arith, h, count)) in
        omega (arith, e, le)

    value-is : slice_index r.fat i ≡ fat_value (sector_count r.header.version bytes) r.fat_sectors r.difat_sectors (raw_fat r.header.version bytes r.fat_sectors) i
    value-is = fat-value-at cases bytes r reads i inside

    go : (a : Bool) → is_among r.fat_sectors i ≡ a → (b : Bool) → is_among r.difat_sectors i ≡ b → ⊥
    go true ea b eb = marked-none r.fat i fat_sector list
        (value-is ∙ ap (λ (x : Bool). if x then fat_sector else if is_among r.difat_sectors i then difat_sector else ended_past_file (sector_count r.header.version bytes) (slice_index_or (raw_fat r.header.version bytes r.fat_sectors) i free_sector)) ea)
        (λ e. omega (arith, e)) (λ g. true_false (is_regular fat_sector) g refl) off f
    go false ea true eb = marked-none r.fat i difat_sector list
        (value-is ∙ ap (λ (x : Bool). if x then fat_sector else if is_among r.difat_sectors i then difat_sector else ended_past_file (sector_count r.header.version bytes) (slice_index_or (raw_fat r.header.version bytes r.fat_sectors) i free_sector)) ea
        ∙ ap (λ (x : Bool). if x then difat_sector else ended_past_file (sector_count r.header.version bytes) (slice_index_or (raw_fat r.header.version bytes r.fat_sectors) i free_sector)) eb)
        (λ e. omega (arith, e)) (λ g. true_false (is_regular difat_sector) g refl) off f
    go false ea false eb = elim (Contains-append_cases r.fat_sectors r.difat_sectors i m) [
      | inl a ↦ among-not r.fat_sectors i ea a
      | inr b ↦ among-not r.difat_sectors i eb b
    ]
