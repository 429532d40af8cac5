-- What taking sectors does to the tables.
use Rattle.std.proofs.Common.{◌≡◌, ◌≢◌, ℕ, zero, suc, ◌+◌, ◌-◌, ◌*◌, ◌<◌, ◌≤◌, ◌⊎◌, inl, inr, List, [], ◌∷◌, ◌++◌, length, set, refl, sym, ◌∙◌, ap, subst, arith, length-set, length-append, append-nil, append_assoc}
use Rattle.std.specs.Prelude.{Contains, nat_eq}
use Rattle.std.specs.List.{IsDistinct}
use Rattle.std.proofs.lemmas.List.Elements.{Contains-append_left, Contains-append_right, Contains-append_cases, Contains-push}
use Rattle.std.proofs.lemmas.Bool.{cases_eq, cases_lt}
use Rattle.cfb_format.specs.declared.version.Version.{Version}
use Rattle.cfb_format.specs.declared.version.Version.TheVariants.{V3, V4}
use Rattle.cfb_format.specs.Bytes.{free_sector, end_of_chain, fat_sector, difat_sector, max_regular_sector, words_per_sector}
use Rattle.cfb_format.specs.Chain.{value}
use Rattle.cfb_format.specs.Full.{free_count, rounded_up}
use Rattle.cfb_format.specs.Header.{header_difat_len}
use Rattle.cfb_tables.specs.Changes.{NoneFree}
use Rattle.cfb_tables.specs.Tables.{TableState, HasTaken, AreExactTables, IsKept, sizes_of, sizes_after, numbers_needed, grown_sizes, grown_state}
use Rattle.cfb_tables.proofs.Members.{in_three, first_of_three, second_of_three, third_of_three, value-past, value-set, value-set_other, value-left, value-right}
use Rattle.cfb_tables.proofs.FreeLemmas.{none-free, count-set, count-busy, count-none}
use Rattle.cfb_tables.proofs.SizeLemmas.{needed-cases, after-none, after-one, after-more}
use Rattle.cfb_tables.proofs.KeptLemmas.{sizes-grown}
use Rattle.cfb_tables.proofs.TableCounts.{Counts, HasPlaces, counts-same, counts-grown, counts-then, counts-of}
use Rattle.cfb_format.proofs.Members.{Contains-nil, Contains-cases, Contains-one, Contains-or, none_distinct, one_distinct, distinct-join}
use Rattle.cfb_format.proofs.Walks.{value-below}

-- the sizes are the same
counts-set : (t : TableState) (fat : List ℕ) → length fat ≡ length t.fat → HasPlaces t.version (sizes_of t) → Counts t.version t.version (sizes_of t) (sizes_of (record t { fat = fat }))
counts-set t fat same places =
    counts-same t.version (sizes_of t) (sizes_of (record t { fat = fat })) (λ i. record { sectors = same i; fats = length t.fat_sectors; difats = length t.difat_sectors }) places

-- as many numbers are free, so nothing comes past the end
sizes-set : (t : TableState) (fat : List ℕ) (k : ℕ) → length fat ≡ length t.fat → k ≤ free_count t.fat
    → sizes_of (record t { fat = fat }) ≡ sizes_after t.version (k - free_count t.fat) (sizes_of t)
sizes-set t fat k same enough =
    (λ i. record { sectors = same i; fats = length t.fat_sectors; difats = length t.difat_sectors })
    ∙ sym (after-none t.version (k - free_count t.fat) (sizes_of t) (omega (arith, enough)))

-- ---- a free number is taken

pub taken-pop : (t : TableState) (free : List ℕ) (x : ℕ) → IsKept t (free ++ x ∷ []) → HasTaken t (record t { fat = set t.fat x end_of_chain }) [] (x ∷ [])
taken-pop t free x k =
    let top = k.listed.sound x (Contains-push free x) in
    let same = length-set t.fat x end_of_chain in
    let counts = counts-set t (set t.fat x end_of_chain) same k.sizes.places in
    let fewer = count-set t.fat x end_of_chain top.0 top.1 (λ e. omega (arith, e)) in
    record {
      fats = [];
      difats = [];
      fat_sectors = sym (append-nil t.fat_sectors);
      difat_sectors = sym (append-nil t.difat_sectors);
      fat_marks = λ i m. absurd (Contains-nil i m);
      difat_marks = λ i m. absurd (Contains-nil i m);
      fresh = λ i m. ap (value t.fat) (sym (Contains-one x i m)) ∙ top.1;
      past = λ i m. absurd (Contains-nil i m);
      once = one_distinct x;
      fats_once = none_distinct;
      difats_once = none_distinct;
      ends = λ i m. absurd (Contains-nil i m);
      busy = λ i m. inr (ap (value (set t.fat x end_of_chain)) (sym (Contains-one x i m)) ∙ value-set t.fat x end_of_chain top.0);
      only = λ i out. value-set_other t.fat x i end_of_chain (λ e. out (0, omega arith, sym e));
      longer = omega (arith, same);
      none_free = λ more. absurd (omega (arith, same, more));
      limited = λ more. absurd (omega (arith, same, more));
      left = omega (arith, fewer);
      sizes = sizes-set t (set t.fat x end_of_chain) 1 same (omega (arith, fewer));
      exact = λ e. record { fats = e.fats ∙ ap (λ n. rounded_up n (words_per_sector t.version)) (sym same); difats = e.difats };
      covered = counts.covered;
      fat_count = counts.fats;
      difat_count = counts.difats;
      same_version = refl;
      same_max = refl;
    }

-- ---- the last sector of a chain is made to name the next one

pub taken-link : (t : TableState) (last next : ℕ) → HasPlaces t.version (sizes_of t) → value t.fat last ≡ end_of_chain → next ≤ max_regular_sector
    → HasTaken t (record t { fat = set t.fat last next }) (last ∷ []) []
taken-link t last next places ended regular =
    let below = value-below t.fat last (λ e. omega (arith, e, ended)) in
    let same = length-set t.fat last next in
    let counts = counts-set t (set t.fat last next) same places in
    let free = count-busy t.fat last next (λ e. omega (arith, e, ended)) (λ e. omega (arith, e, regular)) in
    record {
      fats = [];
      difats = [];
      fat_sectors = sym (append-nil t.fat_sectors);
      difat_sectors = sym (append-nil t.difat_sectors);
      fat_marks = λ i m. absurd (Contains-nil i m);
      difat_marks = λ i m. absurd (Contains-nil i m);
      fresh = λ i m. absurd (Contains-nil i m);
      past = λ i m. absurd (Contains-nil i m);
      once = none_distinct;
      fats_once = none_distinct;
      difats_once = none_distinct;
      ends = λ i m. ap (value t.fat) (sym (Contains-one last i m)) ∙ ended;
      busy = λ i m. inl (let w : value (set t.fat last next) i ≡ next = ap (value (set t.fat last next)) (sym (Contains-one last i m)) ∙ value-set t.fat last next below in omega (arith, w, regular));
      only = λ i out. value-set_other t.fat last i next (λ e. out (0, omega arith, sym e));
      longer = omega (arith, same);
      none_free = λ more. absurd (omega (arith, same, more));
      limited = λ more. absurd (omega (arith, same, more));
      left = omega (arith, free);
      sizes = sizes-set t (set t.fat last next) 0 same (omega arith);
      exact = λ e. record { fats = e.fats ∙ ap (λ n. rounded_up n (words_per_sector t.version)) (sym same); difats = e.difats };
      covered = counts.covered;
      fat_count = counts.fats;
      difat_count = counts.difats;
      same_version = refl;
      same_max = refl;
    }

-- ---- numbers past the end are taken

append-only : (table words : List ℕ) (i : ℕ) → (i < length table) ⊎ (length table + length words ≤ i) → value (table ++ words) i ≡ value table i
append-only table words i (inl lt) = value-left table words i lt
append-only table words i (inr ge) =
    let len = length-append table words in
    value-past (table ++ words) i (omega (arith, ge, len)) ∙ sym (value-past table i (omega (arith, ge)))

none-appended : (table words : List ℕ) → NoneFree table → NoneFree words → NoneFree (table ++ words)
none-appended table words none busy i lt is =
    let len = length-append table words in
    elim (cases_lt i (length table)) [
      | inl less ↦ none i less (sym (value-left table words i less) ∙ is)
      | inr ge ↦
          let at : i ≡ length table + (i - length table) = omega (arith, ge) in
          busy (i - length table) (omega (arith, lt, len, ge)) (sym (value-right table words (i - length table)) ∙ (ap (value (table ++ words)) (sym at) ∙ is))
    ]

module _ (t : TableState) (x : ℕ) (words fats difats : List ℕ) where
  abbrev after : TableState
  after = record t { fat = t.fat ++ words; fat_sectors = t.fat_sectors ++ fats; difat_sectors = t.difat_sectors ++ difats }

  taken-words : NoneFree t.fat → NoneFree words
      → ((i : ℕ) → Contains ((x ∷ []) ++ fats ++ difats) i → length t.fat ≤ i)
      → ((i : ℕ) → length t.fat ≤ i → i < length t.fat + length words → Contains ((x ∷ []) ++ fats ++ difats) i)
      → ((i : ℕ) → Contains fats i → value (t.fat ++ words) i ≡ fat_sector)
      → ((i : ℕ) → Contains difats i → value (t.fat ++ words) i ≡ difat_sector)
      → IsDistinct nat_eq fats → IsDistinct nat_eq difats → value (t.fat ++ words) x ≡ end_of_chain
      → length t.fat + length words ≤ t.max_sectors → (AreExactTables t → AreExactTables after)
      → Counts t.version t.version (sizes_of t) (sizes_of after) → sizes_of after ≡ grown_sizes (sizes_of t) (numbers_needed t.version (sizes_of t))
      → HasTaken t after [] (x ∷ [])
  taken-words none busy new all marks difat_marks fats_once difats_once ended limit exact counts sized =
      let len = length-append t.fat words in
      let was = count-none t.fat none in
      let is = count-none (t.fat ++ words) (none-appended t.fat words none busy) in
      record {
        fats = fats;
        difats = difats;
        fat_sectors = refl;
        difat_sectors = refl;
        fat_marks = marks;
        difat_marks = difat_marks;
        fresh = λ i m. value-past t.fat i (new i m);
        past = λ i m. elim (Contains-append_cases fats difats i m) [
          | inl f ↦ new i (second_of_three (x ∷ []) fats difats i f)
          | inr d ↦ new i (third_of_three (x ∷ []) fats difats i d)
        ];
        once = one_distinct x;
        fats_once = fats_once;
        difats_once = difats_once;
        ends = λ i m. absurd (Contains-nil i m);
        busy = λ i m. inr (ap (value (t.fat ++ words)) (sym (Contains-one x i m)) ∙ ended);
        only = λ i out. append-only t.fat words i (elim (cases_lt i (length t.fat)) [
          | inl lt ↦ inl lt
          | inr ge ↦ elim (cases_lt i (length t.fat + length words)) [ inl lt ↦ absurd (out (all i ge lt)) | inr past ↦ inr past ]
        ]);
        longer = omega (arith, len);
        none_free = λ more. none-appended t.fat words none busy;
        limited = λ more. omega (arith, len, limit);
        left = omega (arith, was, is);
        sizes = sized ∙ sym (after-one t.version (1 - free_count t.fat) 0 (sizes_of t) (omega (arith, was)) ∙ after-none t.version 0 (grown_sizes (sizes_of t) (numbers_needed t.version (sizes_of t))) refl);
        exact = exact;
        covered = counts.covered;
        fat_count = counts.fats;
        difat_count = counts.difats;
        same_version = refl;
        same_max = refl;
      }

-- the counts stay exact
exact-one : (v : Version) (n f : ℕ) → n < f * words_per_sector v → f ≡ rounded_up n (words_per_sector v) → f ≡ rounded_up (n + 1) (words_per_sector v)
exact-one V3 n f h e = omega (arith, h, e)
exact-one V4 n f h e = omega (arith, h, e)

exact-more : (v : Version) (n f m : ℕ) → 0 < m → m < 4 → f * words_per_sector v ≤ n → f ≡ rounded_up n (words_per_sector v) → f + 1 ≡ rounded_up (n + m) (words_per_sector v)
exact-more V3 n f m s t h e = omega (arith, s, t, h, e)
exact-more V4 n f m s t h e = omega (arith, s, t, h, e)

exact-difats : (v : Version) (f d : ℕ) → f < header_difat_len + d * (words_per_sector v - 1) → d ≡ rounded_up (f - header_difat_len) (words_per_sector v - 1)
    → d ≡ rounded_up (f + 1 - header_difat_len) (words_per_sector v - 1)
exact-difats V3 f d h e = omega (arith, h, e)
exact-difats V4 f d h e = omega (arith, h, e)

exact-more-difats : (v : Version) (f d : ℕ) → header_difat_len + d * (words_per_sector v - 1) ≤ f → d ≡ rounded_up (f - header_difat_len) (words_per_sector v - 1)
    → d + 1 ≡ rounded_up (f + 1 - header_difat_len) (words_per_sector v - 1)
exact-more-difats V3 f d h e = omega (arith, h, e)
exact-more-difats V4 f d h e = omega (arith, h, e)

at-end : (table words : List ℕ) (i k : ℕ) → i ≡ length table + k → value (table ++ words) i ≡ value words k
at-end table words i k e = ap (value (table ++ words)) e ∙ value-right table words k

module _ (t : TableState) (x : ℕ) (none : NoneFree t.fat) where
  abbrev n : ℕ
  n = length t.fat

  abbrev W : ℕ
  W = words_per_sector t.version

  -- growing by so many numbers is what the sizes need
  abbrev IsSized : ℕ → Type 0
  IsSized j = sizes_of (grown_state t j) ≡ grown_sizes (sizes_of t) (numbers_needed t.version (sizes_of t))

  taken-one : x + 1 ≡ n + 1 → n + 1 ≤ t.max_sectors → n < length t.fat_sectors * W → Counts t.version t.version (sizes_of t) (sizes_of (grown_state t 1)) → IsSized 1
      → HasTaken t (grown_state t 1) [] (x ∷ [])
  taken-one is fits covered counts sized = taken-words t x (end_of_chain ∷ []) [] [] none
      (λ i lt e. elim (cases_eq i 0) [ inl z ↦ (let w : value (end_of_chain ∷ []) i ≡ end_of_chain = ap (value (end_of_chain ∷ [])) z in omega (arith, w, e)) | inr ne ↦ omega (arith, lt, ne) ])
      (λ i m. let e = Contains-one x i m in omega (arith, e, is))
      (λ i ge lt. (0, omega arith, omega (arith, ge, lt, is)))
      (λ i m. absurd (Contains-nil i m))
      (λ i m. absurd (Contains-nil i m))
      none_distinct none_distinct
      (at-end t.fat (end_of_chain ∷ []) x 0 (omega (arith, is)))
      fits
      (λ e. record {
        fats = let len = length-append t.fat (end_of_chain ∷ []) in
            ap length (append-nil t.fat_sectors) ∙ exact-one t.version n (length t.fat_sectors) covered e.fats ∙ ap (λ k. rounded_up k W) (sym len);
        difats = ap length (append-nil t.difat_sectors) ∙ e.difats ∙ ap (λ (z : List ℕ). rounded_up (length z - header_difat_len) (W - 1)) (sym (append-nil t.fat_sectors));
      })
      counts
      sized

  busy-two : NoneFree (fat_sector ∷ end_of_chain ∷ [])
  busy-two zero lt e = omega (arith, e)
  busy-two (suc zero) lt e = omega (arith, e)
  busy-two (suc (suc i)) lt e = omega (arith, lt)

  taken-two : x + 1 ≡ n + 2 → n + 2 ≤ t.max_sectors → length t.fat_sectors * W ≤ n → length t.fat_sectors < header_difat_len + length t.difat_sectors * (W - 1)
      → Counts t.version t.version (sizes_of t) (sizes_of (grown_state t 2)) → IsSized 2 → HasTaken t (grown_state t 2) [] (x ∷ [])
  taken-two is fits full places counts sized = taken-words t x (fat_sector ∷ end_of_chain ∷ []) (n ∷ []) [] none busy-two
      (λ i m. elim (Contains-cases x (n ∷ []) i m) [ inl e ↦ omega (arith, e, is) | inr r ↦ (let e = Contains-one n i r in omega (arith, e)) ])
      (λ i ge lt. elim (cases_eq n i) [ inl e ↦ (1, omega arith, e) | inr ne ↦ (0, omega arith, omega (arith, ge, lt, is, ne)) ])
      (λ i m. at-end t.fat (fat_sector ∷ end_of_chain ∷ []) i 0 (let e = Contains-one n i m in omega (arith, e)))
      (λ i m. absurd (Contains-nil i m))
      (one_distinct n) none_distinct
      (at-end t.fat (fat_sector ∷ end_of_chain ∷ []) x 1 (omega (arith, is)))
      fits
      (λ e. record {
        fats = let len = length-append t.fat (fat_sector ∷ end_of_chain ∷ []) in
            length-append t.fat_sectors (n ∷ []) ∙ exact-more t.version n (length t.fat_sectors) 2 (omega arith) (omega arith) full e.fats ∙ ap (λ k. rounded_up k W) (sym len);
        difats = ap length (append-nil t.difat_sectors) ∙ exact-difats t.version (length t.fat_sectors) (length t.difat_sectors) places e.difats
            ∙ ap (λ k. rounded_up (k - header_difat_len) (W - 1)) (sym (length-append t.fat_sectors (n ∷ [])));
      })
      counts
      sized

  busy-three : NoneFree (fat_sector ∷ difat_sector ∷ end_of_chain ∷ [])
  busy-three zero lt e = omega (arith, e)
  busy-three (suc zero) lt e = omega (arith, e)
  busy-three (suc (suc zero)) lt e = omega (arith, e)
  busy-three (suc (suc (suc i))) lt e = omega (arith, lt)

  taken-three : x + 1 ≡ n + 3 → n + 3 ≤ t.max_sectors → length t.fat_sectors * W ≤ n → header_difat_len + length t.difat_sectors * (W - 1) ≤ length t.fat_sectors
      → Counts t.version t.version (sizes_of t) (sizes_of (grown_state t 3)) → IsSized 3 → HasTaken t (grown_state t 3) [] (x ∷ [])
  taken-three is fits full places counts sized = taken-words t x (fat_sector ∷ difat_sector ∷ end_of_chain ∷ []) (n ∷ []) ((n + 1) ∷ []) none busy-three
      (λ i m. elim (Contains-cases x (n ∷ (n + 1) ∷ []) i m) [
        | inl e ↦ omega (arith, e, is)
        | inr r ↦ elim (Contains-cases n ((n + 1) ∷ []) i r) [ inl e ↦ omega (arith, e) | inr q ↦ (let e = Contains-one (n + 1) i q in omega (arith, e)) ]
      ])
      (λ i ge lt. elim (cases_eq n i) [
        | inl e ↦ (1, omega arith, e)
        | inr ne ↦ elim (cases_eq (n + 1) i) [ inl e ↦ (2, omega arith, e) | inr other ↦ (0, omega arith, omega (arith, ge, lt, is, ne, other)) ]
      ])
      (λ i m. at-end t.fat (fat_sector ∷ difat_sector ∷ end_of_chain ∷ []) i 0 (let e = Contains-one n i m in omega (arith, e)))
      (λ i m. at-end t.fat (fat_sector ∷ difat_sector ∷ end_of_chain ∷ []) i 1 (let e = Contains-one (n + 1) i m in omega (arith, e)))
      (one_distinct n) (one_distinct (n + 1))
      (at-end t.fat (fat_sector ∷ difat_sector ∷ end_of_chain ∷ []) x 2 (omega (arith, is)))
      fits
      (λ e. record {
        fats = let len = length-append t.fat (fat_sector ∷ difat_sector ∷ end_of_chain ∷ []) in
            length-append t.fat_sectors (n ∷ []) ∙ exact-more t.version n (length t.fat_sectors) 3 (omega arith) (omega arith) full e.fats ∙ ap (λ k. rounded_up k W) (sym len);
        difats = length-append t.difat_sectors ((n + 1) ∷ []) ∙ exact-more-difats t.version (length t.fat_sectors) (length t.difat_sectors) places e.difats
            ∙ ap (λ k. rounded_up (k - header_difat_len) (W - 1)) (sym (length-append t.fat_sectors (n ∷ [])));
      })
      counts
      sized

pub grown-ended : (t : TableState) (x : ℕ) → let m = numbers_needed t.version (sizes_of t) in x + 1 ≡ length t.fat + m → value (grown_state t m).fat x ≡ end_of_chain
grown-ended t x is = elim (needed-cases t.version (sizes_of t)) [
  | inl c ↦ subst (λ j. value (grown_state t j).fat x ≡ end_of_chain) (sym c.0) (at-end t.fat (end_of_chain ∷ []) x 0 (omega (arith, is, c.0)))
  | inr q ↦ elim q [
    | inl c ↦ subst (λ j. value (grown_state t j).fat x ≡ end_of_chain) (sym c.0) (at-end t.fat (fat_sector ∷ end_of_chain ∷ []) x 1 (omega (arith, is, c.0)))
    | inr c ↦ subst (λ j. value (grown_state t j).fat x ≡ end_of_chain) (sym c.0) (at-end t.fat (fat_sector ∷ difat_sector ∷ end_of_chain ∷ []) x 2 (omega (arith, is, c.0)))
  ]
]

pub taken-grown : (t : TableState) (x : ℕ) → IsKept t [] → let m = numbers_needed t.version (sizes_of t) in x + 1 ≡ length t.fat + m → length t.fat + m ≤ t.max_sectors
    → HasTaken t (grown_state t m) [] (x ∷ [])
taken-grown t x k is fits =
    let m = numbers_needed t.version (sizes_of t) in
    let none = none-free t.fat k.listed in
    let all = subst (Counts t.version t.version (sizes_of t)) (sym (sizes-grown t)) (counts-grown t.version (sizes_of t) k.sizes.places) in
    let counts : (j : ℕ) → m ≡ j → Counts t.version t.version (sizes_of t) (sizes_of (grown_state t j)) =
    λ j e. subst (λ j. Counts t.version t.version (sizes_of t) (sizes_of (grown_state t j))) e all in
    let sized : (j : ℕ) → m ≡ j → sizes_of (grown_state t j) ≡ grown_sizes (sizes_of t) m =
    λ j e. subst (λ j. sizes_of (grown_state t j) ≡ grown_sizes (sizes_of t) m) e (sizes-grown t) in
    elim (needed-cases t.version (sizes_of t)) [
      | inl c ↦ subst (λ j. HasTaken t (grown_state t j) [] (x ∷ [])) (sym c.0) (taken-one t x none (omega (arith, is, c.0)) (omega (arith, fits, c.0)) c.1 (counts 1 c.0) (sized 1 c.0))
      | inr q ↦ elim q [
        | inl c ↦ subst (λ j. HasTaken t (grown_state t j) [] (x ∷ [])) (sym c.0) (taken-two t x none (omega (arith, is, c.0)) (omega (arith, fits, c.0)) c.1 c.2 (counts 2 c.0) (sized 2 c.0))
        | inr c ↦ subst (λ j. HasTaken t (grown_state t j) [] (x ∷ [])) (sym c.0) (taken-three t x none (omega (arith, is, c.0)) (omega (arith, fits, c.0)) c.1 c.2 (counts 3 c.0) (sized 3 c.0))
      ]
    ]

-- ---- one taking after another

pub taken-busy : (a b : TableState) (touched more : List ℕ) (h : HasTaken a b touched more) (i : ℕ) → Contains (touched ++ more ++ h.fats ++ h.difats) i → value b.fat i ≢ free_sector
taken-busy a b touched more h i m e = elim (in_three (touched ++ more) h.fats h.difats i m) [
  | inl l ↦ elim (h.busy i l) [ inl le ↦ omega (arith, le, e) | inr is ↦ omega (arith, is, e) ]
  | inr r ↦ elim r [
    | inl f ↦ (let w = h.fat_marks i f in omega (arith, w, e))
    | inr d ↦ (let w = h.difat_marks i d in omega (arith, w, e))
  ]
]

module _ (a b c : TableState) (t m u w : List ℕ) (f : HasTaken a b t m) (s : HasTaken b c u w) (within : (i : ℕ) → Contains u i → Contains (t ++ m) i) where
  -- what is neither free nor an end in between stays
  steady : (i : ℕ) → value b.fat i ≢ free_sector → value b.fat i ≢ end_of_chain → value c.fat i ≡ value b.fat i
  steady i busy goes_on = s.only i (λ mem. elim (in_three (u ++ w) s.fats s.difats i mem) [
    | inl l ↦ elim (Contains-append_cases u w i l) [ inl x ↦ goes_on (s.ends i x) | inr x ↦ busy (s.fresh i (first_of_three w s.fats s.difats i x)) ]
    | inr r ↦ elim r [ inl x ↦ busy (s.fresh i (second_of_three w s.fats s.difats i x)) | inr x ↦ busy (s.fresh i (third_of_three w s.fats s.difats i x)) ]
  ])

  later-fresh : (i : ℕ) → Contains (w ++ s.fats ++ s.difats) i → value a.fat i ≡ free_sector
  later-fresh i mem =
      let free = s.fresh i mem in
      sym (f.only i (λ old. taken-busy a b t m f i old free)) ∙ free

  fresh-then : (i : ℕ) → Contains ((m ++ w) ++ (f.fats ++ s.fats) ++ (f.difats ++ s.difats)) i → value a.fat i ≡ free_sector
  fresh-then i mem = elim (in_three (m ++ w) (f.fats ++ s.fats) (f.difats ++ s.difats) i mem) [
    | inl l ↦ elim (Contains-append_cases m w i l) [
      | inl x ↦ f.fresh i (first_of_three m f.fats f.difats i x)
      | inr x ↦ later-fresh i (first_of_three w s.fats s.difats i x)
    ]
    | inr r ↦ elim r [
      | inl y ↦ elim (Contains-append_cases f.fats s.fats i y) [
        | inl x ↦ f.fresh i (second_of_three m f.fats f.difats i x)
        | inr x ↦ later-fresh i (second_of_three w s.fats s.difats i x)
      ]
      | inr y ↦ elim (Contains-append_cases f.difats s.difats i y) [
        | inl x ↦ f.fresh i (third_of_three m f.fats f.difats i x)
        | inr x ↦ later-fresh i (third_of_three w s.fats s.difats i x)
      ]
    ]
  ]

  apart-then : (i : ℕ) → Contains (t ++ m ++ f.fats ++ f.difats) i → Contains (w ++ s.fats ++ s.difats) i → ⊥
  apart-then i old new = taken-busy a b t m f i old (s.fresh i new)

  first-busy : (i : ℕ) → Contains (t ++ m) i → (value c.fat i ≤ max_regular_sector) ⊎ (value c.fat i ≡ end_of_chain)
  first-busy i mem = elim (Contains-or (u ++ w) i) [
    | inl x ↦ s.busy i x
    | inr out ↦
        let was = f.busy i mem in
        let free_not : value b.fat i ≢ free_sector = taken-busy a b t m f i (first_of_three (t ++ m) f.fats f.difats i mem) in
        let same : value c.fat i ≡ value b.fat i = s.only i (λ all. elim (in_three (u ++ w) s.fats s.difats i all) [
          | inl x ↦ out x
          | inr r ↦ elim r [ inl x ↦ free_not (s.fresh i (second_of_three w s.fats s.difats i x)) | inr x ↦ free_not (s.fresh i (third_of_three w s.fats s.difats i x)) ]
        ]) in
        elim was [ inl le ↦ inl (omega (arith, le, same)) | inr is ↦ inr (same ∙ is) ]
  ]

  only-then : (i : ℕ) → (Contains (t ++ (m ++ w) ++ (f.fats ++ s.fats) ++ (f.difats ++ s.difats)) i → ⊥) → value c.fat i ≡ value a.fat i
  only-then i out =
      let in_chains : Contains (t ++ (m ++ w)) i → ⊥ = λ x. out (first_of_three (t ++ (m ++ w)) (f.fats ++ s.fats) (f.difats ++ s.difats) i x) in
      let in_fats : Contains (f.fats ++ s.fats) i → ⊥ = λ x. out (second_of_three (t ++ (m ++ w)) (f.fats ++ s.fats) (f.difats ++ s.difats) i x) in
      let in_difats : Contains (f.difats ++ s.difats) i → ⊥ = λ x. out (third_of_three (t ++ (m ++ w)) (f.fats ++ s.fats) (f.difats ++ s.difats) i x) in
      let in_first : Contains (t ++ m) i → ⊥ = λ x. elim (Contains-append_cases t m i x) [
        | inl y ↦ in_chains (Contains-append_left t (m ++ w) i y)
        | inr y ↦ in_chains (Contains-append_right t (m ++ w) i (Contains-append_left m w i y))
      ] in
      let second = s.only i (λ mem. elim (in_three (u ++ w) s.fats s.difats i mem) [
        | inl l ↦ elim (Contains-append_cases u w i l) [
          | inl x ↦ in_first (within i x)
          | inr x ↦ in_chains (Contains-append_right t (m ++ w) i (Contains-append_right m w i x))
        ]
        | inr r ↦ elim r [ inl x ↦ in_fats (Contains-append_right f.fats s.fats i x) | inr x ↦ in_difats (Contains-append_right f.difats s.difats i x) ]
      ]) in
      let first = f.only i (λ mem. elim (in_three (t ++ m) f.fats f.difats i mem) [
        | inl x ↦ in_first x
        | inr r ↦ elim r [ inl x ↦ in_fats (Contains-append_left f.fats s.fats i x) | inr x ↦ in_difats (Contains-append_left f.difats s.difats i x) ]
      ]) in
      second ∙ first

  none-then : length a.fat < length c.fat → NoneFree c.fat
  none-then more = elim (cases_lt (length b.fat) (length c.fat)) [
    | inl lt ↦ s.none_free lt
    | inr ge ↦ (λ i lt e.
        let longer = s.longer in
        let none = f.none_free (omega (arith, more, ge, longer)) in
        elim (Contains-or (u ++ w ++ s.fats ++ s.difats) i) [
          | inl mem ↦ taken-busy b c u w s i mem e
          | inr out ↦ none i (omega (arith, lt, ge)) (sym (s.only i out) ∙ e)
        ])
  ]

  limited-then : length a.fat < length c.fat → length c.fat ≤ a.max_sectors
  limited-then more = elim (cases_lt (length b.fat) (length c.fat)) [
    | inl lt ↦ (let top = s.limited lt in let max = f.same_max in omega (arith, top, max))
    | inr ge ↦ (let longer = s.longer in let top = f.limited (omega (arith, more, ge, longer)) in omega (arith, top, ge))
  ]

  counts-both : Counts a.version c.version (sizes_of a) (sizes_of c)
  counts-both =
      let longer = s.longer in
      let len = ap length s.fat_sectors ∙ length-append b.fat_sectors s.fats in
      counts-then a.version b.version c.version (sizes_of a) (sizes_of b) (sizes_of c) s.same_version longer (omega (arith, len)) (counts-of a b t m f) (counts-of b c u w s)

  sizes-then : sizes_of c ≡ sizes_after a.version (length (m ++ w) - free_count a.fat) (sizes_of a)
  sizes-then =
      let left = f.left in
      let len = length-append m w in
      let both : (length m - free_count a.fat) + (length w - free_count b.fat) ≡ length (m ++ w) - free_count a.fat = omega (arith, left, len) in
      s.sizes
      ∙ (λ i. sizes_after (f.same_version i) (length w - free_count b.fat) (f.sizes i))
      ∙ after-more a.version (length m - free_count a.fat) (length w - free_count b.fat) (sizes_of a)
      ∙ ap (λ k. sizes_after a.version k (sizes_of a)) both

  pub taken-then : HasTaken a c t (m ++ w)
  taken-then = record {
    fats = f.fats ++ s.fats;
    difats = f.difats ++ s.difats;
    fat_sectors = s.fat_sectors ∙ ap (λ (z : List ℕ). z ++ s.fats) f.fat_sectors ∙ append_assoc a.fat_sectors f.fats s.fats;
    difat_sectors = s.difat_sectors ∙ ap (λ (z : List ℕ). z ++ s.difats) f.difat_sectors ∙ append_assoc a.difat_sectors f.difats s.difats;
    fat_marks = λ i mem. elim (Contains-append_cases f.fats s.fats i mem) [
      | inl x ↦ (let is = f.fat_marks i x in steady i (λ e. omega (arith, is, e)) (λ e. omega (arith, is, e)) ∙ is)
      | inr x ↦ s.fat_marks i x
    ];
    difat_marks = λ i mem. elim (Contains-append_cases f.difats s.difats i mem) [
      | inl x ↦ (let is = f.difat_marks i x in steady i (λ e. omega (arith, is, e)) (λ e. omega (arith, is, e)) ∙ is)
      | inr x ↦ s.difat_marks i x
    ];
    fresh = fresh-then;
    past = λ i mem. let longer = f.longer in elim (Contains-append_cases (f.fats ++ s.fats) (f.difats ++ s.difats) i mem) [
      | inl l ↦ elim (Contains-append_cases f.fats s.fats i l) [
        | inl x ↦ f.past i (Contains-append_left f.fats f.difats i x)
        | inr x ↦ (let p = s.past i (Contains-append_left s.fats s.difats i x) in omega (arith, p, longer))
      ]
      | inr r ↦ elim (Contains-append_cases f.difats s.difats i r) [
        | inl x ↦ f.past i (Contains-append_right f.fats f.difats i x)
        | inr x ↦ (let p = s.past i (Contains-append_right s.fats s.difats i x) in omega (arith, p, longer))
      ]
    ];
    once = distinct-join m w f.once s.once (λ i x y. apart-then i (first_of_three (t ++ m) f.fats f.difats i (Contains-append_right t m i x)) (first_of_three w s.fats s.difats i y));
    fats_once = distinct-join f.fats s.fats f.fats_once s.fats_once (λ i x y. apart-then i (second_of_three (t ++ m) f.fats f.difats i x) (second_of_three w s.fats s.difats i y));
    difats_once = distinct-join f.difats s.difats f.difats_once s.difats_once (λ i x y. apart-then i (third_of_three (t ++ m) f.fats f.difats i x) (third_of_three w s.fats s.difats i y));
    ends = f.ends;
    busy = λ i mem. elim (Contains-append_cases t (m ++ w) i mem) [
      | inl x ↦ first-busy i (Contains-append_left t m i x)
      | inr r ↦ elim (Contains-append_cases m w i r) [
        | inl x ↦ first-busy i (Contains-append_right t m i x)
        | inr x ↦ s.busy i (Contains-append_right u w i x)
      ]
    ];
    only = only-then;
    longer = let p = f.longer in let q = s.longer in omega (arith, p, q);
    none_free = none-then;
    limited = limited-then;
    left = let p = f.left in let q = s.left in let len = length-append m w in omega (arith, p, q, len);
    sizes = sizes-then;
    exact = λ e. s.exact (f.exact e);
    covered = counts-both.covered;
    fat_count = counts-both.fats;
    difat_count = counts-both.difats;
    same_version = s.same_version ∙ f.same_version;
    same_max = s.same_max ∙ f.same_max;
  }

-- nothing changes
taken-still : (t : TableState) (touched : List ℕ) → HasPlaces t.version (sizes_of t) → ((i : ℕ) → Contains touched i → value t.fat i ≡ end_of_chain)
    → HasTaken t t touched []
taken-still t touched places ended = record {
  fats = [];
  difats = [];
  fat_sectors = sym (append-nil t.fat_sectors);
  difat_sectors = sym (append-nil t.difat_sectors);
  fat_marks = λ i m. absurd (Contains-nil i m);
  difat_marks = λ i m. absurd (Contains-nil i m);
  fresh = λ i m. absurd (Contains-nil i m);
  past = λ i m. absurd (Contains-nil i m);
  once = none_distinct;
  fats_once = none_distinct;
  difats_once = none_distinct;
  ends = ended;
  busy = λ i m. inr (ended i (subst (λ (z : List ℕ). Contains z i) (append-nil touched) m));
  only = λ i out. refl;
  longer = omega arith;
  none_free = λ more. absurd (omega (arith, more));
  limited = λ more. absurd (omega (arith, more));
  left = omega arith;
  sizes = sym (after-none t.version (0 - free_count t.fat) (sizes_of t) (omega arith));
  exact = λ e. e;
  covered = λ covers. covers;
  fat_count = (counts-same t.version (sizes_of t) (sizes_of t) refl places).fats;
  difat_count = (counts-same t.version (sizes_of t) (sizes_of t) refl places).difats;
  same_version = refl;
  same_max = refl;
}

pub taken-nothing : (t : TableState) → HasPlaces t.version (sizes_of t) → HasTaken t t [] []
taken-nothing t places = taken-still t [] places (λ i m. absurd (Contains-nil i m))

pub taken-none : (t : TableState) (last : ℕ) → HasPlaces t.version (sizes_of t) → value t.fat last ≡ end_of_chain → HasTaken t t (last ∷ []) []
taken-none t last places ended = taken-still t (last ∷ []) places (λ i m. ap (value t.fat) (sym (Contains-one last i m)) ∙ ended)

-- where no chain goes on, all that is in use stays
pub taken-keeps : (a b : TableState) (more : List ℕ) → HasTaken a b [] more → (i : ℕ) → value a.fat i ≢ free_sector → value b.fat i ≡ value a.fat i
taken-keeps a b more h i busy = h.only i (λ m. busy (h.fresh i m))

-- new members of chains, FAT sectors and DIFAT sectors are apart, since their values are
pub three-distinct : (a b : TableState) (touched more : List ℕ) (h : HasTaken a b touched more) → IsDistinct nat_eq (more ++ h.fats ++ h.difats)
three-distinct a b touched more h =
    let no_mark : (i : ℕ) → Contains more i → (value b.fat i ≢ fat_sector) × (value b.fat i ≢ difat_sector) = λ i m.
    elim (h.busy i (Contains-append_right touched more i m)) [
      | inl le ↦ ((λ e. omega (arith, le, e)), (λ e. omega (arith, le, e)))
      | inr is ↦ ((λ e. omega (arith, is, e)), (λ e. omega (arith, is, e)))
    ] in
    distinct-join (more ++ h.fats) h.difats
    (distinct-join more h.fats h.once h.fats_once (λ i m n. (no_mark i m).0 (h.fat_marks i n)))
    h.difats_once
    (λ i m n. let is = h.difat_marks i n in elim (Contains-append_cases more h.fats i m) [
      | inl x ↦ (no_mark i x).1 is
      | inr x ↦ (let was = h.fat_marks i x in omega (arith, is, was))
    ])
