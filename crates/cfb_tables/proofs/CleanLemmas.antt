-- Tables in which no number is named twice.
use Rattle.std.proofs.Common.{◌≡◌, ◌≢◌, ℕ, zero, suc, ◌<◌, ◌≤◌, ◌⊎◌, inl, inr, Bool, true, false, List, [], ◌∷◌, ◌++◌, length, get_or, refl, sym, ◌∙◌, ap, subst, arith, cond, ne_eqb}
use Rattle.std.specs.Prelude.{Contains, slice_index, nat_eq, not, ◌==◌, IsTrue}
use Rattle.std.specs.List.{IsDistinct, filter, list_all}
use Rattle.std.proofs.lemmas.List.{get_or_default}
use Rattle.std.proofs.lemmas.List.Elements.{Contains-append_right}
use Rattle.std.proofs.lemmas.List.Sums.{AllPass-from_list_all, list_all-from_AllPass}
use Rattle.cfb_format.specs.Bytes.{end_of_chain, free_sector, invalid_sector, is_regular}
use Rattle.cfb_format.specs.Chain.{value, Follows, IsChain}
use Rattle.cfb_format.specs.Fat.{HasDistinctPointers}
use Rattle.cfb_format.proofs.Chains.{Follows-distinct}
use Rattle.cfb_tables.specs.Changes.{PointsWithin}
use Rattle.cfb_tables.specs.Changes.{GivesBack}
use Rattle.cfb_tables.specs.Clean.{IsClean}
use Rattle.cfb_tables.specs.Tables.{TableState, HasTaken, Extended}
use Rattle.cfb_tables.proofs.Members.{in_three, first_of_three}
use Rattle.cfb_tables.proofs.ChainLemmas.{follows-rest}
use Rattle.cfb_tables.proofs.TakenLemmas.{taken-busy}
use Rattle.cfb_format.proofs.Members.{Contains-nil, Contains-here, Contains-there, Contains-cases, Contains-or, distinct-cons, cons-distinct, distinct-apart}
use Rattle.cfb_format.proofs.Walks.{value-at, value-below, regular-le, chain_of}

-- ---- pointers one by one

abbrev pub Regular : ℕ → Type 0
Regular w = IsTrue (is_regular w)

pub regular-busy : (w : ℕ) → Regular w → w ≢ free_sector
regular-busy w r e = let le = regular-le w r in omega (arith, le, e)

pub regular-goes_on : (w : ℕ) → Regular w → w ≢ end_of_chain
regular-goes_on w r e = let le = regular-le w r in omega (arith, le, e)

-- a pointer is among the pointers
pointers-have : (table : List ℕ) (i : ℕ) → Regular (value table i) → Contains (filter is_regular table) (value table i)
pointers-have [] i r = absurd (regular-busy free_sector r refl)
pointers-have (x ∷ xs) zero r = subst (λ b. Contains (cond b (x ∷ filter is_regular xs) (filter is_regular xs)) x) (sym r) (Contains-here x (filter is_regular xs))
pointers-have (x ∷ xs) (suc i) r = go (is_regular x) (pointers-have xs i r)
  where
    go : (b : Bool) → Contains (filter is_regular xs) (value xs i) → Contains (cond b (x ∷ filter is_regular xs) (filter is_regular xs)) (value xs i)
    go true m = Contains-there x (filter is_regular xs) (value xs i) m
    go false m = m

-- and each of the pointers stands in the table
pointers-from : (table : List ℕ) (w : ℕ) → Contains (filter is_regular table) w → (i : ℕ) × (value table i ≡ w) × Regular w
pointers-from [] w m = absurd (Contains-nil w m)
pointers-from (x ∷ xs) w m = go (is_regular x) refl m (λ n. let f = pointers-from xs w n in (suc f.0, f.1, f.2))
  where
    go : (b : Bool) → is_regular x ≡ b → Contains (cond b (x ∷ filter is_regular xs) (filter is_regular xs)) w
        → (Contains (filter is_regular xs) w → (i : ℕ) × (value (x ∷ xs) i ≡ w) × Regular w) → (i : ℕ) × (value (x ∷ xs) i ≡ w) × Regular w
    go true h m rest = elim (Contains-cases x (filter is_regular xs) w m) [ inl e ↦ (0, e, subst Regular e h) | inr n ↦ rest n ]
    go false h m rest = rest m

abbrev pub NamesOnce : List ℕ → Type 0
NamesOnce table = (i j : ℕ) → Regular (value table i) → value table i ≡ value table j → i ≡ j

pub distinct-once : (table : List ℕ) → HasDistinctPointers table → NamesOnce table
unfolding IsDistinct
distinct-once [] d i j r e = absurd (regular-busy free_sector r refl)
distinct-once (x ∷ xs) d i j r e = go (is_regular x) refl d (distinct-once xs) i j r e
  where
    go : (b : Bool) → is_regular x ≡ b → IsDistinct nat_eq (cond b (x ∷ filter is_regular xs) (filter is_regular xs)) → (HasDistinctPointers xs → NamesOnce xs) → NamesOnce (x ∷ xs)
    go true h d rest zero zero r e = refl
    go true h d rest zero (suc j) r e = absurd
        (cons-distinct x (filter is_regular xs) d.0 (subst (Contains (filter is_regular xs)) (sym e) (pointers-have xs j (subst Regular e r))))
    go true h d rest (suc i) zero r e = absurd (cons-distinct x (filter is_regular xs) d.0 (subst (Contains (filter is_regular xs)) e (pointers-have xs i r)))
    go true h d rest (suc i) (suc j) r e = ap suc (rest d.1 i j r e)
    go false h d rest zero j r e = let f : true ≡ false = sym r ∙ h in cc
    go false h d rest (suc i) zero r e = let q : Regular x = subst Regular e r in let f : true ≡ false = sym q ∙ h in cc
    go false h d rest (suc i) (suc j) r e = ap suc (rest d i j r e)

pub once-distinct : (table : List ℕ) → NamesOnce table → HasDistinctPointers table
unfolding IsDistinct
once-distinct [] once = tt
once-distinct (x ∷ xs) once = go (is_regular x) refl (once-distinct xs (λ i j r e. let s = once (suc i) (suc j) r e in omega (arith, s)))
  where
    go : (b : Bool) → is_regular x ≡ b → HasDistinctPointers xs → IsDistinct nat_eq (cond b (x ∷ filter is_regular xs) (filter is_regular xs))
    go true h d = (distinct-cons x (filter is_regular xs) (λ m. let f = pointers-from xs x m in let s = once zero (suc f.0) h (sym f.1) in omega (arith, s)), d)
    go false h d = d

marks-at : (table : List ℕ) → list_all (λ word. not (word == invalid_sector)) table ≡ true → (i : ℕ) → value table i ≢ invalid_sector
marks-at table all i is =
    let lt : i < length table = value-below table i (λ e. omega (arith, e, is)) in
    let pass : not (value table i == invalid_sector) ≡ true = AllPass-from_list_all (λ word. not (word == invalid_sector)) table all i free_sector lt in
    let f : false ≡ true = sym (ap (λ word. not (word == invalid_sector)) is) ∙ pass in cc

marks-all : (table : List ℕ) → ((i : ℕ) → value table i ≢ invalid_sector) → list_all (λ word. not (word == invalid_sector)) table ≡ true
marks-all table marks = list_all-from_AllPass (λ word. not (word == invalid_sector)) table
    (λ i d lt. ap not (ne_eqb (get_or table i d) invalid_sector (λ e. marks i (get_or_default table i free_sector d lt ∙ e))))

-- the same facts of each number
pub record IsCleanAt (table : List ℕ) : Type 0 where
  pub once : NamesOnce table
  pub busy : (i : ℕ) → Regular (value table i) → value table (value table i) ≢ free_sector
  pub marks : (i : ℕ) → value table i ≢ invalid_sector

pub clean-at : (table : List ℕ) → IsClean table → IsCleanAt table
clean-at table c = record {
  once = distinct-once table c.pointers;
  busy = λ i r. c.busy i (value-below table i (regular-busy (value table i) r)) r;
  marks = marks-at table c.marks;
}

pub at-clean : (table : List ℕ) → IsCleanAt table → IsClean table
at-clean table c = record {
  pointers = once-distinct table c.once;
  busy = λ i lt r. c.busy i r;
  marks = marks-all table c.marks;
}

pub clean-within : (table : List ℕ) → IsClean table → PointsWithin table
clean-within table c i lt r =
    let at = value-at table i lt in
    subst (λ w. w < length table) at (value-below table (value table i) (c.busy i lt (subst Regular (sym at) r)))

-- ---- pointers along a chain

-- a member's pointer names a member behind the first one
pub follows-next : (table : List ℕ) (s x : ℕ) (list : List ℕ) → Follows table s (x ∷ list) → (i : ℕ) → Contains (x ∷ list) i
    → Regular (value table i) → Contains list (value table i)
follows-next table s x [] f i m r = elim (Contains-cases x [] i m) [
  | inl e ↦ absurd (regular-goes_on (value table i) r (ap (value table) (sym e) ∙ value-at table x f.2 ∙ f.3))
  | inr n ↦ absurd (Contains-nil i n)
]
follows-next table s x (y ∷ list) f i m r = elim (Contains-cases x (y ∷ list) i m) [
  | inl e ↦ (0, omega arith, sym (ap (value table) (sym e) ∙ value-at table x f.2 ∙ f.3.0))
  | inr n ↦ Contains-there y list (value table i) (follows-next table (slice_index table x) y list f.3 i n r)
]

-- the first member's pointer is no other member's
first-alone : (table : List ℕ) (s x : ℕ) (list : List ℕ) → Follows table s (x ∷ list) → (i : ℕ) → Contains list i
    → Regular (value table i) → value table i ≡ value table x → ⊥
first-alone table s x [] f i m r e = Contains-nil i m
first-alone table s x (y ∷ list) f i m r e =
    let there = follows-next table (slice_index table x) y list f.3 i m r in
    let here : value table i ≡ y = e ∙ value-at table x f.2 ∙ f.3.0 in
    distinct-apart (y ∷ []) list (Follows-distinct table (slice_index table x) (y ∷ list) f.3) y (Contains-here y []) (subst (Contains list) here there)

-- members have pointers of their own
pub follows-once : (table : List ℕ) (s : ℕ) (list : List ℕ) → Follows table s list → (i j : ℕ) → Contains list i → Contains list j
    → Regular (value table i) → value table i ≡ value table j → i ≡ j
follows-once table s [] f i j m n r e = absurd (Contains-nil i m)
follows-once table s (x ∷ list) f i j m n r e = elim (Contains-cases x list i m) [
  | inl a ↦ elim (Contains-cases x list j n) [
    | inl b ↦ sym a ∙ b
    | inr q ↦ absurd (first-alone table s x list f j q (subst Regular e r) (sym e ∙ ap (value table) (sym a)))
  ]
  | inr p ↦ elim (Contains-cases x list j n) [
    | inl b ↦ absurd (first-alone table s x list f i p r (e ∙ ap (value table) (sym b)))
    | inr q ↦ follows-once table (slice_index table x) list f.3 i j p q r e
  ]
]

-- a member is the start, or another member names it
pub follows-named : (table : List ℕ) (s : ℕ) (list : List ℕ) → Follows table s list → (y : ℕ) → Contains list y
    → (y ≡ s) ⊎ ((j : ℕ) × Contains list j × (value table j ≡ y))
follows-named table s [] f y m = absurd (Contains-nil y m)
follows-named table s (x ∷ list) f y m = elim (Contains-cases x list y m) [
  | inl e ↦ inl (sym e ∙ sym f.0)
  | inr n ↦ elim (follows-named table (slice_index table x) list f.3 y n) [
    | inl e ↦ inr (x, Contains-here x list, value-at table x f.2 ∙ sym e)
    | inr q ↦ inr (q.0, Contains-there x list q.0 q.1, q.2)
  ]
]

-- a chain's pointers name the members that were added
pub next-added : (table : List ℕ) (s : ℕ) (touched more : List ℕ) → length touched ≤ 1 → Follows table s (touched ++ more)
    → (i : ℕ) → Contains (touched ++ more) i → Regular (value table i) → Contains more (value table i)
next-added table s [] [] few f i m r = absurd (Contains-nil i m)
next-added table s [] (x ∷ more) few f i m r = Contains-there x more (value table i) (follows-next table s x more f i m r)
next-added table s (x ∷ []) more few f i m r = follows-next table s x more f i m r
next-added table s (x ∷ y ∷ touched) more few f i m r = absurd (omega (arith, few))

-- ---- sectors are taken

module _ (old new : TableState) (touched more : List ℕ) (start : ℕ) (h : HasTaken old new touched more) (chain : IsChain new.fat start (touched ++ more))
    (few : length touched ≤ 1) (c : IsCleanAt old.fat) where
  added : (i : ℕ) → Contains (touched ++ more) i → Regular (value new.fat i) → Contains more (value new.fat i)
  added i m r = next-added new.fat start touched more few chain.follows i m r

  outside-stays : (i : ℕ) → (Contains (touched ++ more) i → ⊥) → Regular (value new.fat i) → value new.fat i ≡ value old.fat i
  outside-stays i out r = h.only i (λ m. elim (in_three (touched ++ more) h.fats h.difats i m) [
    | inl l ↦ out l
    | inr q ↦ elim q [
      | inl f ↦ (let is = h.fat_marks i f in let le = regular-le (value new.fat i) r in omega (arith, is, le))
      | inr d ↦ (let is = h.difat_marks i d in let le = regular-le (value new.fat i) r in omega (arith, is, le))
    ]
  ])

  -- what was added was named by none
  apart : (i j : ℕ) → Contains (touched ++ more) i → (Contains (touched ++ more) j → ⊥) → Regular (value new.fat i) → value new.fat i ≡ value new.fat j → ⊥
  apart i j m out r e =
      let same : value new.fat j ≡ value old.fat j = outside-stays j out (subst Regular e r) in
      let was : value new.fat i ≡ value old.fat j = e ∙ same in
      c.busy j (subst Regular was r) (ap (value old.fat) (sym was) ∙ h.fresh (value new.fat i) (first_of_three more h.fats h.difats (value new.fat i) (added i m r)))

  still-busy : (y : ℕ) → value old.fat y ≢ free_sector → value new.fat y ≢ free_sector
  still-busy y busy = elim (Contains-or (touched ++ more ++ h.fats ++ h.difats) y) [
    | inl m ↦ taken-busy old new touched more h y m
    | inr out ↦ (λ e. busy (sym (h.only y out) ∙ e))
  ]

  taken-clean-at : IsCleanAt new.fat
  taken-clean-at = record {
    once = λ i j r e. elim (Contains-or (touched ++ more) i) [
      | inl m ↦ elim (Contains-or (touched ++ more) j) [
        | inl n ↦ follows-once new.fat start (touched ++ more) chain.follows i j m n r e
        | inr out ↦ absurd (apart i j m out r e)
      ]
      | inr out ↦ elim (Contains-or (touched ++ more) j) [
        | inl n ↦ absurd (apart j i n out (subst Regular e r) (sym e))
        | inr out' ↦
            let p = outside-stays i out r in
            let q = outside-stays j out' (subst Regular e r) in
            c.once i j (subst Regular p r) (sym p ∙ e ∙ q)
      ]
    ];
    busy = λ i r. elim (Contains-or (touched ++ more) i) [
      | inl m ↦ taken-busy old new touched more h (value new.fat i)
          (first_of_three (touched ++ more) h.fats h.difats (value new.fat i) (Contains-append_right touched more (value new.fat i) (added i m r)))
      | inr out ↦
          let same = outside-stays i out r in
          still-busy (value new.fat i) (subst (λ w. value old.fat w ≢ free_sector) (sym same) (c.busy i (subst Regular same r)))
    ];
    marks = λ i is. elim (Contains-or (touched ++ more ++ h.fats ++ h.difats) i) [
      | inl m ↦ elim (in_three (touched ++ more) h.fats h.difats i m) [
        | inl l ↦ elim (h.busy i l) [ inl le ↦ omega (arith, le, is) | inr end ↦ omega (arith, end, is) ]
        | inr q ↦ elim q [ inl f ↦ (let w = h.fat_marks i f in omega (arith, w, is)) | inr d ↦ (let w = h.difat_marks i d in omega (arith, w, is)) ]
      ]
      | inr out ↦ c.marks i (sym (h.only i out) ∙ is)
    ];
  }

pub taken-clean : (old new : TableState) (touched more : List ℕ) (start : ℕ) → HasTaken old new touched more → IsChain new.fat start (touched ++ more)
    → length touched ≤ 1 → IsClean old.fat → IsClean new.fat
taken-clean old new touched more start h chain few c = at-clean new.fat (taken-clean-at old new touched more start h chain few (clean-at old.fat c))

pub extended-clean : (old new : TableState) (start : ℕ) (more : List ℕ) → Extended old new start more → IsClean old.fat → IsClean new.fat
extended-clean old new start more e c =
    let rest = follows-rest new.fat start e.front e.last more e.chain.follows in
    taken-clean old new (e.last ∷ []) more e.last e.taken (chain_of new.fat e.last (e.last ∷ more) rest) (omega arith) c

-- ---- sectors are freed

-- where the pointers that stay name no number that is freed
pub fewer-clean : (old new : List ℕ) → ((i : ℕ) → Regular (value new i) → value new i ≡ value old i)
    → ((i : ℕ) → Regular (value new i) → value old (value old i) ≢ free_sector → value new (value old i) ≢ free_sector)
    → ((i : ℕ) → value new i ≡ invalid_sector → value new i ≡ value old i) → IsClean old → IsClean new
fewer-clean old new stays kept marks clean =
    let c = clean-at old clean in
    at-clean new (record {
      once = λ i j r e. let p = stays i r in let q = stays j (subst Regular e r) in c.once i j (subst Regular p r) (sym p ∙ e ∙ q);
      busy = λ i r. let same = stays i r in subst (λ w. value new w ≢ free_sector) (sym same) (kept i r (c.busy i (subst Regular same r)));
      marks = λ i is. c.marks i (sym (marks i is) ∙ is);
    })

pub freed-clean : (old new list : List ℕ) (start : ℕ) → GivesBack [] list old new → IsChain old start list
    → ((i : ℕ) → i < length old → IsTrue (is_regular (value old i)) → value old i ≢ start) → IsClean old → IsClean new
freed-clean old new list start f chain no_other clean =
    let c = clean-at old clean in
    let out : (i : ℕ) → Regular (value new i) → Contains list i → ⊥ = λ i r m. regular-busy (value new i) r (f.free i m) in
    let stays : (i : ℕ) → Regular (value new i) → value new i ≡ value old i = λ i r. f.only i (out i r) in
    fewer-clean old new stays
    (λ i r busy. elim (Contains-or list (value old i)) [
      | inl m ↦
          let was = subst Regular (stays i r) r in
          elim (follows-named old start list chain.follows (value old i) m) [
            | inl e ↦ absurd (no_other i (value-below old i (regular-busy (value old i) was)) was e)
            | inr q ↦ absurd (out i r (subst (Contains list) (sym (c.once i q.0 was (sym q.2))) q.1))
          ]
      | inr n ↦ (λ e. busy (sym (f.only (value old i) n) ∙ e))
    ])
    (λ i is. f.only i (λ m. let free = f.free i m in omega (arith, free, is)))
    clean

pub cut-clean : (old new list : List ℕ) (member : ℕ) → GivesBack (member ∷ []) list old new → IsChain old (value old member) list → IsClean old → IsClean new
cut-clean old new list member f chain clean =
    let c = clean-at old clean in
    let ended : value new member ≡ end_of_chain = f.ended member (Contains-here member []) in
    let out : (i : ℕ) → Regular (value new i) → Contains (member ∷ list) i → ⊥ = λ i r m. elim (Contains-cases member list i m) [
      | inl e ↦ regular-goes_on (value new i) r (ap (value new) (sym e) ∙ ended)
      | inr n ↦ regular-busy (value new i) r (f.free i n)
    ] in
    let stays : (i : ℕ) → Regular (value new i) → value new i ≡ value old i = λ i r. f.only i (out i r) in
    fewer-clean old new stays
    (λ i r busy. elim (Contains-or (member ∷ list) (value old i)) [
      | inl m ↦
          let was = subst Regular (stays i r) r in
          elim (Contains-cases member list (value old i) m) [
            | inl e ↦ (λ free. let is : value new (value old i) ≡ end_of_chain = ap (value new) (sym e) ∙ ended in omega (arith, is, free))
            | inr n ↦ elim (follows-named old (value old member) list chain.follows (value old i) n) [
              | inl e ↦ absurd (out i r (0, omega arith, sym (c.once i member was e)))
              | inr q ↦ absurd (out i r (Contains-there member list i (subst (Contains list) (sym (c.once i q.0 was (sym q.2))) q.1)))
            ]
          ]
      | inr n ↦ (λ e. busy (sym (f.only (value old i) n) ∙ e))
    ])
    (λ i is. f.only i (λ m. elim (Contains-cases member list i m) [
      | inl e ↦ (let end : value new i ≡ end_of_chain = ap (value new) (sym e) ∙ ended in omega (arith, end, is))
      | inr n ↦ (let free = f.free i n in omega (arith, free, is))
    ]))
    clean
