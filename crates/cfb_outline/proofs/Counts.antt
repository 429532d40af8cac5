-- Lists without repeats and marks, by counting.
use Rattle.std.proofs.Common.{◌≡◌, ◌≢◌, ℕ, zero, suc, ◌+◌, ◌<◌, ◌≤◌, List, [], ◌∷◌, ◌++◌, Bool, true, false, cond, refl, sym, ◌∙◌, ap, subst, length, arith, inl, inr, get_or, set, replicate, eq-eqb, reverse, get_or-set_same, get_or-set_other}
use Rattle.std.specs.Prelude.{nat_eq, ◌||◌}
use Rattle.std.specs.List.{IsDistinct, AllByRecursion, list_any}
use Rattle.std.proofs.lemmas.Map.Steps.{length-le_from_distinct_below}
use Rattle.std.proofs.lemmas.Map.Views.{exact_unsigned_eq}
use Rattle.std.proofs.lemmas.Bool.{ne_eqb, cases_eq, cases_lt}
use Rattle.std.proofs.lemmas.List.{reverse-append}
use Rattle.cfb_outline.specs.Families.{is_marked}

-- 1 where the two are the same
unfoldable pub hit : ℕ → ℕ → ℕ
hit k x = cond (nat_eq k x) 1 0

-- how often a number stands in a list
abbrev pub tally : ℕ → List ℕ → ℕ
tally k [] = 0
tally k (x ∷ xs) = hit k x + tally k xs

-- 1 where the number is marked
unfoldable pub mark_count : List Bool → ℕ → ℕ
mark_count marks k = cond (is_marked marks k) 1 0

pub hit-same : (k : ℕ) → hit k k ≡ 1
unfolding hit
hit-same k = ap (λ b. cond b 1 0) (eq-eqb k k refl)

pub hit-other : (k x : ℕ) → k ≢ x → hit k x ≡ 0
unfolding hit
hit-other k x ne = ap (λ b. cond b 1 0) (ne_eqb k x ne)

pub hit-le : (k x : ℕ) → hit k x ≤ 1
unfolding hit
hit-le k x = elim (nat_eq k x) as (λ b. cond b 1 0 ≤ 1) [ true ↦ omega arith | false ↦ omega arith ]

pub tally-append : (k : ℕ) (xs ys : List ℕ) → tally k (xs ++ ys) ≡ tally k xs + tally k ys
tally-append k [] ys = omega arith
tally-append k (x ∷ xs) ys = omega (arith, tally-append k xs ys)

pub tally-reverse : (k : ℕ) (xs : List ℕ) → tally k (reverse xs) ≡ tally k xs
tally-reverse k [] = refl
tally-reverse k (x ∷ xs) =
    let e : tally k (reverse (x ∷ xs)) ≡ tally k (reverse xs ++ x ∷ []) = ap (tally k) (reverse-append (x ∷ []) xs) in
    omega (arith, e, tally-append k (reverse xs) (x ∷ []), tally-reverse k xs)

-- ---- a number that stands nowhere

absent : (k : ℕ) (xs : List ℕ) → tally k xs ≡ 0 → AllByRecursion (λ y. nat_eq k y ≡ false) xs
absent k [] e = tt
absent k (x ∷ xs) e = (head (nat_eq k x) refl, absent k xs (omega (arith, e)))
  where
    head : (b : Bool) → nat_eq k x ≡ b → nat_eq k x ≡ false
    head false h = h
    head true h =
        let same : k ≡ x = exact_unsigned_eq k x h in
        let one : hit k x ≡ 1 = subst (λ y. hit k y ≡ 1) same (hit-same k) in
        absurd (omega (arith, e, one))

none-there : (k : ℕ) (xs : List ℕ) → AllByRecursion (λ y. nat_eq k y ≡ false) xs → tally k xs ≡ 0
unfolding hit
none-there k [] a = refl
none-there k (x ∷ xs) a =
    let e : hit k x ≡ 0 = ap (λ b. cond b 1 0) a.0 in
    omega (arith, e, none-there k xs a.1)

pub distinct-tally : (xs : List ℕ) → IsDistinct nat_eq xs → (k : ℕ) → tally k xs ≤ 1
unfolding IsDistinct
distinct-tally [] d k = omega arith
distinct-tally (x ∷ xs) d k = elim (cases_eq k x) [ inl e ↦ here e | inr ne ↦ there ne (distinct-tally xs d.1 k) ]
  where
    here : k ≡ x → tally k (x ∷ xs) ≤ 1
    here e =
        let z : tally x xs ≡ 0 = none-there x xs d.0 in
        let z' : tally k xs ≡ 0 = subst (λ j. tally j xs ≡ 0) (sym e) z in
        omega (arith, hit-le k x, z')

    there : k ≢ x → tally k xs ≤ 1 → tally k (x ∷ xs) ≤ 1
    there ne rest = omega (arith, hit-other k x ne, rest)

pub tally-distinct : (xs : List ℕ) → ((k : ℕ) → tally k xs ≤ 1) → IsDistinct nat_eq xs
unfolding IsDistinct
tally-distinct [] h = tt
tally-distinct (x ∷ xs) h =
    (absent x xs (let a = h x in omega (arith, a, hit-same x)), tally-distinct xs (λ k. let a = h k in omega (arith, a)))

present : (q : ℕ) (xs : List ℕ) → list_any (nat_eq q) xs ≡ true → 1 ≤ tally q xs
present q [] e = cc
present q (x ∷ xs) e = go (nat_eq q x) refl (λ t. present q xs t)
  where
    go : (b : Bool) → nat_eq q x ≡ b → (list_any (nat_eq q) xs ≡ true → 1 ≤ tally q xs) → 1 ≤ tally q (x ∷ xs)
    go true h next =
        let same : q ≡ x = exact_unsigned_eq q x h in
        let one : hit q x ≡ 1 = subst (λ y. hit q y ≡ 1) same (hit-same q) in
        omega (arith, one)
    go false h next =
        let rest : 1 ≤ tally q xs = next (sym (ap (λ b. b || list_any (nat_eq q) xs) h) ∙ e) in
        omega (arith, rest)

-- numbers below n, each once, are at most n
pub tally-length : (xs : List ℕ) (n : ℕ) → ((k : ℕ) → tally k xs ≤ 1) → ((k : ℕ) → n ≤ k → tally k xs ≡ 0) → length xs ≤ n
tally-length xs n once out = length-le_from_distinct_below xs n (tally-distinct xs once) (λ q h. elim (cases_lt q n) [ inl l ↦ l | inr ge ↦ absurd (let p : 1 ≤ tally q xs = present q xs h in let z : tally q xs ≡ 0 = out q ge in omega (arith, p, z)) ])

-- ---- marks

pub marked-none : (n k : ℕ) → mark_count (replicate n false) k ≡ 0
unfolding mark_count
marked-none zero k = refl
marked-none (suc n) zero = refl
marked-none (suc n) (suc k) = marked-none n k

pub marked-past : (marks : List Bool) (k : ℕ) → length marks ≤ k → mark_count marks k ≡ 0
unfolding mark_count
marked-past [] k h = refl
marked-past (b ∷ marks) zero h = absurd (omega arith)
marked-past (b ∷ marks) (suc k) h = marked-past marks k (omega arith)

pub marked-yes : (marks : List Bool) (k : ℕ) → get_or marks k false ≡ true → mark_count marks k ≡ 1
unfolding mark_count
marked-yes marks k e = ap (λ b. cond b 1 0) e

pub marked-no : (marks : List Bool) (k : ℕ) → get_or marks k false ≡ false → mark_count marks k ≡ 0
unfolding mark_count
marked-no marks k e = ap (λ b. cond b 1 0) e

pub marked-set : (marks : List Bool) (at k : ℕ) → at < length marks → get_or marks at false ≡ false → mark_count (set marks at true) k ≡ mark_count marks k + hit k at
unfolding mark_count
marked-set marks at k l e = elim (cases_eq k at) [ inl s ↦ here s | inr ne ↦ there ne ]
  where
    here : k ≡ at → mark_count (set marks at true) k ≡ mark_count marks k + hit k at
    here s =
        let one : hit k at ≡ 1 = subst (λ y. hit k y ≡ 1) s (hit-same k) in
        let new : mark_count (set marks at true) k ≡ 1 = rw s (marked-yes (set marks at true) at (get_or-set_same marks at true false l)) in
        let old : mark_count marks k ≡ 0 = rw s (marked-no marks at e) in
        omega (arith, one, new, old)

    there : k ≢ at → mark_count (set marks at true) k ≡ mark_count marks k + hit k at
    there ne =
        let same : mark_count (set marks at true) k ≡ mark_count marks k = ap (λ b. cond b 1 0) (get_or-set_other marks at k true false ne) in
        omega (arith, hit-other k at ne, same)

pub marked-le : (marks : List Bool) (k : ℕ) → mark_count marks k ≤ 1
unfolding mark_count
marked-le marks k = elim (get_or marks k false) as (λ b. cond b 1 0 ≤ 1) [ true ↦ omega arith | false ↦ omega arith ]

same-inside : (marks : List Bool) (k : ℕ) (d e : Bool) → k < length marks → get_or marks k d ≡ get_or marks k e
same-inside [] k d e h = absurd (omega arith)
same-inside (m ∷ marks) zero d e h = refl
same-inside (m ∷ marks) (suc k) d e h = same-inside marks k d e (omega arith)

-- what was read in range is the mark
pub mark-read : (marks : List Bool) (k : ℕ) (read value : Bool) → k < length marks → read ≡ get_or marks k read → read ≡ value → get_or marks k false ≡ value
mark-read marks k read value h is v = same-inside marks k false read h ∙ sym is ∙ v

-- ---- marks and lists, without counts

-- where no number counts twice, none of the list is marked
pub none-marked : (marks : List Bool) (xs : List ℕ) → ((k : ℕ) → tally k xs + mark_count marks k ≤ 1) → AllByRecursion (λ k. is_marked marks k ≡ false) xs
unfolding mark_count
none-marked marks [] once = tt
none-marked marks (x ∷ xs) once =
    (head (is_marked marks x) refl, none-marked marks xs (λ k. let o = once k in omega (arith, o)))
  where
    head : (b : Bool) → is_marked marks x ≡ b → is_marked marks x ≡ false
    head false e = e
    head true e =
        let one : mark_count marks x ≡ 1 = ap (λ b. cond b 1 0) e in
        absurd (omega (arith, one, once x, hit-same x))

-- where none of a list without repeats is marked, no number counts twice
pub marked-once : (marks : List Bool) (xs : List ℕ) → IsDistinct nat_eq xs → AllByRecursion (λ k. is_marked marks k ≡ false) xs → (k : ℕ) → tally k xs + mark_count marks k ≤ 1
unfolding IsDistinct mark_count
marked-once marks [] d f k = omega (arith, marked-le marks k)
marked-once marks (x ∷ xs) d f k = elim (cases_eq k x) [ inl e ↦ here e | inr ne ↦ there ne (marked-once marks xs d.1 f.1 k) ]
  where
    here : k ≡ x → tally k (x ∷ xs) + mark_count marks k ≤ 1
    here e =
        let z : tally k xs ≡ 0 = subst (λ j. tally j xs ≡ 0) (sym e) (none-there x xs d.0) in
        let m : mark_count marks k ≡ 0 = subst (λ j. mark_count marks j ≡ 0) (sym e) (ap (λ b. cond b 1 0) f.0) in
        omega (arith, hit-le k x, z, m)

    there : k ≢ x → tally k xs + mark_count marks k ≤ 1 → tally k (x ∷ xs) + mark_count marks k ≤ 1
    there ne rest = omega (arith, hit-other k x ne, rest)

missing : (q : ℕ) (xs : List ℕ) → list_any (nat_eq q) xs ≡ false → tally q xs ≡ 0
unfolding hit
missing q [] e = refl
missing q (x ∷ xs) e = go (nat_eq q x) refl (λ t. missing q xs t)
  where
    go : (b : Bool) → nat_eq q x ≡ b → (list_any (nat_eq q) xs ≡ false → tally q xs ≡ 0) → tally q (x ∷ xs) ≡ 0
    go true h next = let bad : true ≡ false = sym (ap (λ b. b || list_any (nat_eq q) xs) h) ∙ e in cc
    go false h next =
        let none : hit q x ≡ 0 = ap (λ b. cond b 1 0) h in
        let rest : tally q xs ≡ 0 = next (sym (ap (λ b. b || list_any (nat_eq q) xs) h) ∙ e) in
        omega (arith, none, rest)

-- the number is marked now where it was or stands in the list
pub marks-from-counts : (before now : List Bool) (xs : List ℕ) (k : ℕ) → mark_count now k ≡ mark_count before k + tally k xs → is_marked now k ≡ (is_marked before k || list_any (nat_eq k) xs)
unfolding mark_count
marks-from-counts before now xs k e = go (is_marked now k) (is_marked before k) (list_any (nat_eq k) xs) (present k xs) (missing k xs) e
  where
    go : (a b c : Bool) → (c ≡ true → 1 ≤ tally k xs) → (c ≡ false → tally k xs ≡ 0) → cond a 1 0 ≡ cond b 1 0 + tally k xs → a ≡ (b || c)
    go true true c there none e = refl
    go true false true there none e = refl
    go true false false there none e = absurd (omega (arith, none refl, e))
    go false true c there none e = absurd (omega (arith, e))
    go false false true there none e = absurd (omega (arith, there refl, e))
    go false false false there none e = refl

pub counts-from-marks : (before now : List Bool) (xs : List ℕ) (k : ℕ) → tally k xs + mark_count before k ≤ 1 → is_marked now k ≡ (is_marked before k || list_any (nat_eq k) xs)
    → mark_count now k ≡ mark_count before k + tally k xs
unfolding mark_count
counts-from-marks before now xs k once e = go (is_marked now k) (is_marked before k) (list_any (nat_eq k) xs) (present k xs) (missing k xs) once e
  where
    go : (a b c : Bool) → (c ≡ true → 1 ≤ tally k xs) → (c ≡ false → tally k xs ≡ 0) → tally k xs + cond b 1 0 ≤ 1 → a ≡ (b || c) → cond a 1 0 ≡ cond b 1 0 + tally k xs
    go true true c there none once e = omega (arith, once)
    go true false true there none once e = omega (arith, there refl, once)
    go true false false there none once e = cc
    go false true c there none once e = cc
    go false false true there none once e = cc
    go false false false there none once e = omega (arith, none refl)
