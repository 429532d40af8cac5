-- Memory that was reserved lasts for the sectors that it was reserved for, and what taking the next one does.
use Rattle.std.proofs.Common.{◌≡◌, ℕ, suc, ◌+◌, ◌-◌, ◌≤◌, inl, inr, List, [], ◌∷◌, ◌++◌, length, set, refl, sym, ◌∙◌, ap, subst, arith, length-set, length-append}
use Rattle.std.proofs.lemmas.List.Elements.{Contains-push}
use Rattle.cfb_format.specs.Bytes.{end_of_chain, max_regular_sector}
use Rattle.cfb_format.specs.Chain.{value, IsChain}
use Rattle.cfb_tables.specs.declared.lists.Sizes.{Sizes}
use Rattle.cfb_tables.specs.Tables.{TableState, Kept, IsKept, IsPrepared, CanHold, AreSizes, HasTaken, TakesNext, sizes_of, sizes_after, grown_sizes, numbers_needed, grown_state}
use Rattle.cfb_tables.proofs.Members.{value-set}
use Rattle.cfb_tables.proofs.SizeLemmas.{after-one, sizes-rise, are-sizes-grown}
use Rattle.cfb_tables.proofs.KeptLemmas.{sizes-grown}
use Rattle.cfb_tables.proofs.TakenLemmas.{taken-pop, taken-grown, grown-ended}
use Rattle.cfb_format.proofs.Walks.{value-at, value-below, chain_of, le-regular}

module _ (k : Kept) (n : ℕ) (p : IsPrepared k (suc n)) (none : k.free ≡ []) where
  abbrev grown_once : Sizes
  grown_once = grown_sizes (sizes_of k.state) (numbers_needed k.state.version (sizes_of k.state))

  target : sizes_after k.state.version (suc n - length k.free) (sizes_of k.state) ≡ sizes_after k.state.version n grown_once
  target = after-one k.state.version (suc n - length k.free) n (sizes_of k.state) (let e : length k.free ≡ 0 = ap length none in omega (arith, e))

  pub prepared-held : CanHold k grown_once
  prepared-held =
      let r = sizes-rise k.state.version n grown_once in
      let a = ap (λ (z : Sizes). z.sectors) target in
      let b = ap (λ (z : Sizes). z.fats) target in
      let d = ap (λ (z : Sizes). z.difats) target in
      let h = p.held.fat in let i = p.held.fats in let j = p.held.difats in let f = p.held.free in
      record { fat = omega (arith, r.0, a, h); fats = omega (arith, r.1, b, i); difats = omega (arith, r.2, d, j); free = omega (arith, r.0, a, f) }

  pub prepared-short : length k.state.fat + numbers_needed k.state.version (sizes_of k.state) ≤ max_regular_sector
  prepared-short =
      let r = sizes-rise k.state.version n grown_once in
      let a = ap (λ (z : Sizes). z.sectors) target in
      let h = p.are.short in
      omega (arith, r.0, a, h)

  pub prepared-limited : length k.state.fat + numbers_needed k.state.version (sizes_of k.state) ≤ k.state.max_sectors
  prepared-limited =
      let r = sizes-rise k.state.version n grown_once in
      let a = ap (λ (z : Sizes). z.sectors) target in
      let e : length k.free ≡ 0 = ap length none in
      let h = p.limited (omega (arith, e)) in
      omega (arith, r.0, a, h)

-- from one state to the next with the same sizes in the end
prepared-moves : (old new : Kept) (j n : ℕ) → new.state.version ≡ old.state.version → new.state.max_sectors ≡ old.state.max_sectors
    → new.fat_capacity ≡ old.fat_capacity → new.fats_capacity ≡ old.fats_capacity → new.difats_capacity ≡ old.difats_capacity → new.free_capacity ≡ old.free_capacity
    → n - length new.free ≤ j - length old.free
    → sizes_after new.state.version (n - length new.free) (sizes_of new.state) ≡ sizes_after old.state.version (j - length old.free) (sizes_of old.state)
    → IsPrepared old j → IsPrepared new n
prepared-moves old new j n version max a b d f fewer same p =
    let x = ap (λ (z : Sizes). z.sectors) same in
    let y = ap (λ (z : Sizes). z.fats) same in
    let z = ap (λ (z : Sizes). z.difats) same in
    let h = p.held.fat in let i = p.held.fats in let g = p.held.difats in let q = p.held.free in
    record {
      held = record { fat = omega (arith, x, h, a); fats = omega (arith, y, i, b); difats = omega (arith, z, g, d); free = omega (arith, x, q, f) };
      are = subst (λ v. AreSizes v (sizes_after new.state.version (n - length new.free) (sizes_of new.state))) (sym version)
          (subst (AreSizes old.state.version) (sym same) p.are);
      limited = λ some. let l = p.limited (omega (arith, some, fewer)) in omega (arith, l, x, max);
    }

pub prepared-next : (old new : Kept) (x n : ℕ) → IsPrepared old (suc n) → TakesNext old new x → IsPrepared new n
prepared-next old new x n p (inl c) =
    let len : length old.free ≡ length (new.free ++ x ∷ []) = ap length c.0 in
    let count : suc n - length old.free ≡ n - length new.free = (let q = length-append new.free (x ∷ []) in omega (arith, len, q)) in
    let same : length new.state.fat ≡ length old.state.fat = ap (λ (z : Kept). length z.state.fat) c.1 ∙ length-set old.state.fat x end_of_chain in
    let version : new.state.version ≡ old.state.version = ap (λ (z : Kept). z.state.version) c.1 in
    let fats : new.state.fat_sectors ≡ old.state.fat_sectors = ap (λ (z : Kept). z.state.fat_sectors) c.1 in
    let difats : new.state.difat_sectors ≡ old.state.difat_sectors = ap (λ (z : Kept). z.state.difat_sectors) c.1 in
    prepared-moves old new (suc n) n version (ap (λ (z : Kept). z.state.max_sectors) c.1)
    (ap (λ (z : Kept). z.fat_capacity) c.1) (ap (λ (z : Kept). z.fats_capacity) c.1) (ap (λ (z : Kept). z.difats_capacity) c.1) (ap (λ (z : Kept). z.free_capacity) c.1)
    (omega (arith, count))
    (λ i. sizes_after (version i) (sym count i) (record { sectors = same i; fats = length (fats i); difats = length (difats i) }))
    p
prepared-next old new x n p (inr c) =
    let none : length old.free ≡ 0 = ap length c.0 in
    let free : new.free ≡ old.free = ap (λ (z : Kept). z.free) c.2 in
    let same_free : length new.free ≡ length old.free = ap length free in
    let count : suc n - length old.free ≡ suc (n - length new.free) = omega (arith, none, same_free) in
    let version : new.state.version ≡ old.state.version = ap (λ (z : Kept). z.state.version) c.2 in
    let sizes : sizes_of new.state ≡ grown_sizes (sizes_of old.state) (numbers_needed old.state.version (sizes_of old.state)) =
    ap (λ (z : Kept). sizes_of z.state) c.2 ∙ sizes-grown old.state in
    prepared-moves old new (suc n) n version (ap (λ (z : Kept). z.state.max_sectors) c.2)
    (ap (λ (z : Kept). z.fat_capacity) c.2) (ap (λ (z : Kept). z.fats_capacity) c.2) (ap (λ (z : Kept). z.difats_capacity) c.2) (ap (λ (z : Kept). z.free_capacity) c.2)
    (omega (arith, none, same_free))
    ((λ i. sizes_after (version i) (n - length new.free) (sizes i))
    ∙ sym (after-one old.state.version (suc n - length old.free) (n - length new.free) (sizes_of old.state) count))
    p

pub sizes-next : (old new : Kept) (x n : ℕ) → AreSizes old.state.version (sizes_of old.state) → IsPrepared old (suc n) → TakesNext old new x
    → AreSizes new.state.version (sizes_of new.state)
sizes-next old new x n are p (inl c) =
    let state : new.state ≡ record old.state { fat = set old.state.fat x end_of_chain } = ap (λ (z : Kept). z.state) c.1 in
    let same = length-set old.state.fat x end_of_chain in
    subst (λ (z : TableState). AreSizes z.version (sizes_of z)) (sym state) (rw same are)
sizes-next old new x n are p (inr c) =
    let state : new.state ≡ grown_state old.state (numbers_needed old.state.version (sizes_of old.state)) = ap (λ (z : Kept). z.state) c.2 in
    let more = are-sizes-grown old.state.version (sizes_of old.state) (prepared-short old n p c.0) are in
    subst (λ (z : TableState). AreSizes z.version (sizes_of z)) (sym state) (subst (AreSizes old.state.version) (sym (sizes-grown old.state)) more)

-- a sector whose value is the end is a chain
pub chain-one : (table : List ℕ) (x : ℕ) → value table x ≡ end_of_chain → x ≤ max_regular_sector → IsChain table x (x ∷ [])
chain-one table x ended regular =
    let below = value-below table x (λ e. omega (arith, e, ended)) in
    chain_of table x (x ∷ []) (refl, (λ e. omega (arith, e, regular)), below, sym (value-at table x below) ∙ ended, le-regular x regular)

-- what is known of the next sector
pub record IsNext (old new : Kept) (x : ℕ) : Type 0 where
  pub taken : HasTaken old.state new.state [] (x ∷ [])
  pub ended : value new.state.fat x ≡ end_of_chain
  pub regular : x ≤ max_regular_sector
  pub fits : length new.state.fat ≤ max_regular_sector

pub is-next : (old new : Kept) (x n : ℕ) → IsKept old.state old.free → IsPrepared old (suc n) → TakesNext old new x → IsNext old new x
is-next old new x n k p (inl c) =
    let k' : IsKept old.state (new.free ++ x ∷ []) = subst (IsKept old.state) c.0 k in
    let top = k'.listed.sound x (Contains-push new.free x) in
    let short = k.sizes.short in
    let state : new.state ≡ record old.state { fat = set old.state.fat x end_of_chain } = ap (λ (z : Kept). z.state) c.1 in
    let len : length new.state.fat ≡ length old.state.fat = ap (λ (z : TableState). length z.fat) state ∙ length-set old.state.fat x end_of_chain in
    record {
      taken = subst (λ (z : TableState). HasTaken old.state z [] (x ∷ [])) (sym state) (taken-pop old.state new.free x k');
      ended = ap (λ (z : TableState). value z.fat x) state ∙ value-set old.state.fat x end_of_chain top.0;
      regular = omega (arith, top.0, short);
      fits = omega (arith, len, short);
    }
is-next old new x n k p (inr c) =
    let k' : IsKept old.state [] = subst (IsKept old.state) c.0 k in
    let short = prepared-short old n p c.0 in
    let state : new.state ≡ grown_state old.state (numbers_needed old.state.version (sizes_of old.state)) = ap (λ (z : Kept). z.state) c.2 in
    let t = taken-grown old.state x k' c.1 (prepared-limited old n p c.0) in
    let sectors = ap (λ (z : TableState). (sizes_of z).sectors) state ∙ ap (λ (z : Sizes). z.sectors) (sizes-grown old.state) in
    let regular : x ≤ max_regular_sector = omega (arith, c.1, short) in
    record {
      taken = subst (λ (z : TableState). HasTaken old.state z [] (x ∷ [])) (sym state) t;
      ended = ap (λ (z : TableState). value z.fat x) state ∙ grown-ended old.state x c.1;
      regular = regular;
      fits = omega (arith, sectors, short);
    }

-- a link leaves what was prepared
pub prepared-linked : (old new : Kept) (n x w : ℕ) → new ≡ record old { state = record old.state { fat = set old.state.fat x w } } → IsPrepared old n → IsPrepared new n
prepared-linked old new n x w e p =
    let same : length new.state.fat ≡ length old.state.fat = ap (λ (z : Kept). length z.state.fat) e ∙ length-set old.state.fat x w in
    let version : new.state.version ≡ old.state.version = ap (λ (z : Kept). z.state.version) e in
    let fats : new.state.fat_sectors ≡ old.state.fat_sectors = ap (λ (z : Kept). z.state.fat_sectors) e in
    let difats : new.state.difat_sectors ≡ old.state.difat_sectors = ap (λ (z : Kept). z.state.difat_sectors) e in
    let free : new.free ≡ old.free = ap (λ (z : Kept). z.free) e in
    let count : n - length new.free ≡ n - length old.free = ap (λ (z : List ℕ). n - length z) free in
    prepared-moves old new n n version (ap (λ (z : Kept). z.state.max_sectors) e)
    (ap (λ (z : Kept). z.fat_capacity) e) (ap (λ (z : Kept). z.fats_capacity) e) (ap (λ (z : Kept). z.difats_capacity) e) (ap (λ (z : Kept). z.free_capacity) e)
    (omega (arith, count))
    (λ i. sizes_after (version i) (count i) (record { sectors = same i; fats = length (fats i); difats = length (difats i) }))
    p
