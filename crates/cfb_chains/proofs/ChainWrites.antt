-- Writing into a chain: the room that it has, and its zeros.
use Rattle.std.proofs.Common.{◌≡◌, ◌<◌, ◌≤◌, ◌+◌, ◌-◌, ◌*◌, ◌/◌, ◌%◌, min, max, true, ℕ, List, ◌++◌, take, replicate, length, sym, subst, ◌∙◌, ap, arith, length-append, length-take}
use Rattle.std.specs.Prelude.{Result, Ok, Err, IfOk, MatchResult, OnOk}
use Rattle.std.proofs.lemmas.List.{length-replicate}
use Rattle.cfb_format.specs.declared.version.Version.{Version}
use Rattle.cfb_format.specs.declared.version.Version.TheVariants.{V3, V4}
use Rattle.cfb_format.specs.Bytes.{sector_len}
use Rattle.cfb_format.specs.Full.{rounded_up}
use Rattle.cfb_chains.specs.ChainLists.{}
use Rattle.cfb_format.specs.Medium.{part, written}
use Rattle.cfb_format.proofs.ByteLemmas.{part_written}
use Rattle.cfb_sectors.specs.Sectors.{SectorFile}

pub not_end : (v : Version) (k m : ℕ) → k ≤ m * sector_len v → (k % sector_len v ≡ 0 → ⊥) → k < m * sector_len v
not_end V3 k m le some = omega arith
not_end V4 k m le some = omega arith

pub none_missing : (v : Version) (p n len : ℕ) → rounded_up (p + n - len) (sector_len v) ≡ 0 → p + n ≤ len
none_missing V3 p n len none = omega arith
none_missing V4 p n len none = omega arith

-- and none are for no bytes
pub none_needed : (v : Version) (p m n : ℕ) → n ≡ 0 → p ≤ m * sector_len v → rounded_up (p + n - m * sector_len v) (sector_len v) ≡ 0
none_needed V3 p m n none le = omega arith
none_needed V4 p m n none le = omega arith

-- a position that goes on by nothing
pub goes_nowhere : {E : Type 0} (r : Result ℕ E) (p q m : ℕ) → m ≡ 0 → IfOk r (λ n. n ≤ m) → MatchResult r (λ n. q ≡ p + n) (λ _. q ≡ p) → q ≡ p
goes_nowhere (Ok n) p q m zero is at = omega (arith, zero, is, at)
goes_nowhere (Err e) p q m zero is at = at

-- the length that it has
pub same_wanted : (v : Version) (len m : ℕ) → len ≡ m * sector_len v → rounded_up len (sector_len v) ≡ m
same_wanted V3 len m is = omega arith
same_wanted V4 len m is = omega arith

pub same_rest : (v : Version) (len m : ℕ) → len ≡ m * sector_len v → len % sector_len v ≡ 0
same_rest V3 len m is = omega arith
same_rest V4 len m is = omega arith

pub enough_room : (v : Version) (p n m more : ℕ) → more ≡ rounded_up (p + n - m * sector_len v) (sector_len v) → p + n ≤ (m + more) * sector_len v
enough_room V3 p n m more is = omega arith
enough_room V4 p n m more is = omega arith

pub if_ok : {T E : Type 0} (P Q : T → Type 0) (r : Result T E) → ((x : T) → P x → Q x) → IfOk r P → IfOk r Q
if_ok P Q (Ok x) f p = f x p
if_ok P Q (Err e) f p = tt

pub if_both : {T E : Type 0} (P Q R : T → Type 0) (r : Result T E) → ((x : T) → P x → Q x → R x) → IfOk r P → IfOk r Q → IfOk r R
if_both P Q R (Ok x) f p q = f x p q
if_both P Q R (Err e) f p q = tt

pub on_if : {T E : Type 0} (P Q R : Type 0) (r : Result T E) → ((P → Q) → R) → (P → OnOk r Q) → OnOk r R
on_if P Q R (Ok x) f q = f q
on_if P Q R (Err e) f q = tt

-- once the missing sectors are there, as much as is given has room behind the position
pub left_after : (v v' : Version) (p p' n : ℕ) (ids ids' more : List ℕ) → v' ≡ v → p' ≡ p → ids' ≡ ids ++ more
    → length more ≡ rounded_up (p + n - length ids * sector_len v) (sector_len v) → n ≤ length ids' * sector_len v' - p'
left_after v v' p p' n ids ids' more version position listed is =
    let fits = enough_room v p n (length ids) (length more) is in
    let size : length ids' * sector_len v' ≡ (length ids + length more) * sector_len v =
    (λ j. length (listed j) * sector_len (version j)) ∙ ap (λ k. k * sector_len v) (length-append ids more) in
    omega (arith, fits, size, position)

rest_le : (v : Version) (k : ℕ) → k % sector_len v ≤ sector_len v
rest_le V3 k = omega arith
rest_le V4 k = omega arith

pub rest_fits : (v : Version) (k l : ℕ) → l ≡ sector_len v → k % l + (sector_len v - k % l) ≤ sector_len v
rest_fits v k l is =
    let le : k % l ≤ sector_len v = subst (λ (m : ℕ). k % m ≤ sector_len v) (sym is) (rest_le v k) in
    omega (arith, le)

none_wanted_of : (v : Version) (len r : ℕ) → r ≡ len / sector_len v + min 1 (len % sector_len v) → r ≡ 0 → len ≡ 0
none_wanted_of V3 len r is zero = omega arith
none_wanted_of V4 len r is zero = omega arith

pub none_wanted : (v : Version) (len r l : ℕ) → l ≡ sector_len v → r ≡ len / l + min 1 (len % l) → r ≡ 0 → len ≡ 0
none_wanted v len r l is eq zero = none_wanted_of v len r (subst (λ (k : ℕ). r ≡ len / k + min 1 (len % k)) is eq) zero

-- what was written stands there
pub there_of : {E : Type 0} (r : Result ℕ E) (x y : SectorFile) (at at' m : ℕ) (from : List ℕ) → at ≡ at' → IfOk r (λ n. n ≤ min (length from) m)
    → IfOk r (λ n. 0 < n → y ≡ record x { bytes = written x.bytes at (take n from); len = max x.len (at + n); begun = true })
    → IfOk r (λ n. 0 < n → part y.bytes at' n ≡ take n from)
there_of (Err e) x y at at' m from same count file = tt
there_of (Ok n) x y at at' m from same count file = λ some.
    ap (λ (f : SectorFile). part f.bytes at' n) (file some)
    ∙ ap (λ k. part (written x.bytes k (take n from)) at' n) same
    ∙ part_written x.bytes at' n (take n from) (let l : length (take n from) ≡ min n (length from) = length-take n from in omega (arith, count, l))

-- and so do zeros
pub zeroed_of : {T E : Type 0} (r : Result T E) (x y : SectorFile) (at at' n n' : ℕ) → at ≡ at' → n ≡ n'
    → OnOk r (y ≡ record x { bytes = written x.bytes at (replicate n 0); len = max x.len (at + n); begun = true }) → OnOk r (part y.bytes at' n' ≡ replicate n' 0)
zeroed_of (Err e) x y at at' n n' same count file = tt
zeroed_of (Ok u) x y at at' n n' same count file =
    ap (λ (f : SectorFile). part f.bytes at' n') file
    ∙ (λ j. part (written x.bytes (same j) (replicate (count j) 0)) at' n')
    ∙ part_written x.bytes at' n' (replicate n' 0) (sym (length-replicate n' 0))
