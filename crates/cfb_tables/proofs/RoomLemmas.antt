-- Sizes after many sectors more, and room that is asked for in parts.
use Rattle.std.proofs.Common.{◌≡◌, ℕ, zero, suc, ◌+◌, ◌-◌, ◌*◌, ◌<◌, ◌≤◌, inl, inr, length, refl, sym, ◌∙◌, ap, subst, arith}
use Rattle.std.specs.Prelude.{IsTrue, nat_eq}
use Rattle.std.proofs.lemmas.Bool.{cases_lt, eqb-true}
use Rattle.cfb_format.specs.declared.version.Version.{Version}
use Rattle.cfb_format.specs.Bytes.{words_per_sector}
use Rattle.cfb_format.specs.Full.{free_count}
use Rattle.cfb_tables.specs.declared.lists.Sizes.{Sizes}
use Rattle.cfb_tables.specs.Tables.{TableState, PassesLimit, IsTooFew, sizes_of, sizes_after, grown_sizes, numbers_needed}
use Rattle.cfb_tables.specs.Room.{IsTooFewAfter, NothingGivenBack, TooFewIsNoRoomAfter, EnoughIsRoomAfter, MoreIsTooFew, RoomInTurn, AllTakenIsFull, tables_read}
use Rattle.cfb_tables.proofs.SizeLemmas.{needed-cases, one, after-none, after-one, after-more, sizes-rise, passes-limit, no-room, room}
use Rattle.cfb_tables.proofs.FullLemmas.{full-is-too-few}

-- ---- sizes

abbrev pub longer_by : Sizes → ℕ → Sizes
longer_by s run = record { sectors = s.sectors + run; fats = s.fats; difats = s.difats }

-- while the FAT has words for them, sectors alone come
pub after-run : (v : Version) (run : ℕ) (s : Sizes) → (0 < run → s.sectors + run ≤ s.fats * words_per_sector v) → sizes_after v run s ≡ longer_by s run
after-run v zero s words =
    let same : s.sectors ≡ s.sectors + 0 = omega arith in
    after-none v 0 s refl ∙ (λ i. record { sectors = same i; fats = s.fats; difats = s.difats })
after-run v (suc run) s words =
    let fit = words (omega arith) in
    let next : grown_sizes s (numbers_needed v s) ≡ longer_by s 1 = elim (needed-cases v s) [
      | inl c ↦ one s (numbers_needed v s) c.0
      | inr q ↦ elim q [ inl c ↦ absurd (omega (arith, c.1, fit)) | inr c ↦ absurd (omega (arith, c.1, fit)) ]
    ] in
    let same : s.sectors + 1 + run ≡ s.sectors + suc run = omega arith in
    after-one v (suc run) run s refl
    ∙ ap (sizes_after v run) next
    ∙ after-run v run (longer_by s 1) (λ some. omega (arith, fit))
    ∙ (λ i. record { sectors = same i; fats = s.fats; difats = s.difats })

pub run-left : (v : Version) (more run : ℕ) (s : Sizes) → run ≤ more → (0 < run → s.sectors + run ≤ s.fats * words_per_sector v)
    → longer_by s run ≡ sizes_after v (more - (more - run)) s
run-left v more run s few words =
    let same : run ≡ more - (more - run) = omega (arith, few) in
    sym (after-run v run s words) ∙ ap (λ n. sizes_after v n s) same

pub one-left : (v : Version) (more : ℕ) (s : Sizes) → 0 < more → grown_sizes s (numbers_needed v s) ≡ sizes_after v (more - (more - 1)) s
one-left v more s some =
    let same : 1 ≡ more - (more - 1) = omega (arith, some) in
    sym (after-one v 1 0 s refl ∙ after-none v 0 (grown_sizes s (numbers_needed v s)) refl) ∙ ap (λ n. sizes_after v n s) same

-- some after those that came so far
pub after-turn : (v : Version) (more left rest : ℕ) (s next start : Sizes) → left ≤ more → rest ≤ left → s ≡ sizes_after v (more - left) start
    → next ≡ sizes_after v (left - rest) s → next ≡ sizes_after v (more - rest) start
after-turn v more left rest s next start few fewer is then =
    let sum : (more - left) + (left - rest) ≡ more - rest = omega (arith, few, fewer) in
    then ∙ ap (sizes_after v (left - rest)) is ∙ after-more v (more - left) (left - rest) start ∙ ap (λ n. sizes_after v n start) sum

-- what is left over passes the limit
pub left-passes : (v : Version) (limit more left : ℕ) (s start : Sizes) → left ≤ more → 0 < left → limit - s.sectors < numbers_needed v s
    → s ≡ sizes_after v (more - left) start → PassesLimit v limit start more
left-passes v limit more left s start few some full is =
    let pred : left ≡ suc (left - 1) = omega (arith, some) in
    let sum : (more - left) + left ≡ more = omega (arith, few) in
    passes-limit v limit left (left - 1) s start more pred full
    (ap (sizes_after v left) is ∙ after-more v (more - left) left start ∙ ap (λ n. sizes_after v n start) sum)
    (omega (arith, few, some))

-- and so does one of them after those that fit
pub one-left-passes : (v : Version) (limit more left k : ℕ) (s start : Sizes) → left ≤ more → 0 < left → k ≡ more - left + 1 → limit - s.sectors < numbers_needed v s
    → s ≡ sizes_after v (more - left) start → PassesLimit v limit start k
one-left-passes v limit more left k s start few some is_k full is =
    passes-limit v limit 1 0 s start k refl full
    (ap (sizes_after v 1) is ∙ after-more v (more - left) 1 start ∙ ap (λ n. sizes_after v n start) (sym is_k))
    (omega (arith, is_k))

-- ---- what fits

pass_at : (v w : Version) (limit top : ℕ) (s start : Sizes) (n more : ℕ) → v ≡ w → limit ≡ top → s ≡ start → n ≡ more
    → PassesLimit v limit s n → PassesLimit w top start more
pass_at v w limit top s start n more same_version same_limit same_sizes same_count p =
    let at : (sizes_after v n s).sectors ≡ (sizes_after w more start).sectors = λ i. (sizes_after (same_version i) (same_count i) (same_sizes i)).sectors in
    let some = p.0 in
    let pass = p.1 in
    (omega (arith, some, same_count), omega (arith, pass, at, same_limit))

-- nothing is left over exactly where all fit
pub can-take : (t : TableState) (count given_back missing left : ℕ) (v : Version) (limit : ℕ) (start s : Sizes)
    → v ≡ t.version → limit ≡ t.max_sectors → start ≡ sizes_of t → missing ≡ count - (free_count t.fat + given_back)
    → left ≤ missing → s ≡ sizes_after v (missing - left) start → (left < missing → s.sectors ≤ limit) → (0 < left → limit - s.sectors < numbers_needed v s)
    → (IsTrue (nat_eq left 0) → IsTooFewAfter t given_back count → ⊥) × ((IsTooFewAfter t given_back count → ⊥) → IsTrue (nat_eq left 0))
can-take t count given_back missing left v limit start s same_version same_limit same_sizes same_count few is limited full = (
  λ none p.
      let zero : left ≡ 0 = eqb-true left 0 none in
      let q = pass_at t.version v t.max_sectors limit (sizes_of t) start (count - (free_count t.fat + given_back)) missing
      (sym same_version) (sym same_limit) (sym same_sizes) (sym same_count) p in
      let some = q.0 in
      let pass = q.1 in
      let all : missing - left ≡ missing = omega (arith, zero) in
      let at = ap (λ (z : Sizes). z.sectors) (is ∙ ap (λ n. sizes_after v n start) all) in
      let low = limited (omega (arith, some, zero)) in
      omega (arith, pass, at, low),
  λ enough. elim (cases_lt 0 left) [
    | inl some ↦ absurd (enough (pass_at v t.version limit t.max_sectors start (sizes_of t) missing (count - (free_count t.fat + given_back))
        same_version same_limit same_sizes same_count (left-passes v limit missing left s start few some (full some) is)))
    | inr none ↦ let zero : left ≡ 0 = omega (arith, none) in subst (λ k. IsTrue (nat_eq k 0)) (sym zero) refl
  ],
)

-- one more than fits doesn't fit
pub one-more-passes : (t : TableState) (wanted missing left : ℕ) (v : Version) (limit : ℕ) (start s : Sizes)
    → v ≡ t.version → limit ≡ t.max_sectors → start ≡ sizes_of t → missing ≡ wanted - free_count t.fat
    → left ≤ missing → s ≡ sizes_after v (missing - left) start → (0 < left → limit - s.sectors < numbers_needed v s)
    → wanted - left < wanted → IsTooFew t (wanted - left + 1)
one-more-passes t wanted missing left v limit start s same_version same_limit same_sizes same_count few is full less =
    let some : 0 < left = omega (arith, less) in
    pass_at v t.version limit t.max_sectors start (sizes_of t) (missing - left + 1) (wanted - left + 1 - free_count t.fat)
    same_version same_limit same_sizes (omega (arith, few, same_count, some))
    (one-left-passes v limit missing left (missing - left + 1) s start few some refl (full some) is)

-- ---- room

pub nothing-given-back : NothingGivenBack
nothing-given-back t count =
    let same : count - (free_count t.fat + 0) ≡ count - free_count t.fat = omega arith in
    (subst (PassesLimit t.version t.max_sectors (sizes_of t)) same, subst (PassesLimit t.version t.max_sectors (sizes_of t)) (sym same))

pub too-few-is-no-room-after : TooFewIsNoRoomAfter
too-few-is-no-room-after limit r given_back count few has =
    let t = tables_read limit r in
    no-room t.version limit (count - (free_count t.fat + given_back)) (sizes_of t) few has

pub enough-is-room-after : EnoughIsRoomAfter
enough-is-room-after limit r given_back count are top covered enough =
    let t = tables_read limit r in
    room t.version limit (count - (free_count t.fat + given_back)) (sizes_of t) are top covered enough

pub more-is-too-few : MoreIsTooFew
more-is-too-few t count more le few =
    let a = count - free_count t.fat in
    let b = more - free_count t.fat in
    let sum : a + (b - a) ≡ b = omega (arith, le) in
    let rise = (sizes-rise t.version (b - a) (sizes_after t.version a (sizes_of t))).0 in
    let same = ap (λ (z : Sizes). z.sectors) (after-more t.version a (b - a) (sizes_of t) ∙ ap (λ n. sizes_after t.version n (sizes_of t)) sum) in
    let some = few.0 in
    let pass = few.1 in
    (omega (arith, some, le), omega (arith, pass, rise, same))

pub room-in-turn : RoomInTurn
room-in-turn old new touched more rest taken =
    let m = length more in
    let v = old.version in
    let left = taken.left in
    let parts : (m - free_count old.fat) + (rest - free_count new.fat) ≡ m + rest - free_count old.fat = omega (arith, left) in
    let same : sizes_after v (m + rest - free_count old.fat) (sizes_of old) ≡ sizes_after v (rest - free_count new.fat) (sizes_of new) =
    ap (λ n. sizes_after v n (sizes_of old)) (sym parts) ∙ sym (after-more v (m - free_count old.fat) (rest - free_count new.fat) (sizes_of old))
    ∙ ap (sizes_after v (rest - free_count new.fat)) (sym taken.sizes) in
    let same' : (sizes_after v (m + rest - free_count old.fat) (sizes_of old)).sectors ≡ (sizes_after new.version (rest - free_count new.fat) (sizes_of new)).sectors =
    ap (λ (s : Sizes). s.sectors) same ∙ ap (λ w. (sizes_after w (rest - free_count new.fat) (sizes_of new)).sectors) (sym taken.same_version) in (
      λ few. let p = few.0 in let q = few.1 in let l = taken.same_max in (omega (arith, p, parts), omega (arith, q, same', l)),
      λ enough few. elim (cases_lt 0 (rest - free_count new.fat)) [
        | inl some ↦ (let q = few.1 in let l = taken.same_max in (some, omega (arith, q, same', l)))
        | inr none ↦
            let p = few.0 in
            let q = few.1 in
            let nothing : rest - free_count new.fat ≡ 0 = omega (arith, none) in
            let whole : m - free_count old.fat ≡ m + rest - free_count old.fat = omega (arith, parts, nothing) in
            absurd (enough (omega (arith, p, whole), subst (λ n. old.max_sectors < (sizes_after v n (sizes_of old)).sectors) (sym whole) q))
      ],
    )

pub all-taken-is-full : AllTakenIsFull
all-taken-is-full old new touched more taken fit few = (full-is-too-few new).1 ((room-in-turn old new touched more 1 taken).1 fit few)
