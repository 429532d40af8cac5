-- What a write into a list of bytes leaves, byte by byte and part by part.
use Rattle.std.proofs.Common.{refl, add-zero, zero-add, zero, suc, inl, inr, ◌≡◌, ℕ, ◌+◌, ◌-◌, ◌<◌, ◌≤◌, min, max, List, ◌++◌, length, take, drop, replicate, slice_index, sym, ◌∙◌, ap, arith, length-append, length-drop, length-take, get_or-take, get_or-drop}
use Rattle.std.proofs.lemmas.List.{take_rest, get_or_append_left, get_or-append_right, length-replicate, get_or_past, ext_get_or, take-append-le, append_assoc, drop-drop}
use Rattle.std.proofs.Math.Seq.{take-add, take-append-add}
use borrow.Rule.Slice.PartMut.{put_mid}
use Rattle.std.proofs.lemmas.Bool.{cases_lt}
use Rattle.cfb_format.specs.Medium.{part, written, ChangesOnlyBytes}

-- the bytes before the write, with the gap
unfoldable front : List ℕ → ℕ → List ℕ
front b at = take at (b ++ replicate (at - length b) 0)

length-front : (b : List ℕ) (at : ℕ) → length (front b at) ≡ at
unfolding front
length-front b at =
    omega (arith, length-take at (b ++ replicate (at - length b) 0), length-append b (replicate (at - length b) 0), length-replicate {A = ℕ} (at - length b) 0)

zero_at : (n i : ℕ) → slice_index (replicate n 0) i ≡ 0
zero_at zero i = refl
zero_at (suc n) zero = refl
zero_at (suc n) (suc i) = zero_at n i

front_at : (b : List ℕ) (at i : ℕ) → i < at → slice_index (front b at) i ≡ slice_index b i
unfolding front
front_at b at i low =
    get_or-take at _ i 0 low
    ∙ elim (cases_lt i (length b)) [
      | inl within ↦ get_or_append_left b _ 0 i within
      | inr past ↦ get_or-append_right b _ (length b) i 0 refl past ∙ zero_at (at - length b) (i - length b) ∙ sym (get_or_past b i 0 past)
    ]

module _ (b : List ℕ) (at : ℕ) (f : List ℕ) where
  head_length : length (front b at ++ f) ≡ at + length f
  head_length = omega (arith, length-append (front b at) f, length-front b at)

  pub length-written : length (written b at f) ≡ max (length b) (at + length f)
  unfolding written front
  length-written =
      omega (arith, head_length, length-append (front b at ++ f) (drop (at + length f) b), length-drop (at + length f) b)

  pub written_below : (i : ℕ) → i < at → slice_index (written b at f) i ≡ slice_index b i
  unfolding written front
  written_below i low =
      get_or_append_left (front b at ++ f) _ 0 i (omega (arith, head_length))
      ∙ get_or_append_left (front b at) f 0 i (omega (arith, length-front b at)) ∙ front_at b at i low

  pub written_at : (i : ℕ) → i < length f → slice_index (written b at f) (at + i) ≡ slice_index f i
  unfolding written front
  written_at i low =
      let back : at + i - at ≡ i = omega arith in
      get_or_append_left (front b at ++ f) _ 0 (at + i) (omega (arith, head_length))
      ∙ get_or-append_right (front b at) f at (at + i) 0 (length-front b at) (omega arith) ∙ ap (slice_index f) back

  pub written_above : (i : ℕ) → at + length f ≤ i → slice_index (written b at f) i ≡ slice_index b i
  unfolding written front
  written_above i high =
      let end = at + length f in
      let back : end + (i - end) ≡ i = omega arith in
      get_or-append_right (front b at ++ f) _ end i 0 head_length high ∙ get_or-drop end b (i - end) 0 ∙ ap (slice_index b) back

  pub ChangesOnly-written : ChangesOnlyBytes at (length f) b (written b at f)
  ChangesOnly-written =
      record {
        no_shorter = omega (arith, length-written);
        below = λ i _ low. written_below i low;
        above = λ i _ high. written_above i high;
      }

  -- a list is that which a write leaves if it has its length and its bytes
  pub written_from_bytes : (new : List ℕ) → length new ≡ max (length b) (at + length f)
      → ((i : ℕ) → i < at → i < length new → slice_index new i ≡ slice_index b i)
      → ((i : ℕ) → i < length f → slice_index new (at + i) ≡ slice_index f i)
      → ((i : ℕ) → at + length f ≤ i → i < length new → slice_index new i ≡ slice_index b i)
      → new ≡ written b at f
  written_from_bytes new len low mid high =
      ext_get_or 0 new (written b at f) (len ∙ sym length-written)
      (λ i within. elim (cases_lt i at) [
        | inl below ↦ low i below within ∙ sym (written_below i below)
        | inr from ↦
            elim (cases_lt i (at + length f)) [
              | inr above ↦ high i above within ∙ sym (written_above i above)
              | inl inside ↦
                  let back : at + (i - at) ≡ i = omega arith in
                  ap (slice_index new) (sym back) ∙ mid (i - at) (omega arith) ∙ sym (written_at (i - at) (omega arith)) ∙ ap (slice_index (written b at f)) back
            ]
      ])

-- zeros that the write reaches over are there already
pub written-padded : (b : List ℕ) (n at : ℕ) (f : List ℕ) → length b + n ≤ at + length f → written (b ++ replicate n 0) at f ≡ written b at f
written-padded b n at f fits =
    let len = length-append b (replicate n 0) in
    let zeros = length-replicate {A = ℕ} n 0 in
    let whole = length-written (b ++ replicate n 0) at f in
    written_from_bytes b at f _ (omega arith)
    (λ i low _. written_below (b ++ replicate n 0) at f i low ∙ elim (cases_lt i (length b)) [
      | inl within ↦ get_or_append_left b _ 0 i within
      | inr past ↦ get_or-append_right b _ (length b) i 0 refl past ∙ zero_at n (i - length b) ∙ sym (get_or_past b i 0 past)
    ])
    (λ i low. written_at (b ++ replicate n 0) at f i low)
    (λ i high within. absurd_past b n at f i fits high (omega arith))
  where
    absurd_past : (b : List ℕ) (n at : ℕ) (f : List ℕ) (i : ℕ) → length b + n ≤ at + length f → at + length f ≤ i → i < at + length f → slice_index (written (b ++ replicate n 0) at f) i ≡ slice_index b i
    absurd_past b n at f i fits high low = absurd (omega arith)

-- a write inside the bytes
pub written_inside : (b : List ℕ) (at : ℕ) (f : List ℕ) → at ≤ length b → written b at f ≡ take at b ++ (f ++ drop (at + length f) b)
unfolding written
written_inside b at f within =
    ap (λ (xs : List ℕ). xs ++ f ++ drop (at + length f) b) (take-append-le at b (replicate (at - length b) 0) within) ∙ append_assoc (take at b) f (drop (at + length f) b)

-- the same, as a write to a range of a slice leaves it
pub put_mid_written : (b : List ℕ) (at k : ℕ) (f ys : List ℕ) → at ≤ length b → k ≡ length f → ys ≡ f → put_mid at k b ys ≡ written b at f
put_mid_written b at k f ys within len same =
    let inside = written_inside b at f within in
    ap (λ (zs : List ℕ). put_mid at k b zs) same ∙ ap (λ n. put_mid at n b f) len ∙ ap (λ (zs : List ℕ). take at b ++ (f ++ zs)) (drop-drop (length f) at b) ∙ sym inside

-- a part in two pieces
pub part_more : (b : List ℕ) (at d n : ℕ) → part b at (d + n) ≡ part b at d ++ part b (at + d) n
part_more b at d n = take-add d n (drop at b) ∙ ap (λ (xs : List ℕ). take d (drop at b) ++ take n xs) (drop-drop d at b)

-- one more piece of a part was read behind the first d bytes
pub served_more : (b into r : List ℕ) (at d n : ℕ) → d ≤ length into → n ≤ length r → take d into ≡ part b at d → take n r ≡ part b (at + d) n
    → take (d + n) (put_mid d (length into - d) into r) ≡ part b at (d + n)
served_more b into r at d n within fits before now =
    let len : length (take d into) ≡ d = omega (arith, length-take d into) in
    let rest = drop (length into - d) (drop d into) in
    ap (λ k. take (k + n) (take d into ++ (r ++ rest))) (sym len)
    ∙ take-append-add (take d into) (r ++ rest) n
    ∙ ap (λ (xs : List ℕ). take d into ++ xs) (take-append-le n r rest fits)
    ∙ ap (λ (xs : List ℕ). xs ++ take n r) before
    ∙ ap (λ (xs : List ℕ). part b at d ++ xs) now
    ∙ sym (part_more b at d n)

-- two writes, one behind the other
pub written_twice : (b : List ℕ) (at : ℕ) (f g : List ℕ) → written (written b at f) (at + length f) g ≡ written b at (f ++ g)
written_twice b at f g =
    let first = length-written b at f in
    let second = length-written (written b at f) (at + length f) g in
    let both = length-append f g in
    written_from_bytes b at (f ++ g) _ (omega arith)
    (λ i low _. written_below (written b at f) (at + length f) g i (omega arith) ∙ written_below b at f i low)
    (λ i low. elim (cases_lt i (length f)) [
      | inl inside ↦
          written_below (written b at f) (at + length f) g (at + i) (omega arith) ∙ written_at b at f i inside ∙ sym (get_or_append_left f g 0 i inside)
      | inr past ↦
          let back : at + length f + (i - length f) ≡ at + i = omega arith in
          ap (slice_index (written (written b at f) (at + length f) g)) (sym back)
          ∙ written_at (written b at f) (at + length f) g (i - length f) (omega arith) ∙ sym (get_or-append_right f g (length f) i 0 refl past)
    ])
    (λ i high _. written_above (written b at f) (at + length f) g i (omega arith) ∙ written_above b at f i (omega arith))

-- one more piece was written behind the first d bytes
pub written_more : (b b' from : List ℕ) (at d n : ℕ) → d ≤ length from → b' ≡ written b at (take d from)
    → written b' (at + d) (take n (drop d from)) ≡ written b at (take (d + n) from)
written_more b b' from at d n within before =
    let len : length (take d from) ≡ d = omega (arith, length-take d from) in
    ap (λ (xs : List ℕ). written xs (at + d) (take n (drop d from))) before
    ∙ ap (λ k. written (written b at (take d from)) (at + k) (take n (drop d from))) (sym len)
    ∙ written_twice b at (take d from) (take n (drop d from)) ∙ ap (written b at) (sym (take-add d n from))

written_next : (b b' from : List ℕ) (at d n : ℕ) → d ≤ length from → (d ≡ 0 → b' ≡ b) → (0 < d → b' ≡ written b at (take d from))
    → written b' (at + d) (take n (drop d from)) ≡ written b at (take (d + n) from)
written_next b b' from at zero n within none some = ap (λ (xs : List ℕ). written xs (at + 0) (take n from)) (none refl) ∙ ap (λ k. written b k (take n from)) (add-zero at) ∙ ap (λ k. written b at (take k from)) (sym (zero-add n))
written_next b b' from at (suc d) n within none some = written_more b b' from at (suc d) n within (some (omega arith))

-- the same, also for the first piece, of `&from[d..]`
pub written_step : (b b' from : List ℕ) (at d n : ℕ) → d ≤ length from → (d ≡ 0 → b' ≡ b) → (0 < d → b' ≡ written b at (take d from))
    → written b' (at + d) (take n (take (length from - d) (drop d from))) ≡ written b at (take (d + n) from)
written_step b b' from at d n within none some =
    ap (λ (xs : List ℕ). written b' (at + d) (take n xs)) (take_rest from d) ∙ written_next b b' from at d n within none some

-- nothing changed
pub ChangesOnly_refl : (at n : ℕ) (a : List ℕ) → ChangesOnlyBytes at n a a
ChangesOnly_refl at n a = record { no_shorter = omega arith; below = λ i _ _. refl; above = λ i _ _. refl }

-- one change after another
pub ChangesOnly_trans : (at n : ℕ) (a b c : List ℕ) → ChangesOnlyBytes at n a b → ChangesOnlyBytes at n b c → ChangesOnlyBytes at n a c
ChangesOnly_trans at n a b c first second =
    let longer = first.no_shorter in
    record {
      no_shorter = omega (arith, second.no_shorter);
      below = λ i within low. second.below i (omega arith) low ∙ first.below i within low;
      above = λ i within high. second.above i (omega arith) high ∙ first.above i within high;
    }

-- a change in a smaller range
pub ChangesOnly_wider : (at n at' n' : ℕ) (a b : List ℕ) → at ≤ at' → at' + n' ≤ at + n → ChangesOnlyBytes at' n' a b → ChangesOnlyBytes at n a b
ChangesOnly_wider at n at' n' a b from to change =
    record {
      no_shorter = change.no_shorter;
      below = λ i within low. change.below i within (omega arith);
      above = λ i within high. change.above i within (omega arith);
    }

-- a whole write that took a beginning changes only the range asked for
pub ChangesOnly_begun : (at n : ℕ) (b f : List ℕ) → length f ≤ n → ChangesOnlyBytes at n b (written b at f)
ChangesOnly_begun at n b f fits = ChangesOnly_wider at n at (length f) b _ (omega arith) (omega arith) (ChangesOnly-written b at f)

-- the same, of a list that is known to be what a write left
pub ChangesOnly_after : (at n : ℕ) (b f new : List ℕ) → new ≡ written b at f → length f ≤ n → ChangesOnlyBytes at n b new
ChangesOnly_after at n b f new is fits = rw is (ChangesOnly_begun at n b f fits)

pub ruleset write_steps = (written_step, ChangesOnly_refl, ChangesOnly_trans, ChangesOnly_wider, ChangesOnly_begun)

-- what follows from a whole write
pub ruleset writes = (length-written, ChangesOnly-written, length-replicate)

-- a part byte by byte
pub part_at : (b : List ℕ) (at n i : ℕ) → i < n → slice_index (part b at n) i ≡ slice_index b (at + i)
part_at b at n i low = get_or-take n (drop at b) i 0 low ∙ get_or-drop at b i 0

pub length-part : (b : List ℕ) (at n : ℕ) → length (part b at n) ≡ min n (length b - at)
length-part b at n = omega (arith, length-take n (drop at b), length-drop at b)

-- what was written is there
pub part_written : (b : List ℕ) (at n : ℕ) (f : List ℕ) → n ≡ length f → part (written b at f) at n ≡ f
part_written b at n f same =
    let len = length-part (written b at f) at n in
    let whole = length-written b at f in
    ext_get_or 0 _ f (omega arith) (λ i within. part_at (written b at f) at n i (omega arith) ∙ written_at b at f i (omega arith))

-- a part that the change leaves alone
pub part_apart : (at n p m : ℕ) (a b : List ℕ) → ChangesOnlyBytes at n a b → p + m ≤ length a → (at < p + m → at + n ≤ p) → part b p m ≡ part a p m
part_apart at n p m a b change within apart =
    let longer = change.no_shorter in
    let old = length-part a p m in
    let new = length-part b p m in
    ext_get_or 0 _ _ (omega arith)
    (λ i low. part_at b p m i (omega arith)
    ∙ elim (cases_lt at (p + m)) [
      | inl behind ↦ change.above (p + i) (omega arith) (omega arith)
      | inr before ↦ change.below (p + i) (omega arith) (omega arith)
    ]
    ∙ sym (part_at a p m i (omega arith)))

-- another part than the written one
pub part-written_apart : (b : List ℕ) (at : ℕ) (f : List ℕ) (p m : ℕ) → p + m ≤ length b → (at < p + m → at + length f ≤ p) → part (written b at f) p m ≡ part b p m
part-written_apart b at f p m within apart = part_apart at (length f) p m b _ (ChangesOnly-written b at f) within apart

-- changes put together
pub ruleset changes = (ChangesOnly_refl, ChangesOnly_trans, ChangesOnly_wider, ChangesOnly_after)
