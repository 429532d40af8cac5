-- What the rules say of a write and of a length that is set, from what the windows say.
use Rattle.std.proofs.Common.{refl, ℕ, ◌+◌, ◌-◌, ◌≡◌, ◌≢◌, ◌<◌, ◌≤◌, ◌⊎◌, min, max, Bool, true, false, ◌==◌, IsTrue, List, [], ◌++◌, length, take, drop, sym, ◌∙◌, ap, subst, arith, length-append, length-drop, length-take, replicate, nat_lt, nat_le, if◌then◌else◌, inl, inr}
use Rattle.std.proofs.lemmas.Bool.{cases_lt}
use Rattle.std.proofs.lemmas.Bool.Decides.{nat_tests}
use Rattle.std.proofs.lemmas.List.{append-nil, take_all}
use Rattle.cfb_format.specs.declared.error.Detail.{Detail}
use Rattle.cfb_format.specs.declared.error.Error.{Error}
use Rattle.cfb_format.specs.declared.error.Error.TheVariants.{Full, InvalidInput, Unsound}
use Rattle.cfb_format.specs.declared.medium.MediumFault.{MediumFault}
use Rattle.cfb_format.specs.Medium.{Rises}
use Rattle.cfb_format.specs.Refused.{CountsError, IsBreak, IsMemory}
use Rattle.cfb_stream_window.specs.cfb_rules.Refusal.{invalid_input, not_sound}
use Rattle.cfb_stream_window.specs.cfb_rules.StreamCalls.{write, set_len, ready, count, Wrote, resized}
use Rattle.cfb_stream_window.specs.cfb_rules.Runs.{Causes, no_work, overwriting, appending, resizing, work_of}
use Rattle.cfb_stream_window.specs.Contents.{Stored, Fails, laid, stored_after_write, stored_after_resize}
use Rattle.cfb_stream_window.specs.Windows.{Window, LiesOver, Carries, Stays, IsLengthened, IsLost, IsMemoryOrFull, LengthBrokeOff, WriteBrokeOff, Runs, IsCallRefused, settled, state_of, window_kept, window_past, window_settled, window_within, WroteStraight, Resized}
use Rattle.cfb_stream_window.proofs.Lists.{length-laid, laid-nothing, laid-resized, laid-write, resized-before}
use Rattle.cfb_stream_window.proofs.Carrying.{settled_whole}
use Rattle.cfb_stream_window.proofs.Asking.{agrees_moved}
use Rattle.cfb_stream_window.proofs.Breaking.{match_true, match_false, break_but, memory_break, overwritten_broken, appended_broken}
use Rattle.cfb_stream_window.proofs.Reading.{step_runs, stays, eq_test}
use Rattle.cfb_stream_window.proofs.Breaks.{not_full}
use Rattle.cfb_stream_window.proofs.cfb_rules.StreamBounds.{length_resized}

-- ---- writing

-- bytes were written: what the rules ask
wrote_runs : (causes : Causes) (s t : Stored) (w x : Window) (bytes : List ℕ) (n : ℕ) → s.failed ≡ false → t.failed ≡ false → s.sound ≡ true → 1 ≤ n → n ≤ length bytes → w.base + w.cursor + n ≤ s.limit
    → Wrote bytes n (state_of s w) (state_of t x) → Runs causes s w (write bytes) (count n) t x
wrote_runs causes s t w x bytes n f f' sound some most fits wrote = step_runs causes s w t x (write bytes) _ f f'
    (match_false (length bytes == 0) _ _ (grind (arith, nat_tests))
    (match_false (nat_le s.limit (w.base + w.cursor)) _ _ (grind (arith, nat_tests))
    (match_true s.sound _ _ sound (n, some, most, fits, refl, wrote))))

module _ (causes : Causes) (s t : Stored) (w v x : Window) (bytes piece : List ℕ) (n : ℕ) (f : s.failed ≡ false) (k : Carries s w t v) (sound : s.sound ≡ true)
    (len : length piece ≡ n) (is_part : piece ≡ take n bytes) (behind : v.cursor ≤ length v.filled) (fits : w.base + w.cursor + n ≤ s.limit) (is : x ≡ window_kept v piece) where
  kept_sound : t.sound ≡ true
  kept_sound = k.sound ∙ sound

  kept_placed : v.base ≤ length t.content
  kept_placed = omega (arith, k.agrees.whole kept_sound, k.agrees.begins)

  kept_len : length (take v.cursor v.filled ++ piece ++ drop (v.cursor + length piece) v.filled) ≡ max (length v.filled) (v.cursor + n)
  kept_len = omega (arith, length-append (take v.cursor v.filled ++ piece) (drop (v.cursor + length piece) v.filled), length-append (take v.cursor v.filled) piece, length-take v.cursor v.filled, length-drop (v.cursor + length piece) v.filled)

  kept_list : laid v.base (take v.cursor v.filled ++ piece ++ drop (v.cursor + length piece) v.filled) t.content
      ≡ take (w.base + w.cursor) (laid w.base w.filled s.content) ++ take n bytes ++ drop (w.base + w.cursor + n) (laid w.base w.filled s.content)
  kept_list =
      laid-write v.base v.cursor v.filled piece t.content kept_placed behind
      ∙ ap (λ (m : ℕ). take (v.base + v.cursor) (laid v.base v.filled t.content) ++ piece ++ drop (v.base + v.cursor + m) (laid v.base v.filled t.content)) len
      ∙ ap (λ (xs : List ℕ). take (v.base + v.cursor) xs ++ piece ++ drop (v.base + v.cursor + n) xs) k.list
      ∙ ap (λ (m : ℕ). take m (laid w.base w.filled s.content) ++ piece ++ drop (m + n) (laid w.base w.filled s.content)) k.place
      ∙ ap (λ (xs : List ℕ). take (w.base + w.cursor) (laid w.base w.filled s.content) ++ xs ++ drop (w.base + w.cursor + n) (laid w.base w.filled s.content)) is_part

  kept_wrote : Wrote bytes n (state_of s w) (state_of t (window_kept v piece))
  kept_wrote = record {
    len = omega (arith, k.place, k.same_size);
    content = kept_list;
    position = omega (arith, k.place);
    ahead = refl;
  }

  kept_in : LiesOver t (window_kept v piece)
  kept_in = record {
    unfailed = k.agrees.unfailed;
    begins = k.agrees.begins;
    total = omega (arith, kept_len, k.agrees.total);
    within = omega (arith, k.agrees.within, k.place, k.limit);
    readable = k.agrees.readable;
    whole = k.agrees.whole;
    placed = λ (h : 0 < length (window_kept v piece).filled). kept_placed;
    clean = λ (h : true ≡ false). absurd (cc);
    clean_size = λ (h : true ≡ false). absurd (cc);
    trusted = λ (h : true ≡ true). kept_sound;
  }

  pub kept_runs : 1 ≤ n → n ≤ length bytes → Runs causes s w (write bytes) (count n) t x
  kept_runs some most = wrote_runs causes s t w x bytes n f k.agrees.unfailed sound some most fits (subst (λ (z : Window). Wrote bytes n (state_of s w) (state_of t z)) (sym is) kept_wrote)

  pub kept_agrees : LiesOver t x
  kept_agrees = subst (λ (z : Window). LiesOver t z) (sym is) kept_in

pub straight_runs : (causes : Causes) (s t : Stored) (w x : Window) (bytes piece : List ℕ) (n : ℕ) → s.failed ≡ false → s.sound ≡ true → 1 ≤ n → n ≤ length bytes → w.base + w.cursor + n ≤ s.limit
    → piece ≡ take n bytes → length piece ≡ n → WroteStraight piece s w t x → Runs causes s w (write bytes) (count n) t x
unfolding laid
straight_runs causes s t w x bytes piece n f sound some most fits is len k = wrote_runs causes s t w x bytes n f k.agrees.unfailed sound some most fits (record {
  len = omega (arith, k.new_size, len);
  content = k.list
      ∙ ap (λ (m : ℕ). take (w.base + w.cursor) (laid w.base w.filled s.content) ++ piece ++ drop (w.base + w.cursor + m) (laid w.base w.filled s.content)) len
      ∙ ap (λ (xs : List ℕ). take (w.base + w.cursor) (laid w.base w.filled s.content) ++ xs ++ drop (w.base + w.cursor + n) (laid w.base w.filled s.content)) is;
  position = omega (arith, k.place, len);
  ahead = k.ahead;
})

module _ (causes : Causes) (s : Stored) (w : Window) (bytes : List ℕ) (f : s.failed ≡ false) where
  pub nothing_written : (x : Window) → x ≡ record w { ahead = 0 } → length bytes ≡ 0 → Runs causes s w (write bytes) (count 0) s x
  nothing_written x is none = step_runs causes s w s x (write bytes) _ f f (match_true (length bytes == 0) _ _ (eq_test _ _ none) (refl, stays s w x is))

  pub no_room_refused : (d : Detail) → 0 < length bytes → s.limit ≤ w.base + w.cursor → IsCallRefused causes s w (write bytes) s w (InvalidInput d)
  no_room_refused d some at = (
    invalid_input,
    refl,
    step_runs causes s w s w (write bytes) _ f f
        (match_false (length bytes == 0) _ _ (grind (arith, nat_tests)) (match_true (nat_le s.limit (w.base + w.cursor)) _ _ (grind (arith, nat_tests)) (refl, refl))),
  )

  pub unsound_refused : 0 < length bytes → w.base + w.cursor < s.limit → s.sound ≡ false → IsCallRefused causes s w (write bytes) s w Unsound
  unsound_refused some at unsound = (
    not_sound,
    refl,
    step_runs causes s w s w (write bytes) _ f f
        (match_false (length bytes == 0) _ _ (grind (arith, nat_tests)) (match_false (nat_le s.limit (w.base + w.cursor)) _ _ (grind (arith, nat_tests))
        (match_false s.sound _ _ unsound (refl, refl)))),
  )

-- some bytes are to be taken, over others or at the end
some_work : (s : Stored) (w : Window) (bytes : List ℕ) → 0 < length bytes
    → ((work_of (state_of s w) (write bytes) ≡ overwriting) × (w.base + w.cursor < w.size)) ⊎ (work_of (state_of s w) (write bytes) ≡ appending)
some_work s w bytes some =
    let e : (length bytes == 0) ≡ false = grind (arith, nat_tests) in
    let some_is : work_of (state_of s w) (write bytes) ≡ (if nat_lt (w.base + w.cursor) w.size then overwriting else appending) =
    ap (λ (b : Bool). if b then no_work else if nat_lt (w.base + w.cursor) w.size then overwriting else appending) e in
    elim (cases_lt (w.base + w.cursor) w.size) [
      | inl before ↦ (
          let over : nat_lt (w.base + w.cursor) w.size ≡ true = grind (arith, nat_tests, before) in
          inl (some_is ∙ ap (λ (b : Bool). if b then overwriting else appending) over, before)
          )
      | inr end ↦ (
          let past : nat_lt (w.base + w.cursor) w.size ≡ false = grind (arith, nat_tests, end) in
          inr (some_is ∙ ap (λ (b : Bool). if b then overwriting else appending) past)
          )
    ]

-- they were not
pub written_broken : (full : Type 0) (can : MediumFault → Bool) (m n : ℕ) (s : Stored) (w : Window) (s' : Stored) (w' : Window) (bytes : List ℕ) (e : Error) → 0 < length bytes → s.failed ≡ false
    → (w.base + w.cursor < s.limit) × (s.sound ≡ true) → CountsError can m n e → WriteBrokeOff full s w s' w' e → IsCallRefused (record { medium = Rises m n; full = full }) s w (write bytes) s' w' e
written_broken full can m n s w s' w' bytes e some f ok counts b = elim (some_work s w bytes some) [
  | inl k ↦ overwritten_broken full can m n s w s' w' (write bytes) e k.0 k.1 f ok counts b
  | inr k ↦ appended_broken full can m n s w s' w' (write bytes) e k f ok counts b
]

-- bytes written past the empty window
module _ (s t : Stored) (w v : Window) (bytes : List ℕ) (k : Carries s w t v) (sound : s.sound ≡ true) (none : v.filled ≡ []) (start : v.cursor ≡ 0) (calm : v.pending ≡ false) (unlent : v.ahead ≡ 0)
    (fits : w.base + w.cursor + length bytes ≤ s.limit) where
  past_list : (b : ℕ) (c : List ℕ) → laid b v.filled c ≡ c
  past_list b c = ap (λ (xs : List ℕ). laid b xs c) none ∙ laid-nothing b c

  past_whole : length (laid v.base bytes t.content) ≡ max t.size (v.base + length bytes)
  past_whole =
      let all = k.agrees.whole (k.sound ∙ sound) in
      omega (arith, length-laid v.base bytes t.content (omega (arith, all, k.agrees.begins)), all)

  past_straight : WroteStraight bytes s w (stored_after_write t v.base bytes) (record v { base = v.base + length bytes; size = max v.size (v.base + length bytes) })
  past_straight = record {
    list = past_list (v.base + length bytes) (laid v.base bytes t.content)
        ∙ ap (λ (b : ℕ). laid b bytes t.content) (omega (arith, k.place, start))
        ∙ ap (λ (c : List ℕ). laid (w.base + w.cursor) bytes c) (sym (past_list v.base t.content) ∙ k.list);
    place = omega (arith, k.place);
    new_size = omega (arith, k.place, start, k.same_size);
    limit = k.limit;
    sound = k.sound;
    ahead = unlent;
    agrees = record {
      unfailed = k.agrees.unfailed;
      begins = omega arith;
      total = omega (arith, k.agrees.clean_size calm, ap length none);
      within = omega (arith, k.agrees.within, k.place, start, k.limit);
      readable = omega (arith, past_whole);
      whole = λ (h : t.sound ≡ true). past_whole;
      placed = λ (h : 0 < length v.filled). absurd (omega (arith, ap length none));
      clean = λ (h : v.pending ≡ false). past_list (v.base + length bytes) (laid v.base bytes t.content);
      clean_size = λ (h : v.pending ≡ false). ap (λ (m : ℕ). max m (v.base + length bytes)) (k.agrees.clean_size h);
      trusted = λ (h : v.pending ≡ true). k.sound ∙ sound;
    };
  }

  pub straight_to : (u : Stored) (x : Window) → u ≡ stored_after_write t v.base bytes → x ≡ record v { base = v.base + length bytes; size = max v.size (v.base + length bytes) } → WroteStraight bytes s w u x
  straight_to u x is at = subst (λ (z : Stored). WroteStraight bytes s w z x) (sym is) (subst (λ (z : Window). WroteStraight bytes s w (stored_after_write t v.base bytes) z) (sym at) past_straight)

-- ---- the length

-- the window in a stream of another length, over the list that was cut or padded
pub record Cut (size : ℕ) (s : Stored) (w : Window) (t : Stored) (v : Window) : Type 0 where
  pub agrees : LiesOver t v
  pub list : laid v.base v.filled t.content ≡ resized (laid w.base w.filled s.content) size
  pub place : v.base + v.cursor ≡ min (w.base + w.cursor) size
  pub new_size : v.size ≡ size

module _ (s : Stored) (w : Window) (size : ℕ) (a : LiesOver s w) (sound : s.sound ≡ true) (fits : size ≤ s.limit) where
  cut_placed : w.base ≤ length s.content
  cut_placed = omega (arith, a.whole sound, a.begins)

  cut_within : w.pending ≡ true → w.base ≤ size → Cut size s w (stored_after_resize s size) (window_within size w)
  cut_within pending inside = record {
    agrees = record {
      unfailed = a.unfailed;
      begins = inside;
      total = omega (arith, length-take (size - w.base) w.filled);
      within = fits;
      readable = omega (arith, length_resized s.content size);
      whole = λ (h : s.sound ≡ true). length_resized s.content size;
      placed = λ (h : 0 < length (take (size - w.base) w.filled)). omega (arith, length_resized s.content size);
      clean = λ (h : w.pending ≡ false). absurd (cc);
      clean_size = λ (h : w.pending ≡ false). refl;
      trusted = λ (h : w.pending ≡ true). sound;
    };
    list = laid-resized w.base size w.filled s.content cut_placed inside;
    place = omega arith;
    new_size = refl;
  }

  cut_past : resized s.content size ≡ resized (laid w.base w.filled s.content) size → Cut size s w (stored_after_resize s size) (window_past size w)
  cut_past same = record {
    agrees = record {
      unfailed = a.unfailed;
      begins = omega arith;
      total = omega arith;
      within = fits;
      readable = omega (arith, length_resized s.content size);
      whole = λ (h : s.sound ≡ true). length_resized s.content size;
      placed = λ (h : 0 < 0). absurd (omega arith);
      clean = λ (h : w.pending ≡ false). laid-nothing (min (w.base + w.cursor) size) (resized s.content size);
      clean_size = λ (h : w.pending ≡ false). refl;
      trusted = λ (h : w.pending ≡ true). sound;
    };
    list = laid-nothing (min (w.base + w.cursor) size) (resized s.content size) ∙ same;
    place = omega arith;
    new_size = refl;
  }

  cut_in : (t : Stored) (v x : Window) → t ≡ stored_after_resize s size → v ≡ x → Cut size s w (stored_after_resize s size) x → Cut size s w t v
  cut_in t v x same is k = subst (λ (z : Stored). Cut size s w z v) (sym same) (subst (λ (z : Window). Cut size s w (stored_after_resize s size) z) (sym is) k)

  -- bytes that are not written out stay as far as they lie in it
  pub cut_to : (t : Stored) (v : Window) → t ≡ stored_after_resize s size → (w.pending ≡ true → w.base ≤ size → v ≡ window_within size w) → (w.pending ≡ true → size < w.base → v ≡ window_past size w)
      → (w.pending ≡ false → v ≡ window_past size w) → Cut size s w t v
  cut_to t v same kept past calm = go w.pending refl
    where
      go : (p : Bool) → w.pending ≡ p → Cut size s w t v
      go true is = elim (cases_lt size w.base) [
        | inl over ↦ cut_in t v _ same (past is over) (cut_past (sym (resized-before w.base size w.filled s.content cut_placed (omega arith))))
        | inr inside ↦ cut_in t v _ same (kept is inside) (cut_within is inside)
      ]
      go false is = cut_in t v _ same (calm is) (cut_past (ap (λ (xs : List ℕ). resized xs size) (sym (a.clean is))))

-- which end inside of it
pub cut_inside : (w v : Window) (size : ℕ) → (w.pending ≡ true → w.base ≤ size → v ≡ window_within size w) → (w.pending ≡ true → size < w.base → v ≡ window_past size w)
    → (w.pending ≡ false → v ≡ window_past size w) → v.base + length v.filled ≤ size
cut_inside w v size kept past calm = go w.pending refl
  where
    none : v ≡ window_past size w → v.base + length v.filled ≤ size
    none is = subst (λ (z : Window). z.base + length z.filled ≤ size) (sym is) (omega arith)

    go : (p : Bool) → w.pending ≡ p → v.base + length v.filled ≤ size
    go true is = elim (cases_lt size w.base) [
      | inl over ↦ none (past is over)
      | inr inside ↦ subst (λ (z : Window). z.base + length z.filled ≤ size) (sym (kept is inside)) (omega (arith, inside, length-take (size - w.base) w.filled))
    ]
    go false is = none (calm is)

-- and is written out then
pub resized_to : (size : ℕ) (s t u : Stored) (w v x : Window) → Cut size s w t v → t ≡ stored_after_resize s size → Carries t v u x → x ≡ window_settled v → Resized size s w u x
resized_to size s t u w v x cut same k is = record {
  list = k.list ∙ cut.list;
  place = k.place ∙ cut.place;
  new_size = k.same_size ∙ cut.new_size;
  limit = k.limit ∙ ap (λ (z : Stored). z.limit) same;
  sound = k.sound ∙ ap (λ (z : Stored). z.sound) same;
  ahead = ap (λ (z : Window). z.ahead) is;
  calm = ap (λ (z : Window). z.pending) is;
  agrees = k.agrees;
}

-- or it is lost
pub resized_lost : (full long : Type 0) (size : ℕ) (s t u : Stored) (w v x : Window) (e : Error) → t ≡ stored_after_resize s size → IsBreak ⊥ e → IsLost full t v u e → LengthBrokeOff long s w u x e
resized_lost full long size s t u w v x e same b l = (
  not_full long e b,
  inr (
    record {
      is_failed = l.2.is_failed;
      same_limit = l.2.same_limit ∙ ap (λ (z : Stored). z.limit) same;
      same_sound = l.2.same_sound ∙ ap (λ (z : Stored). z.sound) same;
    },
    tt,
  ),
)

-- nothing changed but what was lent
pub unlent : (s t : Stored) (w x : Window) → LiesOver s w → t ≡ s → x ≡ record w { ahead = 0 } → Stays s w t x
unlent s t w x a same is = subst (λ (z : Stored). Stays s w z x) (sym same) (record {
  same = refl;
  carries = subst (λ (z : Window). Carries s w s z) (sym is) (record {
    list = refl;
    place = refl;
    same_size = refl;
    limit = refl;
    sound = refl;
    calm = λ (h : w.pending ≡ false). h;
    bound = refl;
    agrees = agrees_moved s w (record w { ahead = 0 }) w.cursor 0 a refl;
  });
  ahead = ap (λ (z : Window). z.ahead) is;
  pending = ap (λ (z : Window). z.pending) is;
})

-- or it was written out, and then the length could not be had
pub lost_after : (full : Type 0) (size : ℕ) (s t u : Stored) (w v x : Window) (e : Error) → Resized size s w t v → IsBreak full e → Fails t u → LengthBrokeOff full s w u x e
lost_after full size s t u w v x e k b f = (
  b,
  inr (record { is_failed = f.is_failed; same_limit = f.same_limit ∙ k.limit; same_sound = f.same_sound ∙ k.sound }, tt),
)

-- no number lacked
pub lacks_none : (full other : Type 0) (s : Stored) (w : Window) (t : Stored) (x : Window) (e : Error) → (e ≡ Full → ⊥) → LengthBrokeOff full s w t x e → LengthBrokeOff other s w t x e
lacks_none full other s w t x e never b = (break_but full other e never b.0, b.1)

-- what is pending is written out by the length of the window
pub resized_own : (c : List ℕ) (n : ℕ) → length c ≡ n → resized c n ≡ c
resized_own c n is =
    let none : n - length c ≡ 0 = omega (arith, is) in
    ap (λ (m : ℕ). take n c ++ replicate m 0) none ∙ append-nil (take n c) ∙ take_all n c (omega (arith, is))

pub resized_settled : (s t : Stored) (w v : Window) → LiesOver s w → s.sound ≡ true → Resized w.size s w t v → t ≡ settled s w
resized_settled s t w v a sound k =
    let whole : length (laid w.base w.filled s.content) ≡ w.size = settled_whole s w a sound in
    let list : t.content ≡ laid w.base w.filled s.content = sym (k.agrees.clean k.calm) ∙ k.list ∙ resized_own (laid w.base w.filled s.content) w.size whole in
    let size : t.size ≡ w.size = sym (k.agrees.clean_size k.calm) ∙ k.new_size in
    let limit = k.limit in
    let still = k.sound in
    let calm : t.failed ≡ s.failed = k.agrees.unfailed ∙ sym a.unfailed in
    λ j. record { size = size j; content = list j; limit = limit j; sound = still j; failed = calm j }

-- the length came second
pub resized_again : (len : ℕ) (s t u : Stored) (w v x : Window) → LiesOver s w → s.sound ≡ true → w.size ≤ len → w.base + w.cursor ≤ w.size → Resized w.size s w t v → Resized len t v u x → Resized len s w u x
resized_again len s t u w v x a sound longer inside k then' = record {
  list = then'.list ∙ ap (λ (xs : List ℕ). resized xs len) (k.list ∙ resized_own (laid w.base w.filled s.content) w.size (settled_whole s w a sound));
  place = omega (arith, then'.place, k.place, longer, inside);
  new_size = then'.new_size;
  limit = then'.limit ∙ k.limit;
  sound = then'.sound ∙ k.sound;
  ahead = then'.ahead;
  calm = then'.calm;
  agrees = then'.agrees;
}

-- nothing was done for want of memory
pub unasked : (full : Type 0) (s : Stored) (w x : Window) (e : Error) → LiesOver s w → IsMemory e → x ≡ record w { ahead = 0 } → LengthBrokeOff full s w s x e
unasked full s w x e a memory is = (memory_break full e memory, inl (unlent s s w x a refl is, λ (p : w.pending ≡ true). subst (λ (z : Error). IsMemoryOrFull z) (sym memory) tt))

-- bytes lie pending behind the end
pub lengthened_pending : (s : Stored) (w : Window) (size : ℕ) → LiesOver s w → IsLengthened s w size → w.pending ≡ true
lengthened_pending s w size a long = go w.pending refl
  where
    go : (p : Bool) → w.pending ≡ p → p ≡ true
    go true is = refl
    go false is = absurd (omega (arith, a.clean_size is, long.0))

-- what the rules ask of `set_len`
module _ (causes : Causes) (s : Stored) (w : Window) (size : ℕ) (f : s.failed ≡ false) where
  pub same_len_runs : (x : Window) → x ≡ record w { ahead = 0 } → size ≡ w.size → Runs causes s w (set_len size) ready s x
  same_len_runs x is same = step_runs causes s w s x (set_len size) _ f f (match_true (size == w.size) _ _ (eq_test _ _ same) (refl, stays s w x is))

  pub too_long_refused : (d : Detail) → size ≢ w.size → s.limit < size → IsCallRefused causes s w (set_len size) s w (InvalidInput d)
  too_long_refused d other over = (
    invalid_input,
    refl,
    step_runs causes s w s w (set_len size) _ f f
        (match_false (size == w.size) _ _ (grind (arith, nat_tests)) (match_true (nat_lt s.limit size) _ _ (grind (arith, nat_tests)) (refl, refl))),
  )

  pub unsound_len_refused : size ≢ w.size → size ≤ s.limit → s.sound ≡ false → IsCallRefused causes s w (set_len size) s w Unsound
  unsound_len_refused other fits unsound = (
    not_sound,
    refl,
    step_runs causes s w s w (set_len size) _ f f
        (match_false (size == w.size) _ _ (grind (arith, nat_tests)) (match_false (nat_lt s.limit size) _ _ (grind (arith, nat_tests)) (match_false s.sound _ _ unsound (refl, refl)))),
  )

  pub resized_runs : (t : Stored) (x : Window) → size ≢ w.size → size ≤ s.limit → s.sound ≡ true → Resized size s w t x → Runs causes s w (set_len size) ready t x
  resized_runs t x other fits sound k = step_runs causes s w t x (set_len size) _ f k.agrees.unfailed
      (match_false (size == w.size) _ _ (grind (arith, nat_tests)) (match_false (nat_lt s.limit size) _ _ (grind (arith, nat_tests)) (match_true s.sound _ _ sound
      (refl, record { len = k.new_size; content = k.list; position = k.place; ahead = k.ahead; pending = λ (h : IsTrue x.pending). absurd (let e = k.calm in cc) }, k.calm))))

-- the length is to be changed
pub len_work : (s : Stored) (w : Window) (size : ℕ) → size ≢ w.size → work_of (state_of s w) (set_len size) ≡ resizing
len_work s w size other =
    let e : (size == w.size) ≡ false = grind (arith, nat_tests) in
    ap (λ (b : Bool). if b then no_work else resizing) e
