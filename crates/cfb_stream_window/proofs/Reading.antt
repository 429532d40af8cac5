-- What the rules say of a read, of bytes lent and of a seek, from what the windows say.
use Rattle.std.proofs.Common.{refl, ℕ, ◌+◌, ◌-◌, ◌≡◌, ◌<◌, ◌≤◌, ◌⊎◌, Bool, true, false, ◌||◌, ◌==◌, IsTrue, List, [], length, take, drop, sym, ◌∙◌, ap, subst, arith, inl, inr, length-drop, nat_lt, Option, Some, None}
use Rattle.std.specs.Prelude.{MatchOption, is_some}
use Rattle.std.proofs.lemmas.Bool.Decides.{nat_tests}
use Rattle.std.proofs.lemmas.List.{take_all}
use Rattle.std.specs.declared.io.traits.SeekFrom.{SeekFrom}
use Rattle.std.specs.declared.io.traits.SeekFrom.TheVariants.{Start, End, Current}
use Rattle.cfb_format.specs.Refused.{CountsError}
use Rattle.cfb_format.specs.Medium.{Rises}
use Rattle.cfb_format.specs.declared.medium.MediumFault.{MediumFault}
use Rattle.cfb_format.specs.declared.error.Error.{Error}
use Rattle.cfb_format.specs.declared.error.Error.TheVariants.{InvalidInput, Failed}
use Rattle.cfb_format.specs.declared.error.Detail.{Detail}
use Rattle.cfb_stream_window.specs.cfb_rules.Refusal.{invalid_input, invalid_data, failed_earlier}
use Rattle.cfb_stream_window.specs.cfb_rules.StreamCalls.{StreamState, StreamCall, read, fill_buf, seek, flush, StreamReply, ready, got, offset, Moves, Refuses, Serves, ReadsOn, sought, StreamStep}
use Rattle.cfb_stream_window.specs.cfb_rules.Runs.{Causes, is_never_refused}
use Rattle.cfb_stream_window.specs.Contents.{Stored, ReadsPart, stream_setting_of, laid}
use Rattle.cfb_stream_window.specs.Windows.{Window, LiesOver, Carries, ReadBrokeOff, Unreadable, Runs, IsCallRefused, state_of, window_settled, window_at, WentTo, ReadPast, target_of, whence_of}
use Rattle.cfb_stream_window.proofs.Lists.{length-laid, part-laid, laid-nothing}
use Rattle.cfb_stream_window.proofs.Asking.{agrees_moved}
use Rattle.cfb_stream_window.proofs.Breaking.{match_true, match_false, read_broken}

pub pending_kept : (a b : Bool) → (a ≡ false → b ≡ false) → IsTrue b → IsTrue a
pending_kept true b h t = refl
pending_kept false b h t = absurd (let e = h refl in cc)

module _ (causes : Causes) (s : Stored) (w : Window) (s' : Stored) (w' : Window) where
  -- on a failed file
  pub failed_refused : (call : StreamCall) → s.failed ≡ true → s'.failed ≡ true → is_never_refused call ≡ false → IsCallRefused causes s w call s' w' Failed
  unfolding Runs
  failed_refused call f f' c = (failed_earlier, refl, match_true s.failed _ _ f (f', match_false (is_never_refused call) _ _ c refl))

  -- by a step of the rules
  pub step_runs : (call : StreamCall) (reply : StreamReply) → s.failed ≡ false → s'.failed ≡ false
      → StreamStep (stream_setting_of s) (state_of s w) call reply (state_of s' w') → Runs causes s w call reply s' w'
  unfolding Runs
  step_runs call reply f f' step = match_false s.failed _ _ f (inl (step, f'))

pub carried_moves : (s s' : Stored) (w w' : Window) → Carries s w s' w' → (p a : ℕ) → w'.base + w'.cursor ≡ p → w'.ahead ≡ a → Moves (state_of s w) (state_of s' w') (w.base + w.cursor) a
carried_moves s s' w w' k p a at ahead = record {
  len = k.same_size;
  content = k.list;
  position = k.place;
  ahead = ahead;
  pending = pending_kept w.pending w'.pending k.calm;
}

-- the cursor moved, or other bytes lent
pub moved : (s t : Stored) (w v x : Window) → Carries s w t v → (c a : ℕ) → x ≡ record v { cursor = c; ahead = a } → (p : ℕ) → v.base + c ≡ p → Moves (state_of s w) (state_of t x) p a
moved s t w v x k c a is p at = subst (λ (z : Window). Moves (state_of s w) (state_of t z) p a) (sym is) (record {
  len = k.same_size;
  content = k.list;
  position = at;
  ahead = refl;
  pending = pending_kept w.pending v.pending k.calm;
})

pub moved_agrees : (s t : Stored) (w v x : Window) → Carries s w t v → (c a : ℕ) → x ≡ record v { cursor = c; ahead = a } → LiesOver t x
moved_agrees s t w v x k c a is = agrees_moved t v x c a k.agrees is

-- bytes held are served
module _ (s t : Stored) (w v : Window) (k : Carries s w t v) (n : ℕ) (some : 1 ≤ n) (fits : v.cursor + n ≤ length v.filled) where
  held_placed : v.base ≤ length t.content
  held_placed = k.agrees.placed (omega arith)

  pub held_inside : w.base + w.cursor + n ≤ length (laid w.base w.filled s.content)
  held_inside = omega (arith, length-laid v.base v.filled t.content held_placed, ap length k.list, k.place)

  pub held_part : take n (drop (w.base + w.cursor) (laid w.base w.filled s.content)) ≡ take n (drop v.cursor v.filled)
  held_part =
      ap (λ (xs : List ℕ). take n (drop (w.base + w.cursor) xs)) (sym k.list)
      ∙ ap (λ (m : ℕ). take n (drop m (laid v.base v.filled t.content))) (sym k.place)
      ∙ part-laid v.base v.cursor n v.filled t.content held_placed fits

  pub held_serves : (after ahead : ℕ → ℕ) (most : ℕ) (x : Window) (ys : List ℕ) → n ≤ most → ys ≡ take n (drop v.cursor v.filled)
      → Moves (state_of s w) (state_of t x) (after n) (ahead n) → Serves after ahead most (state_of s w) (got ys) (state_of t x)
  held_serves after ahead most x ys within is moves = (n, some, within, held_inside, ap got (is ∙ sym held_part), moves)

reads_some : (nothing : Bool) (after ahead : ℕ → ℕ) (most : ℕ) (old : StreamState) (reply : StreamReply) (new : StreamState)
    → nothing ≡ false → old.position < old.len → old.position < length old.content → Serves after ahead most old reply new → ReadsOn nothing after ahead most old reply new
reads_some nothing after ahead most old reply new is before inside serves =
    match_false (nothing || old.position == old.len) _ _ (rw is (grind (arith, nat_tests)))
    (match_true (nat_lt old.position (length old.content)) _ _ (grind (arith, nat_tests)) serves)

reads_none : (nothing : Bool) (after ahead : ℕ → ℕ) (most : ℕ) (old : StreamState) (reply : StreamReply) (new : StreamState)
    → nothing ≡ false → old.position < old.len → length old.content ≤ old.position → Refuses invalid_data old reply new → ReadsOn nothing after ahead most old reply new
reads_none nothing after ahead most old reply new is before past refuses =
    match_false (nothing || old.position == old.len) _ _ (rw is (grind (arith, nat_tests)))
    (match_false (nat_lt old.position (length old.content)) _ _ (grind (arith, nat_tests)) refuses)

pub eq_test : (a b : ℕ) → a ≡ b → (a == b) ≡ true
eq_test a b e = grind (arith, nat_tests)

pub not_empty : (n : ℕ) → (n == 0) ≡ false → 0 < n
not_empty n h = grind (arith, nat_tests)

pub is_empty_from : (n : ℕ) → (n == 0) ≡ true → n ≡ 0
is_empty_from n h = grind (arith, nat_tests)

or_true : (a b : Bool) → (a ≡ true) ⊎ (b ≡ true) → a || b ≡ true
or_true true b h = refl
or_true false b h = elim h [ inl e ↦ cc | inr e ↦ e ]

-- only what was lent has changed
pub stays : (s : Stored) (w x : Window) → x ≡ record w { ahead = 0 } → Moves (state_of s w) (state_of s x) (w.base + w.cursor) 0
stays s w x is = subst (λ (z : Window). Moves (state_of s w) (state_of s z) (w.base + w.cursor) 0) (sym is)
    (record { len = refl; content = refl; position = refl; ahead = refl; pending = λ (h : IsTrue w.pending). h })

-- nothing to read
module _ (causes : Causes) (s : Stored) (w x : Window) (f : s.failed ≡ false) (is : x ≡ record w { ahead = 0 }) where
  nothing_read : (into : List ℕ) → (length into ≡ 0) ⊎ (w.base + w.cursor ≡ w.size) → Runs causes s w (read (length into)) (got (take 0 into)) s x
  nothing_read into none = step_runs causes s w s x (read (length into)) _ f f
      (match_true (length into == 0 || w.base + w.cursor == w.size) _ _
      (or_true (length into == 0) (w.base + w.cursor == w.size) (elim none [ inl e ↦ inl (eq_test _ _ e) | inr e ↦ inr (eq_test _ _ e) ])) (refl, stays s w x is))

  pub empty_read : (into : List ℕ) → length into ≡ 0 → Runs causes s w (read (length into)) (got []) s x
  empty_read into none = nothing_read into (inl none)

  pub end_read : (into : List ℕ) → w.base + w.cursor ≡ w.size → Runs causes s w (read (length into)) (got []) s x
  end_read into end = nothing_read into (inr end)

  pub nothing_lent : (ys : List ℕ) → ys ≡ [] → w.base + w.cursor ≡ w.size → Runs causes s w fill_buf (got ys) s x
  nothing_lent ys none end = step_runs causes s w s x fill_buf _ f f
      (match_true (false || w.base + w.cursor == w.size) _ _ (or_true false (w.base + w.cursor == w.size) (inr (eq_test _ _ end))) (ap got none, stays s w x is))

-- bytes held are read, or lent
module _ (causes : Causes) (s t : Stored) (w v x : Window) (f : s.failed ≡ false) (k : Carries s w t v) (before : w.base + w.cursor < w.size) where
  pub read_runs : (into : List ℕ) (wanted n : ℕ) → 1 ≤ n → n ≤ wanted → v.cursor + n ≤ length v.filled → take n into ≡ take n (drop v.cursor v.filled)
      → x ≡ record v { cursor = v.cursor + n; ahead = 0 } → Runs causes s w (read wanted) (got (take n into)) t x
  read_runs into wanted n some most fits gives is = step_runs causes s w t x (read wanted) _ f k.agrees.unfailed
      (reads_some (wanted == 0) _ _ wanted (state_of s w) _ (state_of t x) (grind (arith, nat_tests)) before (omega (arith, held_inside s t w v k n some fits))
      (held_serves s t w v k n some fits (λ m. w.base + w.cursor + m) (λ m. 0) wanted x _ most gives
      (moved s t w v x k (v.cursor + n) 0 is (w.base + w.cursor + n) (omega (arith, k.place)))))

  pub lent_runs : v.cursor < length v.filled → (ys : List ℕ) → ys ≡ drop v.cursor v.filled
      → x ≡ record v { ahead = length v.filled - v.cursor } → Runs causes s w fill_buf (got ys) t x
  lent_runs more ys gives is =
      let n = length v.filled - v.cursor in
      let some : 1 ≤ n = omega arith in
      let fits : v.cursor + n ≤ length v.filled = omega arith in
      let inside = held_inside s t w v k n some fits in
      let whole : drop v.cursor v.filled ≡ take n (drop v.cursor v.filled) = sym (take_all n (drop v.cursor v.filled) (omega (arith, length-drop v.cursor v.filled))) in
      step_runs causes s w t x fill_buf _ f k.agrees.unfailed
      (reads_some false _ _ (length (laid w.base w.filled s.content)) (state_of s w) _ (state_of t x) refl before (omega (arith, inside))
      (held_serves s t w v k n some fits (λ m. w.base + w.cursor) (λ m. m) (length (laid w.base w.filled s.content)) x ys (omega (arith, inside)) (gives ∙ whole)
      (moved s t w v x k v.cursor n is (w.base + w.cursor) k.place)))

-- a read at or past the readable part
module _ (causes : Causes) (s t : Stored) (w x : Window) (e : Error) (a : LiesOver s w) (u : Unreadable s w t x e) (before : w.base + w.cursor < w.size) where
  unread_same : state_of t x ≡ state_of s w
  unread_same =
      let len = u.carries.same_size in
      let list = u.carries.list in
      let at = u.carries.place in
      let lent = u.ahead in
      let calm = u.carries.calm u.clean ∙ sym u.clean in
      cc

  unread_past : length (laid w.base w.filled s.content) ≤ w.base + w.cursor
  unread_past = rw (a.clean u.clean) u.past

  pub unreadable_read : (wanted : ℕ) → 0 < wanted → IsCallRefused causes s w (read wanted) t x e
  unreadable_read wanted some = (
    invalid_data,
    u.is,
    step_runs causes s w t x (read wanted) _ a.unfailed u.carries.agrees.unfailed
        (reads_none (wanted == 0) _ _ wanted (state_of s w) _ (state_of t x) (grind (arith, nat_tests)) before unread_past (refl, unread_same)),
  )

  pub unreadable_lent : IsCallRefused causes s w fill_buf t x e
  unreadable_lent = (
    invalid_data,
    u.is,
    step_runs causes s w t x fill_buf _ a.unfailed u.carries.agrees.unfailed
        (reads_none false _ _ (length (laid w.base w.filled s.content)) (state_of s w) _ (state_of t x) refl before unread_past (refl, unread_same)),
  )

module _ (full : Type 0) (can : MediumFault → Bool) (m n : ℕ) (s : Stored) (w : Window) (t : Stored) (x : Window) (e : Error) (a : LiesOver s w) (before : w.base + w.cursor < w.size)
    (counts : CountsError can m n e) (h : ReadBrokeOff full s w t x e ⊎ Unreadable s w t x e) where
  pub refused_read : (wanted : ℕ) → 0 < wanted → IsCallRefused (record { medium = Rises m n; full = full }) s w (read wanted) t x e
  refused_read wanted some = elim h [ inl b ↦ read_broken full can m n s w t x (read wanted) e refl a.unfailed tt counts b | inr u ↦ unreadable_read _ s t w x e a u before wanted some ]

  pub refused_fill : IsCallRefused (record { medium = Rises m n; full = full }) s w fill_buf t x e
  refused_fill = elim h [ inl b ↦ read_broken full can m n s w t x fill_buf e refl a.unfailed tt counts b | inr u ↦ unreadable_lent _ s t w x e a u before ]

-- ---- seeking

sought_is : (s : Stored) (w : Window) (to : SeekFrom) → sought (state_of s w) (whence_of to) ≡ target_of w.size (w.base + w.cursor) to
sought_is s w (Start to) = refl
sought_is s w (End to) = refl
sought_is s w (Current to) = refl

-- it leads to a place
pub leads_within : (s : Stored) (w : Window) (to : SeekFrom) (at : ℕ) → Some at ≡ target_of w.size (w.base + w.cursor) to → is_some (sought (state_of s w) (whence_of to)) ≡ true
leads_within s w to at is = ap is_some (sought_is s w to ∙ sym is)

some_matches : (o : Option ℕ) (n : ℕ) (P : Type 0) (Q : ℕ → Type 0) → Some n ≡ o → Q n → MatchOption o P Q
some_matches o n P Q is q = subst (λ (z : Option ℕ). MatchOption z P Q) is q

none_matches : (o : Option ℕ) (P : Type 0) (Q : ℕ → Type 0) → None ≡ o → P → MatchOption o P Q
none_matches o P Q is p = subst (λ (z : Option ℕ). MatchOption z P Q) is p

pub nowhere_runs : (causes : Causes) (s : Stored) (w : Window) (to : SeekFrom) (d : Detail) → s.failed ≡ false → None ≡ target_of w.size (w.base + w.cursor) to
    → IsCallRefused causes s w (seek (whence_of to)) s w (InvalidInput d)
nowhere_runs causes s w to d f is = (
  invalid_input,
  refl,
  step_runs causes s w s w (seek (whence_of to)) _ f f
      (none_matches (sought (state_of s w) (whence_of to)) _ _ (is ∙ sym (sought_is s w to)) (refl, refl)),
)

pub went_moves : (s t : Stored) (w x : Window) (at : ℕ) → WentTo at s w t x → Moves (state_of s w) (state_of t x) at 0
went_moves s t w x at k = record { len = k.same_size; content = k.list; position = k.place; ahead = k.ahead; pending = pending_kept w.pending x.pending k.calm }

pub went_runs : (causes : Causes) (s t : Stored) (w x : Window) (to : SeekFrom) (at : ℕ) → s.failed ≡ false → Some at ≡ target_of w.size (w.base + w.cursor) to → WentTo at s w t x
    → Runs causes s w (seek (whence_of to)) (offset at) t x
went_runs causes s t w x to at f is k = step_runs causes s w t x (seek (whence_of to)) _ f k.agrees.unfailed
    (some_matches (sought (state_of s w) (whence_of to)) at _ _ (is ∙ sym (sought_is s w to)) (refl, went_moves s t w x at k))

-- an empty window may lie anywhere
pub went : (s t : Stored) (w v x : Window) (at : ℕ) → Carries s w t v → v.filled ≡ [] → v.pending ≡ false → at ≤ w.size → x ≡ window_at at v → WentTo at s w t x
went s t w v x at k none calm inside is = subst (λ (z : Window). WentTo at s w t z) (sym is) (record {
  list = laid-nothing at t.content ∙ sym (ap (λ (xs : List ℕ). laid v.base xs t.content) none ∙ laid-nothing v.base t.content) ∙ k.list;
  place = omega arith;
  same_size = k.same_size;
  limit = k.limit;
  sound = k.sound;
  calm = λ (h : w.pending ≡ false). refl;
  ahead = refl;
  agrees = record {
    unfailed = k.agrees.unfailed;
    begins = omega (arith, k.agrees.clean_size calm, k.same_size);
    total = omega (arith, k.agrees.clean_size calm, k.same_size);
    within = k.agrees.within;
    readable = k.agrees.readable;
    whole = k.agrees.whole;
    placed = λ (h : 0 < 0). absurd (omega arith);
    clean = λ (h : false ≡ false). laid-nothing at t.content;
    clean_size = λ (h : false ≡ false). k.agrees.clean_size calm;
    trusted = λ (h : false ≡ true). absurd (cc);
  };
})

-- ---- reading past the window

pub read_past : (s t : Stored) (w v x : Window) (into : List ℕ) (n : ℕ) → LiesOver s w → Carries s w s v → v ≡ window_at (w.base + w.cursor) w → t ≡ s → ReadsPart s.content v.base into n → v.base + n ≤ w.size
    → x ≡ window_at (v.base + n) v → ReadPast into s w t x n
read_past s t w v x into n a k is same part fits at = subst (λ (z : Stored). ReadPast into s w z x n) (sym same) (
    let base = ap (λ (z : Window). z.base) is in
    let none = ap (λ (z : Window). z.filled) is in
    let calm = ap (λ (z : Window). z.pending) is in
    let list : s.content ≡ laid w.base w.filled s.content = sym (ap (λ (xs : List ℕ). laid v.base xs s.content) none ∙ laid-nothing v.base s.content) ∙ k.list in
    record {
      some = part.some;
      inside = omega (arith, part.inside, base, ap length list);
      gives = part.gives ∙ ap (λ (m : ℕ). take n (drop m s.content)) base ∙ ap (λ (xs : List ℕ). take n (drop (w.base + w.cursor) xs)) list;
      went = subst (λ (m : ℕ). WentTo (m + n) s w s x) base (went s s w v x (v.base + n) k none calm fits at);
    })

-- first it was carried into another window
pub carried_past : (s s1 t : Stored) (w w1 x : Window) (into : List ℕ) (n : ℕ) → Carries s w s1 w1 → ReadPast into s1 w1 t x n → ReadPast into s w t x n
carried_past s s1 t w w1 x into n k p = record {
  some = p.some;
  inside = omega (arith, p.inside, k.place, ap length k.list);
  gives = p.gives ∙ ap (λ (m : ℕ). take n (drop m (laid w1.base w1.filled s1.content))) k.place ∙ ap (λ (xs : List ℕ). take n (drop (w.base + w.cursor) xs)) k.list;
  went = record {
    list = p.went.list ∙ k.list;
    place = p.went.place ∙ ap (λ (m : ℕ). m + n) k.place;
    same_size = p.went.same_size ∙ k.same_size;
    limit = p.went.limit ∙ k.limit;
    sound = p.went.sound ∙ k.sound;
    calm = λ (h : w.pending ≡ false). p.went.calm (k.calm h);
    ahead = p.went.ahead;
    agrees = p.went.agrees;
  };
}

module _ (causes : Causes) (s t : Stored) (w x : Window) (into : List ℕ) (f : s.failed ≡ false) (before : w.base + w.cursor < w.size) where
  pub past_runs : (wanted n : ℕ) → n ≤ wanted → ReadPast into s w t x n → Runs causes s w (read wanted) (got (take n into)) t x
  past_runs wanted n most p = step_runs causes s w t x (read wanted) _ f p.went.agrees.unfailed
      (reads_some (wanted == 0) _ _ wanted (state_of s w) _ (state_of t x) (let some = p.some in grind (arith, nat_tests)) before (omega (arith, p.some, p.inside))
      (n, p.some, most, p.inside, ap got p.gives, went_moves s t w x (w.base + w.cursor + n) p.went))

-- ---- flushing

pub flushed_runs : (causes : Causes) (s t u : Stored) (w x : Window) → LiesOver s w → Carries s w t x → x ≡ window_settled w → u ≡ t → Runs causes s w flush ready u x
flushed_runs causes s t u w x a k is same = subst (λ (z : Stored). Runs causes s w flush ready z x) (sym same)
    (step_runs causes s w t x flush _ a.unfailed k.agrees.unfailed
    (refl, carried_moves s t w x k _ 0 refl (ap (λ (z : Window). z.ahead) is), ap (λ (z : Window). z.pending) is))
