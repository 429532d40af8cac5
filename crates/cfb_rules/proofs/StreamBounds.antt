-- Calls on a stream: some outcome fits each, and what holds of a stream goes on to hold.
use Rattle.std.proofs.Common.{◌≡◌, ◌≤◌, ◌<◌, ◌+◌, ◌-◌, ◌∙◌, ℕ, List, Bool, true, false, refl, inl, inr, sym, ap, subst, arith, length-append, length-take, length-drop}
use Rattle.std.specs.Prelude.{Option, Some, None, MatchOption, MatchBool, [], ◌++◌, length, take, drop, replicate, min, max, nat_lt, nat_le, IsTrue, option_and_then, if◌then◌else◌, ◌==◌, ◌||◌, ◌&&◌}
use Rattle.std.proofs.lemmas.Bool.{cases_lt, eqb-false, le-leb, leb-true, ltb-true, ltb-false}
use Rattle.std.proofs.lemmas.List.{length-replicate}
use Rattle.cfb_format.specs.Medium.{part}
use Rattle.cfb_rules.specs.Refusal.{invalid_input, invalid_data, not_sound}
use Rattle.cfb_rules.specs.StreamCalls.{StreamSetting, StreamState, StreamCall, read, fill_buf, consume, read_to_end, write, seek, set_len, flush, ask_len, ask_position, ask_is_empty, StreamReply, ready, got, count, offset, answered, not_done, Becomes, Moves, Serves, ReadsOn, ReadToEnd, Write, Wrote, Whence, from_start, from_end, from_current, place_within, place_from, sought, Seek, SetLen, StreamStep, IsStream, resized}

-- ---- some outcome fits

no_truth : {X : Type 0} → IsTrue false → X
no_truth t = cc

above : (a b : ℕ) → nat_le a b ≡ false → b < a
above a b h = elim (cases_lt b a) [ inl lt ↦ lt | inr ge ↦ (let t : true ≡ false = sym (le-leb a b ge) ∙ h in cc) ]

module _ (setting : StreamSetting) (old : StreamState) where
  abbrev Outcome : (StreamReply → StreamState → Type 0) → Type 0
  Outcome Fits = (reply : StreamReply) × (new : StreamState) × Fits reply new

  abbrev moved : ℕ → ℕ → StreamState
  moved position ahead = record old { position = position; ahead = ahead }

  moves : (position ahead : ℕ) → Moves old (moved position ahead) position ahead
  moves position ahead = record { len = refl; content = refl; position = refl; ahead = refl; pending = λ t. t }

  some_read : (nothing_wanted : Bool) (position_after ahead_after : ℕ → ℕ) (most : ℕ) → (nothing_wanted ≡ false → 0 < length old.content → 1 ≤ most)
      → Outcome (ReadsOn nothing_wanted position_after ahead_after most old)
  some_read true position_after ahead_after most enough = (got [], moved old.position 0, (refl, moves old.position 0))
  some_read false position_after ahead_after most enough = go (old.position == old.len) (nat_lt old.position (length old.content)) refl
    where
      go : (b c : Bool) → nat_lt old.position (length old.content) ≡ c
          → Outcome (λ reply new. MatchBool b ((reply ≡ got []) × Moves old new old.position 0)
          (MatchBool c (Serves position_after ahead_after most old reply new) ((reply ≡ not_done invalid_data) × (new ≡ old))))
      go true c h = (got [], moved old.position 0, (refl, moves old.position 0))
      go false true h =
          let lt = ltb-true old.position (length old.content) h in
          (got (part old.content old.position 1), moved (position_after 1) (ahead_after 1), (1, omega arith, enough refl (omega (arith, lt)), omega (arith, lt), refl, moves (position_after 1) (ahead_after 1)))
      go false false h = (not_done invalid_data, old, (refl, refl))

  some_to_end : Outcome (ReadToEnd old)
  some_to_end = go (nat_lt old.position old.len && nat_lt (length old.content) old.len)
    where
      go : (b : Bool) → Outcome (λ reply new. MatchBool b ((reply ≡ not_done invalid_data) × (new ≡ old)) ((reply ≡ got (drop old.position old.content)) × Moves old new old.len 0))
      go true = (not_done invalid_data, old, (refl, refl))
      go false = (got (drop old.position old.content), moved old.len 0, (refl, moves old.len 0))

  -- after one byte is written
  abbrev one_more : List ℕ → StreamState
  one_more bytes = record { len = max old.len (old.position + 1); content = take old.position old.content ++ take 1 bytes ++ drop (old.position + 1) old.content; position = old.position + 1; ahead = 0; pending = true }

  some_write : (bytes : List ℕ) → Outcome (Write setting bytes old)
  some_write bytes = go (length bytes == 0) (nat_le setting.limit old.position) setting.sound refl refl
    where
      go : (a b c : Bool) → (length bytes == 0) ≡ a → nat_le setting.limit old.position ≡ b
          → Outcome (λ reply new. MatchBool a ((reply ≡ count 0) × Moves old new old.position 0)
          (MatchBool b ((reply ≡ not_done invalid_input) × (new ≡ old))
          (MatchBool c ((n : ℕ) × (1 ≤ n) × (n ≤ length bytes) × (old.position + n ≤ setting.limit) × (reply ≡ count n) × Wrote bytes n old new)
          ((reply ≡ not_done not_sound) × (new ≡ old)))))
      go true b c h k = (count 0, moved old.position 0, (refl, moves old.position 0))
      go false true c h k = (not_done invalid_input, old, (refl, refl))
      go false false true h k =
          let some = eqb-false (length bytes) 0 h in
          let below = above setting.limit old.position k in
          (count 1, one_more bytes, (1, omega arith, omega (arith, some), omega (arith, below), refl, record { len = refl; content = refl; position = refl; ahead = refl }))
      go false false false h k = (not_done not_sound, old, (refl, refl))

  some_seek : (whence : Whence) → Outcome (Seek whence old)
  some_seek whence = go (sought old whence)
    where
      go : (o : Option ℕ) → Outcome (λ reply new. MatchOption o ((reply ≡ not_done invalid_input) × (new ≡ old)) (λ at. (reply ≡ offset at) × Moves old new at 0))
      go None = (not_done invalid_input, old, (refl, refl))
      go (Some at) = (offset at, moved at 0, (refl, moves at 0))

  abbrev changed_to : ℕ → StreamState
  changed_to len = record { len = len; content = resized old.content len; position = min old.position len; ahead = 0; pending = false }

  some_set_len : (len : ℕ) → Outcome (SetLen setting len old)
  some_set_len len = go (len == old.len) (nat_lt setting.limit len) setting.sound
    where
      go : (a b c : Bool) → Outcome (λ reply new. MatchBool a ((reply ≡ ready) × Moves old new old.position 0)
          (MatchBool b ((reply ≡ not_done invalid_input) × (new ≡ old))
          (MatchBool c ((reply ≡ ready) × Becomes old new len (resized old.content len) (min old.position len) 0 × (new.pending ≡ false))
          ((reply ≡ not_done not_sound) × (new ≡ old)))))
      go true b c = (ready, moved old.position 0, (refl, moves old.position 0))
      go false true c = (not_done invalid_input, old, (refl, refl))
      go false false true = (ready, changed_to len, (refl, record { len = refl; content = refl; position = refl; ahead = refl; pending = λ t. no_truth t }, refl))
      go false false false = (not_done not_sound, old, (refl, refl))

  some_outcome : (call : StreamCall) → Outcome (StreamStep setting old call)
  some_outcome (read wanted) = some_read (wanted == 0) (λ n. old.position + n) (λ n. 0) wanted (λ h some. let k = eqb-false wanted 0 h in omega (arith, k))
  some_outcome fill_buf = some_read false (λ n. old.position) (λ n. n) (length old.content) (λ h some. some)
  some_outcome (consume amount) = (ready, moved (old.position + min amount old.ahead) (old.ahead - min amount old.ahead), (refl, moves (old.position + min amount old.ahead) (old.ahead - min amount old.ahead)))
  some_outcome read_to_end = some_to_end
  some_outcome (write bytes) = some_write bytes
  some_outcome (seek whence) = some_seek whence
  some_outcome (set_len len) = some_set_len len
  some_outcome flush = (ready, record old { ahead = 0; pending = false }, (refl, record { len = refl; content = refl; position = refl; ahead = refl; pending = λ t. no_truth t }, refl))
  some_outcome ask_len = (offset old.len, old, (refl, refl))
  some_outcome ask_position = (offset old.position, old, (refl, refl))
  some_outcome ask_is_empty = (answered (old.len == 0), old, (refl, refl))

pub StreamStep-some : (setting : StreamSetting) (old : StreamState) (call : StreamCall) → (reply : StreamReply) × (new : StreamState) × StreamStep setting old call reply new
StreamStep-some setting old call = some_outcome setting old call

-- ---- the bounds

within_inside : (len k at : ℕ) → place_within len k ≡ Some at → at ≤ len
within_inside len k at = go (nat_le k len) refl
  where
    go : (b : Bool) → nat_le k len ≡ b → (if b then Some k else None) ≡ Some at → at ≤ len
    go true h e = let le = leb-true k len h in let same : k ≡ at = cc in omega (arith, le, same)
    go false h e = cc

then_inside : (len at : ℕ) (o : Option ℕ) → option_and_then (place_within len) o ≡ Some at → at ≤ len
then_inside len at None e = cc
then_inside len at (Some k) e = within_inside len k at e

sought_inside : (s : StreamState) (whence : Whence) (at : ℕ) → sought s whence ≡ Some at → at ≤ s.len
sought_inside s (from_start k) at e = within_inside s.len k at e
sought_inside s (from_end distance) at e = then_inside s.len at (place_from s.len distance) e
sought_inside s (from_current distance) at e = then_inside s.len at (place_from s.position distance) e

length_of_three : (xs ys zs : List ℕ) → length (xs ++ ys ++ zs) ≡ length xs + length ys + length zs
length_of_three xs ys zs = length-append (xs ++ ys) zs ∙ ap (λ k. k + length zs) (length-append xs ys)

length_written : (content bytes : List ℕ) (p n : ℕ) → n ≤ length bytes
    → length (take p content ++ take n bytes ++ drop (p + n) content) ≡ min p (length content) + n + (length content - (p + n))
length_written content bytes p n fits =
    let all = length_of_three (take p content) (take n bytes) (drop (p + n) content) in
    let front = length-take p content in
    let mid = length-take n bytes in
    let back = length-drop (p + n) content in
    omega (arith, all, front, mid, back, fits)

pub length_resized : (content : List ℕ) (len : ℕ) → length (resized content len) ≡ len
length_resized content len =
    let all = length-append (take len content) (replicate (len - length content) 0) in
    let front = length-take len content in
    let back = length-replicate {A = ℕ} (len - length content) 0 in
    omega (arith, all, front, back)

module _ (setting : StreamSetting) (old new : StreamState) (is : IsStream setting old) where
  stays : new ≡ old → IsStream setting new
  stays same = subst (IsStream setting) (sym same) is

  goes : (position ahead : ℕ) → Moves old new position ahead → position + ahead ≤ old.len → IsStream setting new
  goes position ahead m fits =
      let l = m.len in
      let p = m.position in
      let a = m.ahead in
      let readable = is.readable in
      let within = is.within in
      let same : length new.content ≡ length old.content = ap (λ (xs : List ℕ). length xs) m.content in
      record {
        lent = omega (arith, l, p, a, fits);
        readable = omega (arith, same, l, readable);
        within = omega (arith, l, within);
        whole = λ sound. same ∙ is.whole sound ∙ sym l;
      }

  still : Moves old new old.position 0 → IsStream setting new
  still m = let lent = is.lent in goes old.position 0 m (omega (arith, lent))

  reads_keep : (reply : StreamReply) (nothing_wanted : Bool) (position_after ahead_after : ℕ → ℕ) (most : ℕ)
      → ((n : ℕ) → old.position + n ≤ length old.content → position_after n + ahead_after n ≤ old.len)
      → ReadsOn nothing_wanted position_after ahead_after most old reply new → IsStream setting new
  reads_keep reply nothing_wanted position_after ahead_after most bound = go (nothing_wanted || old.position == old.len) (nat_lt old.position (length old.content))
    where
      go : (b c : Bool) → MatchBool b ((reply ≡ got []) × Moves old new old.position 0)
          (MatchBool c (Serves position_after ahead_after most old reply new) ((reply ≡ not_done invalid_data) × (new ≡ old))) → IsStream setting new
      go true c h = still h.1
      go false true (n, least, most', fits, e, m) = goes (position_after n) (ahead_after n) m (bound n fits)
      go false false h = stays h.1

  to_end_keeps : (reply : StreamReply) → ReadToEnd old reply new → IsStream setting new
  to_end_keeps reply = go (nat_lt old.position old.len && nat_lt (length old.content) old.len)
    where
      go : (b : Bool) → MatchBool b ((reply ≡ not_done invalid_data) × (new ≡ old)) ((reply ≡ got (drop old.position old.content)) × Moves old new old.len 0) → IsStream setting new
      go true h = stays h.1
      go false h = goes old.len 0 h.1 (omega arith)

  writes_keep : (reply : StreamReply) (bytes : List ℕ) → Write setting bytes old reply new → IsStream setting new
  writes_keep reply bytes = go (length bytes == 0) (nat_le setting.limit old.position) setting.sound
    where
      wrote : (n : ℕ) → n ≤ length bytes → old.position + n ≤ setting.limit → Wrote bytes n old new → IsStream setting new
      wrote n fits below w =
          let l = w.len in
          let p = w.position in
          let a = w.ahead in
          let lent = is.lent in
          let readable = is.readable in
          let within = is.within in
          let size : length new.content ≡ min old.position (length old.content) + n + (length old.content - (old.position + n)) =
          ap (λ (xs : List ℕ). length xs) w.content ∙ length_written old.content bytes old.position n fits in
          record {
            lent = omega (arith, l, p, a);
            readable = omega (arith, l, size, readable, lent);
            within = omega (arith, l, within, below);
            whole = λ sound. let whole = is.whole sound in omega (arith, l, size, whole, lent);
          }

      go : (a b c : Bool) → MatchBool a ((reply ≡ count 0) × Moves old new old.position 0)
          (MatchBool b ((reply ≡ not_done invalid_input) × (new ≡ old))
          (MatchBool c ((n : ℕ) × (1 ≤ n) × (n ≤ length bytes) × (old.position + n ≤ setting.limit) × (reply ≡ count n) × Wrote bytes n old new)
          ((reply ≡ not_done not_sound) × (new ≡ old)))) → IsStream setting new
      go true b c h = still h.1
      go false true c h = stays h.1
      go false false true (n, least, fits, below, e, w) = wrote n fits below w
      go false false false h = stays h.1

  seek_keeps : (reply : StreamReply) (whence : Whence) → Seek whence old reply new → IsStream setting new
  seek_keeps reply whence = go (sought old whence) refl
    where
      go : (o : Option ℕ) → sought old whence ≡ o → MatchOption o ((reply ≡ not_done invalid_input) × (new ≡ old)) (λ at. (reply ≡ offset at) × Moves old new at 0) → IsStream setting new
      go None e h = stays h.1
      go (Some at) e h = let inside = sought_inside old whence at e in goes at 0 h.1 (omega (arith, inside))

  set_len_keeps : (reply : StreamReply) (len : ℕ) → SetLen setting len old reply new → IsStream setting new
  set_len_keeps reply len = go (len == old.len) (nat_lt setting.limit len) setting.sound refl
    where
      changed : nat_lt setting.limit len ≡ false → Becomes old new len (resized old.content len) (min old.position len) 0 → IsStream setting new
      changed short m =
          let l = m.len in
          let p = m.position in
          let a = m.ahead in
          let below = ltb-false setting.limit len short in
          let size : length new.content ≡ len = ap (λ (xs : List ℕ). length xs) m.content ∙ length_resized old.content len in
          record {
            lent = omega (arith, l, p, a);
            readable = omega (arith, l, size);
            within = omega (arith, l, below);
            whole = λ sound. size ∙ sym l;
          }

      go : (a b c : Bool) → nat_lt setting.limit len ≡ b → MatchBool a ((reply ≡ ready) × Moves old new old.position 0)
          (MatchBool b ((reply ≡ not_done invalid_input) × (new ≡ old))
          (MatchBool c ((reply ≡ ready) × Becomes old new len (resized old.content len) (min old.position len) 0 × (new.pending ≡ false))
          ((reply ≡ not_done not_sound) × (new ≡ old)))) → IsStream setting new
      go true b c short h = still h.1
      go false true c short h = stays h.1
      go false false true short h = changed short h.1
      go false false false short h = stays h.1

  keeps_by : (call : StreamCall) (reply : StreamReply) → StreamStep setting old call reply new → IsStream setting new
  keeps_by (read wanted) reply h =
      reads_keep reply (wanted == 0) (λ n. old.position + n) (λ n. 0) wanted (λ n fits. let readable = is.readable in omega (arith, fits, readable)) h
  keeps_by fill_buf reply h = reads_keep reply false (λ n. old.position) (λ n. n) (length old.content) (λ n fits. let readable = is.readable in omega (arith, fits, readable)) h
  keeps_by (consume amount) reply h =
      let lent = is.lent in goes (old.position + min amount old.ahead) (old.ahead - min amount old.ahead) h.1 (omega (arith, lent))
  keeps_by read_to_end reply h = to_end_keeps reply h
  keeps_by (write bytes) reply h = writes_keep reply bytes h
  keeps_by (seek whence) reply h = seek_keeps reply whence h
  keeps_by (set_len len) reply h = set_len_keeps reply len h
  keeps_by flush reply h = still h.1
  keeps_by ask_len reply h = stays h.1
  keeps_by ask_position reply h = stays h.1
  keeps_by ask_is_empty reply h = stays h.1

pub StreamStep-keeps : (setting : StreamSetting) (old new : StreamState) (call : StreamCall) (reply : StreamReply) → IsStream setting old
    → StreamStep setting old call reply new → IsStream setting new
StreamStep-keeps setting old new call reply is h = keeps_by setting old new is call reply h
