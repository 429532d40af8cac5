-- What one piece of a stream is that is read at a place, by the rules of calls.
use Rattle.std.proofs.Common.{◌≡◌, ◌∙◌, ◌≤◌, ◌<◌, ℕ, Bool, true, false, List, [], refl, sym, ap, subst, arith, inl, inr, length, drop, take, ◌+◌, ◌++◌}
use borrow.Rule.Slice.PartMut.{post_of, put_mid}
use Rattle.std.proofs.lemmas.List.{drop-drop, length-append, length-drop, length-take-le, take-append-le}
use Rattle.std.proofs.Math.Seq.{take-add, take-append-add}
use Rattle.std.specs.Prelude.{◌⊎◌, ◌||◌, ◌==◌, IfErr, IfOk, MatchBool, MatchOption, Option, Some, None, Result, Ok, Err, nat_lt, nat_le, if◌then◌else◌}
use Rattle.cfb_format.specs.declared.error.Error.{Error}
use Rattle.cfb_format.specs.declared.medium.MediumFault.{MediumFault}
use Rattle.cfb_format.specs.declared.error.Error.TheVariants.{NotFound, AlreadyExists, InvalidInput, InvalidData, Medium, Memory, Full, Unsound, Failed}
use Rattle.cfb_format.specs.Refused.{CountsError}
use Rattle.cfb_commands.specs.cfb_agreement.Files.{FileState, failures_of, is_failed}
use Rattle.cfb_commands.specs.cfb_agreement.Laws.{with_flags}
use Rattle.cfb_commands.specs.cfb_path_changes.Answers.{Answers, setting_of}
use Rattle.cfb_commands.specs.cfb_rules.Calls.{done, open_read_stream}
use Rattle.cfb_commands.specs.cfb_rules.Refusal.{Refusal, failed_earlier, invalid_data, invalid_input}
use Rattle.cfb_commands.specs.cfb_rules.Runs.{Causes, IsStreamBroken, StreamCallRuns, StreamOnFailed, StreamRun}
use Rattle.cfb_commands.specs.cfb_rules.StreamCalls.{Moves, Serves, Refuses, StreamCall, StreamReply, StreamSetting, StreamState, StreamStep, from_start, got, not_done, offset, place_within, read, seek}
use Rattle.cfb_format.specs.Medium.{part}
use Rattle.cfb_commands.specs.cfb_stream_window.Contents.{stream_setting_of}
use Rattle.cfb_commands.specs.cfb_stream_window.Windows.{Runs}
use Rattle.cfb_commands.specs.cfb_compound_file.OpenedStreams.{BeginsAt}
use Rattle.cfb_commands.specs.cfb_compound_file.Stored.{kept_of}
use Rattle.cfb_commands.specs.cfb_compound_file.StreamAnswers.{IsStreamRefused, OpenStream, StreamRunsBy, causes_of_reading, run_in, stored_in, stream_in}
use Rattle.cfb_commands.specs.Commands.{refusal_of_error}
use Rattle.cfb_commands.proofs.Errors.{known}
use Rattle.cfb_c.specs.Pieces.{HasRead, IsNotReadFrom, IsPieceRefused, IsPieceRefusedBy, IsSure, ReadsPart, ReadsPiece, StandsIn}

got_not_done : (bytes : List ℕ) (r : Refusal) → got bytes ≡ not_done r → ⊥
got_not_done bytes r e = cc

offset_not_done : (n : ℕ) (r : Refusal) → offset n ≡ not_done r → ⊥
offset_not_done n r e = cc

abbrev bytes_in : StreamReply → List ℕ
bytes_in (got bytes) = bytes
bytes_in reply = []

-- a piece was read at the position, of which nothing is only where nothing was wanted or at the end
pub record IsPiece (s : StreamState) (wanted : ℕ) (bytes : List ℕ) (next : StreamState) : Type 0 where
  pub stands : StandsIn s (s.position + length bytes) next
  pub bytes_of_it : bytes ≡ take (length bytes) (drop s.position s.content)
  pub inside : (length bytes ≡ 0) ⊎ (s.position + length bytes ≤ length s.content)
  pub end : length bytes ≡ 0 → (wanted ≡ 0) ⊎ (s.position ≡ s.len)

module _ (causes : Causes) (setting : StreamSetting) (old new : StreamRun) where
  pub sought_there : (at n : ℕ) → StreamCallRuns causes setting old (seek (from_start at)) (offset n) new → StandsIn old.stream at new.stream
  sought_there at n = go old.failed
    where
      found : (o : Option ℕ) → place_within old.stream.len at ≡ o → MatchOption o (Refuses invalid_input old.stream (offset n) new.stream)
          (λ p. (offset n ≡ offset p) × Moves old.stream new.stream p 0) → StandsIn old.stream at new.stream
      found None e h = absurd (offset_not_done n invalid_input h.0)
      found (Some p) e h = record { len = h.1.len; content = h.1.content; position = h.1.position ∙ is_at (nat_le at old.stream.len) e }
        where
          is_at : (b : Bool) → (if b then Some at else None) ≡ Some p → p ≡ at
          is_at true is = cc
          is_at false is = absurd (let w : None ≡ Some p = is in cc)

      go : (b : Bool) → MatchBool b (StreamOnFailed (seek (from_start at)) (offset n) new)
          ((StreamStep setting old.stream (seek (from_start at)) (offset n) new.stream × (new.failed ≡ false)) ⊎ IsStreamBroken causes setting old.stream (seek (from_start at)) (offset n) new)
          → StandsIn old.stream at new.stream
      go true h = absurd (offset_not_done n failed_earlier h.1)
      go false (inl h) = found (place_within old.stream.len at) refl h.0
      go false (inr (r, may, is, off, allowed)) = absurd (offset_not_done n r is)

  pub piece_read : (wanted : ℕ) (bytes : List ℕ) → StreamCallRuns causes setting old (read wanted) (got bytes) new → IsPiece old.stream wanted bytes new.stream
  piece_read wanted bytes = go old.failed
    where
      s : StreamState
      s = old.stream

      nothing : (wanted ≡ 0) ⊎ (s.position ≡ s.len) → got bytes ≡ got [] → Moves s new.stream s.position 0 → IsPiece s wanted bytes new.stream
      nothing why is moves =
          let none : bytes ≡ [] = ap bytes_in is in
          let zero : length bytes ≡ 0 = ap (λ (bs : List ℕ). length bs) none in
          record {
            stands = record { len = moves.len; content = moves.content; position = omega (arith, moves.position, zero) };
            bytes_of_it = none ∙ sym (ap (λ (n : ℕ). take n (drop s.position s.content)) zero);
            inside = inl zero;
            end = λ _. why;
          }

      served : (n : ℕ) → 1 ≤ n → s.position + n ≤ length s.content → got bytes ≡ got (part s.content s.position n) → Moves s new.stream (s.position + n) 0 → IsPiece s wanted bytes new.stream
      served n least inside is moves =
          let same : bytes ≡ take n (drop s.position s.content) = ap bytes_in is in
          let count : length bytes ≡ n = ap (λ (bs : List ℕ). length bs) same
          ∙ length-take-le n (drop s.position s.content) (omega (arith, length-drop s.position s.content, inside)) in
          record {
            stands = record { len = moves.len; content = moves.content; position = moves.position ∙ ap (λ (k : ℕ). s.position + k) (sym count) };
            bytes_of_it = same ∙ ap (λ (k : ℕ). take k (drop s.position s.content)) (sym count);
            inside = inr (omega (arith, count, inside));
            end = λ none. absurd (omega (arith, none, count, least));
          }

      why_nothing : (a b : Bool) → (wanted == 0) ≡ a → (s.position == s.len) ≡ b → (a || b) ≡ true → (wanted ≡ 0) ⊎ (s.position ≡ s.len)
      why_nothing true b e f t = inl (grind (arith, e))
      why_nothing false true e f t = inr (grind (arith, f))
      why_nothing false false e f t = absurd (let w : false ≡ true = t in cc)

      some : (b : Bool) → nat_lt s.position (length s.content) ≡ b → MatchBool b (Serves (λ n. s.position + n) (λ n. 0) wanted s (got bytes) new.stream) (Refuses invalid_data s (got bytes) new.stream)
          → IsPiece s wanted bytes new.stream
      some true e (n, least, most, inside, is, moves) = served n least inside is moves
      some false e h = absurd (got_not_done bytes invalid_data h.0)

      step : (b : Bool) → ((wanted == 0) || (s.position == s.len)) ≡ b → MatchBool b ((got bytes ≡ got []) × Moves s new.stream s.position 0)
          (MatchBool (nat_lt s.position (length s.content)) (Serves (λ n. s.position + n) (λ n. 0) wanted s (got bytes) new.stream) (Refuses invalid_data s (got bytes) new.stream))
          → IsPiece s wanted bytes new.stream
      step true e h = nothing (why_nothing (wanted == 0) (s.position == s.len) refl refl e) h.0 h.1
      step false e h = some (nat_lt s.position (length s.content)) refl h

      go : (b : Bool) → MatchBool b (StreamOnFailed (read wanted) (got bytes) new)
          ((StreamStep setting old.stream (read wanted) (got bytes) new.stream × (new.failed ≡ false)) ⊎ IsStreamBroken causes setting old.stream (read wanted) (got bytes) new)
          → IsPiece s wanted bytes new.stream
      go true h = absurd (got_not_done bytes failed_earlier h.1)
      go false (inl h) = step ((wanted == 0) || (s.position == s.len)) refl h.0
      go false (inr (r, may, is, off, allowed)) = absurd (got_not_done bytes r is)

-- ---- piece by piece

pub begun : (s : StreamState) (at : ℕ) (into : List ℕ) → HasRead s at 0 into
begun s at into = record { bytes = refl; inside = inl refl }

-- one more piece was read behind them
module _ (s : StreamState) (at count n : ℕ) (into slice : List ℕ) (so_far : HasRead s at count into) (most : count ≤ length into) (bytes : take n slice ≡ take n (drop (at + count) s.content))
    (fits : n ≤ length slice) (inside : (n ≡ 0) ⊎ (at + count + n ≤ length s.content)) where
  put : take (count + n) (take count into ++ slice) ≡ take count into ++ take n slice
  put = ap (λ (k : ℕ). take (k + n) (take count into ++ slice)) (sym (length-take-le count into most)) ∙ take-append-add (take count into) slice n

  there : take (count + n) (drop at s.content) ≡ take count (drop at s.content) ++ take n (drop (at + count) s.content)
  there = take-add count n (drop at s.content) ∙ ap (λ (bs : List ℕ). take count (drop at s.content) ++ take n bs) (drop-drop count at s.content)

  still : (count ≡ 0) ⊎ (at + count ≤ length s.content) → (n ≡ 0) ⊎ (at + count + n ≤ length s.content) → (count + n ≡ 0) ⊎ (at + (count + n) ≤ length s.content)
  still a (inr b) = inr (omega (arith, b))
  still (inl a) (inl b) = inl (omega (arith, a, b))
  still (inr a) (inl b) = inr (omega (arith, a, b))

  pub reads_on : HasRead s at (count + n) (take count into ++ slice)
  reads_on = record {
    bytes = put ∙ ap (λ (bs : List ℕ). bs ++ take n slice) so_far.bytes ∙ ap (λ (bs : List ℕ). take count (drop at s.content) ++ bs) bytes ∙ sym there;
    inside = still so_far.inside inside;
  }

-- one piece more, of a stream that stands behind those before it
module _ (first s next : StreamState) (at count wanted n : ℕ) (into slice : List ℕ) (stands : StandsIn first (at + count) s) (piece : IsPiece s wanted (take n slice) next) (fits : n ≤ length slice) where
  counted : length (take n slice) ≡ n
  counted = length-take-le n slice fits

  pub stands_on : StandsIn first (at + (count + n)) next
  stands_on = record {
    len = piece.stands.len ∙ stands.len;
    content = piece.stands.content ∙ stands.content;
    position = omega (arith, piece.stands.position, stands.position, counted);
  }

  same_bytes : take n slice ≡ take n (drop (at + count) first.content)
  same_bytes = piece.bytes_of_it ∙ ap (λ (k : ℕ). take k (drop s.position s.content)) counted
      ∙ ap (λ (k : ℕ). take n (drop k s.content)) stands.position ∙ ap (λ (bs : List ℕ). take n (drop (at + count) bs)) stands.content

  same_inside : (length (take n slice) ≡ 0) ⊎ (s.position + length (take n slice) ≤ length s.content) → (n ≡ 0) ⊎ (at + count + n ≤ length first.content)
  same_inside (inl none) = inl (omega (arith, none, counted))
  same_inside (inr inside) = inr (omega (arith, inside, counted, stands.position, ap (λ (bs : List ℕ). length bs) stands.content))

  pub one_more : HasRead first at count into → count ≤ length into → HasRead first at (count + n) (take count into ++ slice)
  one_more so_far most = reads_on first at count n into slice so_far most same_bytes fits (same_inside piece.inside)

  -- in the room, of which the piece was a part
  pub put_behind : (k : ℕ) → HasRead first at count into → count ≤ length into → HasRead first at (count + n) (put_mid count k into slice)
  put_behind k so_far most =
      let rest = post_of count k into in
      let same : take n (slice ++ rest) ≡ take n slice = take-append-le n slice rest fits in
      reads_on first at count n into (slice ++ rest) so_far most (same ∙ same_bytes) (omega (arith, fits, length-append slice rest)) (same_inside piece.inside)

  pub room_behind : (k : ℕ) → count ≤ length into → count + n ≤ length (put_mid count k into slice)
  room_behind k most =
      let rest = post_of count k into in
      omega (arith, fits, length-append (take count into) (slice ++ rest), length-append slice rest, length-take-le count into most)

  pub ends_there : n ≡ 0 → 0 < wanted → first.len ≤ at + count
  ends_there none more = go (piece.end (omega (arith, counted, none)))
    where
      go : (wanted ≡ 0) ⊎ (s.position ≡ s.len) → first.len ≤ at + count
      go (inl zero) = absurd (omega (arith, zero, more))
      go (inr end) = omega (arith, end, stands.len, stands.position)

-- ---- of an open stream

module _ (causes : Causes) (s next : OpenStream) where
  pub sought_in : (at n : ℕ) → StreamRunsBy causes s (seek (from_start at)) (offset n) next → StandsIn (stream_in s) at (stream_in next)
  unfolding Runs
  sought_in at n runs = sought_there causes (stream_setting_of (stored_in s)) (run_in s) (run_in next) at n runs

  pub piece_in : (wanted : ℕ) (bytes : List ℕ) → StreamRunsBy causes s (read wanted) (got bytes) next → IsPiece (stream_in s) wanted bytes (stream_in next)
  unfolding Runs
  piece_in wanted bytes runs = piece_read causes (stream_setting_of (stored_in s)) (run_in s) (run_in next) wanted bytes runs

-- ---- of the file

-- what is kept but for the count of failures, which is the same, is the same
pub same_file : (old new : FileState) → kept_of new ≡ kept_of old → failures_of new ≡ failures_of old → new ≡ old
same_file old new kept count =
    ap (λ (file : FileState). with_flags file (failures_of new) (is_failed file)) kept ∙ ap (λ (n : ℕ). with_flags old n (is_failed old)) count

-- bytes in memory are read without a fault of the medium
pub none_counted : (can_give : MediumFault → Bool) → IsSure can_give → (old new : ℕ) (e : Error) → CountsError can_give old new e → new ≡ old
none_counted can_give sure old new (NotFound d) same = same
none_counted can_give sure old new (AlreadyExists d) same = same
none_counted can_give sure old new (InvalidInput d) same = same
none_counted can_give sure old new (InvalidData d) same = same
none_counted can_give sure old new (Medium f) fails = absurd (let w : false ≡ true = sym (sure f) ∙ fails.can in cc)
none_counted can_give sure old new Memory same = same
none_counted can_give sure old new Full same = same
none_counted can_give sure old new Unsound same = same
none_counted can_give sure old new Failed same = same

-- ---- refused

-- a call on the stream as it was opened, or behind bytes that were read
pub piece_refused : (can_give : MediumFault → Bool) (first old next : OpenStream) (at : ℕ) (call : StreamCall) (e : Error) → old.file ≡ first.file → next.file ≡ first.file → (stream_in old).len ≡ (stream_in first).len
    → (stream_in old).content ≡ (stream_in first).content → (call ≡ seek (from_start at)) ⊎ ((wanted : ℕ) × (call ≡ read wanted) × (at ≤ (stream_in old).position))
    → IsStreamRefused (causes_of_reading old.file next.file) can_give old call next e → IsPieceRefused first at e
unfolding Runs
piece_refused can_give first old next at call e same still len content is why = record {
  call = call;
  old = run_in old;
  new = run_in next;
  is = is;
  len = len;
  content = content;
  failed = ap (λ (file : FileState). is_failed file) same;
  runs = subst (λ (r : Refusal). StreamCallRuns (causes_of_reading first.file first.file) (setting_of first.file).stream (run_in old) call (not_done r) (run_in next)) (known why.rules.0 e why.rules.1)
      (subst (λ (file : FileState). StreamCallRuns (causes_of_reading first.file file) (setting_of first.file).stream (run_in old) call (not_done why.rules.0) (run_in next)) still
      (subst (λ (file : FileState). StreamCallRuns (causes_of_reading file next.file) (setting_of file).stream (run_in old) call (not_done why.rules.0) (run_in next)) same why.rules.2));
}

-- ---- at a path

module _ (file : FileState) (path : List ℕ) (s : OpenStream) (at : ℕ) (into : List ℕ) (opens : Answers file (open_read_stream path) done) (begins : BeginsAt file path s) where
  pub reads_piece : (result : Result ℕ Error) → IfOk result (ReadsPart (stream_in s) at into) → IfOk result (ReadsPiece file path at into)
  reads_piece (Ok n) part =
      record { opens = opens; reads = λ tree means. subst (λ (z : StreamState). ReadsPart z at into n) (begins tree means) part }
  reads_piece (Err e) part = tt

  pub piece_not_read : (result : Result ℕ Error) → s.file ≡ file → IfErr result (IsPieceRefused s at) → IfErr result (IsNotReadFrom file path at)
  piece_not_read (Ok n) same why = tt
  piece_not_read (Err e) same why = inr (record {
    opens = opens;
    reads = λ tree means.
        subst (λ (z : StreamState). IsPieceRefusedBy (causes_of_reading file file) (setting_of file).stream (record { stream = z; failed = is_failed file }) at (refusal_of_error e)) (begins tree means)
        (subst (λ (f : FileState). IsPieceRefusedBy (causes_of_reading f f) (setting_of f).stream (record { stream = stream_in s; failed = is_failed f }) at (refusal_of_error e)) same why);
  })
