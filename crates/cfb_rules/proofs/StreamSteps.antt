-- Calls on a stream: refused ones change nothing.
use Rattle.std.proofs.Common.{◌≡◌, ℕ, List, Bool, true, false, refl, ◌∙◌, ap, ◌≤◌, ◌+◌, ◌-◌}
use Rattle.std.specs.Prelude.{Option, Some, None, MatchOption, MatchBool, length, [], drop, min, nat_lt, nat_le, ◌==◌, ◌||◌, ◌&&◌}
use Rattle.cfb_format.specs.Medium.{part}
use Rattle.cfb_rules.specs.Refusal.{Refusal, invalid_input, invalid_data, not_sound}
use Rattle.cfb_rules.specs.StreamCalls.{StreamSetting, StreamState, StreamCall, read, fill_buf, consume, read_to_end, write, seek, set_len, flush, ask_len, ask_position, ask_is_empty, StreamReply, ready, got, count, offset, answered, not_done, Becomes, Moves, Serves, ReadsOn, ReadToEnd, Write, Wrote, Whence, sought, Seek, SetLen, StreamStep, resized}

abbrev is_refused : StreamReply → Bool
is_refused ready = false
is_refused (got bytes) = false
is_refused (count n) = false
is_refused (offset at) = false
is_refused (answered b) = false
is_refused (not_done r) = true

served : {X : Type 0} (r : Refusal) (reply : StreamReply) → not_done r ≡ reply → is_refused reply ≡ false → X
served r reply e f = let t : true ≡ false = ap is_refused e ∙ f in cc

module _ (setting : StreamSetting) (old new : StreamState) (r : Refusal) where
  reads_refused : (nothing_wanted : Bool) (position_after ahead_after : ℕ → ℕ) (most : ℕ) → ReadsOn nothing_wanted position_after ahead_after most old (not_done r) new → new ≡ old
  reads_refused nothing_wanted position_after ahead_after most = go (nothing_wanted || old.position == old.len) (nat_lt old.position (length old.content))
    where
      go : (b c : Bool) → MatchBool b ((not_done r ≡ got []) × Moves old new old.position 0)
          (MatchBool c (Serves position_after ahead_after most old (not_done r) new) ((not_done r ≡ not_done invalid_data) × (new ≡ old))) → new ≡ old
      go true c h = served r (got []) h.0 refl
      go false true (n, least, most', fits, e, moves) = served r (got (part old.content old.position n)) e refl
      go false false h = h.1

  to_end_refused : ReadToEnd old (not_done r) new → new ≡ old
  to_end_refused = go (nat_lt old.position old.len && nat_lt (length old.content) old.len)
    where
      go : (b : Bool) → MatchBool b ((not_done r ≡ not_done invalid_data) × (new ≡ old)) ((not_done r ≡ got (drop old.position old.content)) × Moves old new old.len 0) → new ≡ old
      go true h = h.1
      go false h = served r (got (drop old.position old.content)) h.0 refl

  write_refused : (bytes : List ℕ) → Write setting bytes old (not_done r) new → new ≡ old
  write_refused bytes = go (length bytes == 0) (nat_le setting.limit old.position) setting.sound
    where
      go : (a b c : Bool) → MatchBool a ((not_done r ≡ count 0) × Moves old new old.position 0)
          (MatchBool b ((not_done r ≡ not_done invalid_input) × (new ≡ old))
          (MatchBool c ((n : ℕ) × (1 ≤ n) × (n ≤ length bytes) × (old.position + n ≤ setting.limit) × (not_done r ≡ count n) × Wrote bytes n old new)
          ((not_done r ≡ not_done not_sound) × (new ≡ old)))) → new ≡ old
      go true b c h = served r (count 0) h.0 refl
      go false true c h = h.1
      go false false true (n, least, most, fits, e, wrote) = served r (count n) e refl
      go false false false h = h.1

  seek_refused : (whence : Whence) → Seek whence old (not_done r) new → new ≡ old
  seek_refused whence = go (sought old whence)
    where
      go : (o : Option ℕ) → MatchOption o ((not_done r ≡ not_done invalid_input) × (new ≡ old)) (λ at. (not_done r ≡ offset at) × Moves old new at 0) → new ≡ old
      go None h = h.1
      go (Some at) h = served r (offset at) h.0 refl

  set_len_refused : (len : ℕ) → SetLen setting len old (not_done r) new → new ≡ old
  set_len_refused len = go (len == old.len) (nat_lt setting.limit len) setting.sound
    where
      go : (a b c : Bool) → MatchBool a ((not_done r ≡ ready) × Moves old new old.position 0)
          (MatchBool b ((not_done r ≡ not_done invalid_input) × (new ≡ old))
          (MatchBool c ((not_done r ≡ ready) × Becomes old new len (resized old.content len) (min old.position len) 0 × (new.pending ≡ false))
          ((not_done r ≡ not_done not_sound) × (new ≡ old)))) → new ≡ old
      go true b c h = served r ready h.0 refl
      go false true c h = h.1
      go false false true h = served r ready h.0 refl
      go false false false h = h.1

  refused_by : (call : StreamCall) → StreamStep setting old call (not_done r) new → new ≡ old
  refused_by (read wanted) h = reads_refused (wanted == 0) (λ n. old.position + n) (λ n. 0) wanted h
  refused_by fill_buf h = reads_refused false (λ n. old.position) (λ n. n) (length old.content) h
  refused_by (consume amount) h = served r ready h.0 refl
  refused_by read_to_end h = to_end_refused h
  refused_by (write bytes) h = write_refused bytes h
  refused_by (seek whence) h = seek_refused whence h
  refused_by (set_len len) h = set_len_refused len h
  refused_by flush h = served r ready h.0 refl
  refused_by ask_len h = h.1
  refused_by ask_position h = h.1
  refused_by ask_is_empty h = h.1

pub StreamStep-refused : (setting : StreamSetting) (old new : StreamState) (call : StreamCall) (r : Refusal) → StreamStep setting old call (not_done r) new → new ≡ old
StreamStep-refused setting old new call r = refused_by setting old new r call
