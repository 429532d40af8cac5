-- A stream as a list of bytes with a position.
use Rattle.std.specs.Prelude.{ℕ, ◌+◌, ◌-◌, ◌^◌, ◌≡◌, ◌≤◌, min, max, ℤ, pos, negsuc, ◌+ℤ◌, List, [], ◌++◌, Bool, false, ◌||◌, ◌&&◌, length, take, drop, replicate, nat_lt, nat_le, IsTrue, MatchBool, MatchOption, Option, Some, None, option_and_then, if◌then◌else◌, ◌==◌}
use Rattle.std.specs.Ordering.{int_eq}
use Rattle.cfb_format.specs.Medium.{part}
use Rattle.cfb_rules.specs.Refusal.{Refusal, invalid_input, invalid_data, not_sound}

-- the length, the bytes that can be read, the position, how many bytes are lent and not yet consumed, and whether
-- written bytes are kept back. The stream of a sound file can be read to its end.
pub record StreamState : Type 0 where
  pub len : ℕ
  pub content : List ℕ
  pub position : ℕ
  pub ahead : ℕ
  pub pending : Bool

-- what stays the same for a stream: the greatest length that the version has, and whether the file is sound
pub record StreamSetting : Type 0 where
  pub limit : ℕ
  pub sound : Bool

-- where a seek leads to
pub data Whence : Type 0 where
  from_start : ℕ → Whence
  from_end : ℤ → Whence
  from_current : ℤ → Whence

-- the calls on a stream
pub data StreamCall : Type 0 where
  read : (wanted : ℕ) → StreamCall
  fill_buf : StreamCall
  consume : (amount : ℕ) → StreamCall
  read_to_end : StreamCall
  write : (bytes : List ℕ) → StreamCall
  seek : Whence → StreamCall
  set_len : (len : ℕ) → StreamCall
  flush : StreamCall
  ask_len ask_position ask_is_empty : StreamCall

-- what they answer; an offset is the length or the position
pub data StreamReply : Type 0 where
  ready : StreamReply
  got : List ℕ → StreamReply
  count : ℕ → StreamReply
  offset : ℕ → StreamReply
  answered : Bool → StreamReply
  not_done : Refusal → StreamReply

-- as it is opened
abbrev pub opened : ℕ → List ℕ → StreamState
opened len content = record { len = len; content = content; position = 0; ahead = 0; pending = false }

-- the state after a call; no call of these makes bytes pending
pub record Becomes (old new : StreamState) (to_len : ℕ) (to_content : List ℕ) (to_position to_ahead : ℕ) : Type 0 where
  pub len : new.len ≡ to_len
  pub content : new.content ≡ to_content
  pub position : new.position ≡ to_position
  pub ahead : new.ahead ≡ to_ahead
  pub pending : IsTrue new.pending → IsTrue old.pending

-- only the position and the bytes lent are others
abbrev pub Moves : StreamState → StreamState → ℕ → ℕ → Type 0
Moves old new position ahead = Becomes old new old.len old.content position ahead

-- a refusal by the rules changes nothing
abbrev pub Refuses : Refusal → StreamState → StreamReply → StreamState → Type 0
Refuses refusal old reply new = (reply ≡ not_done refusal) × (new ≡ old)

-- some bytes, at least one and at most this many, are served; after tells the position and what is lent after n bytes
abbrev pub Serves : (ℕ → ℕ) → (ℕ → ℕ) → ℕ → StreamState → StreamReply → StreamState → Type 0
Serves position_after ahead_after most old reply new = (n : ℕ) × (1 ≤ n) × (n ≤ most) × (old.position + n ≤ length old.content)
    × (reply ≡ got (part old.content old.position n)) × Moves old new (position_after n) (ahead_after n)

-- nothing at the end, bytes before the end of the readable part, and a refusal at that end or past it
abbrev pub ReadsOn : Bool → (ℕ → ℕ) → (ℕ → ℕ) → ℕ → StreamState → StreamReply → StreamState → Type 0
ReadsOn nothing_wanted position_after ahead_after most old reply new =
    MatchBool (nothing_wanted || old.position == old.len)
    ((reply ≡ got []) × Moves old new old.position 0)
    (MatchBool (nat_lt old.position (length old.content))
    (Serves position_after ahead_after most old reply new)
    (Refuses invalid_data old reply new))

-- serves bytes and goes behind them
abbrev pub Read : ℕ → StreamState → StreamReply → StreamState → Type 0
Read wanted old reply new = ReadsOn (wanted == 0) (λ n. old.position + n) (λ n. 0) wanted old reply new

-- lends what a read would give
abbrev pub FillBuf : StreamState → StreamReply → StreamState → Type 0
FillBuf old reply new = ReadsOn false (λ n. old.position) (λ n. n) (length old.content) old reply new

-- goes on by what was lent, at most
abbrev pub Consume : ℕ → StreamState → StreamReply → StreamState → Type 0
Consume amount old reply new = (reply ≡ ready) × Moves old new (old.position + min amount old.ahead) (old.ahead - min amount old.ahead)

-- all the rest, or nothing where it can't all be read
abbrev pub ReadToEnd : StreamState → StreamReply → StreamState → Type 0
ReadToEnd old reply new = MatchBool (nat_lt old.position old.len && nat_lt (length old.content) old.len)
    (Refuses invalid_data old reply new)
    ((reply ≡ got (drop old.position old.content)) × Moves old new old.len 0)

-- the first n of the bytes replace those at the position, or extend the list; they may be pending
pub record Wrote (bytes : List ℕ) (n : ℕ) (old new : StreamState) : Type 0 where
  pub len : new.len ≡ max old.len (old.position + n)
  pub content : new.content ≡ take old.position old.content ++ take n bytes ++ drop (old.position + n) old.content
  pub position : new.position ≡ old.position + n
  pub ahead : new.ahead ≡ 0

-- at the greatest length nothing can be written; short of it a beginning is
abbrev pub Write : StreamSetting → List ℕ → StreamState → StreamReply → StreamState → Type 0
Write setting bytes old reply new = MatchBool (length bytes == 0)
    ((reply ≡ count 0) × Moves old new old.position 0)
    (MatchBool (nat_le setting.limit old.position)
    (Refuses invalid_input old reply new)
    (MatchBool setting.sound
    ((n : ℕ) × (1 ≤ n) × (n ≤ length bytes) × (old.position + n ≤ setting.limit) × (reply ≡ count n) × Wrote bytes n old new)
    (Refuses not_sound old reply new)))

-- the place that a distance leads to, unless it lies before the start
abbrev pub natural : ℤ → Option ℕ
natural (pos n) = Some n
natural (negsuc n) = None

-- the smallest distance of 64 bits leads nowhere
abbrev pub place_from : ℕ → ℤ → Option ℕ
place_from start distance = if int_eq distance (negsuc (2 ^ 63 - 1)) then None else natural (pos start +ℤ distance)

-- a place past the end isn't one
abbrev pub place_within : ℕ → ℕ → Option ℕ
place_within len at = if nat_le at len then Some at else None

-- the place that is sought, if it lies in the stream
abbrev pub sought : StreamState → Whence → Option ℕ
sought s (from_start at) = place_within s.len at
sought s (from_end distance) = option_and_then (place_within s.len) (place_from s.len distance)
sought s (from_current distance) = option_and_then (place_within s.len) (place_from s.position distance)

-- goes there, or stays
abbrev pub Seek : Whence → StreamState → StreamReply → StreamState → Type 0
Seek whence old reply new = MatchOption (sought old whence)
    (Refuses invalid_input old reply new)
    (λ at. (reply ≡ offset at) × Moves old new at 0)

-- cut, or padded with zeros
abbrev pub resized : List ℕ → ℕ → List ℕ
resized content len = take len content ++ replicate (len - length content) 0

-- the present length does nothing
abbrev pub SetLen : StreamSetting → ℕ → StreamState → StreamReply → StreamState → Type 0
SetLen setting len old reply new = MatchBool (len == old.len)
    ((reply ≡ ready) × Moves old new old.position 0)
    (MatchBool (nat_lt setting.limit len)
    (Refuses invalid_input old reply new)
    (MatchBool setting.sound
    ((reply ≡ ready) × Becomes old new len (resized old.content len) (min old.position len) 0 × (new.pending ≡ false))
    (Refuses not_sound old reply new)))

-- nothing is pending afterwards
abbrev pub Flush : StreamState → StreamReply → StreamState → Type 0
Flush old reply new = (reply ≡ ready) × Moves old new old.position 0 × (new.pending ≡ false)

-- a question changes nothing
abbrev pub Asks : StreamReply → StreamState → StreamReply → StreamState → Type 0
Asks answer old reply new = (reply ≡ answer) × (new ≡ old)

-- one call on a stream, medium, memory and fullness aside
abbrev pub StreamStep : StreamSetting → StreamState → StreamCall → StreamReply → StreamState → Type 0
StreamStep setting old (read wanted) reply new = Read wanted old reply new
StreamStep setting old fill_buf reply new = FillBuf old reply new
StreamStep setting old (consume amount) reply new = Consume amount old reply new
StreamStep setting old read_to_end reply new = ReadToEnd old reply new
StreamStep setting old (write bytes) reply new = Write setting bytes old reply new
StreamStep setting old (seek whence) reply new = Seek whence old reply new
StreamStep setting old (set_len len) reply new = SetLen setting len old reply new
StreamStep setting old flush reply new = Flush old reply new
StreamStep setting old ask_len reply new = Asks (offset old.len) old reply new
StreamStep setting old ask_position reply new = Asks (offset old.position) old reply new
StreamStep setting old ask_is_empty reply new = Asks (answered (old.len == 0)) old reply new

-- ---- what holds of every state

-- What was lent lies before the end, no more can be read than there is, and the version's greatest length is kept. The
-- stream of a sound file can be read to its end.
pub record IsStream (setting : StreamSetting) (s : StreamState) : Type 0 where
  pub lent : s.position + s.ahead ≤ s.len
  pub readable : length s.content ≤ s.len
  pub within : s.len ≤ setting.limit
  pub whole : IsTrue setting.sound → length s.content ≡ s.len
