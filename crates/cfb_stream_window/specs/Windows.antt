-- A window of the stream in memory, over what is stored.
use Rattle.std.specs.Prelude.{ℕ, ◌+◌, ◌-◌, ◌≡◌, ◌<◌, ◌≤◌, ◌⊎◌, min, max, List, [], ◌++◌, Bool, true, false, length, take, drop, Option, option_and_then, ℤ}
use Rattle.std.specs.declared.io.traits.SeekFrom.{SeekFrom}
use Rattle.std.specs.declared.io.traits.SeekFrom.TheVariants.{Start, End, Current}
use Rattle.cfb_format.specs.Refused.{HasReason, IsInvalidData, IsMemory, no_error, IsBreak}
use Rattle.cfb_format.specs.declared.error.Error.{Error}
use Rattle.cfb_stream_window.specs.cfb_rules.Refusal.{Refusal, IsRefusal}
use Rattle.cfb_stream_window.specs.cfb_rules.StreamCalls.{StreamState, StreamCall, StreamReply, not_done, Whence, from_start, from_end, from_current, place_within, place_from, resized}
use Rattle.cfb_stream_window.specs.cfb_rules.Runs.{Causes, StreamRun, StreamCallRuns}
use Rattle.cfb_stream_window.specs.Buffers.{Buffered}
use Rattle.cfb_stream_window.specs.Contents.{Stored, stream_setting_of, laid, Fails}

-- the bytes held, which of them is the next, how many there is room for and can be, where they lie in the stream,
-- the stream's length, how many bytes are lent, and whether bytes are not yet written out
pub record Window : Type 0 where
  pub filled : List ℕ
  pub cursor : ℕ
  pub room : ℕ
  pub bound : ℕ
  pub base : ℕ
  pub size : ℕ
  pub ahead : ℕ
  pub pending : Bool

-- what memory says of itself, whatever is stored
pub record WindowStands (filled cursor base size ahead : ℕ) : Type 0 where
  pub lent : cursor + ahead ≤ filled
  pub inside : base + filled ≤ size

-- ---- the stream, as the rules of calls see it

-- its list is what is stored, with the window laid over it
abbrev pub state_of : Stored → Window → StreamState
state_of s w = record { len = w.size; content = laid w.base w.filled s.content; position = w.base + w.cursor; ahead = w.ahead; pending = w.pending }

abbrev pub run_of : Stored → Window → StreamRun
run_of s w = record { stream = state_of s w; failed = s.failed }

-- one call is as the rules of calls on streams say
unfoldable pub Runs : Causes → Stored → Window → StreamCall → StreamReply → Stored → Window → Type 0
Runs causes s w call reply s' w' = StreamCallRuns causes (stream_setting_of s) (run_of s w) call reply (run_of s' w')

-- it was refused as they say
abbrev pub IsCallRefused : Causes → Stored → Window → StreamCall → Stored → Window → Error → Type 0
IsCallRefused causes s w call s' w' e = (refusal : Refusal) × IsRefusal refusal e × Runs causes s w call (not_done refusal) s' w'

-- where a seek leads to
abbrev pub whence_of : SeekFrom → Whence
whence_of (Start at) = from_start at
whence_of (End distance) = from_end distance
whence_of (Current distance) = from_current distance

abbrev pub place_at_distance : ℕ → ℤ → ℕ → Option ℕ
place_at_distance start distance size = option_and_then (place_within size) (place_from start distance)

abbrev pub target_of : ℕ → ℕ → SeekFrom → Option ℕ
target_of size at (Start to) = place_within size to
target_of size at (End distance) = place_at_distance size distance size
target_of size at (Current distance) = place_at_distance at distance size

-- ---- the window and what is stored

-- The file has not failed, and the window fits what is stored. Bytes that are not written out are the window's; else it
-- holds what is stored. Only the stream of a sound file has such bytes.
pub record LiesOver (s : Stored) (w : Window) : Type 0 where
  pub unfailed : s.failed ≡ false
  pub begins : w.base ≤ s.size
  pub total : w.size ≡ max s.size (w.base + length w.filled)
  pub within : w.size ≤ s.limit
  pub readable : length s.content ≤ s.size
  pub whole : s.sound ≡ true → length s.content ≡ s.size
  pub placed : 0 < length w.filled → w.base ≤ length s.content
  pub clean : w.pending ≡ false → laid w.base w.filled s.content ≡ s.content
  pub clean_size : w.pending ≡ false → w.size ≡ s.size
  pub trusted : w.pending ≡ true → s.sound ≡ true

-- unless the file has failed
abbrev pub Suits : Stored → Window → Type 0
Suits s w = s.failed ≡ false → LiesOver s w

-- the window at the start of a stream of this length, over a buffer that holds nothing
abbrev pub window_over : ℕ → Buffered → Window
window_over size buffer = record { filled = []; cursor = 0; room = buffer.room; bound = buffer.bound; base = 0; size = size; ahead = 0; pending = false }

-- the window of a stream that was opened
abbrev pub window_opened : ℕ → ℕ → Window
window_opened size bound = record { filled = []; cursor = 0; room = 1024; bound = max 1024 bound; base = 0; size = size; ahead = 0; pending = false }

-- what is stored once everything is written out
abbrev pub settled : Stored → Window → Stored
settled s w = record s { size = w.size; content = laid w.base w.filled s.content }

-- what is stored has changed only as bytes that were pending are written out
abbrev pub IsSettled : Stored → Window → Stored → Type 0
IsSettled s w s' = (s' ≡ s) ⊎ ((w.pending ≡ true) × (s' ≡ settled s w))

abbrev pub window_settled : Window → Window
window_settled w = record w { pending = false; ahead = 0 }

-- nothing has to be written out, or read, for a read here: a byte is held, or this is the end
abbrev pub StandsInside : Window → Type 0
StandsInside w = (w.cursor < length w.filled) ⊎ (w.base + w.cursor ≡ w.size)

-- nor for a small write
abbrev pub HasBufferRoom : Window → Type 0
HasBufferRoom w = (w.cursor < w.room) ⊎ (w.room < w.bound)

-- the empty window at a place
abbrev pub window_at : ℕ → Window → Window
window_at at w = record w { base = at; filled = []; cursor = 0; ahead = 0; pending = false }

-- ---- the steps that a call takes

-- memory or fullness refused
abbrev pub IsMemoryOrFull : Error → Type 0
IsMemoryOrFull = HasReason (record no_error { memory = Unit {0}; full = Unit {0} })

-- the same stream, in another window
pub record Carries (s : Stored) (w : Window) (s' : Stored) (w' : Window) : Type 0 where
  pub list : laid w'.base w'.filled s'.content ≡ laid w.base w.filled s.content
  pub place : w'.base + w'.cursor ≡ w.base + w.cursor
  pub same_size : w'.size ≡ w.size
  pub limit : s'.limit ≡ s.limit
  pub sound : s'.sound ≡ s.sound
  pub calm : w.pending ≡ false → w'.pending ≡ false
  pub bound : w'.bound ≡ w.bound
  pub agrees : LiesOver s' w'

-- all but what was lent is as before, and nothing was written out
pub record Stays (s : Stored) (w : Window) (s' : Stored) (w' : Window) : Type 0 where
  pub same : s' ≡ s
  pub carries : Carries s w s' w'
  pub ahead : w'.ahead ≡ 0
  pub pending : w'.pending ≡ w.pending

-- A refusal by the medium, for memory or fullness: all but what was lent is as before, and with bytes pending the refusal
-- is one of these; or the file has failed, where it may.
abbrev pub BrokeOff : (may_fail full : Type 0) → (Error → Type 0) → Stored → Window → Stored → Window → Error → Type 0
BrokeOff may_fail full spares s w s' w' e =
    IsBreak full e × ((Stays s w s' w' × (w.pending ≡ true → spares e)) ⊎ (Fails s s' × may_fail))

-- a read with nothing pending breaks off so: it fails no file and needs no number
abbrev pub CalmBrokeOff : Stored → Window → Stored → Window → Error → Type 0
CalmBrokeOff s w s' w' e = IsBreak ⊥ e × Stays s w s' w'

-- any read does; with bytes pending only a refused growth of the buffer, or of what is read to, leaves the file unfailed
abbrev pub ReadBrokeOff : Type 0 → Stored → Window → Stored → Window → Error → Type 0
ReadBrokeOff full s w s' w' e = BrokeOff (w.pending ≡ true) ((w.pending ≡ true) × full) IsMemory s w s' w' e

-- a write does; with nothing pending it needs a number at the end alone
abbrev pub WriteBrokeOff : Type 0 → Stored → Window → Stored → Window → Error → Type 0
WriteBrokeOff full s w s' w' e = BrokeOff Unit ((w.pending ≡ false → w.size ≤ w.base + w.cursor) × full) IsMemory s w s' w' e

-- a longer length, with bytes pending behind the end of what is stored: there these may be written out before
abbrev pub IsLengthened : Stored → Window → ℕ → Type 0
IsLengthened s w size = (s.size < w.size) × (w.size < size)

-- a change of the length does: whether it can be had is found before anything is written
abbrev pub LengthBrokeOff : Type 0 → Stored → Window → Stored → Window → Error → Type 0
LengthBrokeOff full s w s' w' e = BrokeOff Unit full IsMemoryOrFull s w s' w' e

-- bytes that were pending could not be written out
abbrev pub IsLost : Type 0 → Stored → Window → Stored → Error → Type 0
IsLost full s w s' e = IsBreak full e × (w.pending ≡ true) × Fails s s'

-- a read at the end of the readable part or past it
pub record Unreadable (s : Stored) (w : Window) (s' : Stored) (w' : Window) (e : Error) : Type 0 where
  pub is : IsInvalidData e
  pub past : length s.content ≤ w.base + w.cursor
  pub clean : w.pending ≡ false
  pub same : s' ≡ s
  pub carries : Carries s w s' w'
  pub ahead : w'.ahead ≡ w.ahead

-- at least one byte was read into the empty window
pub record IsLoaded (content : List ℕ) (old new : Window) : Type 0 where
  pub some : 1 ≤ length new.filled
  pub inside : old.base + length new.filled ≤ length content
  pub gives : new.filled ≡ take (length new.filled) (drop old.base content)

-- the same stream at another place
pub record WentTo (at : ℕ) (s : Stored) (w : Window) (s' : Stored) (w' : Window) : Type 0 where
  pub list : laid w'.base w'.filled s'.content ≡ laid w.base w.filled s.content
  pub place : w'.base + w'.cursor ≡ at
  pub same_size : w'.size ≡ w.size
  pub limit : s'.limit ≡ s.limit
  pub sound : s'.sound ≡ s.sound
  pub calm : w.pending ≡ false → w'.pending ≡ false
  pub ahead : w'.ahead ≡ 0
  pub agrees : LiesOver s' w'

-- bytes read past the window, which holds nothing behind them
pub record ReadPast (into : List ℕ) (s : Stored) (w : Window) (s' : Stored) (w' : Window) (n : ℕ) : Type 0 where
  pub some : 1 ≤ n
  pub inside : w.base + w.cursor + n ≤ length (laid w.base w.filled s.content)
  pub gives : take n into ≡ take n (drop (w.base + w.cursor) (laid w.base w.filled s.content))
  pub went : WentTo (w.base + w.cursor + n) s w s' w'

-- bytes kept back at the cursor
abbrev pub window_kept : Window → List ℕ → Window
window_kept w bytes = record w {
  filled = take w.cursor w.filled ++ bytes ++ drop (w.cursor + length bytes) w.filled;
  cursor = w.cursor + length bytes;
  size = max w.size (w.base + (w.cursor + length bytes));
  ahead = 0;
  pending = true;
}

-- in a stream that was given a length: bytes that are not written out stay in it
abbrev pub window_within : ℕ → Window → Window
window_within size w = record w { filled = take (size - w.base) w.filled; cursor = min w.cursor (size - w.base); size = size; ahead = 0 }

-- and no bytes where there are none, or where all lie past its end
abbrev pub window_past : ℕ → Window → Window
window_past size w = record w { filled = []; cursor = 0; base = min (w.base + w.cursor) size; size = size; ahead = 0 }

-- bytes written past the window
pub record WroteStraight (bytes : List ℕ) (s : Stored) (w : Window) (s' : Stored) (w' : Window) : Type 0 where
  pub list : laid w'.base w'.filled s'.content ≡ laid (w.base + w.cursor) bytes (laid w.base w.filled s.content)
  pub place : w'.base + w'.cursor ≡ w.base + w.cursor + length bytes
  pub new_size : w'.size ≡ max w.size (w.base + w.cursor + length bytes)
  pub limit : s'.limit ≡ s.limit
  pub sound : s'.sound ≡ s.sound
  pub ahead : w'.ahead ≡ 0
  pub agrees : LiesOver s' w'

-- cut or padded
pub record Resized (size : ℕ) (s : Stored) (w : Window) (s' : Stored) (w' : Window) : Type 0 where
  pub list : laid w'.base w'.filled s'.content ≡ resized (laid w.base w.filled s.content) size
  pub place : w'.base + w'.cursor ≡ min (w.base + w.cursor) size
  pub new_size : w'.size ≡ size
  pub limit : s'.limit ≡ s.limit
  pub sound : s'.sound ≡ s.sound
  pub ahead : w'.ahead ≡ 0
  pub calm : w'.pending ≡ false
  pub agrees : LiesOver s' w'

-- the rest can all be read
abbrev pub IsReadable : Stored → Window → Type 0
IsReadable s w = w.base + w.cursor < w.size → length (laid w.base w.filled s.content) ≡ w.size

-- it can't
pub record IsUnreadable (s : Stored) (w w' : Window) (e : Error) : Type 0 where
  pub is : IsInvalidData e
  pub same : w' ≡ w
  pub before : w.base + w.cursor < w.size
  pub short : length (laid w.base w.filled s.content) < w.size

-- the rest was appended
pub record Appended (old new : List ℕ) (s : Stored) (w : Window) (s' : Stored) (w' : Window) : Type 0 where
  pub bytes : new ≡ old ++ drop (w.base + w.cursor) (laid w.base w.filled s.content)
  pub went : WentTo w.size s w s' w'
