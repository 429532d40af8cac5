-- Operations on an open stream: what each answers, and what it can lack.
use Rattle.std.specs.Prelude.{ℕ, ◌+◌, ◌≡◌, ◌≢◌, ◌<◌, ◌≤◌, ◌⊎◌, [], Bool, true, false, ◌||◌, ◌&&◌, length, take, drop, nat_le, nat_lt, MatchBool, MatchOption, IsTrue, Option, is_some, option_and_then, if◌then◌else◌, ◌==◌, ⊤}
use Rattle.std.specs.declared.io.traits.SeekFrom.{SeekFrom}
use Rattle.std.specs.declared.io.traits.SeekFrom.TheVariants.{Start, End, Current}
use Rattle.cfb_rules.specs.Refusal.{Refusal, failed_earlier, invalid_data, invalid_input}
use Rattle.cfb_rules.specs.Runs.{BlamesOneOf, StaysUnfailed, Work, appending, may_leave_failed, moving, no_work, overwriting, reading, resizing, writing_out}
use Rattle.cfb_rules.specs.StreamCalls.{Asks, Flush, Moves, ReadToEnd, Refuses, SetLen, StreamReply, StreamSetting, StreamState, Write, got, not_done, offset, place_from, place_within}
use Rattle.cfb_commands.specs.declared.command.StreamOp.{StreamOp}
use Rattle.cfb_commands.specs.declared.command.StreamOp.TheVariants as op

-- at most so many bytes from the position on: none at the end, and some before it, if they can be read
abbrev pub Read : ℕ → StreamState → StreamReply → StreamState → Type 0
Read wanted old reply new = MatchBool (wanted == 0 || old.position == old.len) ((reply ≡ got []) × Moves old new old.position 0) (MatchBool (nat_lt old.position (length old.content))
    ((n : ℕ) × (1 ≤ n) × (n ≤ wanted) × (old.position + n ≤ length old.content) × (reply ≡ got (take n (drop old.position old.content))) × Moves old new (old.position + n) 0)
    (Refuses invalid_data old reply new))

-- the place that is sought, if it lies in the stream
abbrev pub sought : StreamState → SeekFrom → Option ℕ
sought s (Start at) = place_within s.len at
sought s (End distance) = option_and_then (place_within s.len) (place_from s.len distance)
sought s (Current distance) = option_and_then (place_within s.len) (place_from s.position distance)

-- goes there, or stays
abbrev pub Seek : SeekFrom → StreamState → StreamReply → StreamState → Type 0
Seek to old reply new = MatchOption (sought old to) (Refuses invalid_input old reply new) (λ at. (reply ≡ offset at) × Moves old new at 0)

-- which refusals beside the rules an operation can answer. With nothing pending only bytes at the end and a change of the length need numbers, and
-- neither moving nor flushing needs memory; pending bytes may have to be written out first
abbrev pub CanBreak : (pending : Bool) → Work → Refusal → Type 0
CanBreak pending no_work refusal = ⊥
CanBreak true work refusal = BlamesOneOf ⊤ ⊤ ⊤ refusal
CanBreak false moving refusal = BlamesOneOf ⊤ ⊥ ⊥ refusal
CanBreak false writing_out refusal = BlamesOneOf ⊤ ⊥ ⊥ refusal
CanBreak false appending refusal = BlamesOneOf ⊤ ⊤ ⊤ refusal
CanBreak false resizing refusal = BlamesOneOf ⊤ ⊤ ⊤ refusal
CanBreak false work refusal = BlamesOneOf ⊤ ⊤ ⊥ refusal

module _ {A : Type 0} where
  -- one operation, medium, memory and fullness aside
  abbrev pub OpStep : StreamSetting → StreamState → StreamOp A → StreamReply → StreamState → Type 0
  OpStep setting old (op.Read wanted) reply new = Read wanted old reply new
  OpStep setting old op.ReadToEnd reply new = ReadToEnd old reply new
  OpStep setting old (op.Write bytes) reply new = Write setting bytes.items old reply new
  OpStep setting old (op.Seek to) reply new = Seek to old reply new
  OpStep setting old (op.SetLen len) reply new = SetLen setting len old reply new
  OpStep setting old op.Flush reply new = Flush old reply new
  OpStep setting old op.Position reply new = Asks (offset old.position) old reply new
  OpStep setting old op.Len reply new = Asks (offset old.len) old reply new

  -- a write of no byte and a change to the present length do nothing
  abbrev pub work_of : StreamState → StreamOp A → Work
  work_of old (op.Write bytes) = if length bytes.items == 0 then no_work else if nat_lt old.position old.len then overwriting else appending
  work_of old (op.Seek to) = moving
  work_of old (op.SetLen len) = if len == old.len then no_work else resizing
  work_of old op.Flush = writing_out
  work_of old op.Position = no_work
  work_of old op.Len = no_work
  work_of old call = reading

  -- the rules have no refusal of their own for a write of bytes, a seek, and another length; what a read can't give is found as it reads
  abbrev pub IsAllowed : StreamSetting → StreamState → StreamOp A → Type 0
  IsAllowed setting old (op.Write bytes) = (old.position < setting.limit) × (setting.sound ≡ true)
  IsAllowed setting old (op.Seek to) = is_some (sought old to) ≡ true
  IsAllowed setting old (op.SetLen len) = (len ≤ setting.limit) × (setting.sound ≡ true)
  IsAllowed setting old call = ⊤

  -- on a failed file `position` and `len` answer anything but a refusal
  abbrev pub OpOnFailed : StreamOp A → StreamReply → Type 0
  OpOnFailed op.Position reply = (refusal : Refusal) → reply ≢ not_done refusal
  OpOnFailed op.Len reply = (refusal : Refusal) → reply ≢ not_done refusal
  OpOnFailed call reply = reply ≡ not_done failed_earlier

  -- whether it may write to the file: with nothing pending, a write of fewer bytes than the stream's buffer has, 65536, only keeps them back
  abbrev pub may_write : StreamState → StreamOp A → Bool
  may_write old (op.Write bytes) = may_leave_failed old.pending (work_of old (op.Write bytes)) && (old.pending || nat_le 65536 (length bytes.items))
  may_write old call = may_leave_failed old.pending (work_of old call)

  -- whether it may change the file twice: what is pending is written out first, and then a long write or another length is a change of its own
  abbrev pub is_second : StreamState → StreamOp A → Bool
  is_second old (op.Write bytes) = old.pending && nat_le 65536 (length bytes.items)
  is_second old (op.SetLen len) = old.pending
  is_second old call = false

  -- all but what was lent stays, and the file isn't failed; or it is, where it may have been written to
  abbrev pub IsLeftBy : StreamState → StreamOp A → Refusal → StreamState → (failed : Bool) → Type 0
  IsLeftBy s op r t failed = (StaysUnfailed s.pending (work_of s op) r × (t ≡ record s { ahead = 0 }) × (failed ≡ false)) ⊎ (IsTrue (may_write s op) × (failed ≡ true))

  -- it broke off, and the rules have no refusal of their own
  abbrev pub OpBreaks : StreamSetting → StreamState → StreamOp A → StreamReply → StreamState → (failed : Bool) → Type 0
  OpBreaks setting s op reply t failed = (r : Refusal) × CanBreak s.pending (work_of s op) r × (reply ≡ not_done r) × IsLeftBy s op r t failed × IsAllowed setting s op

  -- it was refused, or had nothing to write
  abbrev pub OpLeavesFile : StreamState → StreamOp A → StreamReply → Type 0
  OpLeavesFile old call reply = ((refusal : Refusal) × (reply ≡ not_done refusal)) ⊎ (may_write old call ≡ false)
