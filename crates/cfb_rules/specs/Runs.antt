-- Calls with refusals by the medium, by memory and by fullness, and with the failed state.
use Rattle.std.specs.Prelude.{ℕ, ◌≡◌, ◌<◌, ◌≤◌, ◌⊎◌, List, [], Bool, true, false, MatchBool, MatchOption, IsTrue, Option, Some, None, is_some, length, nat_lt, option_and_then, unwrap_or, if◌then◌else◌, ◌==◌, ⊤}
use Rattle.cfb_format.specs.Names.{Cases}
use Rattle.cfb_format.specs.Path.{names_of_path}
use Rattle.cfb_format.specs.Tree.{StreamInfo, Tree, Object, a_storage, a_stream}
use Rattle.cfb_rules.specs.Refusal.{Refusal, medium_failed, out_of_memory, file_full, failed_earlier}
use Rattle.cfb_rules.specs.Calls.{Call, Reply, done, refused}
use Rattle.cfb_rules.specs.Steps.{CallKind, creating, emptying, changing, flushing, opening_to_read, asking, asking_freely, kind_of, kind_on, outcome, Step}
use Rattle.cfb_rules.specs.Finding.{object_at}
use Rattle.cfb_rules.specs.CallChanges.{new_stream, content_changed_at}
use Rattle.cfb_rules.specs.StreamCalls.{StreamSetting, StreamState, StreamCall, read, fill_buf, consume, read_to_end, write, seek, set_len, flush, ask_len, ask_position, ask_is_empty, StreamReply, not_done, StreamStep, opened, sought}

-- what stays the same in a run: the letters, and what stays the same for its streams
pub record Setting : Type 0 where
  pub cases : Cases
  pub stream : StreamSetting

-- the tree of the file, the length of the root's entry, and whether a change broke off. Of a failed file's tree and length nothing is said
pub record TreeState : Type 0 where
  pub tree : Tree
  pub root_len : ℕ
  pub failed : Bool

-- ---- refusals beside the rules

-- what has to hold where a refusal blames the medium, and where it blames the numbers. A refusal for memory needs nothing
pub record Causes : Type 1 where
  pub medium : Type 0
  pub full : Type 0

-- nothing is asked of a refusal
abbrev pub any_cause : Causes
any_cause = record { medium = ⊤; full = ⊤ }

-- the refusal is one of the three, by its cause
abbrev pub BlamesOneOf : (medium memory full : Type 0) → Refusal → Type 0
BlamesOneOf medium memory full medium_failed = medium
BlamesOneOf medium memory full out_of_memory = memory
BlamesOneOf medium memory full file_full = full
BlamesOneOf medium memory full refusal = ⊥

-- a refusal that blames the medium or the numbers has its cause
abbrev pub MayBlame : Causes → Refusal → Type 0
MayBlame causes medium_failed = causes.medium
MayBlame causes file_full = causes.full
MayBlame causes refusal = ⊤

-- which of them a call by path can answer: only one that makes an object needs a number
abbrev pub MayBreak : Causes → CallKind → Refusal → Type 0
MayBreak causes creating refusal = BlamesOneOf causes.medium ⊤ causes.full refusal
MayBreak causes flushing refusal = BlamesOneOf causes.medium ⊥ ⊥ refusal
MayBreak causes opening_to_read refusal = BlamesOneOf ⊥ ⊤ ⊥ refusal
MayBreak causes asking refusal = BlamesOneOf ⊥ ⊤ ⊥ refusal
MayBreak causes asking_freely refusal = BlamesOneOf ⊥ ⊥ ⊥ refusal
MayBreak causes kind refusal = BlamesOneOf causes.medium ⊤ ⊥ refusal

-- only calls that write can leave the file failed, where they broke off
abbrev pub may_fail : CallKind → Bool
may_fail creating = true
may_fail emptying = true
may_fail changing = true
may_fail flushing = true
may_fail kind = false

-- only a refused flush always leaves the file failed
abbrev pub may_stay : CallKind → Bool
may_stay flushing = false
may_stay kind = true

-- all is as before, or the file is failed
abbrev pub CallBreaksOff : CallKind → TreeState → TreeState → Type 0
CallBreaksOff kind old new = (IsTrue (may_stay kind) × (new ≡ old)) ⊎ (IsTrue (may_fail kind) × (new.failed ≡ true))

-- ---- calls by path

-- what is blamed holds
abbrev pub HasCause : Causes → Reply → Type 0
HasCause causes (refused refusal) = MayBlame causes refusal
HasCause causes reply = ⊤

-- on a failed file queries answer anything, but they blame nothing without cause
abbrev pub OnFailed : Causes → CallKind → Reply → TreeState → Type 0
OnFailed causes asking reply new = HasCause causes reply × (new.failed ≡ true)
OnFailed causes asking_freely reply new = HasCause causes reply × (new.failed ≡ true)
OnFailed causes kind reply new = (reply ≡ refused failed_earlier) × (new.failed ≡ true)

-- only a call that takes bytes away and was done gives the root's entry another length
abbrev pub KeepsRootLen : CallKind → TreeState → Reply → TreeState → Type 0
KeepsRootLen kind old reply new = ((kind ≡ emptying) × (reply ≡ done)) ⊎ (new.root_len ≡ old.root_len)

-- the rules are followed
pub record FollowsRules (setting : Setting) (old : TreeState) (call : Call) (reply : Reply) (new : TreeState) : Type 0 where
  pub step : Step setting.cases setting.stream.sound old.root_len old.tree call reply new.tree
  pub root_len : KeepsRootLen (kind_on setting.cases old.tree call) old reply new
  pub unfailed : new.failed ≡ false

-- It broke off where the rules have no refusal of their own; or memory lacked before they were asked, and all is as before.
abbrev pub IsBroken : Causes → Setting → TreeState → Call → Reply → TreeState → Type 0
IsBroken causes setting old call reply new =
    ((refusal : Refusal) × MayBreak causes (kind_on setting.cases old.tree call) refusal × (reply ≡ refused refusal)
    × (((refusal ≡ out_of_memory) × (new ≡ old)) ⊎ (outcome setting.cases setting.stream.sound old.tree call ≡ None)))
    × CallBreaksOff (kind_of call) old new

-- one call by path
abbrev pub CallRuns : Causes → Setting → TreeState → Call → Reply → TreeState → Type 0
CallRuns causes setting old call reply new = MatchBool old.failed
    (OnFailed causes (kind_of call) reply new)
    (FollowsRules setting old call reply new ⊎ IsBroken causes setting old call reply new)

-- ---- calls on a stream

-- what a call does beside the list: nothing; it reads; it moves the position; it writes out what is pending; it takes bytes, over others or at
-- the end; it changes the length
pub data Work : Type 0 where
  no_work reading moving writing_out overwriting appending resizing : Work

-- a write of no byte and a change to the present length do nothing
abbrev pub work_of : StreamState → StreamCall → Work
work_of old (read wanted) = reading
work_of old fill_buf = reading
work_of old read_to_end = reading
work_of old (write bytes) = if length bytes == 0 then no_work else if nat_lt old.position old.len then overwriting else appending
work_of old (seek whence) = moving
work_of old (set_len len) = if len == old.len then no_work else resizing
work_of old flush = writing_out
work_of old call = no_work

-- with nothing pending: only bytes at the end and a change of the length need numbers; neither moving nor flushing needs memory
abbrev pub CalmWorkMayBreak : Causes → Work → Refusal → Type 0
CalmWorkMayBreak causes no_work refusal = ⊥
CalmWorkMayBreak causes moving refusal = BlamesOneOf causes.medium ⊥ ⊥ refusal
CalmWorkMayBreak causes writing_out refusal = BlamesOneOf causes.medium ⊥ ⊥ refusal
CalmWorkMayBreak causes appending refusal = BlamesOneOf causes.medium ⊤ causes.full refusal
CalmWorkMayBreak causes resizing refusal = BlamesOneOf causes.medium ⊤ causes.full refusal
CalmWorkMayBreak causes work refusal = BlamesOneOf causes.medium ⊤ ⊥ refusal

-- pending bytes may have to be written out first, which can be refused by all three
abbrev pub PendingWorkMayBreak : Causes → Work → Refusal → Type 0
PendingWorkMayBreak causes no_work refusal = ⊥
PendingWorkMayBreak causes work refusal = BlamesOneOf causes.medium ⊤ causes.full refusal

-- which refusals beside the rules a call on a stream can answer
abbrev pub WorkMayBreak : Causes → (pending : Bool) → Work → Refusal → Type 0
WorkMayBreak causes pending work refusal = MatchBool pending
    (PendingWorkMayBreak causes work refusal)
    (CalmWorkMayBreak causes work refusal)

-- With nothing pending all can be as before, but after a flush: what is refused then is the medium's own, which leaves the file failed
abbrev pub CalmStaysUnfailed : Work → Type 0
CalmStaysUnfailed writing_out = ⊥
CalmStaysUnfailed work = ⊤

-- with bytes pending, only where the buffer couldn't grow, and where a length was too long or needed too much memory before anything was written
abbrev pub PendingStaysUnfailed : Work → Refusal → Type 0
PendingStaysUnfailed no_work refusal = ⊥
PendingStaysUnfailed moving refusal = ⊥
PendingStaysUnfailed writing_out refusal = ⊥
PendingStaysUnfailed resizing refusal = (refusal ≡ out_of_memory) ⊎ (refusal ≡ file_full)
PendingStaysUnfailed work refusal = refusal ≡ out_of_memory

-- whether a refused call can leave the file unfailed
abbrev pub StaysUnfailed : (pending : Bool) → Work → Refusal → Type 0
StaysUnfailed pending work refusal = MatchBool pending (PendingStaysUnfailed work refusal) (CalmStaysUnfailed work)

-- the file can be left failed where something was written: what is pending, or by the call itself
abbrev pub may_leave_failed : (pending : Bool) → Work → Bool
may_leave_failed pending no_work = false
may_leave_failed pending reading = pending
may_leave_failed pending moving = pending
may_leave_failed pending work = true

-- a stream while it is open, and whether the file has failed meanwhile
pub record StreamRun : Type 0 where
  pub stream : StreamState
  pub failed : Bool

-- all but what was lent stays and the file isn't failed, or the file is failed
abbrev pub StreamBreaksOff : StreamState → Work → Refusal → StreamRun → Type 0
StreamBreaksOff old work refusal new =
    (StaysUnfailed old.pending work refusal × (new ≡ record { stream = record old { ahead = 0 }; failed = false }))
    ⊎ (IsTrue (may_leave_failed old.pending work) × (new.failed ≡ true))

-- `len`, `position`, `is_empty` and `consume` are never refused
abbrev pub is_never_refused : StreamCall → Bool
is_never_refused (consume amount) = true
is_never_refused ask_len = true
is_never_refused ask_position = true
is_never_refused ask_is_empty = true
is_never_refused call = false

-- it isn't refused
abbrev pub is_served : StreamReply → Bool
is_served (not_done refusal) = false
is_served reply = true

-- on a failed file those four answer anything but a refusal
abbrev pub StreamOnFailed : StreamCall → StreamReply → StreamRun → Type 0
StreamOnFailed call reply new = (new.failed ≡ true) × MatchBool (is_never_refused call) (is_served reply ≡ true) (reply ≡ not_done failed_earlier)

-- the rules have no refusal of their own for a write of bytes, a seek, and another length; what a read can't give is found as it reads
abbrev pub IsAllowed : StreamSetting → StreamState → StreamCall → Type 0
IsAllowed setting old (write bytes) = (old.position < setting.limit) × (setting.sound ≡ true)
IsAllowed setting old (seek whence) = is_some (sought old whence) ≡ true
IsAllowed setting old (set_len len) = (len ≤ setting.limit) × (setting.sound ≡ true)
IsAllowed setting old call = ⊤

-- it broke off, and the rules have no refusal of their own
abbrev pub IsStreamBroken : Causes → StreamSetting → StreamState → StreamCall → StreamReply → StreamRun → Type 0
IsStreamBroken causes setting old call reply new = (refusal : Refusal) × WorkMayBreak causes old.pending (work_of old call) refusal
    × (reply ≡ not_done refusal) × StreamBreaksOff old (work_of old call) refusal new × IsAllowed setting old call

-- one call on a stream
abbrev pub StreamCallRuns : Causes → StreamSetting → StreamRun → StreamCall → StreamReply → StreamRun → Type 0
StreamCallRuns causes setting old call reply new = MatchBool old.failed
    (StreamOnFailed call reply new)
    ((StreamStep setting old.stream call reply new.stream × (new.failed ≡ false)) ⊎ IsStreamBroken causes setting old.stream call reply new)

-- Closing writes out what is pending; only that can be refused, and the file is failed then. Whether it is failed comes last.
abbrev pub Closes : Causes → StreamRun → Option Refusal → Bool → Type 0
Closes causes old closing failed = MatchBool old.failed
    ((closing ≡ Some failed_earlier) × (failed ≡ true))
    (MatchOption closing (failed ≡ false)
    (λ refusal. IsTrue old.stream.pending × BlamesOneOf causes.medium ⊤ causes.full refusal × (failed ≡ true)))

-- ---- a stream of the tree, as it is opened and as it is closed

-- its fields
abbrev pub stream_fields : Object → StreamInfo
stream_fields (a_stream info) = info
stream_fields (a_storage info inside) = new_stream

-- the stream that a path names
abbrev pub stream_by_path : Cases → Tree → List ℕ → StreamInfo
stream_by_path cases tree path = stream_fields (unwrap_or (option_and_then (object_at cases tree) (names_of_path path)) (a_stream new_stream))

abbrev pub opened_by_path : Cases → Tree → List ℕ → StreamState
opened_by_path cases tree path = opened (stream_by_path cases tree path).len (stream_by_path cases tree path).content

-- the tree with this list for the stream
abbrev pub tree_with_stream : Cases → Tree → List ℕ → List ℕ → Tree
tree_with_stream cases tree path content = content_changed_at cases content (unwrap_or (names_of_path path) []) tree

-- the tree after a stream was closed: in a sound file the stream has its list, and a file that isn't sound has the tree that it had
abbrev pub ClosedTree : Setting → Tree → List ℕ → StreamState → TreeState → Type 0
ClosedTree setting tree path stream new = MatchBool new.failed ⊤
    (new.tree ≡ (if setting.stream.sound then tree_with_stream setting.cases tree path stream.content else tree))
