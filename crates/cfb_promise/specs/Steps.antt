-- Commands on a file that is known by its bytes: each by the rules, from a file to the one that it leaves.
use Rattle.std.specs.Prelude.{ℕ, ◌≡◌, ◌<◌, ◌≤◌, ◌⊎◌, List, [], ◌∷◌, Bool, true, false, length, IsTrue, MatchBool, MatchOption, Option, Some, None, Result, Ok, Err, Vec, if◌then◌else◌, chars, string_bytes, ⊤}
use Rattle.std.specs.Option.{option_map_or}
use Rattle.cfb_format.specs.declared.error.Error.{Error}
use Rattle.cfb_format.specs.declared.version.Version.{Version}
use Rattle.cfb_format.specs.Bytes.{max_regular_sector, max_stream_len}
use Rattle.cfb_format.specs.Full.{IsFull}
use Rattle.cfb_format.specs.Names.{Cases}
use Rattle.cfb_format.specs.Meaning.{tree_of}
use Rattle.cfb_format.specs.Reading.{root_entry}
use Rattle.cfb_format.specs.Siblings.{entry_at}
use Rattle.cfb_format.specs.Tree.{Tree}
use Rattle.cfb_rules.specs.CallChanges.{content_changed_at}
use Rattle.cfb_rules.specs.CallRefusals.{unless}
use Rattle.cfb_rules.specs.Calls.{EntryInfo, Reply, done, entries, flag, one_entry, refused}
use Rattle.cfb_rules.specs.Lists.{names_at}
use Rattle.cfb_rules.specs.Refusal.{Refusal, failed_earlier, file_full, not_sound, out_of_memory}
use Rattle.cfb_rules.specs.Runs.{BlamesOneOf, opened_by_path}
use Rattle.cfb_rules.specs.Steps.{CallKind, asking, asking_freely, emptying, flushing, is_changing}
use Rattle.cfb_rules.specs.StreamCalls.{StreamReply, StreamSetting, StreamState, not_done}
use Rattle.cfb_commands.specs.declared.command.Command.{Command}
use Rattle.cfb_commands.specs.declared.command.Command.TheVariants.{CreateStorageAll, Entry, Exists, IsStorage, IsStream, ReadStorage, RemoveStorageAll, RemoveStream, Stream, WalkStorage}
use Rattle.cfb_commands.specs.declared.command.Reply.{Reply as TheReply}
use Rattle.cfb_commands.specs.declared.command.Reply.TheVariants as reply
use Rattle.cfb_commands.specs.declared.command.StreamOp.{StreamOp}
use Rattle.cfb_commands.specs.declared.command.StreamOp.TheVariants.{SetLen, Write}
use Rattle.cfb_commands.specs.declared.command.StreamReply.{StreamReply as TheAnswer}
use Rattle.cfb_commands.specs.Commands.{refusal_of_error}
use Rattle.cfb_promise.specs.CallRules.{CallCanBreak, MayLose, Rule, most_made, rule_of}
use Rattle.cfb_promise.specs.Errors.{answer_of, told}
use Rattle.cfb_promise.specs.Files.{DiffersInContent, File, GrowsTightly, HasNoEntry, HasNoEntryOnTheWay, HasNoRoomBehind, HasNoRoomFor, HasNoRoomForKept, IsAtPath, LeavesSound, StandsAt, Unfailed, slots_for}
use Rattle.cfb_promise.specs.StreamRules.{OpBreaks, OpOnFailed, OpStep, is_second, may_write}

-- ---- what each step leaves of the file, done or refused

-- a file that is not sound stays as it is
abbrev pub LeavesUnsound : (old new : File) → Type 0
LeavesUnsound old new = (old.failed ≡ true → new.failed ≡ true) × Unfailed new ((new.bytes ≡ old.bytes) × (new.reading ≡ old.reading))

-- ---- calls by path

-- A change that broke off is as before, or the file is failed; a flush always leaves it failed
abbrev pub IsLeft : CallKind → (old new : File) → Type 0
IsLeft flushing old new = new.failed ≡ true
IsLeft kind old new = ((new.tree ≡ old.tree) × (new.failed ≡ false)) ⊎ (IsTrue (is_changing kind) × (new.failed ≡ true))

-- a failed file answers only what looks
abbrev pub OnFailed : CallKind → Reply → Type 0
OnFailed asking reply = ⊤
OnFailed asking_freely reply = ⊤
OnFailed kind reply = reply ≡ refused failed_earlier

module _ (cases : Cases) (version : Version) (sound : Bool) where
  abbrev pub Leaves : (old new : File) → (may_touch : ℕ → Type 0) → (grows : ℕ) → (writes_nothing more : Type 0) → Type 0
  Leaves old new may_touch grows writes_nothing more = MatchBool sound (LeavesSound cases version old new may_touch grows writes_nothing more) (LeavesUnsound old new)

  -- why a call is refused, if it is: by the rules first, and then for a file that isn't sound
  abbrev pub refusal_in : Rule → Option Refusal
  refusal_in r = option_map_or (λ refusal. Some refusal) r.refusal (if is_changing r.kind then unless sound not_sound else None)

  -- The rules are followed. Only a call that takes bytes away and was done gives the root's entry another length
  pub record FollowsRule (old : File) (r : Rule) (reply : Reply) (new : File) : Type 0 where
    pub step : MatchOption (refusal_in r) ((reply ≡ r.reply) × (new.tree ≡ r.tree)) (λ refusal. (reply ≡ refused refusal) × (new.tree ≡ old.tree))
    pub root_len : ((r.kind ≡ emptying) × (reply ≡ done)) ⊎ ((root_entry new.reading).stream_len ≡ (root_entry old.reading).stream_len)
    pub unfailed : new.failed ≡ false

  -- It broke off where the rules have no refusal of their own; or memory lacked before they were asked, and all is as before
  pub record Breaks (old : File) (r : Rule) (reply : Reply) (new : File) : Type 0 where
    pub refusal : Refusal
    pub can : CallCanBreak r.kind refusal
    pub told : reply ≡ refused refusal
    pub allowed : ((refusal ≡ out_of_memory) × ((new.tree ≡ old.tree) × (new.failed ≡ false))) ⊎ (refusal_in r ≡ None)
    pub left : IsLeft r.kind old new

  -- one call by path
  pub record CallStep (old : File) (r : Rule) (may_lose : ℕ → Type 0) (grows : ℕ) (reply : Reply) (new : File) : Type 0 where
    pub runs : MatchBool old.failed (OnFailed r.kind reply) (FollowsRule old r reply new ⊎ Breaks old r reply new)
    pub leaves : Leaves old new may_lose grows (((refusal : Refusal) × (reply ≡ refused refusal)) ⊎ (is_changing r.kind ≡ false)) (GrowsTightly old new × (new.tree ≡ tree_of new.bytes new.reading))

  -- ---- calls on a stream

  -- what stays the same for its streams
  abbrev pub setting : StreamSetting
  setting = record { limit = max_stream_len version; sound = sound }

  module _ {A : Type 0} where
    -- Why an operation blames the numbers: a length that is too long leaves the file unfailed; else the stream has no room for what is kept back of it,
    -- or, for a write as long as the stream's buffer, not for one byte behind that; and the file is full, unless it failed
    abbrev pub FullFor : List (List ℕ) → StreamState → (old : File) → StreamOp A → (new : File) → Type 0
    FullFor names s old (SetLen len) new = (new.failed ≡ false) × HasNoRoomFor cases new.reading names len
    FullFor names s old (Write bytes) new =
        (HasNoRoomForKept cases old names s ⊎ ((65536 ≤ length bytes.items) × HasNoRoomBehind cases version old names s)) × Unfailed new (IsFull max_regular_sector new.reading)
    FullFor names s old other new = HasNoRoomForKept cases old names s × Unfailed new (IsFull max_regular_sector new.reading)

    -- one operation on the stream at these names
    pub record OpRuns (names : List (List ℕ)) (s : StreamState) (old : File) (op : StreamOp A) (reply : StreamReply) (t : StreamState) (new : File) : Type 0 where
      pub runs : MatchBool old.failed (OpOnFailed op reply) ((OpStep setting s op reply t × (new.failed ≡ false)) ⊎ OpBreaks setting s op reply t new.failed)
      pub leaves : Leaves old new (StandsAt cases old.reading names) 0 (((refusal : Refusal) × (reply ≡ not_done refusal)) ⊎ (may_write s op ≡ false))
          ((is_second s op ≡ false → GrowsTightly old new) × DiffersInContent cases names old new)
      pub full : IsTrue sound → reply ≡ not_done file_full → Unfailed old (FullFor names s old op new)

    -- one after the other, each with a reply of its kind
    abbrev pub OpsRun : List (List ℕ) → StreamState → File → List (StreamOp A) → List (TheAnswer A) → StreamState → File → Type 0
    OpsRun names s old [] [] t new = (t ≡ s) × (new ≡ old)
    OpsRun names s old (op ∷ ops) (answer ∷ answers) t new = (reply : StreamReply) × (answer_of op answer ≡ Some reply)
        × (middle : StreamState) × (between : File) × OpRuns names s old op reply middle between × OpsRun names middle between ops answers t new
    OpsRun names s old ops answers t new = ⊥

  -- Closing writes out what is pending; only that can be refused, and the file is failed then. Else a sound file has the stream's list
  pub record Closing (names : List (List ℕ)) (tree : Tree) (s : StreamState) (old : File) (closing : Option Refusal) (new : File) : Type 0 where
    pub closes : MatchBool old.failed (closing ≡ Some failed_earlier) (MatchOption closing (new.failed ≡ false) (λ r. IsTrue s.pending × BlamesOneOf ⊤ ⊤ ⊤ r × (new.failed ≡ true)))
    pub closed : Unfailed new (new.tree ≡ (if sound then content_changed_at cases s.content names tree else tree))
    pub leaves : Leaves old new (StandsAt cases old.reading names) 0 (s.pending ≡ false) (GrowsTightly old new × DiffersInContent cases names old new × (new.tree ≡ tree_of new.bytes new.reading))
    pub full : IsTrue sound → closing ≡ Some file_full → Unfailed old (HasNoRoomForKept cases old names s)

  -- ---- commands

  module _ {A : Type 0} where
    -- a call that blames the numbers leaves the file unfailed, and it has no entry left; one that makes storages in turn may have made some
    abbrev pub FullCall : File → Command A → File → Type 0
    FullCall old (CreateStorageAll path moment) new = HasNoEntryOnTheWay cases version old (chars (string_bytes path)) moment new
    FullCall old other new = (new.failed ≡ false) × HasNoEntry new.reading

    -- One that was refused for memory leaves it unfailed, but for those of several steps: one that makes storages in turn, or takes all that is in one
    -- away, or takes away a stream that has bytes
    abbrev pub MemoryCall : File → Command A → File → Type 0
    MemoryCall old (CreateStorageAll path moment) new = ⊤
    MemoryCall old (RemoveStorageAll path) new = ⊤
    MemoryCall old (RemoveStream path) new = (new.failed ≡ false) ⊎ ((k : ℕ) × IsAtPath cases old.reading (chars (string_bytes path)) k × (0 < (entry_at old.reading.entries k).stream_len))
    MemoryCall old other new = new.failed ≡ false

    -- the call of a command, or of the opening of its stream
    abbrev pub CallRuns : File → Command A → Reply → File → Type 0
    CallRuns old command reply new = CallStep old (rule_of cases (root_entry old.reading).stream_len old.tree command) (MayLose cases old.reading command)
        (slots_for version (rule_of cases 0 (tree_of old.bytes old.reading) command).kind (most_made command)) reply new
        × (IsTrue sound → Unfailed old ((reply ≡ refused file_full → FullCall old command new) × (reply ≡ refused out_of_memory → MemoryCall old command new)))

    -- an opening that succeeds, the operations in their order, refused or not, and the closing
    pub record StreamRuns (old : File) (opening : Command A) (path : List ℕ) (ops : List (StreamOp A)) (answers : List (TheAnswer A)) (closing : Option Refusal) (new : File) : Type 0 where
      pub opened : File
      pub opens : CallRuns old opening done opened
      pub stream : StreamState
      pub worked : File
      pub works : OpsRun (names_at path) (opened_by_path cases opened.tree path) opened ops answers stream worked
      pub closes : Closing (names_at path) opened.tree stream worked closing new

    -- one command, with a reply of its kind
    abbrev pub Does : File → Command A → TheReply A → File → Type 0
    Does old (Stream how path ops) (reply.Stream (Ok works)) new = StreamRuns old (Stream how path ops) (chars (string_bytes path)) ops.items works.0.items (told (λ _. None) Some works.1) new
    Does old (Stream how path ops) (reply.Stream (Err e)) new = CallRuns old (Stream how path ops) (refused (refusal_of_error e)) new
    Does old (Stream how path ops) other new = ⊥
    Does old (Exists path) given new = (b : Bool) × (given ≡ reply.Flag b) × CallRuns old (Exists path) (flag b) new
    Does old (IsStream path) given new = (b : Bool) × (given ≡ reply.Flag b) × CallRuns old (IsStream path) (flag b) new
    Does old (IsStorage path) given new = (b : Bool) × (given ≡ reply.Flag b) × CallRuns old (IsStorage path) (flag b) new
    Does old (Entry path) given new = (result : Result EntryInfo Error) × (given ≡ reply.Entry result) × CallRuns old (Entry path) (told one_entry refused result) new
    Does old (ReadStorage path) given new = (result : Result (Vec EntryInfo A) Error) × (given ≡ reply.Entries result) × CallRuns old (ReadStorage path) (told (λ list. entries list.items) refused result) new
    Does old (WalkStorage path) given new = (result : Result (Vec EntryInfo A) Error) × (given ≡ reply.Entries result) × CallRuns old (WalkStorage path) (told (λ list. entries list.items) refused result) new
    Does old call (reply.Done result) new = CallRuns old call (told (λ _. done) refused result) new
    Does old call other new = ⊥

    -- a list of commands: each begins in the file that the one before it has left
    abbrev pub Runs : File → List (Command A) → List (TheReply A) → File → Type 0
    Runs old [] [] new = new ≡ old
    Runs old (command ∷ commands) (reply ∷ replies) new = (middle : File) × Does old command reply middle × Runs middle commands replies new
    Runs old commands replies new = ⊥
