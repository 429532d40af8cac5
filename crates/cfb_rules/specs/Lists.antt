-- Lists of commands: single steps between the states of a file, one after the other, in which each refusal has its cause.
use Rattle.std.specs.Prelude.{ℕ, ◌+◌, ◌-◌, ◌^◌, ◌≡◌, ◌⊎◌, List, [], ◌∷◌, false, Option, Some, None, unwrap_or, if◌then◌else◌, ◌==◌, ⊤}
use Rattle.cfb_format.specs.Medium.{Rises}
use Rattle.cfb_format.specs.Path.{names_of_path}
use Rattle.cfb_format.specs.Tree.{Tree}
use Rattle.cfb_rules.specs.Refusal.{Refusal, medium_failed, refusal_number}
use Rattle.cfb_rules.specs.Calls.{Call, create_stream, create_new_stream, open_stream, Reply, done, refused}
use Rattle.cfb_rules.specs.Steps.{kind_of, is_changing}
use Rattle.cfb_rules.specs.StreamCalls.{StreamState, StreamCall, set_len, StreamReply, count, answered, not_done}
use Rattle.cfb_rules.specs.Runs.{Setting, TreeState, Causes, CallRuns, work_of, may_leave_failed, StreamRun, StreamCallRuns, Closes, opened_by_path, ClosedTree}

pub data Opening : Type 0 where
  opens creates creates_new : Opening

-- a call by path; or a stream opened or created, calls on it, and its closing
pub data Command : Type 0 where
  by_path : Call → Command
  on_stream : Opening → (path : List ℕ) → List StreamCall → Command

-- of a stream command: what each operation answered, and why closing was refused, if it was
pub data CommandReply : Type 0 where
  replied : Reply → CommandReply
  streamed : List StreamReply → Option Refusal → CommandReply

-- the call that opens a stream command
abbrev pub opening_call : Opening → List ℕ → Call
opening_call opens path = open_stream path
opening_call creates path = create_stream path
opening_call creates_new path = create_new_stream path

-- ---- how many answers blame one thing

abbrev pub blame_of : (blamed : Refusal) → Refusal → ℕ
blame_of blamed refusal = if refusal_number refusal == refusal_number blamed then 1 else 0

abbrev pub reply_blame : (blamed : Refusal) → Reply → ℕ
reply_blame blamed (refused refusal) = blame_of blamed refusal
reply_blame blamed reply = 0

abbrev pub stream_reply_blame : (blamed : Refusal) → StreamReply → ℕ
stream_reply_blame blamed (not_done refusal) = blame_of blamed refusal
stream_reply_blame blamed reply = 0

abbrev pub stream_replies_blame : (blamed : Refusal) → List StreamReply → ℕ
stream_replies_blame blamed [] = 0
stream_replies_blame blamed (reply ∷ replies) = stream_reply_blame blamed reply + stream_replies_blame blamed replies

abbrev pub closing_blame : (blamed : Refusal) → Option Refusal → ℕ
closing_blame blamed None = 0
closing_blame blamed (Some refusal) = blame_of blamed refusal

abbrev pub command_blame : (blamed : Refusal) → CommandReply → ℕ
command_blame blamed (replied reply) = reply_blame blamed reply
command_blame blamed (streamed replies closing) = stream_replies_blame blamed replies + closing_blame blamed closing

abbrev pub blame_in : (blamed : Refusal) → List CommandReply → ℕ
blame_in blamed [] = 0
blame_in blamed (reply ∷ replies) = command_blame blamed reply + blame_in blamed replies

-- ---- a file between two calls

-- What the rules see of it: its state, how many calls of its medium have failed; and what holds if its tables are full, if no entry can be had,
-- and if a length of the stream at some names needs more sectors than there are numbers for
pub record FileView : Type 1 where
  pub state : TreeState
  pub failures : ℕ
  pub full : Type 0
  pub no_entry : Type 0
  pub too_long : (names : List (List ℕ)) → (len : ℕ) → Type 0

-- a call blames the medium only where its failures rose, and the numbers only where they lack as it leaves the file
abbrev pub causes_between : FileView → FileView → (lacking : Type 0) → Causes
causes_between old new lacking = record { medium = Rises old.failures new.failures; full = lacking }

-- what lacks where a call on the stream at these names blames the numbers: what a length needs, or anything
abbrev pub LacksFor : FileView → List (List ℕ) → StreamCall → Type 0
LacksFor view names (set_len len) = view.too_long names len
LacksFor view names call = view.full

-- but for the tree and the count of failures all is as before: nothing lacks now that didn't
pub record IsSeenAsBefore (old new : FileView) : Type 0 where
  pub root_len : new.state.root_len ≡ old.state.root_len
  pub full : new.full → old.full
  pub no_entry : new.no_entry → old.no_entry
  pub too_long : (names : List (List ℕ)) (len : ℕ) → new.too_long names len → old.too_long names len

-- a call that was refused, and one that isn't to change the file
abbrev pub LeavesAll : Call → Reply → Type 0
LeavesAll call reply = ((refusal : Refusal) × (reply ≡ refused refusal)) ⊎ (is_changing (kind_of call) ≡ false)

-- a call on a stream that was refused, and one that has nothing to write
abbrev pub LeavesFile : StreamState → StreamCall → StreamReply → Type 0
LeavesFile old call reply = ((refusal : Refusal) × (reply ≡ not_done refusal)) ⊎ (may_leave_failed old.pending (work_of old call) ≡ false)

-- the names of a path that has some
abbrev pub names_at : List ℕ → List (List ℕ)
names_at path = unwrap_or (names_of_path path) []

-- what is done to a file, with what it answered: a call by path; a call on the open stream at some names, which leaves another state of it; and
-- its closing
pub data Deed : Type 0 where
  by_call : Call → Reply → Deed
  by_stream_call : (names : List (List ℕ)) → (old : StreamState) → StreamCall → StreamReply → (new : StreamState) → Deed
  by_closing : (names : List (List ℕ)) → StreamState → Option Refusal → Deed

-- ---- steps between the states of a file, of any kind, as the rules see them. The count of failures rises only where the medium is blamed; and
-- beside the rules a step keeps what the calls of such a file promise of the states before and after it

module _ {S : Type 0} (seen : S → FileView) (promised : S → Deed → S → Type 0) (setting : Setting) where
  -- one call by path
  pub record CallStep (old : S) (call : Call) (reply : Reply) (new : S) : Type 0 where
    pub runs : CallRuns (causes_between (seen old) (seen new) (seen new).no_entry) setting (seen old).state call reply (seen new).state
    pub stays : LeavesAll call reply → (seen new).state.failed ≡ false → IsSeenAsBefore (seen old) (seen new)
    pub counted : reply_blame medium_failed reply ≡ 0 → (seen new).failures ≡ (seen old).failures
    pub kept : promised old (by_call call reply) new

  -- the stream while it is open
  abbrev pub stream_in : StreamState → S → StreamRun
  stream_in stream file = record { stream = stream; failed = (seen file).state.failed }

  -- one call on the stream at these names
  pub record StreamCallStep (names : List (List ℕ)) (old : StreamState) (file : S) (call : StreamCall) (reply : StreamReply) (new : StreamState) (file' : S) : Type 0 where
    pub runs : StreamCallRuns (causes_between (seen file) (seen file') (LacksFor (seen file') names call)) setting.stream
        (stream_in old file) call reply (stream_in new file')
    pub stays : LeavesFile old call reply → (seen file').state.failed ≡ false → IsSeenAsBefore (seen file) (seen file')
    pub counted : stream_reply_blame medium_failed reply ≡ 0 → (seen file').failures ≡ (seen file).failures
    pub kept : promised file (by_stream_call names old call reply new) file'

  -- one after the other
  abbrev pub StreamCallsRun : List (List ℕ) → StreamState → S → List StreamCall → List StreamReply → StreamState → S → Type 0
  StreamCallsRun names old file [] [] new file' = (new ≡ old) × (file' ≡ file)
  StreamCallsRun names old file [] (reply ∷ replies) new file' = ⊥
  StreamCallsRun names old file (call ∷ calls) [] new file' = ⊥
  StreamCallsRun names old file (call ∷ calls) (reply ∷ replies) new file' =
      (middle : StreamState) × (between : S) × StreamCallStep names old file call reply middle between
      × StreamCallsRun names middle between calls replies new file'

  -- the closing of a stream that was opened in a file with this tree
  pub record ClosingStep (path : List ℕ) (tree : Tree) (stream : StreamState) (old : S) (closing : Option Refusal) (new : S) : Type 0 where
    pub closes : Closes (causes_between (seen old) (seen new) (seen new).full) (stream_in stream old) closing (seen new).state.failed
    pub closed : ClosedTree setting tree path stream (seen new).state
    pub stays : stream.pending ≡ false → (seen new).state.failed ≡ false → IsSeenAsBefore (seen old) (seen new)
    pub counted : closing_blame medium_failed closing ≡ 0 → (seen new).failures ≡ (seen old).failures
    pub kept : promised old (by_closing (names_at path) stream closing) new

  -- an opening that succeeds, the operations in their order, refused or not, and the closing
  pub record StreamedRun (old : S) (how : Opening) (path : List ℕ) (calls : List StreamCall) (replies : List StreamReply) (closing : Option Refusal) (new : S) : Type 0 where
    pub opened : S
    pub opening : CallStep old (opening_call how path) done opened
    pub stream : StreamState
    pub worked : S
    pub works : StreamCallsRun (names_at path) (opened_by_path setting.cases (seen opened).state.tree path) opened calls replies stream worked
    pub closes : ClosingStep path (seen opened).state.tree stream worked closing new

  -- one command
  abbrev pub CommandRuns : S → Command → CommandReply → S → Type 0
  CommandRuns old (by_path call) (replied reply) new = CallStep old call reply new
  CommandRuns old (by_path call) (streamed replies closing) new = ⊥
  CommandRuns old (on_stream how path calls) (replied reply) new =
      ((refusal : Refusal) × (reply ≡ refused refusal)) × CallStep old (opening_call how path) reply new
  CommandRuns old (on_stream how path calls) (streamed replies closing) new = StreamedRun old how path calls replies closing new

  -- the replies to a list of commands, and what they make of the file: each command begins in the state that the one before it has left
  abbrev pub IsLegalRun : S → List Command → List CommandReply → S → Type 0
  IsLegalRun old [] [] new = new ≡ old
  IsLegalRun old [] (reply ∷ replies) new = ⊥
  IsLegalRun old (command ∷ commands) [] new = ⊥
  IsLegalRun old (command ∷ commands) (reply ∷ replies) new =
      (middle : S) × CommandRuns old command reply middle × IsLegalRun middle commands replies new

-- ---- of trees alone

-- Where nothing but the tree is seen, any refusal may blame anything: the count of failures stands at its top, where it rises no more
abbrev pub tree_alone : TreeState → FileView
tree_alone state = record { state = state; failures = 2 ^ 64 - 1; full = ⊤; no_entry = ⊤; too_long = λ names len. ⊤ }

-- and nothing more is promised
abbrev pub anything : TreeState → Deed → TreeState → Type 0
anything old deed new = ⊤

-- the replies to a list of commands, and what they make of the tree
abbrev pub IsLegal : Setting → TreeState → List Command → List CommandReply → TreeState → Type 0
IsLegal setting old commands replies new = IsLegalRun tree_alone anything setting old commands replies new
