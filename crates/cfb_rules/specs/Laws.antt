-- What the rules of calls promise.
use Rattle.std.specs.Prelude.{ℕ, ◌+◌, ◌-◌, ◌^◌, ◌≡◌, ◌≢◌, ◌<◌, ◌≤◌, ◌⊎◌, List, [], ◌∷◌, Bool, true, false, Some, None, length, ⊤}
use Rattle.cfb_format.specs.Names.{Cases}
use Rattle.cfb_format.specs.Path.{names_of_path}
use Rattle.cfb_format.specs.Tree.{StorageInfo, StreamInfo, Objects, nothing, Tree, IsOrdered, Object, a_storage, a_stream}
use Rattle.cfb_rules.specs.Refusal.{Refusal, medium_failed, file_full, is_of_rules}
use Rattle.cfb_rules.specs.Calls.{Call, create_storage, create_storage_all, create_stream, create_new_stream, remove_storage, remove_storage_all, remove_stream, set_storage_clsid, set_state_bits, set_created_time, set_modified_time, touch, flush, Reply, done, refused}
use Rattle.cfb_rules.specs.CallChanges.{new_storage, new_stream, changed_names}
use Rattle.cfb_rules.specs.Finding.{object_at, PartWays}
use Rattle.cfb_rules.specs.Steps.{creating, emptying, kind_on, Step}
use Rattle.cfb_rules.specs.StreamCalls.{StreamSetting, StreamState, StreamCall, flush, StreamReply, not_done, StreamStep, IsStream}
use Rattle.cfb_rules.specs.Runs.{Setting, TreeState, any_cause, CallRuns, appending, resizing, work_of, StreamRun, StreamCallRuns, ClosedTree}
use Rattle.cfb_rules.specs.Lists.{Command, CommandReply, Deed, FileView, CallStep, IsLegalRun, IsLegal, blame_in}

-- ---- what is answered

-- a refused call changes no tree
abbrev pub RefusedCallsChangeNothing : Type 0
RefusedCallsChangeNothing = (cases : Cases) (sound : Bool) (root_len : ℕ) (tree tree' : Tree) (call : Call) (refusal : Refusal)
    → Step cases sound root_len tree call (refused refusal) tree' → tree' ≡ tree

-- the rules refuse by kinds of their own
abbrev pub RulesRefuseByTheirKinds : Type 0
RulesRefuseByTheirKinds = (cases : Cases) (sound : Bool) (root_len : ℕ) (tree tree' : Tree) (call : Call) (refusal : Refusal)
    → Step cases sound root_len tree call (refused refusal) tree' → is_of_rules refusal ≡ true

-- some reply and tree fit each call, and no others do
abbrev pub SomeReplyFits : Type 0
SomeReplyFits = (cases : Cases) (sound : Bool) (root_len : ℕ) (tree : Tree) (call : Call)
    → (reply : Reply) × (tree' : Tree) × Step cases sound root_len tree call reply tree'

abbrev pub OneReplyFits : Type 0
OneReplyFits = (cases : Cases) (sound : Bool) (root_len : ℕ) (tree t u : Tree) (call : Call) (r s : Reply)
    → Step cases sound root_len tree call r t → Step cases sound root_len tree call s u → (r ≡ s) × (t ≡ u)

-- a call on a stream that the rules refuse leaves its state as it was
abbrev pub RefusedStreamCallsChangeNothing : Type 0
RefusedStreamCallsChangeNothing = (setting : StreamSetting) (old new : StreamState) (call : StreamCall) (refusal : Refusal)
    → StreamStep setting old call (not_done refusal) new → new ≡ old

-- and it is refused by the kinds of the rules
abbrev pub StreamRulesRefuseByTheirKinds : Type 0
StreamRulesRefuseByTheirKinds = (setting : StreamSetting) (old new : StreamState) (call : StreamCall) (refusal : Refusal)
    → StreamStep setting old call (not_done refusal) new → is_of_rules refusal ≡ true

-- some reply and state fit each call on a stream
abbrev pub SomeStreamReplyFits : Type 0
SomeStreamReplyFits = (setting : StreamSetting) (old : StreamState) (call : StreamCall) → (reply : StreamReply) × (new : StreamState) × StreamStep setting old call reply new

-- the position and what is lent stay before the end, and the version's greatest length is kept
abbrev pub StreamsKeepTheirBounds : Type 0
StreamsKeepTheirBounds = (setting : StreamSetting) (old new : StreamState) (call : StreamCall) (reply : StreamReply)
    → IsStream setting old → StreamStep setting old call reply new → IsStream setting new

-- ---- what is created

-- the call was done on a file with the first tree, its path has these names, and the second tree came of it
pub record IsDone (cases : Cases) (call : List ℕ → Call) (names : List (List ℕ)) (tree tree' : Tree) : Type 0 where
  pub path : List ℕ
  pub sound : Bool
  pub root_len : ℕ
  pub named : names_of_path path ≡ Some names
  pub step : Step cases sound root_len tree (call path) done tree'

-- a storage stood at these names, and stands there with these fields and what is in it
abbrev pub StorageTurns : Cases → (StorageInfo → StorageInfo) → List (List ℕ) → Tree → Tree → Type 0
StorageTurns cases fields names tree tree' = (info : StorageInfo) × (inside : Objects)
    × (object_at cases tree names ≡ Some (a_storage info inside)) × (object_at cases tree' names ≡ Some (a_storage (fields info) inside))

-- the same of a stream
abbrev pub StreamTurns : Cases → (StreamInfo → StreamInfo) → List (List ℕ) → Tree → Tree → Type 0
StreamTurns cases fields names tree tree' = (info : StreamInfo)
    × (object_at cases tree names ≡ Some (a_stream info)) × (object_at cases tree' names ≡ Some (a_stream (fields info)))

-- nothing stood at these names, and this object stands there
abbrev pub Appears : Cases → Object → List (List ℕ) → Tree → Tree → Type 0
Appears cases object names tree tree' = (object_at cases tree names ≡ None) × (object_at cases tree' names ≡ Some object)

-- a stream that was created stands at its path where nothing was, and is empty
abbrev pub CreatedStreamIsFound : Type 0
CreatedStreamIsFound = (cases : Cases) (names : List (List ℕ)) (tree tree' : Tree)
    → IsDone cases (λ path. create_new_stream path) names tree tree' → Appears cases (a_stream new_stream) names tree tree'

-- or there was one: it keeps its bits, and has no bytes
abbrev pub EmptiedStreamIsFound : Type 0
EmptiedStreamIsFound = (cases : Cases) (names : List (List ℕ)) (tree tree' : Tree)
    → IsDone cases (λ path. create_stream path) names tree tree'
    → Appears cases (a_stream (record { state_bits = 0; len = 0; content = [] })) names tree tree'
    ⊎ StreamTurns cases (λ info. record { state_bits = info.state_bits; len = 0; content = [] }) names tree tree'

-- a storage that was created stands at its path where nothing was, and nothing is in it
abbrev pub CreatedStorageIsFound : Type 0
CreatedStorageIsFound = (cases : Cases) (moment : ℕ) (names : List (List ℕ)) (tree tree' : Tree)
    → IsDone cases (λ path. create_storage path moment) names tree tree' → Appears cases (a_storage (new_storage moment) nothing) names tree tree'

-- or there was one, and it is as before, where the storages on the way are created too
abbrev pub AddedStorageIsFound : Type 0
AddedStorageIsFound = (cases : Cases) (moment : ℕ) (names : List (List ℕ)) (tree tree' : Tree)
    → IsDone cases (λ path. create_storage_all path moment) names tree tree'
    → Appears cases (a_storage (new_storage moment) nothing) names tree tree' ⊎ StorageTurns cases (λ info. info) names tree tree'

-- ---- what is set

-- the class id of a storage
abbrev pub ClsidIsSet : Type 0
ClsidIsSet = (cases : Cases) (clsid : List ℕ) (names : List (List ℕ)) (tree tree' : Tree)
    → IsDone cases (λ path. set_storage_clsid path clsid) names tree tree' → StorageTurns cases (λ info. record info { clsid = clsid }) names tree tree'

-- the bits of any object
abbrev pub StateBitsAreSet : Type 0
StateBitsAreSet = (cases : Cases) (bits : ℕ) (names : List (List ℕ)) (tree tree' : Tree)
    → IsDone cases (λ path. set_state_bits path bits) names tree tree'
    → StorageTurns cases (λ info. record info { state_bits = bits }) names tree tree'
    ⊎ StreamTurns cases (λ info. record info { state_bits = bits }) names tree tree'

-- the moments of a storage; a stream stays as it is
abbrev pub CreatedTimeIsSet : Type 0
CreatedTimeIsSet = (cases : Cases) (moment : ℕ) (names : List (List ℕ)) (tree tree' : Tree)
    → IsDone cases (λ path. set_created_time path moment) names tree tree'
    → StorageTurns cases (λ info. record info { created = moment }) names tree tree' ⊎ StreamTurns cases (λ info. info) names tree tree'

abbrev pub ModifiedTimeIsSet : Type 0
ModifiedTimeIsSet = (cases : Cases) (moment : ℕ) (names : List (List ℕ)) (tree tree' : Tree)
    → IsDone cases (λ path. set_modified_time path moment) names tree tree'
    → StorageTurns cases (λ info. record info { modified = moment }) names tree tree' ⊎ StreamTurns cases (λ info. info) names tree tree'

-- touching sets the same moment, but of the root none
abbrev pub TouchedTimeIsSet : Type 0
TouchedTimeIsSet = (cases : Cases) (moment : ℕ) (name : List ℕ) (names : List (List ℕ)) (tree tree' : Tree)
    → IsDone cases (λ path. touch path moment) (name ∷ names) tree tree'
    → StorageTurns cases (λ info. record info { modified = moment }) (name ∷ names) tree tree' ⊎ StreamTurns cases (λ info. info) (name ∷ names) tree tree'

abbrev pub RootIsNotTouched : Type 0
RootIsNotTouched = (cases : Cases) (moment : ℕ) (tree tree' : Tree) → IsDone cases (λ path. touch path moment) [] tree tree' → tree' ≡ tree

-- ---- what is removed

-- an object that passes the test stood at these names, and nothing stands there
abbrev pub Vanishes : Cases → (Object → Type 0) → List (List ℕ) → Tree → Tree → Type 0
Vanishes cases IsRight names tree tree' =
    ((object : Object) × (object_at cases tree names ≡ Some object) × IsRight object) × (object_at cases tree' names ≡ None)

-- a storage with nothing in it
abbrev pub RemovedStorageIsGone : Type 0
RemovedStorageIsGone = (cases : Cases) (names : List (List ℕ)) (tree tree' : Tree) → IsOrdered cases tree.objects
    → IsDone cases (λ path. remove_storage path) names tree tree'
    → Vanishes cases (λ object. (info : StorageInfo) × (object ≡ a_storage info nothing)) names tree tree'

-- a stream
abbrev pub RemovedStreamIsGone : Type 0
RemovedStreamIsGone = (cases : Cases) (names : List (List ℕ)) (tree tree' : Tree) → IsOrdered cases tree.objects
    → IsDone cases (λ path. remove_stream path) names tree tree'
    → Vanishes cases (λ object. (info : StreamInfo) × (object ≡ a_stream info)) names tree tree'

-- any object with all that is in it, but of the root only what is in it
abbrev pub RemovedAllIsGone : Type 0
RemovedAllIsGone = (cases : Cases) (name : List ℕ) (names : List (List ℕ)) (tree tree' : Tree) → IsOrdered cases tree.objects
    → IsDone cases (λ path. remove_storage_all path) (name ∷ names) tree tree' → Vanishes cases (λ object. ⊤) (name ∷ names) tree tree'

abbrev pub RootIsEmptied : Type 0
RootIsEmptied = (cases : Cases) (tree tree' : Tree)
    → IsDone cases (λ path. remove_storage_all path) [] tree tree' → tree' ≡ record { root = tree.root; objects = nothing }

-- ---- what stays

-- after a call the names of each storage rise, if they did before
abbrev pub CallsKeepOrder : Type 0
CallsKeepOrder = (cases : Cases) (sound : Bool) (root_len : ℕ) (tree tree' : Tree) (call : Call) (reply : Reply)
    → IsOrdered cases tree.objects → Step cases sound root_len tree call reply tree' → IsOrdered cases tree'.objects

-- what stands at names that part ways with those of a call that changes the tree is as before
abbrev pub OthersAreFoundAsBefore : Type 0
OthersAreFoundAsBefore = (cases : Cases) (sound : Bool) (root_len : ℕ) (tree tree' : Tree) (call : Call) (reply : Reply) (names others : List (List ℕ))
    → changed_names call ≡ Some names → PartWays cases names others → IsOrdered cases tree.objects → Step cases sound root_len tree call reply tree'
    → object_at cases tree' others ≡ object_at cases tree others

-- a call that changes no names changes no tree
abbrev pub OnlyNamedCallsChange : Type 0
OnlyNamedCallsChange = (cases : Cases) (sound : Bool) (root_len : ℕ) (tree tree' : Tree) (call : Call) (reply : Reply)
    → changed_names call ≡ None → Step cases sound root_len tree call reply tree' → tree' ≡ tree

-- the root's entry keeps its length where a call takes no bytes away
abbrev pub RootLenStays : Type 0
RootLenStays = (setting : Setting) (old new : TreeState) (call : Call) (reply : Reply) → CallRuns any_cause setting old call reply new
    → new.failed ≡ false → kind_on setting.cases old.tree call ≢ emptying → new.root_len ≡ old.root_len

-- and where a call is refused all is as before, whatever caused it, unless the file has failed
abbrev pub RefusedCallsKeepAll : Type 0
RefusedCallsKeepAll = (setting : Setting) (old new : TreeState) (call : Call) (refusal : Refusal) → CallRuns any_cause setting old call (refused refusal) new
    → new.failed ≡ false → new ≡ old

-- ---- what a closed stream leaves

-- a stream stands at these names, and this tree came of closing it on an unfailed file
pub record IsClosed (setting : Setting) (names : List (List ℕ)) (stream : StreamState) (tree tree' : Tree) : Type 0 where
  pub path : List ℕ
  pub new : TreeState
  pub named : names_of_path path ≡ Some names
  pub unfailed : new.failed ≡ false
  pub closed : ClosedTree setting tree path stream new
  pub tree_is : tree' ≡ new.tree

-- in a sound file it has its bits and the list
abbrev pub ClosedStreamIsFound : Type 0
ClosedStreamIsFound = (setting : Setting) (names : List (List ℕ)) (stream : StreamState) (tree tree' : Tree) (info : StreamInfo)
    → setting.stream.sound ≡ true → object_at setting.cases tree names ≡ Some (a_stream info) → IsClosed setting names stream tree tree'
    → object_at setting.cases tree' names ≡ Some (a_stream (record { state_bits = info.state_bits; len = length stream.content; content = stream.content }))

-- in one that isn't sound nothing has changed
abbrev pub UnsoundFilesStay : Type 0
UnsoundFilesStay = (setting : Setting) (names : List (List ℕ)) (stream : StreamState) (tree tree' : Tree)
    → setting.stream.sound ≡ false → IsClosed setting names stream tree tree' → tree' ≡ tree

-- and in both what stands at other names is as before, and the names of each storage rise
abbrev pub ClosingSparesOthers : Type 0
ClosingSparesOthers = (setting : Setting) (names others : List (List ℕ)) (stream : StreamState) (tree tree' : Tree)
    → PartWays setting.cases names others → IsClosed setting names stream tree tree'
    → object_at setting.cases tree' others ≡ object_at setting.cases tree others

abbrev pub ClosingKeepsOrder : Type 0
ClosingKeepsOrder = (setting : Setting) (names : List (List ℕ)) (stream : StreamState) (tree tree' : Tree)
    → IsOrdered setting.cases tree.objects → IsClosed setting names stream tree tree' → IsOrdered setting.cases tree'.objects

-- ---- what medium, memory and fullness can do

-- a refused flush leaves the file failed, whatever caused it
abbrev pub RefusedFlushFails : Type 0
RefusedFlushFails = (setting : Setting) (old new : TreeState) (refusal : Refusal)
    → CallRuns any_cause setting old flush (refused refusal) new → new.failed ≡ true

abbrev pub RefusedStreamFlushFails : Type 0
RefusedStreamFlushFails = (setting : StreamSetting) (old new : StreamRun) (refusal : Refusal)
    → StreamCallRuns any_cause setting old flush (not_done refusal) new → new.failed ≡ true

-- only a call that makes an object blames fullness, unless the file failed before
abbrev pub OnlyCreationsAreFull : Type 0
OnlyCreationsAreFull = (setting : Setting) (old new : TreeState) (call : Call) → CallRuns any_cause setting old call (refused file_full) new
    → old.failed ≡ false → kind_on setting.cases old.tree call ≡ creating

-- and with nothing pending, only a stream call that writes at the end or changes the length
abbrev pub CalmWorkIsRarelyFull : Type 0
CalmWorkIsRarelyFull = (setting : StreamSetting) (old new : StreamRun) (call : StreamCall)
    → StreamCallRuns any_cause setting old call (not_done file_full) new → old.failed ≡ false → old.stream.pending ≡ false
    → (work_of old.stream call ≡ appending) ⊎ (work_of old.stream call ≡ resizing)

module _ {S : Type 0} (seen : S → FileView) (promised : S → Deed → S → Type 0) where
  -- where a call blamed fullness and the file has not failed, no entry could be had before it
  abbrev pub FullIsFoundFirst : Type 0
  FullIsFoundFirst = (setting : Setting) (old new : S) (call : Call) → CallStep seen promised setting old call (refused file_full) new
      → (seen old).state.failed ≡ false → (seen new).state.failed ≡ false → (seen old).no_entry

  -- in a list of commands no more answers blame the medium than its count of failures rose, as long as the count stays below its top
  abbrev pub MediumIsBlamedAsItFailed : Type 0
  MediumIsBlamedAsItFailed = (setting : Setting) (old new : S) (commands : List Command) (replies : List CommandReply)
      → IsLegalRun seen promised setting old commands replies new → (seen new).failures < 2 ^ 64 - 1
      → (seen old).failures + blame_in medium_failed replies ≤ (seen new).failures

  -- so where it never rises no answer does
  abbrev pub CalmMediumIsNotBlamed : Type 0
  CalmMediumIsNotBlamed = (setting : Setting) (old new : S) (commands : List Command) (replies : List CommandReply)
      → IsLegalRun seen promised setting old commands replies new → (seen new).failures < 2 ^ 64 - 1 → (seen new).failures ≡ (seen old).failures
      → blame_in medium_failed replies ≡ 0

  -- and where none does it never rose
  abbrev pub UnblamedMediumIsCalm : Type 0
  UnblamedMediumIsCalm = (setting : Setting) (old new : S) (commands : List Command) (replies : List CommandReply)
      → IsLegalRun seen promised setting old commands replies new → blame_in medium_failed replies ≡ 0 → (seen new).failures ≡ (seen old).failures

  -- where no file is full, an entry can be had and no length is too long, none blames fullness
  abbrev pub RoomIsNotBlamed : Type 0
  RoomIsNotBlamed = (setting : Setting) (old new : S) (commands : List Command) (replies : List CommandReply)
      → ((file : S) → (seen file).full → ⊥) → ((file : S) → (seen file).no_entry → ⊥)
      → ((file : S) (names : List (List ℕ)) (len : ℕ) → (seen file).too_long names len → ⊥)
      → IsLegalRun seen promised setting old commands replies new → blame_in file_full replies ≡ 0

  -- what a list of commands answers and makes of a file is legal of its tree
  abbrev pub TreesOfRunsAreLegal : Type 0
  TreesOfRunsAreLegal = (setting : Setting) (old new : S) (commands : List Command) (replies : List CommandReply)
      → IsLegalRun seen promised setting old commands replies new → IsLegal setting (seen old).state commands replies (seen new).state
