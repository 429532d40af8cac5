-- What the rules say of each call by path, and of the opening of a stream.
use Rattle.std.specs.Prelude.{ℕ, ◌≡◌, List, Bool, Option, Some, None, chars, length, string_bytes, if◌then◌else◌, ◌++◌, ⊤}
use Rattle.cfb_format.specs.Names.{Cases}
use Rattle.cfb_format.specs.Path.{names_of_path}
use Rattle.cfb_format.specs.Reading.{Reading}
use Rattle.cfb_format.specs.Tree.{Object, StorageInfo, StreamInfo, Tree}
use Rattle.cfb_rules.specs.CallChanges.{at_path, fields_changed_at, removed_at, same_stream, storage_added_at, stream_added_at, stream_created_at, touched_at}
use Rattle.cfb_rules.specs.CallRefusals.{all_creation_refusal, always, creation_refusal, inner_refusal, is_a_storage, is_a_stream, is_empty_storage, never, object_refusal, path_refusal}
use Rattle.cfb_rules.specs.CallReplies.{entry_reply, has_object, path_reply, read_reply, walk_reply}
use Rattle.cfb_rules.specs.Calls.{Reply, done, flag}
use Rattle.cfb_rules.specs.Finding.{object_at}
use Rattle.cfb_rules.specs.Lists.{names_at}
use Rattle.cfb_rules.specs.Refusal.{Refusal}
use Rattle.cfb_rules.specs.Runs.{BlamesOneOf}
use Rattle.cfb_rules.specs.Steps.{CallKind, asking, asking_freely, changing, creating, emptying, flushing, is_there, opening, opening_to_read}
use Rattle.cfb_commands.specs.declared.command.Command.{Command}
use Rattle.cfb_commands.specs.declared.command.Command.TheVariants as command
use Rattle.cfb_commands.specs.declared.command.Opening.TheVariants as how
use Rattle.cfb_promise.specs.Files.{IsAtPath, StandsAt, all_added}

-- the kind of the call; why it is refused, if it is; and else its reply, and the tree after it
pub record Rule : Type 0 where
  pub kind : CallKind
  pub refusal : Option Refusal
  pub reply : Reply
  pub tree : Tree

abbrev pub rule : CallKind → Option Refusal → Reply → Tree → Rule
rule kind refusal reply tree = record { kind = kind; refusal = refusal; reply = reply; tree = tree }

module _ (cases : Cases) (root_len : ℕ) (tree : Tree) where
  -- something is there, and the test holds of it
  abbrev pub there : (Object → Bool) → List (List ℕ) → Option Refusal
  there test names = object_refusal test (object_at cases tree names)

  -- a call that changes what the names of its path stand for
  abbrev pub changes : CallKind → (List (List ℕ) → Option Refusal) → (List (List ℕ) → Tree → Tree) → (path : List ℕ) → Rule
  changes kind refusal_at change path = rule kind (path_refusal refusal_at path) done (at_path change path tree)

  -- a call that changes fields of what is there, if the test holds of it
  abbrev pub sets : (Object → Bool) → (StorageInfo → StorageInfo) → (StreamInfo → StreamInfo) → (path : List ℕ) → Rule
  sets test of_storage of_stream path = changes changing (there test) (fields_changed_at cases of_storage of_stream) path

  -- a call that tells of it
  abbrev pub asks : (List (List ℕ) → Option Refusal) → (List (List ℕ) → Reply) → (path : List ℕ) → Rule
  asks refusal_at reply_at path = rule asking (path_refusal refusal_at path) (path_reply reply_at path) tree

  module _ {A : Type 0} where
    -- one row a command: of what is there `create_stream` takes the bytes away, and `create_storage_all` makes nothing
    abbrev pub rule_of : Command A → Rule
    rule_of (command.CreateStorage path moment) = changes creating (creation_refusal cases tree never) (storage_added_at cases moment) (chars (string_bytes path))
    rule_of (command.CreateStorageAll path moment) =
        changes (if is_there cases tree (chars (string_bytes path)) then changing else creating) (all_creation_refusal cases tree) (all_added cases moment) (chars (string_bytes path))
    rule_of (command.RemoveStorage path) = changes changing (inner_refusal cases tree is_empty_storage) (removed_at cases) (chars (string_bytes path))
    rule_of (command.RemoveStorageAll path) = changes emptying (there always) (removed_at cases) (chars (string_bytes path))
    rule_of (command.RemoveStream path) = changes emptying (there is_a_stream) (removed_at cases) (chars (string_bytes path))
    rule_of (command.SetStorageClsid path clsid) = sets is_a_storage (λ info. record info { clsid = clsid }) same_stream (chars (string_bytes path))
    rule_of (command.SetStateBits path bits) = sets always (λ info. record info { state_bits = bits }) (λ info. record info { state_bits = bits }) (chars (string_bytes path))
    rule_of (command.SetCreatedTime path moment) = sets always (λ info. record info { created = moment }) same_stream (chars (string_bytes path))
    rule_of (command.SetModifiedTime path moment) = sets always (λ info. record info { modified = moment }) same_stream (chars (string_bytes path))
    rule_of (command.Touch path moment) = changes changing (there always) (touched_at cases moment) (chars (string_bytes path))
    rule_of command.Flush = rule flushing None done tree
    rule_of (command.Exists path) = rule asking_freely None (flag (has_object cases tree always (chars (string_bytes path)))) tree
    rule_of (command.IsStream path) = rule asking_freely None (flag (has_object cases tree is_a_stream (chars (string_bytes path)))) tree
    rule_of (command.IsStorage path) = rule asking_freely None (flag (has_object cases tree is_a_storage (chars (string_bytes path)))) tree
    rule_of (command.Entry path) = asks (there always) (entry_reply cases root_len tree) (chars (string_bytes path))
    rule_of (command.ReadStorage path) = asks (there is_a_storage) (read_reply cases tree) (chars (string_bytes path))
    rule_of (command.WalkStorage path) = asks (there always) (walk_reply cases root_len tree) (chars (string_bytes path))
    rule_of (command.Stream how.Open path ops) = rule opening (path_refusal (there is_a_stream) (chars (string_bytes path))) done tree
    rule_of (command.Stream how.Create path ops) = changes (if is_there cases tree (chars (string_bytes path)) then emptying else creating)
        (creation_refusal cases tree is_a_stream) (stream_created_at cases) (chars (string_bytes path))
    rule_of (command.Stream how.CreateNew path ops) = changes creating (creation_refusal cases tree never) (stream_added_at cases) (chars (string_bytes path))

-- Which refusals beside the rules a call can answer: only one that makes an object needs a number, a flush needs no memory, and a question no medium.
-- The opening of a stream stands in the last line: a clause of its own, not of these three functions, says that it needs no medium either
abbrev pub CallCanBreak : CallKind → Refusal → Type 0
CallCanBreak creating refusal = BlamesOneOf ⊤ ⊤ ⊤ refusal
CallCanBreak flushing refusal = BlamesOneOf ⊤ ⊥ ⊥ refusal
CallCanBreak opening_to_read refusal = BlamesOneOf ⊥ ⊤ ⊥ refusal
CallCanBreak asking refusal = BlamesOneOf ⊥ ⊤ ⊥ refusal
CallCanBreak asking_freely refusal = BlamesOneOf ⊥ ⊥ ⊥ refusal
CallCanBreak kind refusal = BlamesOneOf ⊤ ⊤ ⊥ refusal

module _ {A : Type 0} where
  -- the call may empty the stream of this entry, or take it away: by its path, or by that of a storage above it, which goes with all in it
  abbrev pub MayLose : Cases → Reading → Command A → (k : ℕ) → Type 0
  MayLose cases r (command.Stream how.Create path ops) k = IsAtPath cases r (chars (string_bytes path)) k
  MayLose cases r (command.RemoveStream path) k = IsAtPath cases r (chars (string_bytes path)) k
  MayLose cases r (command.RemoveStorageAll path) k = (names below : List (List ℕ)) × (names_of_path (chars (string_bytes path)) ≡ Some names) × StandsAt cases r (names ++ below) k
  MayLose cases r other k = ⊥

  -- how many storages a call may make in turn
  abbrev pub most_made : Command A → ℕ
  most_made (command.CreateStorageAll path moment) = length (names_at (chars (string_bytes path)))
  most_made other = 0
