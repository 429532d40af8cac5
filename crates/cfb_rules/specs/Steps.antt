-- A call by path: its reply and the tree after it.
use Rattle.std.specs.Prelude.{ℕ, ◌≡◌, List, Bool, true, false, Option, Some, None, MatchOption, is_some, option_and_then, if◌then◌else◌}
use Rattle.std.specs.Option.{option_map_or}
use Rattle.cfb_format.specs.Names.{Cases}
use Rattle.cfb_format.specs.Path.{names_of_path}
use Rattle.cfb_rules.specs.Refusal.{Refusal, not_sound}
use Rattle.cfb_format.specs.Tree.{Tree}
use Rattle.cfb_rules.specs.Calls.{Call, Reply, create_storage, create_storage_all, create_stream, create_new_stream, open_stream, open_read_stream, remove_storage, remove_storage_all, remove_stream, set_storage_clsid, set_state_bits, set_created_time, set_modified_time, touch, flush, exists, is_stream, is_storage, refused}
use Rattle.cfb_rules.specs.Finding.{object_at}
use Rattle.cfb_rules.specs.CallRefusals.{unless, refusal_of}
use Rattle.cfb_rules.specs.CallChanges.{tree_after}
use Rattle.cfb_rules.specs.CallReplies.{reply_of}

-- what kind of call it is: it makes an object; it takes bytes of streams away; it changes the file otherwise; it writes out; it opens a stream,
-- or one to read alone; it looks and may need memory; it looks and needs none
pub data CallKind : Type 0 where
  creating emptying changing flushing opening opening_to_read asking asking_freely : CallKind

abbrev pub kind_of : Call → CallKind
kind_of (create_storage path moment) = creating
kind_of (create_storage_all path moment) = creating
kind_of (create_stream path) = creating
kind_of (create_new_stream path) = creating
kind_of (open_stream path) = opening
kind_of (open_read_stream path) = opening_to_read
kind_of (remove_storage_all path) = emptying
kind_of (remove_stream path) = emptying
kind_of flush = flushing
kind_of (exists path) = asking_freely
kind_of (is_stream path) = asking_freely
kind_of (is_storage path) = asking_freely
kind_of (remove_storage path) = changing
kind_of (set_storage_clsid path clsid) = changing
kind_of (set_state_bits path bits) = changing
kind_of (set_created_time path moment) = changing
kind_of (set_modified_time path moment) = changing
kind_of (touch path moment) = changing
kind_of question = asking

-- whether something stands at this path
abbrev pub is_there : Cases → Tree → List ℕ → Bool
is_there cases tree path = is_some (option_and_then (object_at cases tree) (names_of_path path))

-- the same in a file that has this tree: of what is there `create_stream` takes the bytes away, and `create_storage_all` makes nothing
abbrev pub kind_on : Cases → Tree → Call → CallKind
kind_on cases tree (create_stream path) = if is_there cases tree path then emptying else creating
kind_on cases tree (create_storage_all path moment) = if is_there cases tree path then changing else creating
kind_on cases tree call = kind_of call

-- only calls that change the file are refused for want of soundness
abbrev pub is_changing : CallKind → Bool
is_changing creating = true
is_changing emptying = true
is_changing changing = true
is_changing kind = false

-- a change that the rules allow is refused for a file that is not sound, even where nothing would change
abbrev pub unsound_refusal : Bool → Call → Option Refusal
unsound_refusal sound call = if is_changing (kind_of call) then unless sound not_sound else None

-- why a call is refused, if it is: by the rules first, and then for a file that isn't sound
abbrev pub outcome : Cases → Bool → Tree → Call → Option Refusal
outcome cases sound tree call = option_map_or (λ refusal. Some refusal) (refusal_of cases tree call) (unsound_refusal sound call)

-- a call on a file that has this tree, medium, memory and fullness aside: its reply and the tree after it
abbrev pub Step : Cases → Bool → ℕ → Tree → Call → Reply → Tree → Type 0
Step cases sound root_len tree call reply tree' = MatchOption (outcome cases sound tree call)
    ((reply ≡ reply_of cases root_len tree call) × (tree' ≡ tree_after cases call tree))
    (λ refusal. (reply ≡ refused refusal) × (tree' ≡ tree))
