-- What commands are answered once a file has failed, and how what only looks is refused on any file.
use Rattle.std.specs.Prelude.{◌≡◌, ◌||◌, Bool, true, false, IfErr, IsTrue, List, [], ◌∷◌, Option, is_some, ⊤}
use Rattle.cfb_commands.specs.cfb_rules.Calls.{Call, Reply, done, entries, flag, flush, one_entry, refused}
use Rattle.cfb_commands.specs.cfb_rules.Lists.{Command, CommandReply, by_path, on_stream, replied, streamed}
use Rattle.cfb_commands.specs.cfb_rules.Refusal.{Refusal, already_exists, failed_earlier, file_full, invalid_data, invalid_input, medium_failed, not_found, not_sound, out_of_memory}
use Rattle.cfb_commands.specs.cfb_rules.Steps.{CallKind, asking, asking_freely, changing, creating, emptying, flushing, kind_of, opening, opening_to_read}
use Rattle.cfb_commands.specs.cfb_agreement.Files.{FileState, is_failed}
use Rattle.cfb_compound_file.specs.Asking.{IsOfAsking}
use Rattle.cfb_commands.specs.declared.command.Reply.{Reply as TheReply}
use Rattle.cfb_commands.specs.declared.command.Reply.TheVariants as reply

-- ---- on a failed file

-- the call looks at the tree, and does nothing else
abbrev pub only_looks : CallKind → Bool
only_looks creating = false
only_looks emptying = false
only_looks changing = false
only_looks flushing = false
only_looks opening = false
only_looks opening_to_read = false
only_looks asking = true
only_looks asking_freely = true

-- what a failed file answers to all other commands
abbrev pub turned_away : CommandReply
turned_away = replied (refused failed_earlier)

-- the command was answered as on a failed file: unless it only looks, it was turned away
abbrev pub IsAnsweredFailed : Command → CommandReply → Type 0
IsAnsweredFailed (by_path call) reply = only_looks (kind_of call) ≡ false → reply ≡ turned_away
IsAnsweredFailed (on_stream how path calls) reply = reply ≡ turned_away

-- ---- from which reply on

abbrev pub is_failed_earlier : Refusal → Bool
is_failed_earlier not_found = false
is_failed_earlier already_exists = false
is_failed_earlier invalid_input = false
is_failed_earlier invalid_data = false
is_failed_earlier medium_failed = false
is_failed_earlier out_of_memory = false
is_failed_earlier file_full = false
is_failed_earlier not_sound = false
is_failed_earlier failed_earlier = true

-- the reply says that the file failed earlier
abbrev pub says_failed : Reply → Bool
says_failed done = false
says_failed (flag b) = false
says_failed (one_entry e) = false
says_failed (entries es) = false
says_failed (refused refusal) = is_failed_earlier refusal

abbrev pub is_refusal : Reply → Bool
is_refusal done = false
is_refusal (flag b) = false
is_refusal (one_entry e) = false
is_refusal (entries es) = false
is_refusal (refused refusal) = true

-- the reply to a call by path tells that the file has failed: it says so, or it refuses a flush
abbrev pub call_tells_failure : Call → Reply → Bool
call_tells_failure flush reply = is_refusal reply
call_tells_failure call reply = says_failed reply

-- and the reply to a command: also where a closing was refused
abbrev pub tells_failure : Command → CommandReply → Bool
tells_failure (by_path call) (replied reply) = call_tells_failure call reply
tells_failure (by_path call) (streamed replies closing) = is_some closing
tells_failure (on_stream how path calls) (replied reply) = says_failed reply
tells_failure (on_stream how path calls) (streamed replies closing) = is_some closing

-- On a file that has failed, and behind the first reply that tells that it has, each command is answered as on a failed file; and the file is
-- one in the end.
abbrev pub OnceFailed : (failed : Bool) → List Command → List CommandReply → (now : FileState) → Type 0
OnceFailed failed [] [] now = IsTrue failed → is_failed now ≡ true
OnceFailed failed [] (reply ∷ replies) now = ⊥
OnceFailed failed (command ∷ commands) [] now = ⊥
OnceFailed failed (command ∷ commands) (reply ∷ replies) now =
    (IsTrue failed → IsAnsweredFailed command reply) × OnceFailed (failed || tells_failure command reply) commands replies now

-- ---- on any file

module _ {A : Type 0} where
  -- what only looks was refused, if it was, for its path or for want of memory
  abbrev pub IsAsked : TheReply A → Type 0
  IsAsked (reply.Done result) = ⊤
  IsAsked (reply.Flag b) = ⊤
  IsAsked (reply.Entry result) = IfErr result IsOfAsking
  IsAsked (reply.Entries result) = IfErr result IsOfAsking
  IsAsked (reply.Stream result) = ⊤
