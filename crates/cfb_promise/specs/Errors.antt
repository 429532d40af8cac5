-- Replies and the errors in them, as the rules see them.
use Rattle.std.specs.Prelude.{◌≡◌, ◌++◌, List, [], ◌∷◌, Bool, true, false, Option, None, Some, Result, Ok, Err, flat_map}
use Rattle.std.specs.List.{list_all, list_any}
use Rattle.cfb_format.specs.declared.error.Error.{Error}
use Rattle.cfb_format.specs.declared.error.Error.TheVariants.{InvalidInput, NotFound, Medium, Memory, Full}
use Rattle.cfb_format.specs.declared.medium.MediumFault.TheVariants as fault
use Rattle.cfb_rules.specs.Refusal.{Refusal}
use Rattle.cfb_rules.specs.StreamCalls.{StreamReply, count, got, not_done, offset, ready}
use Rattle.cfb_commands.specs.Commands.{refusal_of_error}
use Rattle.cfb_commands.specs.declared.command.StreamOp.{StreamOp}
use Rattle.cfb_commands.specs.declared.command.StreamOp.TheVariants as op
use Rattle.cfb_commands.specs.declared.command.StreamReply.{StreamReply as TheAnswer}
use Rattle.cfb_commands.specs.declared.command.StreamReply.TheVariants as answer
use Rattle.cfb_commands.specs.declared.command.Reply.{Reply as TheReply}
use Rattle.cfb_commands.specs.declared.command.Reply.TheVariants as reply

-- what a result tells: its value, or why it was refused
abbrev pub told : {T X : Type 0} → (T → X) → (Refusal → X) → Result T Error → X
told answer refuse (Ok x) = answer x
told answer refuse (Err e) = refuse (refusal_of_error e)

-- the error, if it is one
abbrev pub error_in : {T : Type 0} → Result T Error → List Error
error_in (Ok x) = []
error_in (Err e) = e ∷ []

module _ {A : Type 0} where
  -- what an operation on a stream was answered; a reply of another kind is none
  abbrev pub answer_of : StreamOp A → TheAnswer A → Option StreamReply
  answer_of (op.Read wanted) (answer.Bytes result) = Some (told (λ bytes. got bytes.items) not_done result)
  answer_of op.ReadToEnd (answer.Bytes result) = Some (told (λ bytes. got bytes.items) not_done result)
  answer_of (op.Write bytes) (answer.Count result) = Some (told count not_done result)
  answer_of (op.Seek to) (answer.Place result) = Some (told offset not_done result)
  answer_of (op.SetLen len) (answer.Done result) = Some (told (λ _. ready) not_done result)
  answer_of op.Flush (answer.Done result) = Some (told (λ _. ready) not_done result)
  answer_of op.Position (answer.Place result) = Some (told offset not_done result)
  answer_of op.Len (answer.Place result) = Some (told offset not_done result)
  answer_of call other = None

  abbrev pub errors_of_answer : TheAnswer A → List Error
  errors_of_answer (answer.Bytes result) = error_in result
  errors_of_answer (answer.Count result) = error_in result
  errors_of_answer (answer.Place result) = error_in result
  errors_of_answer (answer.Done result) = error_in result

  -- all errors that a reply tells
  abbrev pub errors_in : TheReply A → List Error
  errors_in (reply.Done result) = error_in result
  errors_in (reply.Flag b) = []
  errors_in (reply.Entry result) = error_in result
  errors_in (reply.Entries result) = error_in result
  errors_in (reply.Stream (Ok works)) = flat_map errors_of_answer works.0.items ++ error_in works.1
  errors_in (reply.Stream (Err e)) = e ∷ []

-- memory or numbers lacked
abbrev pub tells_lack : Error → Bool
tells_lack (Medium fault) = true
tells_lack Memory = true
tells_lack Full = true
tells_lack e = false

-- a medium in memory fails only where memory is refused
abbrev pub is_of_memory : Error → Bool
is_of_memory (Medium fault.Memory) = true
is_of_memory (Medium other) = false
is_of_memory e = true

-- of a call that only looks, on a failed file too
abbrev pub is_of_asking : Error → Bool
is_of_asking (InvalidInput d) = true
is_of_asking (NotFound d) = true
is_of_asking Memory = true
is_of_asking e = false

module _ {A : Type 0} where
  -- no fault of the medium is told but a refused growth of memory, and of a call that only looks only what such a call can be refused for
  abbrev pub IsGiven : TheReply A → Type 0
  IsGiven (reply.Entry result) = list_all is_of_asking (error_in result) ≡ true
  IsGiven (reply.Entries result) = list_all is_of_asking (error_in result) ≡ true
  IsGiven other = list_all is_of_memory (errors_in other) ≡ true

  -- some reply tells that memory or numbers lacked
  abbrev pub AreTold : List (TheReply A) → Type 0
  AreTold replies = list_any tells_lack (flat_map errors_in replies) ≡ true
