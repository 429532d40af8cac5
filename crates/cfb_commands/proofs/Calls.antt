-- Calls by path, as commands.
use Rattle.std.proofs.Common.{◌≡◌, ℕ, List, Bool, true, false, refl}
use Rattle.std.specs.Prelude.{◌||◌, Err, IfErr, IsTrue, Ok, OnOk, Result}
use Rattle.cfb_format.specs.declared.error.Error.{Error}
use Rattle.cfb_format.specs.declared.error.Error.TheVariants.{NotFound, AlreadyExists, InvalidInput, InvalidData, Medium, Memory, Full, Unsound, Failed}
use Rattle.cfb_format.specs.declared.medium.MediumFault.{MediumFault}
use Rattle.cfb_format.specs.Refused.{CountsError}
use Rattle.cfb_commands.specs.cfb_rules.Calls.{Call, create_storage_all, done, flush}
use Rattle.cfb_commands.specs.cfb_agreement.Files.{FileState, failures_of}
use Rattle.cfb_commands.specs.cfb_path_changes.Answers.{IsDoneBy, IsRefusedBy, LacksRoomOnTheWay}
use Rattle.cfb_commands.specs.cfb_path_changes.Calls.{CallAnswers, CallAnswersInTurn}
use Rattle.cfb_commands.specs.Promised.{CallKeeps, Changes, RefusesChange}
use Rattle.cfb_commands.specs.Commands.{call_answer}
use Rattle.cfb_commands.proofs.Errors.{refusal_is}

-- ---- a medium that can give more faults

pub counts_wider : (few all : MediumFault → Bool) (old new : ℕ) (e : Error) → ((f : MediumFault) → IsTrue (few f) → IsTrue (all f)) → CountsError few old new e → CountsError all old new e
counts_wider few all old new (Medium f) wider counts = record { can = wider f counts.can; rises = counts.rises }
counts_wider few all old new (NotFound d) wider counts = counts
counts_wider few all old new (AlreadyExists d) wider counts = counts
counts_wider few all old new (InvalidInput d) wider counts = counts
counts_wider few all old new (InvalidData d) wider counts = counts
counts_wider few all old new Memory wider counts = counts
counts_wider few all old new Full wider counts = counts
counts_wider few all old new Unsound wider counts = counts
counts_wider few all old new Failed wider counts = counts

refused_wider : (few all : MediumFault → Bool) (old : FileState) (call : Call) (new : FileState) (e : Error) → ((f : MediumFault) → IsTrue (few f) → IsTrue (all f))
    → IsRefusedBy few old call new e → IsRefusedBy all old call new e
refused_wider few all old call new e wider why = record {
  refusal = why.refusal;
  is = why.is;
  runs = why.runs;
  stays = why.stays;
  order = why.order;
  balanced = why.balanced;
  spares = why.spares;
  quiet = why.quiet;
  unsound = why.unsound;
  counts = counts_wider few all (failures_of old) (failures_of new) e wider why.counts;
}

pub or_so : (a b : Bool) → IsTrue b → IsTrue (a || b)
or_so true b is = refl
or_so false b is = is

-- ---- flushing

pub flush_keeps : {T : Type 0} (few all : MediumFault → Bool) (old new : FileState) (result : Result T Error) → ((f : MediumFault) → IsTrue (few f) → IsTrue (all f))
    → OnOk result (IsDoneBy old flush done new) → OnOk result (new ≡ old) → IfErr result (IsRefusedBy few old flush new)
    → CallKeeps all old flush (call_answer (λ _. done) result) new
flush_keeps few all old new (Ok x) wider is_done same why = record { changes = is_done; same = λ _. same }
flush_keeps few all old new (Err e) wider is_done same why = record { changes = (e, refusal_is e, refused_wider few all old flush new e wider why); same = λ not. absurd (cc) }

-- ---- changes

-- a call that may change the file
pub changed : {T : Type 0} (can_give : MediumFault → Bool) (old : FileState) (call : Call) (new : FileState) (result : Result T Error) → CallAnswers can_give old call result new
    → ((e : Error) → IsRefusedBy can_give old call new e → RefusesChange can_give old call new e) → Changes can_give old call (call_answer (λ _. done) result) new
changed can_give old call new (Ok x) answers so = answers
changed can_give old call new (Err e) answers so = (e, refusal_is e, so e answers)

-- one that makes storages in turn
pub changed_in_turn : {T : Type 0} (can_give : MediumFault → Bool) (old : FileState) (path : List ℕ) (moment : ℕ) (new : FileState) (result : Result T Error)
    → CallAnswersInTurn can_give old (create_storage_all path moment) result new → IfErr result (λ e. e ≡ Full → LacksRoomOnTheWay old path moment new)
    → CallKeeps can_give old (create_storage_all path moment) (call_answer (λ _. done) result) new
changed_in_turn can_give old path moment new (Ok x) answers lacks = answers
changed_in_turn can_give old path moment new (Err e) answers lacks = (e, refusal_is e, (answers, lacks))
