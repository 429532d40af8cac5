-- Lists of commands on a file that has failed.
use Rattle.std.proofs.Common.{◌≡◌, ◌∙◌, ℕ, Bool, true, false, List, [], ◌∷◌, ap, arith}
use Rattle.std.specs.Prelude.{◌⊎◌, MatchBool}
use Rattle.cfb_format.specs.declared.error.Error.{Error}
use Rattle.cfb_format.specs.declared.error.Error.TheVariants.{AlreadyExists, Failed, Full, InvalidData, InvalidInput, Medium, Memory, NotFound, Unsound}
use Rattle.cfb_format.specs.declared.medium.MediumFault.{MediumFault}
use Rattle.cfb_commands.specs.cfb_rules.Calls.{Call, Reply, done, entries, flag, one_entry, refused}
use Rattle.cfb_commands.specs.cfb_rules.Lists.{CallStep, Command, CommandReply, CommandRuns, IsLegalRun, Opening, by_path, causes_between, creates, creates_new, on_stream, opening_call, opens, replied, streamed}
use Rattle.cfb_commands.specs.cfb_rules.Refusal.{IsRefusal, Refusal, failed_earlier, refusal_number}
use Rattle.cfb_commands.specs.cfb_rules.Runs.{CallRuns, Causes, FollowsRules, IsBroken, OnFailed, Setting, TreeState}
use Rattle.cfb_commands.specs.cfb_rules.Steps.{CallKind, asking, asking_freely, changing, creating, emptying, flushing, kind_of, opening, opening_to_read}
use Rattle.cfb_commands.specs.cfb_agreement.Files.{FileState, is_failed}
use Rattle.cfb_commands.specs.cfb_path_changes.Answers.{IsRefusedInTurn}
use Rattle.cfb_commands.specs.Laws.{RunsStayIdle}
use Rattle.cfb_commands.specs.Promised.{Changes, IsKeptBy, promised}
use Rattle.cfb_commands.specs.Seen.{Standing, seen_as}
use Rattle.cfb_commands.proofs.CallSteps.{in_turn}

-- ---- one call

abbrev refusal_in : Reply → Refusal
refusal_in (refused refusal) = refusal
refusal_in reply = failed_earlier

-- only `Failed` says that the file failed earlier
not_another : (n : ℕ) (refusal : Refusal) → n ≡ refusal_number refusal → refusal ≡ failed_earlier → n ≡ refusal_number failed_earlier
not_another n refusal is same = is ∙ ap refusal_number same

module _ (can_give : MediumFault → Bool) (old new : FileState) (call : Call) where
  refused_idle : (refusal : Refusal) (e : Error) → IsRefusal refusal e → refusal ≡ failed_earlier → IsRefusedInTurn can_give old call new e → new ≡ old
  refused_idle refusal Failed is same why = why.stays
  refused_idle refusal (NotFound d) is same why = absurd (let w = not_another _ refusal is same in omega (arith, w))
  refused_idle refusal (AlreadyExists d) is same why = absurd (let w = not_another _ refusal is same in omega (arith, w))
  refused_idle refusal (InvalidInput d) is same why = absurd (let w = not_another _ refusal is same in omega (arith, w))
  refused_idle refusal (InvalidData d) is same why = absurd (let w = not_another _ refusal is same in omega (arith, w))
  refused_idle refusal (Medium f) is same why = absurd (let w = not_another _ refusal is same in omega (arith, w))
  refused_idle refusal Memory is same why = absurd (let w = not_another _ refusal is same in omega (arith, w))
  refused_idle refusal Full is same why = absurd (let w = not_another _ refusal is same in omega (arith, w))
  refused_idle refusal Unsound is same why = absurd (let w = not_another _ refusal is same in omega (arith, w))

  change_idle : (reply : Reply) → reply ≡ refused failed_earlier → Changes can_give old call reply new → new ≡ old
  change_idle (refused refusal) is (e, kind, why) = refused_idle refusal e kind (ap refusal_in is) (in_turn can_give old call new e why)
  change_idle done is k = absurd (let w : done ≡ refused failed_earlier = is in cc)
  change_idle (flag b) is k = absurd k
  change_idle (one_entry e) is k = absurd k
  change_idle (entries es) is k = absurd k

  kept_idle : (kind : CallKind) (causes : Causes) (reply : Reply) (now : TreeState) → OnFailed causes kind reply now → IsKeptBy can_give kind old call reply new → new ≡ old
  kept_idle creating causes reply now h k = change_idle reply h.0 k
  kept_idle emptying causes reply now h k = change_idle reply h.0 k
  kept_idle changing causes reply now h k = change_idle reply h.0 k
  kept_idle flushing causes reply now h k = change_idle reply h.0 k.changes
  kept_idle opening causes reply now h k = k.same
  kept_idle opening_to_read causes reply now h k = k.same
  kept_idle asking causes reply now h k = k.same
  kept_idle asking_freely causes reply now h k = k.same

failed_so : (causes : Causes) (setting : Setting) (old new : TreeState) (call : Call) (reply : Reply) → CallRuns causes setting old call reply new → old.failed ≡ true
    → OnFailed causes (kind_of call) reply new
failed_so causes setting old new call reply runs failed = go old.failed failed runs
  where
    go : (b : Bool) → b ≡ true → MatchBool b (OnFailed causes (kind_of call) reply new) (FollowsRules setting old call reply new ⊎ IsBroken causes setting old call reply new)
        → OnFailed causes (kind_of call) reply new
    go true e h = h
    go false e h = absurd (cc)

-- no stream is opened
opens_not : (causes : Causes) (how : Opening) (path : List ℕ) (new : TreeState) → OnFailed causes (kind_of (opening_call how path)) done new → ⊥
opens_not causes opens path new h = let w : done ≡ refused failed_earlier = h.0 in cc
opens_not causes creates path new h = let w : done ≡ refused failed_earlier = h.0 in cc
opens_not causes creates_new path new h = let w : done ≡ refused failed_earlier = h.0 in cc

module _ (can_give : MediumFault → Bool) (setting : Setting) where
  on_failed : (old new : Standing) (call : Call) (reply : Reply) → CallStep seen_as (promised can_give) setting old call reply new → is_failed old.file ≡ true
      → OnFailed (causes_between (seen_as old) (seen_as new) (seen_as new).no_entry) (kind_of call) reply (seen_as new).state
  on_failed old new call reply step failed =
      failed_so (causes_between (seen_as old) (seen_as new) (seen_as new).no_entry) setting (seen_as old).state (seen_as new).state call reply step.runs failed

  call_idle : (old new : Standing) (call : Call) (reply : Reply) → CallStep seen_as (promised can_give) setting old call reply new → is_failed old.file ≡ true → new.file ≡ old.file
  call_idle old new call reply step failed =
      kept_idle can_give old.file new.file call (kind_of call) (causes_between (seen_as old) (seen_as new) (seen_as new).no_entry) reply (seen_as new).state
      (on_failed old new call reply step failed) step.kept.keeps

  -- ---- lists

  command_idle : (old new : Standing) (command : Command) (reply : CommandReply) → CommandRuns seen_as (promised can_give) setting old command reply new → is_failed old.file ≡ true
      → new.file ≡ old.file
  command_idle old new (by_path call) (replied reply) h failed = call_idle old new call reply h failed
  command_idle old new (by_path call) (streamed replies closing) h failed = elim h [ ]
  command_idle old new (on_stream how path calls) (replied reply) h failed = call_idle old new (opening_call how path) reply h.1 failed
  command_idle old new (on_stream how path calls) (streamed replies closing) h failed =
      absurd (opens_not (causes_between (seen_as old) (seen_as h.opened) (seen_as h.opened).no_entry) how path (seen_as h.opened).state
      (on_failed old h.opened (opening_call how path) done h.opening failed))

  pub run_idle : (old new : Standing) (commands : List Command) (replies : List CommandReply) → IsLegalRun seen_as (promised can_give) setting old commands replies new
      → is_failed old.file ≡ true → new.file ≡ old.file
  run_idle old new [] [] h failed = ap (λ (z : Standing). z.file) h
  run_idle old new [] (reply ∷ replies) h failed = elim h [ ]
  run_idle old new (command ∷ commands) [] h failed = elim h [ ]
  run_idle old new (command ∷ commands) (reply ∷ replies) (middle, step, rest) failed =
      let first = command_idle old middle command reply step failed in
      run_idle middle new commands replies rest (ap (λ (file : FileState). is_failed file) first ∙ failed) ∙ first

pub runs_stay_idle : RunsStayIdle
runs_stay_idle can_give setting = run_idle can_give setting
