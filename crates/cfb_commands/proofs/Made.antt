-- What a list of commands keeps of a file, by what its calls promise.
use Rattle.std.proofs.Common.{◌≡◌, ℕ, Bool, true, false, List, [], ◌∷◌, sym, subst}
use Rattle.std.specs.Prelude.{◌⊎◌, MatchBool, Option}
use Rattle.cfb_format.specs.declared.medium.MediumFault.{MediumFault}
use Rattle.cfb_commands.specs.cfb_rules.Calls.{Call, Reply, done, entries, flag, one_entry, refused}
use Rattle.cfb_commands.specs.cfb_rules.Lists.{CallStep, Command, CommandReply, CommandRuns, IsLegalRun, Opening, StreamCallsRun, StreamedRun, by_path, causes_between, names_at, on_stream, opening_call, replied, streamed}
use Rattle.cfb_commands.specs.cfb_rules.Refusal.{Refusal}
use Rattle.cfb_commands.specs.cfb_rules.Runs.{CallRuns, Causes, FollowsRules, IsBroken, OnFailed, Setting, TreeState}
use Rattle.cfb_commands.specs.cfb_rules.Steps.{CallKind, asking, asking_freely, changing, creating, emptying, flushing, kind_of, opening, opening_to_read}
use Rattle.cfb_commands.specs.cfb_rules.StreamCalls.{StreamCall, StreamReply, StreamState}
use Rattle.cfb_commands.specs.cfb_agreement.Changes.{KeepsParts}
use Rattle.cfb_commands.specs.cfb_agreement.Files.{FileState, is_failed}
use Rattle.cfb_commands.proofs.cfb_agreement.HeldBytes.{as-made-is-low}
use Rattle.cfb_commands.proofs.cfb_agreement.Parts.{parts-keep-made, parts-same, parts-then}
use Rattle.cfb_commands.specs.Laws.{RunsStayLow}
use Rattle.cfb_commands.specs.Made.{StaysMade}
use Rattle.cfb_commands.specs.Promised.{IsAnswered, Changes, IsKeptBy, StreamKeeps, promised}
use Rattle.cfb_commands.specs.Seen.{Standing, seen_as}
use Rattle.cfb_commands.proofs.CallSteps.{in_turn, keeps_setting}
use Rattle.cfb_commands.proofs.cfb_volume.Settings.{setting-same}
use Rattle.cfb_commands.proofs.cfb_agreement.InTurn.{calm-before, setting-then}

-- ---- nothing, and one thing after the other

pub stays_made_none : (file : FileState) → StaysMade file file
stays_made_none file = record { setting = setting-same file; failed = λ failed. failed; parts = λ calm. parts-same file.base }

pub stays_made_then : (a b c : FileState) → StaysMade a b → StaysMade b c → StaysMade a c
stays_made_then a b c p q = record {
  setting = setting-then a b c p.setting q.setting;
  failed = λ failed. q.failed (p.failed failed);
  parts = λ calm. parts-then a.base b.base c.base (p.parts (calm-before (is_failed b) (is_failed c) q.failed calm)) (q.parts calm);
}

-- ---- one call

on_failed : (causes : Causes) (kind : CallKind) (reply : Reply) (new : TreeState) → OnFailed causes kind reply new → new.failed ≡ true
on_failed causes creating reply new h = h.1
on_failed causes emptying reply new h = h.1
on_failed causes changing reply new h = h.1
on_failed causes flushing reply new h = h.1
on_failed causes opening reply new h = h.1
on_failed causes opening_to_read reply new h = h.1
on_failed causes asking reply new h = h.1
on_failed causes asking_freely reply new h = h.1

stays_failed : (causes : Causes) (setting : Setting) (old new : TreeState) (call : Call) (reply : Reply) → CallRuns causes setting old call reply new → old.failed ≡ true → new.failed ≡ true
stays_failed causes setting old new call reply runs failed = go old.failed failed runs
  where
    go : (b : Bool) → b ≡ true → MatchBool b (OnFailed causes (kind_of call) reply new) (FollowsRules setting old call reply new ⊎ IsBroken causes setting old call reply new) → new.failed ≡ true
    go true e h = on_failed causes (kind_of call) reply new h
    go false e h = absurd (cc)

module _ (can_give : MediumFault → Bool) (old new : FileState) (call : Call) (calm : is_failed new ≡ false) where
  change_parts : (reply : Reply) → Changes can_give old call reply new → KeepsParts old.base new.base
  change_parts done k = k.order.parts calm
  change_parts (refused refusal) (e, is, why) = (in_turn can_give old call new e why).order.parts calm
  change_parts (flag b) k = absurd k
  change_parts (one_entry e) k = absurd k
  change_parts (entries es) k = absurd k

  ask_parts : (reply : Reply) → IsAnswered old call reply new → KeepsParts old.base new.base
  ask_parts reply k = subst (λ (z : FileState). KeepsParts old.base z.base) (sym k.same) (parts-same old.base)

  parts_by : (kind : CallKind) (reply : Reply) → IsKeptBy can_give kind old call reply new → KeepsParts old.base new.base
  parts_by creating reply k = change_parts reply k
  parts_by emptying reply k = change_parts reply k
  parts_by changing reply k = change_parts reply k
  parts_by flushing reply k = change_parts reply k.changes
  parts_by opening reply k = ask_parts reply k
  parts_by opening_to_read reply k = ask_parts reply k
  parts_by asking reply k = ask_parts reply k
  parts_by asking_freely reply k = ask_parts reply k

module _ (can_give : MediumFault → Bool) (setting : Setting) where
  call_stays : (old new : Standing) (call : Call) (reply : Reply) → CallStep seen_as (promised can_give) setting old call reply new → StaysMade old.file new.file
  call_stays old new call reply step = record {
    setting = keeps_setting can_give old.file new.file call reply step.kept.keeps;
    failed = stays_failed (causes_between (seen_as old) (seen_as new) (seen_as new).no_entry) setting (seen_as old).state (seen_as new).state call reply step.runs;
    parts = λ calm. parts_by can_give old.file new.file call calm (kind_of call) reply step.kept.keeps;
  }

  stream_stays : (names : List (List ℕ)) (twice : Bool) (old new : FileState) → StreamKeeps names twice old new → StaysMade old new
  stream_stays names twice old new k = record { setting = k.changes.content.setting; failed = k.changes.failed; parts = k.changes.content.parts }

  -- ---- lists

  calls_stay : (names : List (List ℕ)) (s t : StreamState) (old new : Standing) (calls : List StreamCall) (replies : List StreamReply)
      → StreamCallsRun seen_as (promised can_give) setting names s old calls replies t new → StaysMade old.file new.file
  calls_stay names s t old new [] [] h = subst (λ (z : Standing). StaysMade old.file z.file) (sym h.1) (stays_made_none old.file)
  calls_stay names s t old new [] (reply ∷ replies) h = elim h [ ]
  calls_stay names s t old new (call ∷ calls) [] h = elim h [ ]
  calls_stay names s t old new (call ∷ calls) (reply ∷ replies) (middle, between, step, rest) =
      stays_made_then old.file between.file new.file (stream_stays names _ old.file between.file step.kept.keeps.keeps) (calls_stay names middle t between new calls replies rest)

  streamed_stays : (old new : Standing) (how : Opening) (path : List ℕ) (calls : List StreamCall) (replies : List StreamReply) (closing : Option Refusal)
      → StreamedRun seen_as (promised can_give) setting old how path calls replies closing new → StaysMade old.file new.file
  streamed_stays old new how path calls replies closing h =
      stays_made_then old.file h.opened.file new.file (call_stays old h.opened (opening_call how path) done h.opening)
      (stays_made_then h.opened.file h.worked.file new.file (calls_stay (names_at path) _ h.stream h.opened h.worked calls replies h.works)
      (stream_stays (names_at path) _ h.worked.file new.file h.closes.kept.keeps.keeps))

  command_stays : (old new : Standing) (command : Command) (reply : CommandReply) → CommandRuns seen_as (promised can_give) setting old command reply new → StaysMade old.file new.file
  command_stays old new (by_path call) (replied reply) h = call_stays old new call reply h
  command_stays old new (by_path call) (streamed replies closing) h = elim h [ ]
  command_stays old new (on_stream how path calls) (replied reply) h = call_stays old new (opening_call how path) reply h.1
  command_stays old new (on_stream how path calls) (streamed replies closing) h = streamed_stays old new how path calls replies closing h

  pub run_stays : (old new : Standing) (commands : List Command) (replies : List CommandReply) → IsLegalRun seen_as (promised can_give) setting old commands replies new → StaysMade old.file new.file
  run_stays old new [] [] h = subst (λ (z : Standing). StaysMade old.file z.file) (sym h) (stays_made_none old.file)
  run_stays old new [] (reply ∷ replies) h = elim h [ ]
  run_stays old new (command ∷ commands) [] h = elim h [ ]
  run_stays old new (command ∷ commands) (reply ∷ replies) (middle, step, rest) =
      stays_made_then old.file middle.file new.file (command_stays old middle command reply step) (run_stays middle new commands replies rest)

pub runs_stay_made : (can_give : MediumFault → Bool) (setting : Setting) (old new : Standing) (commands : List Command) (replies : List CommandReply)
    → IsLegalRun seen_as (promised can_give) setting old commands replies new → StaysMade old.file new.file
runs_stay_made can_give setting = run_stays can_give setting

pub runs_stay_low : RunsStayLow
runs_stay_low can_give setting old new commands replies o runs made calm out =
    as-made-is-low new.file.base o (parts-keep-made old.file.base new.file.base ((runs_stay_made can_give setting old new commands replies runs).parts calm) made) out
