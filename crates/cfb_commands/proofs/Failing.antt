-- Once a file has failed its commands are turned away: so much a legal run says.
use Rattle.std.proofs.Common.{◌≡◌, ℕ, Bool, true, false, List, [], ◌∷◌, ap, arith, inl, inr, refl, subst, sym}
use Rattle.std.specs.Prelude.{◌⊎◌, ◌||◌, IsTrue, MatchBool, MatchOption, Option, Some, None, is_some, ⊤}
use Rattle.cfb_format.specs.declared.medium.MediumFault.{MediumFault}
use Rattle.cfb_commands.specs.cfb_rules.Calls.{Call, Reply, done, flush, refused}
use Rattle.cfb_commands.specs.cfb_rules.Lists.{CallStep, Command, CommandReply, CommandRuns, IsLegalRun, Opening, by_path, causes_between, creates, creates_new, on_stream, opening_call, opens, replied, stream_in, streamed}
use Rattle.cfb_commands.specs.cfb_rules.Refusal.{Refusal, failed_earlier, is_of_rules}
use Rattle.cfb_commands.specs.cfb_rules.Runs.{BlamesOneOf, CallRuns, Causes, Closes, FollowsRules, IsBroken, MayBreak, OnFailed, Setting, StreamRun, TreeState, any_cause}
use Rattle.cfb_commands.specs.cfb_rules.Steps.{CallKind, asking, asking_freely, changing, creating, emptying, flushing, kind_of, kind_on, opening, opening_to_read}
use Rattle.cfb_commands.proofs.cfb_rules.CallBreaks.{flush_fails}
use Rattle.cfb_commands.proofs.cfb_rules.LegalRuns.{call_weaker}
use Rattle.cfb_commands.proofs.cfb_rules.RuleKinds.{ReplyOfRules, Step-rules}
use Rattle.cfb_commands.specs.cfb_agreement.Files.{Agrees, FileState, is_failed}
use Rattle.cfb_commands.specs.cfb_path_changes.Answers.{setting_of}
use Rattle.cfb_commands.specs.Promised.{promised}
use Rattle.cfb_commands.specs.Seen.{Standing, seen_as, standing_at}
use Rattle.cfb_commands.proofs.Made.{run_stays}
use Rattle.cfb_commands.specs.Failing.{IsAnsweredFailed, OnceFailed, call_tells_failure, is_failed_earlier, is_refusal, only_looks, says_failed, tells_failure}
use Rattle.cfb_commands.specs.Working.{RunsLegally}
use Rattle.cfb_commands.proofs.Runs.{some_tree}

-- ---- what no file answers that has not failed

rules_never_say : (r : Refusal) → IsTrue (is_failed_earlier r) → is_of_rules r ≡ true → ⊥
rules_never_say failed_earlier says rules = let w : false ≡ true = rules in cc
rules_never_say r says rules = let w : false ≡ true = says in cc

followed_never_says : (reply : Reply) → IsTrue (says_failed reply) → ReplyOfRules reply → ⊥
followed_never_says (refused r) says rules = rules_never_say r says rules
followed_never_says reply says rules = let w : false ≡ true = says in cc

blamed_never_says : (medium memory full : Type 0) (r : Refusal) → IsTrue (is_failed_earlier r) → BlamesOneOf medium memory full r → ⊥
blamed_never_says medium memory full failed_earlier says blame = blame
blamed_never_says medium memory full r says blame = let w : false ≡ true = says in cc

broken_never_says : (causes : Causes) (kind : CallKind) (r : Refusal) → IsTrue (is_failed_earlier r) → MayBreak causes kind r → ⊥
broken_never_says causes creating r says may = blamed_never_says causes.medium ⊤ causes.full r says may
broken_never_says causes emptying r says may = blamed_never_says causes.medium ⊤ ⊥ r says may
broken_never_says causes changing r says may = blamed_never_says causes.medium ⊤ ⊥ r says may
broken_never_says causes flushing r says may = blamed_never_says causes.medium ⊥ ⊥ r says may
broken_never_says causes opening r says may = blamed_never_says causes.medium ⊤ ⊥ r says may
broken_never_says causes opening_to_read r says may = blamed_never_says ⊥ ⊤ ⊥ r says may
broken_never_says causes asking r says may = blamed_never_says ⊥ ⊤ ⊥ r says may
broken_never_says causes asking_freely r says may = blamed_never_says ⊥ ⊥ ⊥ r says may

-- ---- one call by path

module _ (causes : Causes) (setting : Setting) (old new : TreeState) where
  turned : (kind : CallKind) (reply : Reply) → only_looks kind ≡ false → OnFailed causes kind reply new → reply ≡ refused failed_earlier
  turned creating reply does h = h.0
  turned emptying reply does h = h.0
  turned changing reply does h = h.0
  turned flushing reply does h = h.0
  turned opening reply does h = h.0
  turned opening_to_read reply does h = h.0
  turned asking reply does h = absurd (let w : true ≡ false = does in cc)
  turned asking_freely reply does h = absurd (let w : true ≡ false = does in cc)

  still : (kind : CallKind) (reply : Reply) → OnFailed causes kind reply new → new.failed ≡ true
  still creating reply h = h.1
  still emptying reply h = h.1
  still changing reply h = h.1
  still flushing reply h = h.1
  still opening reply h = h.1
  still opening_to_read reply h = h.1
  still asking reply h = h.1
  still asking_freely reply h = h.1

  -- on a failed file it is turned away
  call_turned : (call : Call) (reply : Reply) → old.failed ≡ true → only_looks (kind_of call) ≡ false → CallRuns causes setting old call reply new → reply ≡ refused failed_earlier
  call_turned call reply failed does = go old.failed failed
    where
      go : (b : Bool) → b ≡ true → MatchBool b (OnFailed causes (kind_of call) reply new) (FollowsRules setting old call reply new ⊎ IsBroken causes setting old call reply new)
          → reply ≡ refused failed_earlier
      go true e h = turned (kind_of call) reply does h
      go false e h = absurd (let w : false ≡ true = e in cc)

  -- where it says that the file failed earlier, it did
  call_said : (call : Call) (reply : Reply) → IsTrue (says_failed reply) → CallRuns causes setting old call reply new → new.failed ≡ true
  call_said call reply says = go old.failed
    where
      go : (b : Bool) → MatchBool b (OnFailed causes (kind_of call) reply new) (FollowsRules setting old call reply new ⊎ IsBroken causes setting old call reply new) → new.failed ≡ true
      go true h = still (kind_of call) reply h
      go false (inl f) =
          absurd (followed_never_says reply says (Step-rules setting.cases setting.stream.sound old.root_len old.tree new.tree call reply f.step))
      go false (inr ((r, may, is, rules), off)) = absurd (broken_never_says causes (kind_on setting.cases old.tree call) r (subst (λ (x : Reply). IsTrue (says_failed x)) is says) may)

  -- a refused flush leaves it failed
  flush_told : (reply : Reply) → IsTrue (is_refusal reply) → CallRuns causes setting old flush reply new → new.failed ≡ true
  flush_told (refused r) tells runs = flush_fails setting old new r (call_weaker causes any_cause (λ x. tt) (λ x. tt) setting old new flush (refused r) runs)
  flush_told reply tells runs = absurd (let w : false ≡ true = tells in cc)

  call_told : (call : Call) (reply : Reply) → IsTrue (call_tells_failure call reply) → CallRuns causes setting old call reply new → new.failed ≡ true
  call_told flush reply tells runs = flush_told reply tells runs
  call_told call reply tells runs = call_said call reply tells runs

-- a refused closing leaves it failed
closing_told : (causes : Causes) (old : StreamRun) (closing : Option Refusal) (failed : Bool) → IsTrue (is_some closing) → Closes causes old closing failed → failed ≡ true
closing_told causes old closing failed = go old.failed closing
  where
    go : (b : Bool) (c : Option Refusal) → IsTrue (is_some c)
        → MatchBool b ((c ≡ Some failed_earlier) × (failed ≡ true))
        (MatchOption c (failed ≡ false) (λ refusal. IsTrue old.stream.pending × BlamesOneOf causes.medium ⊤ causes.full refusal × (failed ≡ true))) → failed ≡ true
    go true c some h = h.1
    go false None some h = absurd (let w : false ≡ true = some in cc)
    go false (Some r) some h = h.2

-- ---- one command

either : {X : Type 0} (a b : Bool) → (IsTrue a → X) → (IsTrue b → X) → IsTrue (a || b) → X
either true b f g h = f refl
either false b f g h = g h

-- an opening does more than look
opening_does : (how : Opening) (path : List ℕ) → only_looks (kind_of (opening_call how path)) ≡ false
opening_does opens path = refl
opening_does creates path = refl
opening_does creates_new path = refl

module _ (can_give : MediumFault → Bool) (setting : Setting) where
  module _ (old new : Standing) where
    step_turned : (call : Call) (reply : Reply) → is_failed old.file ≡ true → only_looks (kind_of call) ≡ false
        → CallStep seen_as (promised can_give) setting old call reply new → reply ≡ refused failed_earlier
    step_turned call reply failed does step =
        call_turned (causes_between (seen_as old) (seen_as new) (seen_as new).no_entry) setting (seen_as old).state (seen_as new).state call reply failed does step.runs

    -- no stream is opened
    none_opened : (how : Opening) (path : List ℕ) → is_failed old.file ≡ true → CallStep seen_as (promised can_give) setting old (opening_call how path) done new → ⊥
    none_opened how path failed step =
        let w : done ≡ refused failed_earlier = step_turned (opening_call how path) done failed (opening_does how path) step in cc

  answered_failed : (old new : Standing) (command : Command) (reply : CommandReply) → is_failed old.file ≡ true
      → CommandRuns seen_as (promised can_give) setting old command reply new → IsAnsweredFailed command reply
  answered_failed old new (by_path call) (replied reply) failed h = λ does. ap replied (step_turned old new call reply failed does h)
  answered_failed old new (by_path call) (streamed replies closing) failed h = elim h [ ]
  answered_failed old new (on_stream how path calls) (replied reply) failed h =
      ap replied (step_turned old new (opening_call how path) reply failed (opening_does how path) h.1)
  answered_failed old new (on_stream how path calls) (streamed replies closing) failed h = absurd (none_opened old h.opened how path failed h.opening)

  command_told : (old new : Standing) (command : Command) (reply : CommandReply) → IsTrue (tells_failure command reply)
      → CommandRuns seen_as (promised can_give) setting old command reply new → is_failed new.file ≡ true
  command_told old new (by_path call) (replied reply) tells h =
      call_told (causes_between (seen_as old) (seen_as new) (seen_as new).no_entry) setting (seen_as old).state (seen_as new).state call reply tells h.runs
  command_told old new (by_path call) (streamed replies closing) tells h = elim h [ ]
  command_told old new (on_stream how path calls) (replied reply) tells h =
      call_said (causes_between (seen_as old) (seen_as new) (seen_as new).no_entry) setting (seen_as old).state (seen_as new).state (opening_call how path) reply tells h.1.runs
  command_told old new (on_stream how path calls) (streamed replies closing) tells h =
      closing_told (causes_between (seen_as h.worked) (seen_as new) (seen_as new).full) (stream_in seen_as (promised can_give) setting h.stream h.worked) closing (is_failed new.file)
      tells h.closes.closes

  command_stays : (old new : Standing) (command : Command) (reply : CommandReply) → CommandRuns seen_as (promised can_give) setting old command reply new
      → is_failed old.file ≡ true → is_failed new.file ≡ true
  command_stays old new command reply step = (run_stays can_give setting old new (command ∷ []) (reply ∷ []) (new, step, refl)).failed

  -- ---- a list of them

  list_once_failed : (failed : Bool) (old new : Standing) (commands : List Command) (replies : List CommandReply) → (IsTrue failed → is_failed old.file ≡ true)
      → IsLegalRun seen_as (promised can_give) setting old commands replies new → OnceFailed failed commands replies new.file
  list_once_failed failed old new [] [] was h = λ f. subst (λ (z : Standing). is_failed z.file ≡ true) (sym h) (was f)
  list_once_failed failed old new [] (reply ∷ replies) was h = elim h [ ]
  list_once_failed failed old new (command ∷ commands) [] was h = elim h [ ]
  list_once_failed failed old new (command ∷ commands) (reply ∷ replies) was (middle, step, rest) = (
    (λ f. answered_failed old middle command reply (was f) step),
    list_once_failed (failed || tells_failure command reply) middle new commands replies
        (either {X = is_failed middle.file ≡ true} failed (tells_failure command reply) (λ f. command_stays old middle command reply step (was f)) (λ tells. command_told old middle command reply tells step)) rest,
  )

-- ---- what `run` promises

module _ (can_give : MediumFault → Bool) (old now : FileState) (commands : List Command) (replies : List CommandReply) (agrees : Agrees old)
    (runs : RunsLegally can_give old commands replies now) where
  pub once_failed : OnceFailed (is_failed old) commands replies now
  once_failed =
      let t = some_tree old agrees in
      let r = runs t.0 t.1 in
      list_once_failed can_give (setting_of old) (is_failed old) (standing_at old t.0) (standing_at now r.0) commands replies (λ f. f) r.2
