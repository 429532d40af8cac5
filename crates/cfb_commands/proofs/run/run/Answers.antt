use Rattle.std.proofs.lemmas.Grind.{common_steps}
use Rattle.std.proofs.Common.{◌≤◌, ◌∙◌, ◌∷◌, [], List, ap, arith, length, length-append, map, subst, take, drop, rules}
use Rattle.std.proofs.lemmas.List.{take-append-le, take_all}
use Rattle.std.specs.Prelude.{◌||◌}
use Rattle.cfb_commands.specs.declared.command.Command.{Command as TheCommand}
use Rattle.cfb_commands.specs.Commands.{command_of, command_reply_of}
use Rattle.cfb_commands.specs.Working.{RunsLegally}
use Rattle.cfb_commands.specs.Failing.{IsAsked}
use Rattle.cfb_commands.specs.Faults.{IsGiven}
use Rattle.cfb_commands.specs.Kinds.{AreOfKinds, kind_of_command}
use Rattle.cfb_commands.proofs.Failing.{once_failed}
use Rattle.cfb_commands.proofs.Heeding.{heed_one_more, heed_untouched}
use Rattle.cfb_commands.proofs.Faults.{one_more_behind}
use Rattle.cfb_commands.proofs.Fitting.{replied_more}
use Rattle.cfb_commands.proofs.Runs.{runs_more, stays_made}
use Rattle.cfb_commands.proofs.run.run.Goals as goal

pub loop-command-preserved : goal.loop-command-preserved
loop-command-preserved g c =
    let i = c.loop-command.invariant in
    let first = length c.args.replies.now.items in
    let longer = ap length c.push_reserved.ensures.items ∙ length-append c.loop-command.replies.items (c.run_one-reply.result ∷ []) in
    let least : first ≤ length c.loop-command.replies.items = omega (arith, i.count) in
    record {
      count = omega (arith, longer, i.count);
      room = c.push_reserved.ensures.capacity ∙ i.room;
      kept = ap (take first) c.push_reserved.ensures.items ∙ take-append-le first c.loop-command.replies.items (c.run_one-reply.result ∷ []) least ∙ i.kept;
      of_kinds = replied_more c.args.commands.now c.loop-command.command-index c.command-item.result first c.loop-command.replies.items c.push_reserved.new.self.items
          c.run_one-reply.result c.loop-command-test.true c.command-item.is c.push_reserved.ensures.items least i.of_kinds c.run_one-reply.ensures.of_kind;
      asked = one_more_behind IsAsked first c.loop-command.replies.items c.push_reserved.new.self.items c.run_one-reply.result c.push_reserved.ensures.items least i.asked
          c.run_one-reply.ensures.asked;
      heeds = heed_one_more c.args.file.now c.loop-command.file c.run_one-reply.new.file first c.loop-command.replies.items c.push_reserved.new.self.items c.run_one-reply.result
          c.push_reserved.ensures.items least i.heeds c.run_one-reply.ensures.any;
      given = λ told. one_more_behind (IsGiven (λ f. g.F.ReadMedium.read_faults f || g.F.Medium.write_faults f)) first c.loop-command.replies.items c.push_reserved.new.self.items
          c.run_one-reply.result c.push_reserved.ensures.items least (i.given told) (c.run_one-reply.ensures.given told);
      runs = λ told. runs_more _ c.args.file.now c.loop-command.file c.run_one-reply.new.file c.args.commands.now c.loop-command.command-index c.command-item.result first
          c.loop-command.replies.items c.push_reserved.new.self.items c.run_one-reply.result c.loop-command-test.true c.command-item.is c.push_reserved.ensures.items least (i.runs told)
          (c.run_one-reply.ensures.answers told) (c.is_failed-now_failed.ensures.agrees told);
    }

pub returns-clause-order : goal.returns-clause-order
returns-clause-order g c = λ told. stays_made _ c.args.file.now c.loop-command.file _ _ (c.is_failed-is_failed.ensures.agrees told) (c.loop-command.invariant.runs told)

pub returns-clause-runs : goal.returns-clause-runs
returns-clause-runs g c = λ told.
    subst (λ (commands : List (TheCommand g.row.A.Denot)). RunsLegally (λ f. g.F.ReadMedium.read_faults f || g.F.Medium.write_faults f) c.args.file.now (map command_of commands)
    (map command_reply_of (drop (length c.args.replies.now.items) c.loop-command.replies.items)) c.loop-command.file) (take_all c.loop-command.command-index c.args.commands.now c.loop-command-test.false)
    (c.loop-command.invariant.runs told)

pub returns-clause-failed : goal.returns-clause-failed
returns-clause-failed g c = λ told.
    once_failed _ c.args.file.now c.loop-command.file _ _ (c.is_failed-is_failed.ensures.agrees told) (returns-clause-runs g c told)

pub returns-clause-any : goal.returns-clause-any
returns-clause-any g c =
    let each = c.loop-command.invariant.heeds in
    record { untouched = heed_untouched c.args.file.now c.loop-command.file (drop (length c.args.replies.now.items) c.loop-command.replies.items) each; each = each }

pub returns-clause-replies : goal.returns-clause-replies
returns-clause-replies g c = record {
  kept = first_of (search rules, grind (arith, common_steps));
  one_each = first_of (search rules, grind (arith, common_steps));
  of_kinds = (
      subst (λ (commands : List (TheCommand g.row.A.Denot)). AreOfKinds (map kind_of_command commands) (drop (length c.args.replies.now.items) c.loop-command.replies.items))
      (take_all c.loop-command.command-index c.args.commands.now c.loop-command-test.false) c.loop-command.invariant.of_kinds
      );
  asked = first_of (search rules, grind (arith, common_steps));
}
