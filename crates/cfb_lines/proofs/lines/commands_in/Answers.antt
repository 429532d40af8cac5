use Rattle.std.proofs.Common.{◌+◌, ◌∷◌, [], List, arith, map, subst, sym}
use Rattle.std.proofs.lemmas.List.{map-append}
use Rattle.cfb_commands.specs.Commands.{command_of}
use Rattle.cfb_lines.specs.cfb_rules.Lists.{Command}
use Rattle.cfb_lines.proofs.Scripts.{IsReadUpTo, all_read, line_read, nothing_read, tells_first, tells_none}
use Rattle.cfb_lines.proofs.lines.commands_in.Goals as goal

pub loop-rest-init : goal.loop-rest-init
loop-rest-init g c = record {
  so_far = rw c.new-commands.ensures.items
      (nothing_read c.args.input.now c.behind_comment-number.result.0.now c.behind_comment-number.result.1 c.behind_comment-number.ensures.lines c.behind_comment-number.ensures.count);
  room = c.behind_comment-number.ensures.short;
}

pub loop-rest-preserved : goal.loop-rest-preserved
loop-rest-preserved g c =
    let before = c.loop-rest.commands.items in
    record {
      so_far = rw c.in_ok-push.ensures.items
          (subst (λ (cs : List Command). IsReadUpTo c.args.input.now cs (c.loop-rest.number + 1) c.first_line.result.1.now) (sym (map-append command_of before (c.in-Ok.command ∷ [])))
          (line_read c.args.input.now (map command_of before) c.loop-rest.number c.loop-rest.rest.now c.first_line.result.0.now c.first_line.result.1.now (command_of c.in-Ok.command)
          c.loop-rest.invariant.so_far c.first_line.ensures.lines c.in-Ok.ensures.found));
      room = omega (arith, c.first_line.ensures.shorter, c.loop-rest.invariant.room);
    }

pub returns-clause-found : goal.returns-clause-found
returns-clause-found g c =
    all_read c.args.input.now (map command_of c.loop-rest.commands.items) c.loop-rest.number c.loop-rest.rest.now c.loop-rest.invariant.so_far (sym c.loop-rest-test.ensures)

pub returns-in-Err-clause-wrong : goal.returns-in-Err-clause-wrong
returns-in-Err-clause-wrong g c =
    rw c.at_line.ensures
    (tells_none c.args.input.now (map command_of c.loop-rest.commands.items) c.loop-rest.number c.loop-rest.rest.now c.first_line.result.0.now c.first_line.result.1.now
    c.loop-rest.invariant.so_far c.first_line.ensures.lines c.in-Err.e c.in-Err.ensures.wrong)

pub returns-in-Err-clause-first : goal.returns-in-Err-clause-first
returns-in-Err-clause-first g c =
    rw c.at_line.ensures
    (tells_first c.args.input.now (map command_of c.loop-rest.commands.items) c.loop-rest.number c.loop-rest.rest.now c.first_line.result.0.now c.first_line.result.1.now
    c.loop-rest.invariant.so_far c.first_line.ensures.lines c.in-Err.e c.in-Err.ensures.wrong)
