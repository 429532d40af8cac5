use Rattle.std.proofs.Common.{◌≡◌, ◌∙◌, ◌+◌, ◌*◌, List, ap, arith, drop, length, map, refl, subst, take, sym}
use Rattle.std.specs.Prelude.{◌||◌, Result}
use Rattle.std.proofs.lemmas.List.{take_all}
use Rattle.cfb_commands.specs.declared.command.Command.{Command as TheCommand}
use Rattle.cfb_format.specs.declared.error.Error.{Error}
use Rattle.cfb_format.specs.declared.medium.MediumFault.{MediumFault}
use Rattle.cfb_commands.specs.Commands.{refusal_of_result, command_of}
use Rattle.cfb_tool.specs.Playing.{ArePlayed, IsPlayed, placed}
use Rattle.cfb_tool.proofs.Explained.{all_told, none_told, ok_told, refusal_told, AreToldUpTo}
use Rattle.cfb_tool.proofs.Pieces.{digit, one_long, one_ok, one_refused, three_more}
use Rattle.cfb_tool.proofs.Runs.{all_none}
use Rattle.cfb_tool.proofs.explaining.play_explained.Goals as goal
use Rattle.cfb_tool.proofs.explaining.play_explained.Goals.{in-Ok, in-Err}

pub loop-at-init : goal.loop-at-init
loop-at-init g c = record {
  played = all_none g.F.ReadMedium.tells _ c.args.file.now c.args.lines.now.items;
  count = omega (arith);
  room = refl;
  reply = c.in_ok-replies.ensures.capacity;
  told = rw c.requires.empty (none_told c.args.lines.now.items);
  few = rw c.requires.empty (omega arith);
  kept = refl;
}

pub do_command-requires-clause-one : goal.do_command-requires-clause-one
do_command-requires-clause-one g c = one_long c.args.commands.now c.one_at.result.now c.loop-at.at c.loop-at-test.true c.one_at.ensures

pub loop-at-preserved : goal.loop-at-preserved
loop-at-preserved g c =
    let i = c.loop-at.invariant in
    let can_give = λ (f : MediumFault). g.F.ReadMedium.read_faults f || g.F.Medium.write_faults f in
    let text = c.args.lines.now.items in
    let now = c.loop-at.lines.items in
    let middle = c.loop-at.file in
    let new = c.do_command.new.file in
    record {
      played = elim c.match-do_command.branch [
        | in-Ok w ↦ rw (w.lines-is, w.is_done-is) (one_ok g.F.ReadMedium.tells can_give c.args.file.now c.args.commands.now c.loop-at.at c.loop-at-test.true text now w.push_line.new.lines.items
            c.loop-at.is_done middle new i.played
            (λ told asked one. subst (λ (r : Result (Unit {0}) Error). IsPlayed can_give middle asked (refusal_of_result r) new) w.in-Ok.is
            (c.do_command.ensures.played told asked (ap (λ cs. map command_of cs) c.one_at.ensures ∙ one))) w.push_line.ensures.line)
        | in-Err w ↦ rw (w.lines-is, w.is_done-is) (one_refused g.F.ReadMedium.tells can_give c.args.file.now c.args.commands.now c.loop-at.at c.loop-at-test.true text now
            w.push_line-in-Err.new.lines.items c.loop-at.is_done middle new i.played w.in-Err.e w.saturating_add.result
            (w.saturating_add.ensures ∙ digit w.in-Err.e w.number.result w.number.ensures)
            (λ told asked one. subst (λ (r : Result (Unit {0}) Error). IsPlayed can_give middle asked (refusal_of_result r) new) w.in-Err.is
            (c.do_command.ensures.played told asked (ap (λ cs. map command_of cs) c.one_at.ensures ∙ one))) w.push_line-in-Err.ensures.line)
      ];
      count = elim c.match-do_command.branch [
        | in-Ok w ↦ rw w.lines-is (omega (arith, three_more now w.push_line.new.lines.items _ _ _ w.push_line.ensures.line, i.count))
        | in-Err w ↦ rw w.lines-is (omega (arith, three_more now w.push_line-in-Err.new.lines.items _ _ _ w.push_line-in-Err.ensures.line, i.count))
      ];
      room = elim c.match-do_command.branch [
        | in-Ok w ↦ rw w.lines-is (w.push_line.ensures.capacity ∙ i.room)
        | in-Err w ↦ rw w.lines-is (w.push_line-in-Err.ensures.capacity ∙ i.room)
      ];
      reply = c.do_command.ensures.room;
      told = elim c.match-do_command.branch [
        | in-Ok w ↦ rw (w.lines-is, w.refusals-is) (ok_told text now w.push_line.new.lines.items c.loop-at.refusals.items c.loop-at.at i.told w.push_line.ensures.line)
        | in-Err w ↦ rw (w.lines-is, w.refusals-is) (refusal_told text now w.push_line-in-Err.new.lines.items c.loop-at.refusals.items w.push_reserved.new.self.items c.loop-at.at
            w.saturating_add.result w.in-Err.e i.told (w.saturating_add.ensures ∙ digit w.in-Err.e w.number.result w.number.ensures) w.push_line-in-Err.ensures.line w.push_reserved.ensures.items)
      ];
      few = elim c.match-do_command.branch [
        | in-Ok w ↦ rw w.refusals-is (omega (arith, i.few))
        | in-Err w ↦ rw w.refusals-is (omega (arith, i.few, w.push_reserved.ensures.len))
      ];
      kept = elim c.match-do_command.branch [
        | in-Ok w ↦ rw w.refusals-is i.kept
        | in-Err w ↦ rw w.refusals-is (w.push_reserved.ensures.capacity ∙ i.kept)
      ];
    }

pub returns-clause-played : goal.returns-clause-played
returns-clause-played g c =
    subst (λ (commands : List (TheCommand g.row.A.Denot)). ArePlayed g.F.ReadMedium.tells (λ f. g.F.ReadMedium.read_faults f || g.F.Medium.write_faults f) c.args.file.now
    (map command_of commands) c.args.lines.now.items c.loop-at.lines.items c.loop-at.is_done c.loop-at.file) (take_all c.loop-at.at c.args.commands.now c.loop-at-test.false)
    c.loop-at.invariant.played

pub returns-clause-told : goal.returns-clause-told
returns-clause-told g c = all_told c.args.lines.now.items c.loop-at.lines.items _ c.loop-at.at c.loop-at.invariant.told
