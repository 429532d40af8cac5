use Rattle.std.proofs.Common.{◌≡◌, ◌∙◌, ◌∷◌, [], ℕ, List, ap, chars, map, subst, sym}
use Rattle.std.specs.Prelude.{◌||◌, Result}
use Rattle.std.proofs.lemmas.Result.{err_from_is_err_and}
use Rattle.cfb_format.specs.declared.error.Error.{Error}
use Rattle.cfb_format.specs.declared.medium.MediumFault.{MediumFault}
use Rattle.cfb_rules.specs.Lists.{Command}
use Rattle.cfb_commands.specs.Commands.{refusal_of_result, command_of}
use Rattle.cfb_tool.specs.Playing.{PlaysOnce, bytes_written, path_written}
use Rattle.cfb_tool.proofs.Pieces.{first_asked}
use Rattle.cfb_tool.proofs.Runs.{played_adding, played_not, played_whole}
use Rattle.cfb_tool.proofs.playing.do_command.Goals as goal

pub returns-in_err-count-clause-played : goal.returns-in_err-count-clause-played
returns-in_err-count-clause-played g c =
    let p = err_from_is_err_and c.from_residual.result c.from_residual.ensures.1 in
    let can_give = λ (f : MediumFault). g.F.ReadMedium.read_faults f || g.F.Medium.write_faults f in
    let next = c.do_once.new.file in
    rw (p.1, p.2) (λ told asked one. played_not can_give c.args.file.now asked next c.in_err-count.field-0.0
    (subst (λ (r : Result ℕ Error). PlaysOnce can_give c.args.file.now asked r next) c.in_err-count.was (c.do_once.ensures.plays told asked one)))

pub returns-in-Some-written_by-clause-played : goal.returns-in-Some-written_by-clause-played
returns-in-Some-written_by-clause-played g c =
    let can_give = λ (f : MediumFault). g.F.ReadMedium.read_faults f || g.F.Medium.write_faults f in
    let middle = c.do_once.new.file in
    let is : (asked : Command) → map command_of c.args.one.now ≡ asked ∷ [] → command_of c.in-Some.command.now ≡ asked = λ asked one. first_asked c.args.one.now c.in-Some.command.now asked one c.in-Some.ensures.value in
    λ told asked one. played_adding can_give c.args.file.now asked middle c.in_ok-count.count
    (subst (λ (r : Result ℕ Error). PlaysOnce can_give c.args.file.now asked r middle) c.in_ok-count.was (c.do_once.ensures.plays told asked one))
    c.go_on.new.file (refusal_of_result c.go_on.result) (chars c.in-Some-written_by.path.now) c.in-Some-written_by.bytes.now c.behind.result.now
    (ap (λ (a : Command). path_written a) (sym (is asked one)) ∙ c.in-Some-written_by.ensures.0)
    (ap (λ (a : Command). bytes_written a) (sym (is asked one)) ∙ c.in-Some-written_by.ensures.1)
    c.behind.ensures (c.go_on.ensures.added told)

pub returns-in-None-clause-played : goal.returns-in-None-clause-played
returns-in-None-clause-played g c =
    let can_give = λ (f : MediumFault). g.F.ReadMedium.read_faults f || g.F.Medium.write_faults f in
    let middle = c.do_once.new.file in
    let is : (asked : Command) → map command_of c.args.one.now ≡ asked ∷ [] → command_of c.in-Some.command.now ≡ asked = λ asked one. first_asked c.args.one.now c.in-Some.command.now asked one c.in-Some.ensures.value in
    λ told asked one. played_whole can_give c.args.file.now asked middle c.in_ok-count.count
    (subst (λ (r : Result ℕ Error). PlaysOnce can_give c.args.file.now asked r middle) c.in_ok-count.was (c.do_once.ensures.plays told asked one))
    (ap (λ (a : Command). bytes_written a) (sym (is asked one)) ∙ c.in-None.ensures)
