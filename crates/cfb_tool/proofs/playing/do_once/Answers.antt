use Rattle.std.proofs.Common.{◌≡◌, ◌∙◌, ap, arith, length, sym}
use Rattle.std.specs.Prelude.{◌||◌}
use Rattle.std.specs.List.{slice_get}
use Rattle.std.proofs.lemmas.Option.{get_or_from_slice_get}
use Rattle.cfb_format.specs.declared.medium.MediumFault.{MediumFault}
use Rattle.cfb_commands.specs.Commands.{command_reply_of}
use Rattle.cfb_tool.proofs.Runs.{one_run}
use Rattle.cfb_tool.proofs.playing.do_once.Goals as goal

pub returns-in-Some-first_error-clause-plays : goal.returns-in-Some-first_error-clause-plays
returns-in-Some-first_error-clause-plays g c =
    let can_give = λ (f : MediumFault). g.F.ReadMedium.read_faults f || g.F.Medium.write_faults f in
    let olds = c.clear.new.self.items in
    let news = c.run.new.replies.items in
    let none : length olds ≡ 0 = ap (λ rs. length rs) c.clear.ensures.items in
    let each : length news ≡ 1 = omega (arith, none, c.run.ensures.replies.one_each, c.requires.one) in
    let reply = c.in-Some.reply.now in
    let first = get_or_from_slice_get news 0 reply reply (sym (c.in-Some.ensures.value ∙ ap (λ rs. slice_get rs 0) c.deref.ensures.value)) in
    λ told asked one. (
      command_reply_of reply,
      one_run can_give c.args.file.now c.run.new.file c.args.one.now asked olds news reply one none each (sym first) (c.run.ensures.runs told),
      sym c.in-Some-first_error.ensures,
    )

pub returns-in-None-clause-plays : goal.returns-in-None-clause-plays
returns-in-None-clause-plays g c =
    let can_give = λ (f : MediumFault). g.F.ReadMedium.read_faults f || g.F.Medium.write_faults f in
    let olds = c.clear.new.self.items in
    let news = c.run.new.replies.items in
    let none : length olds ≡ 0 = ap (λ rs. length rs) c.clear.ensures.items in
    let each : length news ≡ 1 = omega (arith, none, c.run.ensures.replies.one_each, c.requires.one) in
    let reply = c.in-Some.reply.now in
    let first = get_or_from_slice_get news 0 reply reply (sym (c.in-Some.ensures.value ∙ ap (λ rs. slice_get rs 0) c.deref.ensures.value)) in
    λ told asked one. (
      command_reply_of reply,
      one_run can_give c.args.file.now c.run.new.file c.args.one.now asked olds news reply one none each (sym first) (c.run.ensures.runs told),
      (sym c.in-None.ensures, c.taken.ensures),
    )
