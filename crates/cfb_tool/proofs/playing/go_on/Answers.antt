use Rattle.std.proofs.Common.{◌≡◌, ◌∙◌, ◌<◌, ℕ, List, ap, arith, chars, length, map, subst, sym}
use Rattle.std.specs.Prelude.{◌||◌, Result, Some}
use Rattle.std.proofs.lemmas.Result.{err_from_is_err_and}
use Rattle.cfb_format.specs.declared.error.Error.{Error}
use Rattle.cfb_format.specs.declared.medium.MediumFault.{MediumFault}
use Rattle.cfb_commands.specs.Commands.{command_of, refusal_of_error}
use Rattle.cfb_tool.specs.Playing.{IsAdded, PlaysOnce, addition}
use Rattle.cfb_tool.proofs.Pieces.{one_long_asked}
use Rattle.cfb_tool.proofs.Runs.{IsAdding, added_all, added_not, added_refused, added_stuck, adding_more, adding_none}
use Rattle.cfb_tool.proofs.playing.go_on.Goals as goal

pub loop-rest-init : goal.loop-rest-init
loop-rest-init g c = record { room = c.requires.room; adding = λ told. adding_none _ c.args.file.now (chars c.args.path.now) c.args.bytes.now }

pub do_once-requires-clause-one : goal.do_once-requires-clause-one
do_once-requires-clause-one g c =
    one_long_asked c.as_slice.result.now _ (ap (λ cs. map command_of cs) c.as_slice.ensures.value ∙ c.in_ok-one.ensures.ok)

pub returns-in_err-one-clause-added : goal.returns-in_err-one-clause-added
returns-in_err-one-clause-added g c =
    let p = err_from_is_err_and c.from_residual.result c.from_residual.ensures.1 in
    let can_give = λ (f : MediumFault). g.F.ReadMedium.read_faults f || g.F.Medium.write_faults f in
    let old = c.args.file.now in
    let at = chars c.args.path.now in
    let now = c.loop-rest.file in
    let rest = c.loop-rest.rest.now in
    let some : 0 < length rest = grind (arith, c.is_empty.ensures, c.loop-rest-test.true) in
    rw (p.1, p.2) (λ told. subst (λ (e : Error). IsAdded can_give old at c.args.bytes.now (Some (refusal_of_error e)) now) (sym c.in_err-one.ensures.memory)
    (added_not can_give old at c.args.bytes.now rest now (c.loop-rest.invariant.adding told) some))

pub returns-in_err-count-clause-added : goal.returns-in_err-count-clause-added
returns-in_err-count-clause-added g c =
    let p = err_from_is_err_and c.from_residual-in_err-count.result c.from_residual-in_err-count.ensures.1 in
    let can_give = λ (f : MediumFault). g.F.ReadMedium.read_faults f || g.F.Medium.write_faults f in
    let old = c.args.file.now in
    let at = chars c.args.path.now in
    let now = c.loop-rest.file in
    let next = c.do_once.new.file in
    let rest = c.loop-rest.rest.now in
    let some : 0 < length rest = grind (arith, c.is_empty.ensures, c.loop-rest-test.true) in
    let one = ap (λ cs. map command_of cs) c.as_slice.ensures.value ∙ c.in_ok-one.ensures.ok in
    rw (p.1, p.2) (λ told. added_refused can_give old at c.args.bytes.now rest now (c.loop-rest.invariant.adding told) some next c.in_err-count.field-0.0
    (subst (λ (r : Result ℕ Error). PlaysOnce can_give now (addition at rest) r next) c.in_err-count.was (c.do_once.ensures.plays told (addition at rest) one)))

pub returns-then-count-eq0-clause-added : goal.returns-then-count-eq0-clause-added
returns-then-count-eq0-clause-added g c =
    let can_give = λ (f : MediumFault). g.F.ReadMedium.read_faults f || g.F.Medium.write_faults f in
    let old = c.args.file.now in
    let at = chars c.args.path.now in
    let now = c.loop-rest.file in
    let next = c.do_once.new.file in
    let rest = c.loop-rest.rest.now in
    let some : 0 < length rest = grind (arith, c.is_empty.ensures, c.loop-rest-test.true) in
    let none : c.in_ok-count.count ≡ 0 = omega (arith, c.if-count-eq0.true) in
    let one = ap (λ cs. map command_of cs) c.as_slice.ensures.value ∙ c.in_ok-one.ensures.ok in
    λ told. added_stuck can_give old at c.args.bytes.now rest now (c.loop-rest.invariant.adding told) some next c.in_ok-count.count none
    (subst (λ (r : Result ℕ Error). PlaysOnce can_give now (addition at rest) r next) c.in_ok-count.was (c.do_once.ensures.plays told (addition at rest) one))

pub loop-rest-preserved : goal.loop-rest-preserved
loop-rest-preserved g c =
    let can_give = λ (f : MediumFault). g.F.ReadMedium.read_faults f || g.F.Medium.write_faults f in
    let old = c.args.file.now in
    let at = chars c.args.path.now in
    let now = c.loop-rest.file in
    let next = c.do_once.new.file in
    let rest = c.loop-rest.rest.now in
    let some : 0 < length rest = grind (arith, c.is_empty.ensures, c.loop-rest-test.true) in
    let took : 0 < c.in_ok-count.count = grind (arith, c.if-count-eq0.false) in
    let one = ap (λ cs. map command_of cs) c.as_slice.ensures.value ∙ c.in_ok-one.ensures.ok in
    record {
      room = c.do_once.ensures.room;
      adding = λ told. subst (λ (bytes : List ℕ). IsAdding can_give old at c.args.bytes.now bytes next) (sym c.behind-rest.ensures)
          (adding_more can_give old at c.args.bytes.now rest now (c.loop-rest.invariant.adding told) some next c.in_ok-count.count took
          (subst (λ (r : Result ℕ Error). PlaysOnce can_give now (addition at rest) r next) c.in_ok-count.was (c.do_once.ensures.plays told (addition at rest) one)));
    }

pub returns-clause-added : goal.returns-clause-added
returns-clause-added g c =
    let none : length c.loop-rest.rest.now ≡ 0 = grind (arith, c.is_empty.ensures, c.loop-rest-test.false) in
    λ told. added_all _ c.args.file.now (chars c.args.path.now) c.args.bytes.now c.loop-rest.rest.now c.loop-rest.file (c.loop-rest.invariant.adding told) none
