use Rattle.std.proofs.lemmas.Grind.{common_steps}
use Rattle.std.proofs.Common.{[], ◌+◌, take, get_or, refl, sym, ◌∙◌, subst, arith, rules}
use Rattle.std.specs.Prelude.{Bool, ◌||◌}
use Rattle.std.proofs.lemmas.List.{take_all, take_more}
use Rattle.std.proofs.lemmas.List.Elements.{Contains-get_or}
use Rattle.std.proofs.lemmas.Result.{err_from_is_err_and}
use Rattle.cfb_format.specs.declared.medium.MediumFault.{MediumFault}
use Rattle.cfb_agreement.specs.Files.{FileState}
use Rattle.cfb_volume.specs.Clearing.{ClearingBreaksOff, EmptiesStreams, KeepsStreamsBut}
use Rattle.cfb_volume.proofs.EmptiedStreams.{below-now, emptied-next, emptied-none, others-next}
use Rattle.cfb_volume.proofs.Steps.{broke-off, flags-keep, hand-err, hand-ok, or-false, step-err, step-if-ok, step-ok}
use Rattle.cfb_volume.proofs.volume.Volume.empty_streams.Goals as goal

pub loop-entry-init : goal.loop-entry-init
loop-entry-init g c = record {
  emptied = emptied-none g.F.ReadMedium.tells c.args.list.now [] c.args.self.now c.requires.can_change.unfailed (λ k (i, under, e). absurd (omega (arith, under)));
  first = λ none. refl;
}

pub empty_stream-emptied-requires-clause-below : goal.empty_stream-emptied-requires-clause-below
empty_stream-emptied-requires-clause-below g c =
    let k = get_or c.args.list.now c.loop-entry.entry-index 0 in
    below-now g.F.ReadMedium.tells c.args.list.now (take c.loop-entry.entry-index c.args.list.now) k c.args.self.now c.loop-entry.self c.entries-entries.ensures.in_order c.loop-entry.invariant.emptied
    (c.requires.below k (Contains-get_or c.args.list.now c.loop-entry.entry-index 0 c.loop-entry-test.true))

-- ---- refused

pub returns-in_err-had-clause-others : goal.returns-in_err-had-clause-others
returns-in_err-had-clause-others g c told holds o is m r out =
    let i = c.loop-entry.invariant.emptied in
    let list = c.args.list.now in
    let k = get_or list c.loop-entry.entry-index 0 in
    let step = c.empty_stream-emptied.new.self in
    let handed = hand-err step c.hand_on.new.self c.loop-entry.some c.empty_stream-emptied.result c.hand_on.ensures.fails c.in_err-had.field-0.0 c.in_err-had.ensures.step in
    subst (λ (f : FileState). KeepsStreamsBut list c.args.self.now.base f.base) (sym handed)
    (λ p p_is j there far. flags-keep c.args.self.now.base step c.loop-entry.some _
    (others-next g.F.ReadMedium.tells list (take c.loop-entry.entry-index list) k c.args.self.now c.loop-entry.self c.entries-entries.ensures.in_order i step.base
    (Contains-get_or list c.loop-entry.entry-index 0 c.loop-entry-test.true) c.empty_stream-emptied.ensures.others told holds p p_is j there far)) o is m r out

pub returns-in_err-had-clause-refused : goal.returns-in_err-had-clause-refused
returns-in_err-had-clause-refused g c =
    let i = c.loop-entry.invariant.emptied in
    let step = c.empty_stream-emptied.new.self in
    let e = c.in_err-had.field-0.0 in
    let handed = hand-err step c.hand_on.new.self c.loop-entry.some c.empty_stream-emptied.result c.hand_on.ensures.fails e c.in_err-had.ensures.step in
    let p = err_from_is_err_and c.from_residual.result c.from_residual.ensures.1 in
    let faults : MediumFault → Bool = λ f. g.F.ReadMedium.read_faults f || g.F.Medium.write_faults f in
    let broke : ClearingBreaksOff g.F.ReadMedium.tells faults c.loop-entry.self step e = step-err _ c.empty_stream-emptied.result e c.in_err-had.ensures.step c.empty_stream-emptied.ensures.refused in
    rw (p.1, p.2) (subst (λ (f : FileState). ClearingBreaksOff g.F.ReadMedium.tells faults c.args.self.now f e) (sym handed)
    (broke-off g.F.ReadMedium.tells faults c.args.self.now c.loop-entry.self step e c.loop-entry.some c.loop-entry.invariant.first i.setting i.header i.holds i.counted broke))

-- ---- one more

pub loop-entry-preserved : goal.loop-entry-preserved
loop-entry-preserved g c =
    let list = c.args.list.now in
    let at = c.loop-entry.entry-index in
    let k = get_or list at 0 in
    let step = c.empty_stream-emptied.new.self in
    let had = c.in_ok-had.had in
    let same = hand-ok step c.hand_on.new.self c.loop-entry.some c.empty_stream-emptied.result c.hand_on.ensures.fails had c.in_ok-had.ensures.step in
    let emptied = step-ok c.empty_stream-emptied.result had c.in_ok-had.ensures.step c.empty_stream-emptied.ensures.emptied in
    record {
      emptied = subst (λ (f : FileState). EmptiesStreams g.F.ReadMedium.tells list (take (at + 1) list) c.args.self.now f) (sym same)
          (subst (λ l. EmptiesStreams g.F.ReadMedium.tells list l c.args.self.now step) (sym (take_more list at 0 c.loop-entry-test.true))
          (emptied-next g.F.ReadMedium.tells list (take at list) k c.args.self.now c.loop-entry.self step c.entries-entries.ensures.in_order c.loop-entry.invariant.emptied emptied
          (Contains-get_or list at 0 c.loop-entry-test.true)));
      first = λ none.
          let (some, none) = or-false c.loop-entry.some had none in
          same ∙ step-if-ok _ c.empty_stream-emptied.result had c.in_ok-had.ensures.step c.empty_stream-emptied.ensures.none none ∙ c.loop-entry.invariant.first some;
    }

pub returns-clause-emptied : goal.returns-clause-emptied
returns-clause-emptied g c =
    subst (λ l. EmptiesStreams g.F.ReadMedium.tells c.args.list.now l c.args.self.now c.loop-entry.self)
    (take_all c.loop-entry.entry-index c.args.list.now (let past = c.loop-entry-test.false in omega (arith, past))) c.loop-entry.invariant.emptied

pub returns-clause-none : goal.returns-clause-none
returns-clause-none g c = c.loop-entry.invariant.first

pub returns-clause-others : goal.returns-clause-others
returns-clause-others g c told holds = c.loop-entry.invariant.emptied.others told holds

pub empty_stream-emptied-requires-clause-can_change : goal.empty_stream-emptied-requires-clause-can_change
empty_stream-emptied-requires-clause-can_change g c = record {
  sound = first_of (search rules, grind (arith, common_steps));
  unfailed = first_of (search rules, grind (arith, common_steps));
}
