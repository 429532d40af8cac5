-- What a call leaves that broke off, when the root's entry keeps its length, and which calls blame fullness.
use Rattle.std.proofs.Common.{◌≡◌, ◌⊎◌, Bool, true, false, refl, sym, ◌∙◌, ap, subst, inl, inr}
use Rattle.std.specs.Prelude.{MatchBool}
use Rattle.cfb_rules.specs.Refusal.{Refusal, failed_earlier, file_full, is_of_rules}
use Rattle.cfb_rules.specs.Calls.{Call, flush, Reply, done, refused}
use Rattle.cfb_rules.specs.Steps.{CallKind, creating, emptying, changing, flushing, opening, opening_to_read, asking, asking_freely, kind_of, kind_on}
use Rattle.cfb_rules.specs.StreamCalls.{flush, ready, not_done, StreamStep}
use Rattle.cfb_rules.specs.Runs.{Setting, TreeState, Causes, any_cause, BlamesOneOf, MayBreak, OnFailed, KeepsRootLen, FollowsRules, CallBreaksOff, IsBroken, CallRuns, Work, no_work, reading, moving, writing_out, overwriting, appending, resizing, work_of, CalmWorkMayBreak, WorkMayBreak, StaysUnfailed, is_served, StreamBreaksOff, StreamOnFailed, IsStreamBroken}
use Rattle.cfb_rules.specs.Laws.{RefusedFlushFails, RefusedStreamFlushFails, RootLenStays, RefusedCallsKeepAll, OnlyCreationsAreFull, CalmWorkIsRarelyFull}
use Rattle.cfb_rules.proofs.CallSteps.{Step-refused}
use Rattle.cfb_rules.proofs.RuleKinds.{Step-rules, StreamStep-rules}

pub flush_fails : RefusedFlushFails
flush_fails setting old new refusal = go old.failed
  where
    broken : CallBreaksOff flushing old new → new.failed ≡ true
    broken (inl x) = let e : false ≡ true = x.0 in cc
    broken (inr x) = x.1

    unfailed : FollowsRules setting old flush (refused refusal) new ⊎ IsBroken any_cause setting old flush (refused refusal) new → new.failed ≡ true
    unfailed (inl f) = let e : refused refusal ≡ done = f.step.0 in cc
    unfailed (inr x) = broken x.1

    go : (failed : Bool) → MatchBool failed (OnFailed any_cause flushing (refused refusal) new) (FollowsRules setting old flush (refused refusal) new ⊎ IsBroken any_cause setting old flush (refused refusal) new)
        → new.failed ≡ true
    go true h = h.1
    go false h = unfailed h

pub stream_flush_fails : RefusedStreamFlushFails
stream_flush_fails setting old new refusal = go old.failed
  where
    stays : (pending : Bool) (r : Refusal) → StaysUnfailed pending writing_out r → ⊥
    stays true r x = x
    stays false r x = x

    broken : (r : Refusal) → StreamBreaksOff old.stream writing_out r new → new.failed ≡ true
    broken r (inl x) = absurd (stays old.stream.pending r x.0)
    broken r (inr x) = x.1

    unfailed : (StreamStep setting old.stream flush (not_done refusal) new.stream × (new.failed ≡ false)) ⊎ IsStreamBroken any_cause setting old.stream flush (not_done refusal) new
        → new.failed ≡ true
    unfailed (inl f) = let e : not_done refusal ≡ ready = f.0.0 in cc
    unfailed (inr x) = broken x.0 x.3

    go : (failed : Bool) → MatchBool failed (StreamOnFailed flush (not_done refusal) new)
        ((StreamStep setting old.stream flush (not_done refusal) new.stream × (new.failed ≡ false)) ⊎ IsStreamBroken any_cause setting old.stream flush (not_done refusal) new)
        → new.failed ≡ true
    go true h = h.0
    go false h = unfailed h

-- ---- what stays

not_full : (r : Refusal) → is_of_rules r ≡ true → r ≡ file_full → ⊥
not_full r e f = let w : false ≡ true = ap is_of_rules (sym f) ∙ e in cc

module _ (causes : Causes) (setting : Setting) (old new : TreeState) (call : Call) (reply : Reply) where
  failed_still : (kind : CallKind) → OnFailed causes kind reply new → new.failed ≡ true
  failed_still creating h = h.1
  failed_still emptying h = h.1
  failed_still changing h = h.1
  failed_still flushing h = h.1
  failed_still opening h = h.1
  failed_still opening_to_read h = h.1
  failed_still asking h = h.1
  failed_still asking_freely h = h.1

  -- on a file that has not failed afterwards
  calm_call : CallRuns causes setting old call reply new → new.failed ≡ false
      → (FollowsRules setting old call reply new ⊎ ((new ≡ old) × IsBroken causes setting old call reply new)) × (old.failed ≡ false)
  calm_call runs calm = go old.failed refl runs
    where
      failed_not : {X : Type 0} → new.failed ≡ true → X
      failed_not e = absurd (let f : true ≡ false = sym e ∙ calm in cc)

      broken : IsBroken causes setting old call reply new → new ≡ old
      broken x = elim x.1 [ inl y ↦ y.1 | inr y ↦ failed_not y.1 ]

      go : (failed : Bool) → old.failed ≡ failed → MatchBool failed (OnFailed causes (kind_of call) reply new) (FollowsRules setting old call reply new ⊎ IsBroken causes setting old call reply new)
          → (FollowsRules setting old call reply new ⊎ ((new ≡ old) × IsBroken causes setting old call reply new)) × (old.failed ≡ false)
      go true e h = failed_not (failed_still (kind_of call) h)
      go false e (inl f) = (inl f, e)
      go false e (inr x) = (inr (broken x, x), e)

pub root_len_stays : RootLenStays
root_len_stays setting old new call reply runs unfailed not_emptied = elim (calm_call any_cause setting old new call reply runs unfailed).0 [
  | inl f ↦ kept f.root_len
  | inr x ↦ ap (λ (s : TreeState). s.root_len) x.0
]
  where
    kept : KeepsRootLen (kind_on setting.cases old.tree call) old reply new → new.root_len ≡ old.root_len
    kept (inr e) = e
    kept (inl x) = absurd (not_emptied x.0)

refused_not_done : (r : Refusal) → refused r ≡ done → ⊥
refused_not_done r e = cc

pub refused_keep_all : RefusedCallsKeepAll
refused_keep_all setting old new call refusal runs unfailed = elim both.0 [
  | inl f ↦ followed f
  | inr x ↦ x.0
]
  where
    both : (FollowsRules setting old call (refused refusal) new ⊎ ((new ≡ old) × IsBroken any_cause setting old call (refused refusal) new)) × (old.failed ≡ false)
    both = calm_call any_cause setting old new call (refused refusal) runs unfailed

    kept : KeepsRootLen (kind_on setting.cases old.tree call) old (refused refusal) new → new.root_len ≡ old.root_len
    kept (inr e) = e
    kept (inl x) = absurd (refused_not_done refusal x.1)

    followed : FollowsRules setting old call (refused refusal) new → new ≡ old
    followed f = λ j. record {
      tree = Step-refused setting.cases setting.stream.sound old.root_len old.tree new.tree call refusal f.step j;
      root_len = kept f.root_len j;
      failed = (unfailed ∙ sym both.1) j;
    }

-- ---- what blames fullness

module _ (causes : Causes) where
  never_full : (medium memory : Type 0) → BlamesOneOf medium memory ⊥ file_full → ⊥
  never_full medium memory x = x

  full_kind : (kind : CallKind) → MayBreak causes kind file_full → (kind ≡ creating) × causes.full
  full_kind creating x = (refl, x)
  full_kind emptying x = absurd x
  full_kind changing x = absurd x
  full_kind flushing x = absurd x
  full_kind opening x = absurd x
  full_kind opening_to_read x = absurd x
  full_kind asking x = absurd x
  full_kind asking_freely x = absurd x

  -- only a creation, and its cause holds
  pub creation_is_full : (setting : Setting) (old new : TreeState) (call : Call) → CallRuns causes setting old call (refused file_full) new → old.failed ≡ false
      → (kind_on setting.cases old.tree call ≡ creating) × causes.full
  creation_is_full setting old new call runs calm = go old.failed calm runs
    where
      same : (r : Refusal) → refused file_full ≡ refused r → file_full ≡ r
      same r e = cc

      broken : IsBroken causes setting old call (refused file_full) new → (kind_on setting.cases old.tree call ≡ creating) × causes.full
      broken x = full_kind (kind_on setting.cases old.tree call)
          (subst (λ (r : Refusal). MayBreak causes (kind_on setting.cases old.tree call) r) (sym (same x.0.0 x.0.2)) x.0.1)

      go : (failed : Bool) → failed ≡ false
          → MatchBool failed (OnFailed causes (kind_of call) (refused file_full) new) (FollowsRules setting old call (refused file_full) new ⊎ IsBroken causes setting old call (refused file_full) new)
          → (kind_on setting.cases old.tree call ≡ creating) × causes.full
      go true e h = absurd (cc)
      go false e (inl f) = absurd (not_full file_full (Step-rules setting.cases setting.stream.sound old.root_len old.tree new.tree call (refused file_full) f.step) refl)
      go false e (inr x) = broken x

  full_work : (work : Work) → CalmWorkMayBreak causes work file_full → (work ≡ appending) ⊎ (work ≡ resizing)
  full_work no_work x = absurd x
  full_work reading x = absurd x
  full_work moving x = absurd x
  full_work writing_out x = absurd x
  full_work overwriting x = absurd x
  full_work appending x = inl refl
  full_work resizing x = inr refl

pub creations_are_full : OnlyCreationsAreFull
creations_are_full setting old new call runs calm = (creation_is_full any_cause setting old new call runs calm).0

pub calm_work_full : CalmWorkIsRarelyFull
calm_work_full setting old new call runs calm nothing = go old.failed calm runs
  where
    same : (r : Refusal) → not_done file_full ≡ not_done r → file_full ≡ r
    same r e = cc

    calm_break : (pending : Bool) (work : Work) (r : Refusal) → pending ≡ false → file_full ≡ r → WorkMayBreak any_cause pending work r → (work ≡ appending) ⊎ (work ≡ resizing)
    calm_break true work r e f x = absurd (cc)
    calm_break false work r e f x = full_work any_cause work (subst (λ (q : Refusal). CalmWorkMayBreak any_cause work q) (sym f) x)

    earlier : (never : Bool) → MatchBool never (is_served (not_done file_full) ≡ true) (not_done file_full ≡ not_done failed_earlier) → ⊥
    earlier true e = cc
    earlier false e = cc

    go : (failed : Bool) → failed ≡ false
        → MatchBool failed (StreamOnFailed call (not_done file_full) new)
        ((StreamStep setting old.stream call (not_done file_full) new.stream × (new.failed ≡ false)) ⊎ IsStreamBroken any_cause setting old.stream call (not_done file_full) new)
        → (work_of old.stream call ≡ appending) ⊎ (work_of old.stream call ≡ resizing)
    go true e h = absurd (cc)
    go false e (inl f) = absurd (not_full file_full (StreamStep-rules setting old.stream new.stream call (not_done file_full) f.0) refl)
    go false e (inr x) = calm_break old.stream.pending (work_of old.stream call) x.0 nothing (same x.0 x.2) x.1
