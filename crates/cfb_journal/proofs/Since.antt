-- What a crash left since the disk was opened.
use Rattle.std.proofs.Common.{◌≡◌, ◌<◌, ◌≤◌, inl, inr, ⊎_elim, ℕ, List, length, take, sym, ◌∙◌, ap, subst, arith, Some, IsTrue}
use Rattle.std.proofs.Math.Seq.{take-length}
use Rattle.cfb_journal.specs.Disk.{Image, View, IsOpened}
use Rattle.cfb_journal.specs.Journal.{recovered, is_damaged, IsForeign, Restores, RestoresEither}
use Rattle.cfb_journal.specs.Recovery.{StaysOrStandsAs, IsNotOpened, IsNotBegun}
use Rattle.cfb_journal.specs.Sound.{IsSince}
use Rattle.cfb_journal.specs.declared.recovery.RecoveryError.{RecoveryError}
use Rattle.cfb_journal.specs.States.{Meanwhile}

-- calls during which each crash left what stands for the same
pub since_on : (opened : View) (base : ℕ) (old new : View) → IsSince opened base old → Meanwhile old new (Restores (take base old.seen.file)) → take base new.seen.file ≡ take base old.seen.file → old.faults ≤ new.faults → IsSince opened base new
since_on opened base old new was run same more =
    record {
      later = omega (arith, was.later, run.later);
      faults = omega (arith, was.faults, more);
      first = was.first ∙ ap Some (sym same);
      each = λ c left could_not. subst (λ b. Restores b c) (sym same) (⊎_elim (λ before. was.each c before could_not) (λ is. is) (run.each opened.moment c was.later left));
    }

-- a commit: that or the new bytes
pub since_committed : (opened : View) (base : ℕ) (after : List ℕ) (old new : View) → IsSince opened base old → Meanwhile old new (RestoresEither (take base old.seen.file) after)
    → (c : Image) → new.left_since opened.moment c → (opened.may_leave c → ⊥) → RestoresEither (take base old.seen.file) after c
since_committed opened base after old new was run c left could_not = ⊎_elim (λ before. inl (was.each c before could_not)) (λ is. is) (run.each opened.moment c was.later left)

-- a file that was recovered
pub since_recovered : (opened : View) (base : ℕ) (old new : View) → IsOpened opened old → ((c : Image) → old.left_since old.moment c → old.may_leave c) → Meanwhile old new (StaysOrStandsAs old)
    → recovered old.seen ≡ Some new.seen.file → base ≡ length new.seen.file → old.faults ≤ new.faults → IsSince opened base new
since_recovered opened base old new is_opened only run found is more =
    let whole = ap (λ n. take n new.seen.file) is ∙ take-length new.seen.file in
    record {
      later = omega (arith, is_opened.moment, run.later);
      faults = omega (arith, is_opened.faults, more);
      first = ap recovered (sym is_opened.seen) ∙ found ∙ ap Some (sym whole);
      each = λ c left could_not.
          let not_then = λ (has : old.may_leave c). absurd (could_not (is_opened.crash c has)) in
          ⊎_elim (λ before. not_then (only c (subst (λ t. old.left_since t c) (sym is_opened.moment) before)))
          (λ now. ⊎_elim not_then (λ stands. stands ∙ found ∙ ap Some (sym whole)) now)
          (run.each opened.moment c (omega (arith, is_opened.moment)) left);
    }

-- a disk that was not opened, of which all crashes since it was opened are spoken of
pub not_begun : (error : RecoveryError) (opened old new : View) → IsOpened opened old → ((c : Image) → old.left_since old.moment c → old.may_leave c) → IsNotOpened error old new → IsNotBegun error opened new
not_begun error opened old new is_opened only refused =
    record {
      damaged = λ e. subst (λ (i : Image). IsTrue (is_damaged i.journal)) is_opened.seen (refused.refused.damaged e);
      foreign = λ e. subst IsForeign is_opened.seen (refused.refused.foreign e);
      none = λ e. ap recovered (sym is_opened.seen) ∙ refused.refused.none e;
      unchanged = λ e. (refused.refused.unchanged e).seen ∙ is_opened.seen;
      none_new = λ e c now. is_opened.crash c ((refused.refused.unchanged e).crash c now);
      medium = λ fault e. ⊎_elim (λ rose. inl (subst (λ n. n < new.faults) is_opened.faults rose)) (λ long. inr long) (refused.medium fault e);
      back = record {
        each = λ before is c left could_not.
            let not_then = λ (has : old.may_leave c). absurd (could_not (is_opened.crash c has)) in
            ⊎_elim (λ was. not_then (only c (subst (λ t. old.left_since t c) (sym is_opened.moment) was)))
            (λ now. ⊎_elim not_then (λ stands. stands ∙ ap recovered is_opened.seen ∙ is) now)
            (refused.run.each opened.moment c (omega (arith, is_opened.moment)) left);
      };
    }
