-- A change that was found is ended, taken back or refused.
use Rattle.std.proofs.Common.{◌≡◌, inl, inr, ⊎_elim, ℕ, ◌<◌, ◌≤◌, IsTrue, List, sym, ◌∙◌, ap, subst, arith, Result, Ok, Err, Vec, None}
use Rattle.std.specs.declared.alloc.Global.{Global}
use Rattle.cfb_format.specs.declared.medium.MediumFault.{MediumFault}
use Rattle.cfb_journal.specs.Disk.{Image, View}
use Rattle.cfb_journal.specs.Journal.{is_damaged, recovered, IsForeign}
use Rattle.cfb_journal.specs.Recovery.{Ends, Finishes, IsLooked, IsRefused, StandsAs, StaysOrStandsAs}
use Rattle.cfb_journal.specs.States.{Looks, Meanwhile, IsOn}
use Rattle.cfb_journal.specs.declared.recovery.RecoveryError.{RecoveryError}
use Rattle.cfb_journal.specs.declared.recovery.RecoveryError.TheVariants.{Medium, Damaged, Foreign}
use Rattle.cfb_journal.proofs.Clock.{joined, weaker}

-- ---- calls that change nothing

pub on_still : (journal : List ℕ) (old new : View) → IsOn journal old → Looks old new → IsOn journal new
on_still journal old new is_on looks =
    record {
      seen = ap (λ (i : Image). i.journal) looks.seen ∙ is_on.seen;
      file = λ c now. is_on.file c (looks.crash c now) ∙ ap (λ (i : Image). i.file) (sym looks.seen);
      journal_is = λ c now. is_on.journal_is c (looks.crash c now);
    }

still_run : (old new : View) → Looks old new → Meanwhile old new (StaysOrStandsAs old)
still_run old new looks = weaker {a = old} {b = new} old.may_leave (StaysOrStandsAs old) (λ c now. inl now) looks.run

pub then_run : (old mid new : View) → Looks old mid → Meanwhile mid new (StaysOrStandsAs mid) → Meanwhile old new (StaysOrStandsAs old)
then_run old mid new looks run =
    joined {a = old} {b = mid} {c = new} (StaysOrStandsAs old) (still_run old mid looks)
    (weaker {a = mid} {b = new} (StaysOrStandsAs mid) (StaysOrStandsAs old)
    (λ c is. ⊎_elim (λ now. inl (looks.crash c now)) (λ stands. inr (stands ∙ ap recovered looks.seen)) is) run)

pub then_looks : (old mid new : View) → Looks old mid → Looks mid new → Looks old new
then_looks old mid new first second =
    record {
      seen = second.seen ∙ first.seen;
      crash = λ c now. first.crash c (second.crash c now);
      run = joined {a = old} {b = mid} {c = new} old.may_leave first.run (weaker {a = mid} {b = new} mid.may_leave old.may_leave first.crash second.run);
      faults = omega (arith, first.faults, second.faults);
    }

-- ---- what was found

pub looked_looks : {result : Result (Vec ℕ Global × ℕ) MediumFault} (old new : View) → IsLooked result old new → old.faults ≤ new.faults → Looks old new
looked_looks old new looked more = record { seen = looked.seen; crash = looked.crash; run = looked.run; faults = more }

pub then_refused : (error : RecoveryError) (old mid new : View) → Looks old mid → IsRefused error mid new → IsRefused error old new
then_refused error old mid new looks refused =
    record {
      damaged = λ e. subst (λ (i : Image). IsTrue (is_damaged i.journal)) looks.seen (refused.damaged e);
      foreign = λ e. subst IsForeign looks.seen (refused.foreign e);
      none = λ e. ap recovered (sym looks.seen) ∙ refused.none e;
      unchanged = λ e. then_looks old mid new looks (refused.unchanged e);
    }

medium_not_damaged : (fault : MediumFault) → Medium fault ≡ Damaged → ⊥
medium_not_damaged fault e = cc

medium_not_foreign : (fault : MediumFault) → Medium fault ≡ Foreign → ⊥
medium_not_foreign fault e = cc

damaged_not_foreign : Damaged ≡ Foreign → ⊥
damaged_not_foreign e = cc

foreign_not_medium : (fault : MediumFault) → Foreign ≡ Medium fault → ⊥
foreign_not_medium fault e = cc

pub refused_medium : (error : RecoveryError) (fault : MediumFault) (old new : View) → error ≡ Medium fault → IsRefused error old new
refused_medium error fault old new is =
    record {
      damaged = λ e. absurd (medium_not_damaged fault (sym is ∙ e));
      foreign = λ e. absurd (medium_not_foreign fault (sym is ∙ e));
      none = λ e. absurd (⊎_elim (λ d. medium_not_damaged fault (sym is ∙ d)) (λ f. medium_not_foreign fault (sym is ∙ f)) e);
      unchanged = λ e. absurd (⊎_elim (λ d. medium_not_damaged fault (sym is ∙ d)) (λ f. medium_not_foreign fault (sym is ∙ f)) e);
    }

pub refused_damaged : (old new : View) → IsTrue (is_damaged old.seen.journal) → recovered old.seen ≡ None → Looks old new → IsRefused Damaged old new
refused_damaged old new is none looks = record { damaged = λ _. is; foreign = λ e. absurd (damaged_not_foreign e); none = λ _. none; unchanged = λ _. looks }

pub refused_foreign : (old new : View) → IsForeign old.seen → Looks old new → IsRefused Foreign old new
refused_foreign old new is looks = record { damaged = λ e. absurd (damaged_not_foreign (sym e)); foreign = λ _. is; none = λ _. is.other; unchanged = λ _. looks }

-- ---- the ends

pub ends_failed : {T : Type 0} (len : ℕ) (error : RecoveryError) (fault : MediumFault) (old mid new : View) → error ≡ Medium fault → Looks old mid → Meanwhile mid new (StaysOrStandsAs mid) → mid.faults < new.faults
    → Ends {T = T} len (Err error) old new
ends_failed len error fault old mid new is looks run rose =
    record {
      quiet = tt;
      gives = tt;
      length_is = tt;
      refused = refused_medium error fault old new is;
      medium = λ _ _. omega (arith, looks.faults, rose);
      faults = omega (arith, looks.faults, rose);
      run = then_run old mid new looks run;
    }

pub ends_foreign : {T : Type 0} (len : ℕ) (old new : View) → IsForeign old.seen → Looks old new → Ends {T = T} len (Err Foreign) old new
ends_foreign len old new is looks =
    record {
      quiet = tt;
      gives = tt;
      length_is = tt;
      refused = refused_foreign old new is looks;
      medium = λ fault e. absurd (foreign_not_medium fault e);
      faults = looks.faults;
      run = still_run old new looks;
    }

finished_run : {T : Type 0} (len : ℕ) (result : Result T MediumFault) (old new : View) → Finishes len result old new → Meanwhile old new (StaysOrStandsAs old)
finished_run len result old new finishes = weaker {a = old} {b = new} (StandsAs old.seen) (StaysOrStandsAs old) (λ c stands. inr stands) finishes.run

pub ends_done : {T U : Type 0} (len : ℕ) (done : T) (ended : U) (old mid new : View) → Looks old mid → Finishes len (Ok done) mid new → Ends len (Ok ended) old new
ends_done len done ended old mid new looks finishes =
    record {
      quiet = finishes.quiet;
      gives = ap recovered (sym looks.seen) ∙ finishes.gives;
      length_is = finishes.length_is;
      refused = tt;
      medium = tt;
      faults = omega (arith, looks.faults, finishes.cause);
      run = then_run old mid new looks (finished_run len (Ok done) mid new finishes);
    }

pub ends_unfinished : {T U : Type 0} (len : ℕ) (error : RecoveryError) (fault : MediumFault) (old mid new : View) → error ≡ Medium fault → Looks old mid → Finishes {T = T} len (Err fault) mid new → Ends {T = U} len (Err error) old new
ends_unfinished {T} len error fault old mid new is looks finishes =
    ends_failed len error fault old mid new is looks (finished_run {T = T} len (Err fault) mid new finishes) finishes.cause
