-- What is kept of failed calls.
use Rattle.std.specs.Prelude.{◌≡◌, ◌+◌, ◌-◌, ◌^◌, min, IsSome, MatchResult, None, Result}
use Rattle.cfb_files.specs.declared.failures.Failures.{Failures}

-- no call has failed
abbrev pub no_failure : Failures
no_failure = record { count = 0; last_error = None }

-- a call failed: it was counted, up to the top of a `u64`, and its error is kept
pub record IsCounted (old new : Failures) : Type 0 where
  pub count : new.count ≡ min (old.count + 1) (2 ^ 64 - 1)
  pub why : IsSome new.last_error

-- exactly a call that failed is counted, and leaves its error
abbrev pub KeepsWhy : {T E : Type 0} → Result T E → Failures → Failures → Type 0
KeepsWhy result old new = MatchResult result (λ _. new ≡ old) (λ _. IsCounted old new)
