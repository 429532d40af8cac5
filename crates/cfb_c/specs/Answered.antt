-- What the library answers to changes by path, and why it makes no file.
use Rattle.std.specs.Prelude.{ℕ, ◌≢◌, ◌⊎◌, Result}
use Rattle.cfb_format.specs.declared.error.Error.{Error}
use Rattle.cfb_format.specs.Memory.{is_refused_growth}
use Rattle.cfb_format.specs.Refused.{IsInvalidInput}
use Rattle.cfb_commands.specs.cfb_agreement.Files.{FileState}
use Rattle.cfb_commands.specs.cfb_compound_file.Opening.{CreatingRefused}
use Rattle.cfb_commands.specs.cfb_path_changes.Calls.{CallAnswers, CallAnswersInTurn}
use Rattle.cfb_commands.specs.cfb_rules.Calls.{Call}

-- the call was answered so
pub record IsAnswered {T : Type 0} (call : Call) (old : FileState) (outcome : Result T Error) (new : FileState) : Type 0 where
  pub answers : CallAnswers is_refused_growth old call outcome new

-- and so was one that is several changes in turn
pub record IsAnsweredInTurn {T : Type 0} (call : Call) (old : FileState) (outcome : Result T Error) (new : FileState) : Type 0 where
  pub answers : CallAnswersInTurn is_refused_growth old call outcome new

-- there is no version of this number, or memory was refused
abbrev pub IsNotMade : ℕ → Error → Type 0
IsNotMade version e = (IsInvalidInput e × (version ≢ 3) × (version ≢ 4)) ⊎ CreatingRefused is_refused_growth e
