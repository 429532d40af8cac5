-- Which error a call answered, and what it tells.
use Rattle.std.specs.Prelude.{◌≡◌, ℕ, List, [], ◌∷◌, Bool, true, false, Result, MatchResult, ⊤}
use Rattle.cfb_format.specs.Medium.{FailsBy}
use Rattle.cfb_format.specs.declared.error.Detail.{Detail}
use Rattle.cfb_format.specs.declared.error.Numbers.TheVariants.{Empty, One, Two}
use Rattle.cfb_format.specs.declared.error.Numbers.{Numbers}
use Rattle.cfb_format.specs.declared.error.Error.{Error}
use Rattle.cfb_format.specs.declared.error.Error.TheVariants.{NotFound, AlreadyExists, InvalidInput, InvalidData, Medium, Memory, Full, Unsound, Failed}
use Rattle.cfb_format.specs.declared.medium.MediumFault.{MediumFault}

-- the numbers of the kinds
abbrev pub number_of : Error → ℕ
number_of (NotFound d) = 1
number_of (AlreadyExists d) = 2
number_of (InvalidInput d) = 3
number_of (InvalidData d) = 4
number_of (Medium f) = 5
number_of Memory = 6
number_of Full = 7
number_of Unsound = 8
number_of Failed = 9

-- the text of a detail
abbrev pub text_of : Detail → List ℕ
text_of detail = detail.text.now

abbrev pub all_of : Numbers → List ℕ
all_of Empty = []
all_of (One first) = first ∷ []
all_of (Two first second) = first ∷ second ∷ []

-- the numbers that are printed behind it
abbrev pub numbers_behind : Detail → List ℕ
numbers_behind detail = all_of detail.numbers

-- what holds at an error of each kind. It is the one table of all kinds: a clause on refusals says it of the kinds that the call can
-- answer, and leaves all others out
pub record Reasons : Type 1 where
  pub not_found : Type 0
  pub already_exists : Type 0
  pub invalid_input : Type 0
  pub invalid_data : Type 0
  pub medium : MediumFault → Type 0
  pub memory : Type 0
  pub full : Type 0
  pub unsound : Type 0
  pub failed : Type 0

-- so much holds at this error
abbrev pub HasReason : Reasons → Error → Type 0
HasReason reasons (NotFound d) = reasons.not_found
HasReason reasons (AlreadyExists d) = reasons.already_exists
HasReason reasons (InvalidInput d) = reasons.invalid_input
HasReason reasons (InvalidData d) = reasons.invalid_data
HasReason reasons (Medium f) = reasons.medium f
HasReason reasons Memory = reasons.memory
HasReason reasons Full = reasons.full
HasReason reasons Unsound = reasons.unsound
HasReason reasons Failed = reasons.failed

-- the same at every error
abbrev pub at_every_error : Type 0 → Reasons
at_every_error P = record { not_found = P; already_exists = P; invalid_input = P; invalid_data = P; medium = λ f. P; memory = P; full = P; unsound = P; failed = P }

-- no error comes, but those of which more is said
abbrev pub no_error : Reasons
no_error = at_every_error ⊥

-- the medium or memory refused, or numbers lack, and then so much holds
abbrev pub IsBreak : Type 0 → Error → Type 0
IsBreak full = HasReason (record no_error { medium = λ f. ⊤; memory = ⊤; full = full })

-- after the medium's error so much holds, and after any other so much
abbrev pub AfterMedium : Type 0 → Type 0 → Error → Type 0
AfterMedium broken kept = HasReason (record (at_every_error kept) { medium = λ f. broken })

-- the bytes are not acceptable
abbrev pub IsInvalidData : Error → Type 0
IsInvalidData e = number_of e ≡ 4

-- the input is wrong
abbrev pub IsInvalidInput : Error → Type 0
IsInvalidInput e = number_of e ≡ 3

-- the bytes are not acceptable, and then P holds; or memory was refused
abbrev pub IsInvalidOrMemory : Type 0 → Error → Type 0
IsInvalidOrMemory P = HasReason (record no_error { invalid_data = P; memory = ⊤ })

-- the medium failed, by a fault of which P holds
abbrev pub IsMediumAnd : (MediumFault → Type 0) → Error → Type 0
IsMediumAnd P = HasReason (record no_error { medium = P })

-- an error is that of the medium exactly if the count of failures rose
abbrev pub CountsError : (MediumFault → Bool) → ℕ → ℕ → Error → Type 0
CountsError can_give old new = HasReason (record (at_every_error (new ≡ old)) { medium = FailsBy can_give old new })

-- the call answered the medium's error exactly if the count of failures rose
abbrev pub CountsFailure : {T : Type 0} → (MediumFault → Bool) → Result T Error → ℕ → ℕ → Type 0
CountsFailure can_give result old new = MatchResult result (λ _. new ≡ old) (CountsError can_give old new)

-- memory was refused
abbrev pub IsMemory : Error → Type 0
IsMemory e = e ≡ Memory

-- a wrong input is refused as such, and a right one only for want of memory
abbrev pub RefusesInput : Bool → Error → Type 0
RefusesInput wrong = HasReason (record no_error { invalid_input = wrong ≡ true; memory = wrong ≡ false })
