-- What is told of why a call was refused.
use Rattle.std.specs.Prelude.{ℕ, ◌≡◌, ◌⊎◌, List, [], IsErrAnd, Option, None, Some, Result}
use Rattle.cfb_format.specs.declared.error.Error.{Error}
use Rattle.cfb_format.specs.Refused.{IsMemory}
use Rattle.cfb_c.specs.declared.held.Held.{Held}
use Rattle.cfb_c.specs.declared.refusal.Refusal.{Refusal}
use Rattle.cfb_c.specs.Given.{IsGiven}
use Rattle.cfb_c.specs.Numbers.{IsLibraryAnd, number_told}

-- some text, which no clause knows; or memory lacked for it
abbrev pub GivesSomeText : {T : Type 0} → (room : List ℕ) → Result T Refusal → (filled : List ℕ) → (len : ℕ) → Type 0
GivesSomeText room outcome filled len = ((text : List ℕ) × IsGiven text room outcome filled len) ⊎ IsErrAnd outcome (IsLibraryAnd IsMemory)

-- of the error that the library refused with, and nothing where there was none
abbrev pub GivesReason : {T : Type 0} → Option Error → (room : List ℕ) → Result T Refusal → (filled : List ℕ) → (len : ℕ) → Type 0
GivesReason None room outcome filled len = IsGiven [] room outcome filled len
GivesReason (Some e) room outcome filled len = GivesSomeText room outcome filled len

-- by a handle that holds something, and the number says what came of it
abbrev pub TellsReason : Option Held → (room filled : List ℕ) → (len number : ℕ) → Type 0
TellsReason None room filled len number = (number ≡ 11) × (len ≡ 0) × (filled ≡ room)
TellsReason (Some held) room filled len number = (outcome : Result (Unit {0}) Refusal) × (number ≡ number_told outcome) × GivesReason held.refusal room outcome filled len
