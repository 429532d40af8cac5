-- What calls answer.
use Rattle.std.specs.Prelude.{ℕ, ◌≡◌, ◌==◌, List, false, Option, None, Some, Result, Ok, Err, IsUtf8}
use Rattle.std.specs.List.{list_any}
use Rattle.cfb_format.specs.declared.error.Error.{Error}
use Rattle.cfb_format.specs.Refused.{IsInvalidInput, number_of}
use Rattle.cfb_c.specs.declared.refusal.Refusal.{Refusal}
use Rattle.cfb_c.specs.declared.refusal.Refusal.TheVariants.{Library, TooSmall, NotOpen}

-- numbers 1 to 9 are the library's
abbrev pub number_of_refusal : Refusal → ℕ
number_of_refusal (Library e) = number_of e
number_of_refusal TooSmall = 10
number_of_refusal NotOpen = 11

abbrev pub number_told : {T : Type 0} → Result T Refusal → ℕ
number_told (Ok x) = 0
number_told (Err refusal) = number_of_refusal refusal

-- the reason that is told of a refusal: the library's error, and none where the number says it all
abbrev pub reason_in : Refusal → Option Error
reason_in (Library e) = Some e
reason_in TooSmall = None
reason_in NotOpen = None

-- a handle tells that of its last call that was refused
abbrev pub reason_after : {T : Type 0} → Result T Refusal → Option Error → Option Error
reason_after (Ok x) before = before
reason_after (Err refusal) before = reason_in refusal

-- the library refused, by an error of which P holds
abbrev pub IsLibraryAnd : (Error → Type 0) → Refusal → Type 0
IsLibraryAnd P (Library e) = P e
IsLibraryAnd P TooSmall = ⊥
IsLibraryAnd P NotOpen = ⊥

-- an argument is wrong
abbrev pub IsWrong : Refusal → Type 0
IsWrong = IsLibraryAnd IsInvalidInput

-- the bytes are a path's: UTF-8 without a zero
pub record IsPath (bytes : List ℕ) : Type 0 where
  pub utf8 : IsUtf8 bytes
  pub no_zero : list_any (λ b. b == 0) bytes ≡ false
