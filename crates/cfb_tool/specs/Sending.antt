-- Text on its way to a writer, which gets it in pieces.
use Rattle.std.specs.Prelude.{ℕ, ◌≡◌, ◌<◌, ◌≤◌, ◌⊎◌, Bool, IsTrue, List, ◌++◌, Option, false, length, take, ⊤}
use Rattle.std.specs.Io.KnownBytes.{Appends}
use Rattle.cfb_format.specs.Refused.{HasReason, IsInvalidData, no_error}
use Rattle.cfb_format.specs.declared.error.Error.{Error}
use Rattle.cfb_format.specs.declared.medium.MediumFault.{MediumFault}
use Rattle.cfb_rules.specs.StreamCalls.{StreamState}
use Rattle.cfb_lines.specs.Fields.{AddsHex}
use Rattle.cfb_tool.specs.cfb_agreement.Files.{is_failed}
use Rattle.cfb_tool.specs.cfb_compound_file.StreamAnswers.{OpenStream, stream_in}
use Rattle.cfb_tool.specs.declared.dump_error.DumpError.{DumpError}
use Rattle.cfb_tool.specs.declared.dump_error.DumpError.TheVariants.{File, Object, Output}

-- of the text a front was written, where the writer tells its bytes, and this is left
pub record IsSent (start now : Option (List ℕ)) (text left : List ℕ) : Type 0 where
  pub front : List ℕ
  pub written : Appends start now front
  pub rest : text ≡ front ++ left

-- of the text a front was written at least
abbrev pub SendsFront : (start now : Option (List ℕ)) → (text : List ℕ) → Type 0
SendsFront start now text = (left : List ℕ) × IsSent start now text left

-- the writer refused
abbrev pub IsOfOutput : {A : Type 0} → DumpError A → Type 0
IsOfOutput (File e) = ⊥
IsOfOutput (Object e path) = ⊥
IsOfOutput (Output e) = ⊤

-- the medium refused, by a fault that it can give; or memory was refused
abbrev pub BreaksOff : (MediumFault → Bool) → Error → Type 0
BreaksOff can_give = HasReason (record no_error { medium = λ fault. IsTrue (can_give fault); memory = ⊤ })

-- the stream is at its start, in a file that has not failed, and no more can be read than there is
pub record IsAtStart (s : OpenStream) : Type 0 where
  pub unfailed : is_failed s.file ≡ false
  pub begins : (stream_in s).position ≡ 0
  pub readable : length (stream_in s).content ≤ (stream_in s).len

-- all of the stream can be read, and its digits were sent behind a text
pub record SendsDigits (z : StreamState) (start now : Option (List ℕ)) (old new : List ℕ) : Type 0 where
  pub whole : z.len ≡ length z.content
  pub text : List ℕ
  pub digits : AddsHex old text z.content
  pub sent : IsSent start now text new

-- digits of the first bytes that can be read stand behind a text, and of all this a front was written
pub record SendsPart (z : StreamState) (start now : Option (List ℕ)) (old : List ℕ) : Type 0 where
  pub count : ℕ
  pub text : List ℕ
  pub digits : AddsHex old text (take count z.content)
  pub sent : SendsFront start now text

-- not all of it can be read; or the medium or memory refused
abbrev pub IsNotReadOn : (MediumFault → Bool) → StreamState → Error → Type 0
IsNotReadOn can_give z e = (IsInvalidData e × (length z.content < z.len)) ⊎ BreaksOff can_give e

-- then only so much was written; or the writer refused
abbrev pub SendsNotAll : {A : Type 0} → (MediumFault → Bool) → StreamState → (start now : Option (List ℕ)) → (old : List ℕ) → DumpError A → Type 0
SendsNotAll can_give z start now old (File e) = IsNotReadOn can_give z e × SendsPart z start now old
SendsNotAll can_give z start now old (Object e path) = ⊥
SendsNotAll can_give z start now old (Output e) = ⊤
