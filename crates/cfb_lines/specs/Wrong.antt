-- Why a line is no command, and where the first such line stands.
use Rattle.std.specs.Prelude.{ℕ, ℤ, ◌≡◌, ◌+◌, ◌==◌, ⊤, List, [], ◌∷◌, ◌++◌, length, Option, Some, None}
use Rattle.std.specs.List.{AllZip, slice_split}
use Rattle.std.specs.Str.{IsUtf8}
use Rattle.uuid.specs.Text.{parsed}
use Rattle.cfb_lines.specs.cfb_rules.Lists.{Command}
use Rattle.cfb_lines.specs.declared.error.WrongLine.{WrongLine}
use Rattle.cfb_lines.specs.declared.error.WrongLine.TheVariants.{NotText, NoWord, Wants, NotA}
use Rattle.cfb_lines.specs.declared.error.LineError.{LineError}
use Rattle.cfb_lines.specs.declared.error.LineError.TheVariants as one
use Rattle.cfb_lines.specs.declared.error.LinesError.{LinesError}
use Rattle.cfb_lines.specs.declared.error.LinesError.TheVariants as many
use Rattle.cfb_lines.specs.declared.word.Word.{Word}
use Rattle.cfb_lines.specs.declared.word.Field.{Field}
use Rattle.cfb_lines.specs.declared.word.Field.TheVariants.{Seconds, Number32, Number64, Bytes, ClassId}
use Rattle.cfb_lines.specs.Commands.{IsLine}
use Rattle.cfb_lines.specs.Fields.{IsHex, IsNumber, IsSeconds}
use Rattle.cfb_lines.specs.Lines.{command_lines, comment_count}
use Rattle.cfb_lines.specs.Words.{field_behind, field_count, spelling}
use denote.Ref.{Bor}

-- the fields behind the path, of which there is one at most
abbrev pub last_fields : Option (Bor (List ℕ)) → List (List ℕ)
last_fields None = []
last_fields (Some last) = last.now ∷ []

-- the text says a value of this kind
abbrev pub IsOfField : Field → List ℕ → Type 0
IsOfField Seconds text = (z : ℤ) × IsSeconds text z
IsOfField Number32 text = (n : ℕ) × IsNumber 32 text n
IsOfField Number64 text = (n : ℕ) × IsNumber 64 text n
IsOfField Bytes text = (bytes : List ℕ) × IsHex text bytes
IsOfField ClassId text = (id : List ℕ) × (parsed text ≡ Some id)

-- this is wrong with a line
abbrev pub IsWrongWith : List ℕ → WrongLine → Type 0
IsWrongWith line NotText = IsUtf8 line → ⊥
IsWrongWith line (NoWord text) =
    (more : List (List ℕ)) × (slice_split (λ b. b == 9) line ≡ text.now ∷ more) × ((w : Word) → text.now ≡ spelling w → ⊥)
IsWrongWith line (Wants word) =
    (more : List (List ℕ)) × (slice_split (λ b. b == 9) line ≡ spelling word ∷ more) × (length more ≡ 1 + field_count word → ⊥)
IsWrongWith line (NotA field text) =
    (word : Word) × (path : List ℕ) × (slice_split (λ b. b == 9) line ≡ spelling word ∷ path ∷ text.now ∷ [])
    × (field_behind word ≡ Some field) × (IsOfField field text.now → ⊥)

-- this is wrong with what stands behind a word and a path
abbrev pub IsWrongBehind : Word → List (List ℕ) → WrongLine → Type 0
IsWrongBehind word rest NotText = ⊥
IsWrongBehind word rest (NoWord text) = ⊥
IsWrongBehind word rest (Wants other) = (other ≡ word) × (length rest ≡ field_count word → ⊥)
IsWrongBehind word rest (NotA field text) =
    (rest ≡ text.now ∷ []) × (field_behind word ≡ Some field) × (IsOfField field text.now → ⊥)

-- the error tells what is wrong; want of memory says nothing
abbrev pub TellsWrong : (WrongLine → Type 0) → LineError → Type 0
TellsWrong P (one.Wrong why) = P why
TellsWrong P one.Memory = ⊤

-- the error tells that the text is not of this kind
abbrev pub IsNotA : Field → List ℕ → LineError → Type 0
IsNotA field text (one.Wrong NotText) = ⊥
IsNotA field text (one.Wrong (NoWord other)) = ⊥
IsNotA field text (one.Wrong (Wants word)) = ⊥
IsNotA field text (one.Wrong (NotA kind other)) = (kind ≡ field) × (other.now ≡ text) × (IsOfField field text → ⊥)
IsNotA field text one.Memory = ⊤

-- the error of the line with this number
abbrev pub error_at : (number : ℕ) → LineError → LinesError
error_at number (one.Wrong why) = many.WrongWords number why
error_at number one.Memory = many.Memory

-- wrong words say so much; want of memory says nothing
abbrev pub WrongIf : Type 0 → LinesError → Type 0
WrongIf P (many.WrongWords number why) = P
WrongIf P many.Memory = ⊤

-- the line of this number, counted from 1, is the first that is no command, and this is wrong with it
pub record IsFirstWrong (text : List ℕ) (number : ℕ) (why : WrongLine) : Type 0 where
  pub before : List (List ℕ)
  pub line : List ℕ
  pub behind : List (List ℕ)
  pub lines : command_lines text ≡ before ++ line ∷ behind
  pub counted : number ≡ comment_count text + length before + 1
  pub commands : List Command
  pub right : AllZip IsLine before commands
  pub wrong : IsWrongWith line why

abbrev pub TellsFirstWrong : List ℕ → LinesError → Type 0
TellsFirstWrong text (many.WrongWords number why) = IsFirstWrong text number why
TellsFirstWrong text many.Memory = ⊤
