-- Commands written as lines.
use Rattle.std.specs.Prelude.{ℕ, ◌≡◌, ◌≢◌, List, [], ◌∷◌, ◌++◌, chars, flat_map}
use Rattle.std.specs.List.{AllByRecursion, AllZip}
use Rattle.std.specs.Str.{IsUtf8}
use Rattle.cfb_text.specs.Shown.{shown}
use Rattle.cfb_lines.specs.cfb_rules.Lists.{Command}
use Rattle.cfb_lines.specs.declared.word.Word.{Word}
use Rattle.cfb_lines.specs.Commands.{IsLine, IsScript}
use Rattle.cfb_lines.specs.Lines.{comment}
use Rattle.cfb_lines.specs.Words.{spelling}

-- this is none of them
abbrev pub Lacks : ℕ → List ℕ → Type 0
Lacks c letters = AllByRecursion (λ d. d ≢ c) letters

abbrev pub ended : List ℕ → List ℕ
ended line = line ++ 10 ∷ []

-- a line for each of these commands stands behind the text
pub record AddsLines (old new : List ℕ) (commands : List Command) : Type 0 where
  pub lines : List (List ℕ)
  pub text : new ≡ old ++ flat_map ended lines
  pub whole : AllByRecursion (Lacks 10) lines
  pub each : AllZip IsLine lines commands

-- the word stands behind the text, and the path as it is shown, each with a tab
pub record IsHeadOf (old new : List ℕ) (word : Word) (path : List ℕ) : Type 0 where
  pub seen : List ℕ
  pub text : new ≡ old ++ (spelling word ++ (9 ∷ (seen ++ 9 ∷ [])))
  pub utf8 : IsUtf8 seen
  pub says : chars seen ≡ shown path

-- and a field behind them ends the line
pub record IsLineOf (old new : List ℕ) (word : Word) (path field : List ℕ) : Type 0 where
  pub seen : List ℕ
  pub text : new ≡ old ++ ended (spelling word ++ (9 ∷ (seen ++ (9 ∷ field))))
  pub utf8 : IsUtf8 seen
  pub says : chars seen ≡ shown path

-- a comment, and lines behind it, are a script of their commands
abbrev pub LinesAreAScript : Type 0
LinesAreAScript = (rest text : List ℕ) (commands : List Command) → Lacks 10 rest → AddsLines (ended (comment ++ rest)) text commands → IsScript text commands
