-- What is told of a file as lines of text.
use Rattle.std.specs.Prelude.{ℕ, ◌≡◌, ◌⊎◌, List, [], ◌∷◌, ◌++◌, Bool, Option, Some, codes, flat_map, if◌then◌else◌, ⊤}
use Rattle.std.specs.Fmt.{decimal}
use Rattle.cfb_format.specs.declared.version.Version.{Version}
use Rattle.cfb_format.specs.Bytes.{version_number}
use Rattle.cfb_format.specs.Path.{child_path, names_of_path, path_of_names}
use Rattle.cfb_rules.specs.Calls.{Call, EntryInfo, entries}
use Rattle.cfb_shown.specs.declared.lines.Form.{Form}
use Rattle.cfb_shown.specs.declared.write_error.WriteError.{WriteError}
use Rattle.cfb_shown.specs.declared.write_error.WriteError.TheVariants.{File, Output}
use Rattle.cfb_shown.specs.Lines.{line_in}
use Rattle.cfb_tool.specs.cfb_agreement.Files.{FileState}
use Rattle.cfb_tool.specs.cfb_path_changes.Answers.{Answers, AnswersNot}

-- the text has a line for each object that the call tells, in its order
pub record HasLines (form : Form) (file : FileState) (call : Call) (text : List ℕ) : Type 0 where
  pub told : List EntryInfo
  pub answers : Answers file call (entries told)
  pub lines : text ≡ flat_map (line_in form) told

-- the call was refused, and then nothing was written; or the writer refused
abbrev pub IsNotListed : FileState → Call → (start now : Option (List ℕ)) → WriteError → Type 0
IsNotListed file call start now (File e) = AnswersNot file call e × (now ≡ start)
IsNotListed file call start now (Output e) = ⊤

-- an object of this name is told with this path where a walk begins with it, at a path that was asked: the root's is `/`
abbrev pub IsPathInWalk : (asked name path : List ℕ) → Type 0
IsPathInWalk asked name path = ((names_of_path asked ≡ Some []) × (path ≡ path_of_names []))
    ⊎ ((before : List (List ℕ)) × (last : List ℕ) × (names_of_path asked ≡ Some (before ++ last ∷ [])) × (path ≡ child_path (path_of_names before) name))

-- the version of a file, and whether it is sound
abbrev pub soundness_text : Version → Bool → List ℕ
soundness_text version sound = codes "version " ++ (decimal (version_number version) ++ (codes " " ++ ((if sound then codes "sound" else codes "not sound") ++ (10 ∷ []))))
