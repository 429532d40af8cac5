-- A file between two commands, as the rules of calls see it.
use Rattle.std.specs.Prelude.{ℕ, List, Some}
use Rattle.cfb_format.specs.Tree.{Tree}
use Rattle.cfb_commands.specs.cfb_rules.Lists.{FileView}
use Rattle.cfb_commands.specs.cfb_directory.State.{IsFullForEntry}
use Rattle.cfb_commands.specs.cfb_content.Contents.{IsTooLongFor}
use Rattle.cfb_commands.specs.cfb_agreement.Files.{FileState, IsFullFile, failures_of}
use Rattle.cfb_commands.specs.cfb_path_changes.Answers.{state_with}
use Rattle.cfb_commands.specs.cfb_path_changes.Finding.{LeadTo}

-- what is in memory and on the medium, and the tree that its bytes mean
pub record Standing : Type 0 where
  pub file : FileState
  pub tree : Tree

abbrev pub standing_at : FileState → Tree → Standing
standing_at file tree = record { file = file; tree = tree }

-- a length is too long for the stream at these names
abbrev pub IsTooLongAt : FileState → List (List ℕ) → ℕ → Type 0
IsTooLongAt file names len = (entry : ℕ) × LeadTo file names (Some entry) × IsTooLongFor file.base entry len

abbrev pub seen_as : Standing → FileView
seen_as s = record {
  state = state_with s.file s.tree;
  failures = failures_of s.file;
  full = IsFullFile s.file;
  no_entry = IsFullForEntry s.file.base.directory;
  too_long = IsTooLongAt s.file;
}
