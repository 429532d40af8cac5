-- New streams, open at their start.
use Rattle.std.specs.Prelude.{ℕ, ◌≡◌, List, Bool, true, false, IsTrue}
use Rattle.cfb_format.specs.declared.objtype.ObjType.TheVariants.{Stream}
use Rattle.cfb_compound_file.specs.cfb_rules.Calls.{Call, done}
use Rattle.cfb_agreement.specs.Files.{Agrees, FileState, SameSetting, is_failed}
use Rattle.cfb_stream_window.specs.Windows.{Suits, window_opened}
use Rattle.cfb_path_changes.specs.declared.placing.Creation.{Creation}
use Rattle.cfb_path_changes.specs.Adding.{kind_made}
use Rattle.cfb_path_changes.specs.Answers.{IsDoneBy}
use Rattle.cfb_path_changes.specs.Finding.{StandsAt}
use Rattle.cfb_compound_file.specs.OpenedStreams.{BeginsAt}
use Rattle.cfb_compound_file.specs.Stored.{KeepsRest}
use Rattle.cfb_compound_file.specs.StreamAnswers.{OpenStream, stored_in}

-- what is made is a stream
abbrev pub MakesStream : Creation → Type 0
MakesStream what = kind_made what ≡ Stream

-- By this call an empty stream was made at this path, or the one that is there was emptied, in a file as it was first. It is open at its
-- start, as the tree has it; from then on nothing has changed. Over any medium the file was sound and had not failed, and version, letters and
-- limits are as they were.
pub record IsCreatedBy (tells : Bool) (old : FileState) (call : Call) (path : List ℕ) (s : OpenStream) : Type 0 where
  pub does : IsTrue tells → IsDoneBy old call done s.file
  pub agrees : IsTrue tells → Agrees s.file
  pub was_sound : old.is_sound ≡ true
  pub was_unfailed : is_failed old ≡ false
  pub setting : SameSetting old s.file
  pub unfailed : is_failed s.file ≡ false
  pub window : s.window ≡ window_opened 0 old.buffer_limit
  pub suits : IsTrue tells → Suits (stored_in s) s.window
  pub stands : StandsAt s.file s.entry path
  pub begins : IsTrue tells → BeginsAt s.file path s
  pub rest : KeepsRest s.entry s.file s.file
