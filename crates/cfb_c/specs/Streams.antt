-- What calls on streams through a handle come to.
use Rattle.std.specs.Prelude.{ℕ, ◌≡◌, ◌⊎◌, Bool, true, false, List, [], IsErrAnd, OnOk, Result, Ok, Err}
use Rattle.cfb_format.specs.declared.error.Error.{Error}
use Rattle.cfb_format.specs.Memory.{is_refused_growth}
use Rattle.cfb_format.specs.Refused.{number_of}
use Rattle.cfb_commands.specs.cfb_agreement.Files.{FileState, is_failed}
use Rattle.cfb_commands.specs.cfb_path_changes.Answers.{Answers}
use Rattle.cfb_commands.specs.cfb_rules.Calls.{flag, is_stream}
use Rattle.cfb_commands.specs.Commands.{refusal_of_result}
use Rattle.cfb_whole_streams.specs.Content.{HoldsStream, IsNotRead, IsOnlyRead, IsPut}
use Rattle.cfb_c.specs.declared.refusal.Refusal.{Refusal}
use Rattle.cfb_c.specs.declared.refusal.Refusal.TheVariants.{Library, TooSmall, NotOpen}
use Rattle.cfb_c.specs.Given.{IsGiven}

-- all bytes of the stream were told so, and of the file nothing has changed but the count of failures
pub record ReadsWhole {T : Type 0} (path : List ℕ) (room : List ℕ) (old : FileState) (outcome : Result T Refusal) (filled : List ℕ) (len : ℕ) (new : FileState) : Type 0 where
  pub bytes : List ℕ
  pub holds : HoldsStream old path bytes
  pub given : IsGiven bytes room outcome filled len
  pub kept : IsOnlyRead old new

-- or they were not read
abbrev pub GetsWhole : {T : Type 0} → (room filled : List ℕ) → (len : ℕ) → (path : List ℕ) → FileState → Result T Refusal → FileState → Type 0
GetsWhole room filled len path old (Ok x) new = ReadsWhole path room old (Ok x) filled len new
GetsWhole {T = T} room filled len path old (Err TooSmall) new = ReadsWhole {T = T} path room old (Err TooSmall) filled len new
GetsWhole room filled len path old (Err (Library e)) new = IsNotRead old path new e × IsOnlyRead old new
GetsWhole room filled len path old (Err NotOpen) new = ⊥

-- the library was to put these bytes at this path, and answered so
pub record PutsWhole {T : Type 0} (bytes : List ℕ) (path : List ℕ) (old : FileState) (outcome : Result T Error) (new : FileState) : Type 0 where
  pub put : IsPut is_refused_growth old path bytes (refusal_of_result outcome) new
  pub holds : OnOk outcome (HoldsStream new path bytes)

-- a stream stands there already, where none may
pub record IsThereAlready {T : Type 0} (path : List ℕ) (old : FileState) (outcome : Result T Error) (new : FileState) : Type 0 where
  pub calm : is_failed old ≡ false
  pub stands : Answers old (is_stream path) (flag true)
  pub refused : IsErrAnd outcome (λ e. number_of e ≡ 2)
  pub same : new ≡ old

-- an empty stream was put there, but in the place of none where it has to be new
abbrev pub PutsEmpty : {T : Type 0} → (is_new : Bool) → (path : List ℕ) → FileState → Result T Error → FileState → Type 0
PutsEmpty true path old outcome new = IsThereAlready path old outcome new ⊎ PutsWhole [] path old outcome new
PutsEmpty false path old outcome new = PutsWhole [] path old outcome new
