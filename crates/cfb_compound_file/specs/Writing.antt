-- Writes of a stream in turn, until all bytes are written.
use Rattle.std.specs.Prelude.{ℕ, ◌≡◌, Bool, List, [], ◌∷◌, MatchResult, Result, Ok, Err, drop}
use Rattle.cfb_format.specs.declared.error.Error.{Error}
use Rattle.cfb_format.specs.declared.medium.MediumFault.{MediumFault}
use Rattle.cfb_compound_file.specs.cfb_rules.StreamCalls.{count, write}
use Rattle.cfb_path_changes.specs.Answers.{causes_of}
use Rattle.cfb_compound_file.specs.StreamAnswers.{OpenStream, StreamDone, StreamRefusedFor, StreamStays}

-- a write that was done: how many bytes it took, and the stream then
pub record WriteDone : Type 0 where
  pub taken : ℕ
  pub after : OpenStream

module _ (tells : Bool) (can_give : MediumFault → Bool) where
  -- a write of these bytes is answered so
  pub record IsWrite (old : OpenStream) (bytes : List ℕ) (result : Result ℕ Error) (new : OpenStream) : Type 0 where
    pub stays : StreamStays tells old (write bytes) new
    pub answer : MatchResult result (λ n. StreamDone tells (causes_of old.file new.file) old (write bytes) (count n) new) (StreamRefusedFor tells can_give old (write bytes) new)

  -- each of these writes takes a beginning of what those before it have left, and one more takes the rest, or is refused
  abbrev pub WriteInTurn : OpenStream → List ℕ → List WriteDone → Result (Unit {0}) Error → OpenStream → Type 0
  WriteInTurn old bytes [] (Ok x) new = (n : ℕ) × IsWrite old bytes (Ok n) new × (drop n bytes ≡ [])
  WriteInTurn old bytes [] (Err e) new = IsWrite old bytes (Err e) new
  WriteInTurn old bytes (done ∷ more) result new = IsWrite old bytes (Ok done.taken) done.after × WriteInTurn done.after (drop done.taken bytes) more result new

  -- all bytes are written so, or the first refusal is answered
  pub record IsWrittenInTurn (old : OpenStream) (bytes : List ℕ) (result : Result (Unit {0}) Error) (new : OpenStream) : Type 0 where
    pub done : List WriteDone
    pub writes : WriteInTurn old bytes done result new
