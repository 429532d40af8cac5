-- Faults that are told can be given.
use Rattle.std.proofs.Common.{◌≡◌, ◌∙◌, ◌≤◌, ◌++◌, ℕ, Bool, List, [], ◌∷◌, ap, arith, drop, length}
use Rattle.std.specs.Prelude.{All, Err, IfErr, IsTrue, Ok, OnErr, Result}
use Rattle.std.proofs.lemmas.List.{drop-append-le, drop_all}
use Rattle.std.proofs.lemmas.List.Elements.{All-nil, All-push, All-same}
use Rattle.cfb_format.specs.declared.error.Error.{Error}
use Rattle.cfb_format.specs.declared.error.Error.TheVariants.{NotFound, AlreadyExists, InvalidInput, InvalidData, Medium, Memory, Full, Unsound, Failed}
use Rattle.cfb_format.specs.declared.medium.MediumFault.{MediumFault}
use Rattle.cfb_format.specs.Refused.{CountsError, CountsFailure}
use Rattle.cfb_commands.specs.cfb_rules.Calls.{Call, flush}
use Rattle.cfb_commands.specs.cfb_agreement.Files.{FileState, failures_of}
use Rattle.cfb_commands.specs.cfb_path_changes.Answers.{IsRefusedBy}
use Rattle.cfb_commands.specs.cfb_path_changes.Calls.{CallAnswers, CallAnswersInTurn}
use Rattle.cfb_compound_file.specs.Asking.{IsOfAsking, IsOfOpeningStream}
use Rattle.cfb_commands.specs.Faults.{CanBeGiven}
use Rattle.cfb_commands.proofs.Calls.{counts_wider}

-- ---- one call

module _ (can_give : MediumFault → Bool) where
  -- by the count of failures
  pub counted : (old new : ℕ) (e : Error) → CountsError can_give old new e → CanBeGiven can_give e
  counted old new (Medium f) counts = counts.can
  counted old new (NotFound d) counts = tt
  counted old new (AlreadyExists d) counts = tt
  counted old new (InvalidInput d) counts = tt
  counted old new (InvalidData d) counts = tt
  counted old new Memory counts = tt
  counted old new Full counts = tt
  counted old new Unsound counts = tt
  counted old new Failed counts = tt

  pub all_counted : {T : Type 0} (old new : ℕ) (result : Result T Error) → CountsFailure can_give result old new → IfErr result (CanBeGiven can_give)
  all_counted old new (Ok x) counts = tt
  all_counted old new (Err e) counts = counted old new e counts

  -- a call that may change the file
  pub changes_given : {T : Type 0} (old : FileState) (call : Call) (result : Result T Error) (new : FileState) → CallAnswers can_give old call result new
      → IfErr result (CanBeGiven can_give)
  changes_given old call (Ok x) new answers = tt
  changes_given old call (Err e) new answers = counted (failures_of old) (failures_of new) e answers.counts

  pub turns_given : {T : Type 0} (old : FileState) (call : Call) (result : Result T Error) (new : FileState) → CallAnswersInTurn can_give old call result new
      → IfErr result (CanBeGiven can_give)
  turns_given old call (Ok x) new answers = tt
  turns_given old call (Err e) new answers = counted (failures_of old) (failures_of new) e answers.counts

  -- a flush, which only writes
  pub flush_given : {T : Type 0} (few : MediumFault → Bool) (old : FileState) (result : Result T Error) (new : FileState) → ((f : MediumFault) → IsTrue (few f) → IsTrue (can_give f))
      → IfErr result (IsRefusedBy few old flush new) → IfErr result (CanBeGiven can_give)
  flush_given few old (Ok x) new wider why = tt
  flush_given few old (Err e) new wider why =
      counted (failures_of old) (failures_of new) e (counts_wider few can_give (failures_of old) (failures_of new) e wider why.counts)

  -- a question, which never tells a fault
  asking_given : (e : Error) → IsOfAsking e → CanBeGiven can_give e
  asking_given (Medium f) why = absurd why
  asking_given (NotFound d) why = tt
  asking_given (AlreadyExists d) why = tt
  asking_given (InvalidInput d) why = tt
  asking_given (InvalidData d) why = tt
  asking_given Memory why = tt
  asking_given Full why = tt
  asking_given Unsound why = tt
  asking_given Failed why = tt

  pub questions_given : {T : Type 0} (result : Result T Error) → IfErr result IsOfAsking → IfErr result (CanBeGiven can_give)
  questions_given (Ok x) why = tt
  questions_given (Err e) why = asking_given e why

  -- nor does the opening of a stream that is there
  opening_given : (e : Error) → IsOfOpeningStream e → CanBeGiven can_give e
  opening_given (Medium f) why = absurd why
  opening_given (NotFound d) why = tt
  opening_given (AlreadyExists d) why = tt
  opening_given (InvalidInput d) why = tt
  opening_given (InvalidData d) why = tt
  opening_given Memory why = tt
  opening_given Full why = tt
  opening_given Unsound why = tt
  opening_given Failed why = tt

  pub openings_given : {T : Type 0} (result : Result T Error) → IfErr result IsOfOpeningStream → IfErr result (CanBeGiven can_give)
  openings_given (Ok x) why = tt
  openings_given (Err e) why = opening_given e why

  -- the making of a stream, of which more is known where it was refused
  pub makings_given : {T : Type 0} (told : Type 0) (more : Error → Type 0) (old last : FileState) (call : Call) (result : Result T Error) → told
      → OnErr result (IfErr result (λ e. more e × (told → IsRefusedBy can_give old call last e))) → IfErr result (CanBeGiven can_give)
  makings_given told more old last call (Ok x) is why = tt
  makings_given told more old last call (Err e) is why = counted (failures_of old) (failures_of last) e (why.1 is).counts

-- ---- one after the other

module _ {X : Type 0} (P : X → Type 0) where
  -- one more at the end
  pub one_more : (olds news : List X) (x : X) → news ≡ olds ++ x ∷ [] → All P olds → P x → All P news
  one_more olds news x put all one = All-same P news (olds ++ x ∷ []) put (All-push P olds x all one)

  -- one more behind those that were there
  pub one_more_behind : (n : ℕ) (olds news : List X) (x : X) → news ≡ olds ++ x ∷ [] → n ≤ length olds → All P (drop n olds) → P x → All P (drop n news)
  one_more_behind n olds news x put longer all one = one_more (drop n olds) (drop n news) x (ap (drop n) put ∙ drop-append-le n olds (x ∷ []) longer) all one

  -- behind them nothing stands yet
  pub none_behind : (xs : List X) → All P (drop (length xs) xs)
  none_behind xs = All-same P (drop (length xs) xs) [] (drop_all (length xs) xs (omega arith)) (All-nil P)

  pub none_so_far : (xs : List X) → xs ≡ [] → All P xs
  none_so_far xs none = All-same P xs [] none (All-nil P)
