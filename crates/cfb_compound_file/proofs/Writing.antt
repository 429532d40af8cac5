-- Writes in turn.
use Rattle.std.proofs.Common.{◌≡◌, ◌∙◌, ◌<◌, ◌≤◌, ◌+◌, ◌-◌, ◌==◌, ℕ, Bool, true, false, List, [], ◌∷◌, ◌++◌, ap, append_assoc, arith, drop, inl, inr, length, refl, subst, sym, take}
use Rattle.std.proofs.lemmas.List.{length-drop, take_all}
use Rattle.std.specs.Prelude.{◌⊎◌, IsErrAnd, IsTrue, MatchBool, OnOk, Result, Ok, Err, nat_le}
use Rattle.cfb_format.specs.declared.error.Error.{Error}
use Rattle.cfb_format.specs.declared.medium.MediumFault.{MediumFault}
use Rattle.cfb_compound_file.specs.cfb_rules.Refusal.{Refusal, invalid_input, not_sound}
use Rattle.cfb_compound_file.specs.cfb_rules.Runs.{Causes, IsStreamBroken, StreamCallRuns, StreamOnFailed, StreamRun, is_served}
use Rattle.cfb_compound_file.specs.cfb_rules.StreamCalls.{Moves, StreamReply, StreamSetting, StreamState, StreamStep, Write, Wrote, count, not_done, write}
use Rattle.cfb_agreement.specs.Files.{SameSetting, is_failed}
use Rattle.cfb_compound_file.proofs.cfb_agreement.InTurn.{setting-then}
use Rattle.cfb_compound_file.proofs.cfb_volume.InMemory.{same-in-memory}
use Rattle.cfb_stream_window.specs.Contents.{stream_setting_of}
use Rattle.cfb_stream_window.specs.Windows.{Runs}
use Rattle.cfb_path_changes.specs.Answers.{causes_of}
use Rattle.cfb_compound_file.specs.StreamAnswers.{IsFailed, OpenStream, StreamRunsOn, run_in, stored_in}
use Rattle.cfb_compound_file.specs.Writing.{IsWrite, IsWrittenInTurn, WriteDone, WriteInTurn}
use Rattle.cfb_compound_file.proofs.Heeding.{setting_stays}

-- ---- a write takes something

-- how many bytes a reply counts
abbrev counted : StreamReply → ℕ
counted (count n) = n
counted reply = 0

not_served : (refusal : Refusal) → count 0 ≡ not_done refusal → ⊥
not_served refusal is = absurd (let w : true ≡ false = ap is_served is in cc)

module _ (setting : StreamSetting) (old new : StreamState) (bytes : List ℕ) (some : 0 < length bytes) where
  write_takes : Write setting bytes old (count 0) new → ⊥
  write_takes = go (length bytes == 0) (nat_le setting.limit old.position) setting.sound (grind arith)
    where
      go : (a b c : Bool) → a ≡ false → MatchBool a ((count 0 ≡ count 0) × Moves old new old.position 0)
          (MatchBool b ((count 0 ≡ not_done invalid_input) × (new ≡ old))
          (MatchBool c ((n : ℕ) × (1 ≤ n) × (n ≤ length bytes) × (old.position + n ≤ setting.limit) × (count 0 ≡ count n) × Wrote bytes n old new)
          ((count 0 ≡ not_done not_sound) × (new ≡ old)))) → ⊥
      go true b c e h = absurd (let w : true ≡ false = e in cc)
      go false true c e h = not_served invalid_input h.0
      go false false true e (n, least, most, fits, is, wrote) = let w : 0 ≡ n = ap counted is in omega (arith, least, w)
      go false false false e h = not_served not_sound h.0

runs_take : (causes : Causes) (setting : StreamSetting) (old new : StreamRun) (bytes : List ℕ) → 0 < length bytes → StreamCallRuns causes setting old (write bytes) (count 0) new → ⊥
runs_take causes setting old new bytes some = go old.failed
  where
    go : (b : Bool) → MatchBool b (StreamOnFailed (write bytes) (count 0) new)
        ((StreamStep setting old.stream (write bytes) (count 0) new.stream × (new.failed ≡ false)) ⊎ IsStreamBroken causes setting old.stream (write bytes) (count 0) new) → ⊥
    go true h = absurd (let w : true ≡ false = ap is_served h.1 in cc)
    go false (inl h) = write_takes setting old.stream new.stream bytes some h.0
    go false (inr (refusal, may, is, off, allowed)) = not_served refusal is

pub takes_some : (old new : OpenStream) (bytes : List ℕ) → 0 < length bytes → StreamRunsOn old (write bytes) (count 0) new → ⊥
unfolding Runs
takes_some old new bytes some runs = runs_take (causes_of old.file new.file) (stream_setting_of (stored_in old)) (run_in old) (run_in new) bytes some runs

-- ---- in turn

-- what is left behind so many bytes
rest_is : (bytes : List ℕ) (n : ℕ) → take (length bytes - n) (drop n bytes) ≡ drop n bytes
rest_is bytes n = take_all (length bytes - n) (drop n bytes) (omega (arith, length-drop n bytes))

module _ (tells : Bool) (can_give : MediumFault → Bool) where
  -- a beginning is written, by at least one write, and the rest is left
  pub record IsBegun (old : OpenStream) (bytes rest : List ℕ) (now : OpenStream) : Type 0 where
    pub before : List WriteDone
    pub at : OpenStream
    pub left : List ℕ
    pub taken : ℕ
    pub last : IsWrite tells can_give at left (Ok taken) now
    pub leaves : rest ≡ drop taken left
    pub goes : (more : List WriteDone) (result : Result (Unit {0}) Error) (new : OpenStream)
        → WriteInTurn tells can_give at left more result new → WriteInTurn tells can_give old bytes (before ++ more) result new

  pub begun_once : (old : OpenStream) (bytes : List ℕ) (n : ℕ) (now : OpenStream) → IsWrite tells can_give old bytes (Ok n) now → IsBegun old bytes (take (length bytes - n) (drop n bytes)) now
  begun_once old bytes n now w = record { before = []; at = old; left = bytes; taken = n; last = w; leaves = rest_is bytes n; goes = λ more result new later. later }

  pub refused_once : (old : OpenStream) (bytes : List ℕ) (e : Error) (new : OpenStream) → IsWrite tells can_give old bytes (Err e) new → IsWrittenInTurn tells can_give old bytes (Err e) new
  refused_once old bytes e new w = record { done = []; writes = w }

  -- a medium that tells nothing of its bytes can give a write none
  stuck_here : (s : OpenStream) (bytes : List ℕ) (e : Error) → is_failed s.file ≡ false → (IsTrue tells → ⊥) → IsWrite tells can_give s bytes (Err e) s
  stuck_here s bytes e unfailed never = record {
    stays = record {
      setting = setting_stays s.file s.file refl;
      goes_on = record {
        entry = refl;
        bound = refl;
        changes = λ told. absurd (never told);
        calm = λ told. absurd (never told);
        settles = λ told. absurd (never told);
        rest = λ told. absurd (never told);
      };
      once = λ told. absurd (never told);
      untouched = λ _. refl;
      unsound = λ _ _. refl;
      clean = λ _ _ _. refl;
      room = tt;
    };
    answer = record {
      refused = record {
        failed = λ is. absurd (let w : true ≡ false = sym is ∙ unfailed in cc);
        stays = same-in-memory s.file;
        rules = λ told. absurd (never told);
      };
      full_only = λ told. absurd (never told);
    };
  }

  module _ (old : OpenStream) (bytes rest : List ℕ) (now : OpenStream) (b : IsBegun old bytes rest now) where
    last_done : WriteDone
    last_done = record { taken = b.taken; after = now }

    pub begun_more : (n : ℕ) (next : OpenStream) → IsWrite tells can_give now rest (Ok n) next → IsBegun old bytes (take (length rest - n) (drop n rest)) next
    unfolding last_done
    begun_more n next w = record {
      before = b.before ++ last_done ∷ [];
      at = now;
      left = rest;
      taken = n;
      last = w;
      leaves = rest_is rest n;
      goes = λ more result new later.
          subst (λ (ds : List WriteDone). WriteInTurn tells can_give old bytes ds result new) (sym (append_assoc {A = WriteDone} b.before (last_done ∷ []) more))
          (b.goes (last_done ∷ more) result new (b.last, subst (λ (bs : List ℕ). WriteInTurn tells can_give now bs more result new) b.leaves later));
    }

    pub begun_refused : (e : Error) (next : OpenStream) → IsWrite tells can_give now rest (Err e) next → IsWrittenInTurn tells can_give old bytes (Err e) next
    unfolding last_done
    begun_refused e next w = record {
      done = b.before ++ last_done ∷ [];
      writes = b.goes (last_done ∷ []) (Err e) next (b.last, subst (λ (bs : List ℕ). IsWrite tells can_give now bs (Err e) next) b.leaves w);
    }

    pub begun_done : (u : Unit {0}) → rest ≡ [] → IsWrittenInTurn tells can_give old bytes (Ok u) now
    begun_done u none = record { done = b.before ++ []; writes = b.goes [] (Ok u) now (b.taken, b.last, sym b.leaves ∙ none) }

  -- a write took none of the bytes that are left
  pub begun_stuck : (old : OpenStream) (bytes rest : List ℕ) (now : OpenStream) → IsBegun old bytes rest now → (n : ℕ) (next : OpenStream) → IsWrite tells can_give now rest (Ok n) next
      → (IsTrue tells → ⊥) → (e : Error) → IsWrittenInTurn tells can_give old bytes (Err e) next
  begun_stuck old bytes rest now b n next w never e =
      begun_refused old bytes (take (length rest - n) (drop n rest)) next (begun_more old bytes rest now b n next w) e next
      (stuck_here next (take (length rest - n) (drop n rest)) e w.answer.unfailed never)

  -- ---- what follows from it, whatever the answer was

  turn_setting : (old : OpenStream) (bytes : List ℕ) (done : List WriteDone) (result : Result (Unit {0}) Error) (new : OpenStream) → WriteInTurn tells can_give old bytes done result new
      → SameSetting old.file new.file
  turn_setting old bytes [] (Ok x) new h = h.1.stays.setting
  turn_setting old bytes [] (Err e) new h = h.stays.setting
  turn_setting old bytes (done ∷ more) result new h =
      setting-then old.file done.after.file new.file h.0.stays.setting (turn_setting done.after (drop done.taken bytes) more result new h.1)

  turn_failed : (old : OpenStream) (bytes : List ℕ) (done : List WriteDone) (result : Result (Unit {0}) Error) (new : OpenStream) → WriteInTurn tells can_give old bytes done result new
      → is_failed old.file ≡ true → IsErrAnd result IsFailed × (new ≡ old)
  turn_failed old bytes [] (Ok x) new h is = absurd (let w : true ≡ false = sym is ∙ h.1.answer.was_unfailed in cc)
  turn_failed old bytes [] (Err e) new h is = h.answer.refused.failed is
  turn_failed old bytes (done ∷ more) result new h is = absurd (let w : true ≡ false = sym is ∙ h.0.answer.was_unfailed in cc)

  turn_unfailed : (old : OpenStream) (bytes : List ℕ) (done : List WriteDone) (result : Result (Unit {0}) Error) (new : OpenStream) → WriteInTurn tells can_give old bytes done result new
      → OnOk result (is_failed new.file ≡ false)
  turn_unfailed old bytes [] (Ok x) new h = h.1.answer.unfailed
  turn_unfailed old bytes [] (Err e) new h = tt
  turn_unfailed old bytes (done ∷ more) result new h = turn_unfailed done.after (drop done.taken bytes) more result new h.1

  module _ (old : OpenStream) (bytes : List ℕ) (result : Result (Unit {0}) Error) (new : OpenStream) (w : IsWrittenInTurn tells can_give old bytes result new) where
    -- version, letters, limits and soundness stay
    pub written_setting : SameSetting old.file new.file
    written_setting = turn_setting old bytes w.done result new w.writes

    -- a file that failed earlier stays as it is, and so does the stream
    pub written_failed : is_failed old.file ≡ true → IsErrAnd result IsFailed × (new ≡ old)
    written_failed = turn_failed old bytes w.done result new w.writes

    -- where all is written the file has not failed
    pub written_unfailed : OnOk result (is_failed new.file ≡ false)
    written_unfailed = turn_unfailed old bytes w.done result new w.writes

-- nothing is left
pub emptied : (bytes : List ℕ) → length bytes ≡ 0 → bytes ≡ []
emptied [] none = refl
emptied (b ∷ bytes) none = absurd (omega (arith))
