-- Writes one after the other.
use Rattle.std.proofs.Common.{◌≡◌, ◌∙◌, ◌≤◌, ◌<◌, ◌==◌, ℕ, Bool, true, false, List, [], ◌∷◌, ◌++◌, ap, append-nil, append_assoc, arith, drop, inl, inr, length, refl, subst, sym}
use Rattle.std.specs.Prelude.{◌⊎◌, ◌+◌, MatchBool, Option, Some, None, nat_le}
use Rattle.cfb_format.specs.declared.error.Error.{Error}
use Rattle.cfb_format.specs.declared.error.Error.TheVariants.{Medium}
use Rattle.cfb_format.specs.declared.medium.MediumFault.{MediumFault}
use Rattle.cfb_format.specs.Tree.{Tree}
use Rattle.cfb_rules.specs.Lists.{creates, replied, streamed}
use Rattle.cfb_rules.specs.Calls.{create_stream, refused}
use Rattle.cfb_rules.specs.Refusal.{Refusal, invalid_input, not_sound}
use Rattle.cfb_rules.specs.Runs.{Causes, IsStreamBroken, StreamCallRuns, StreamOnFailed, StreamRun, is_served}
use Rattle.cfb_rules.specs.StreamCalls.{Moves, StreamCall, StreamReply, StreamSetting, StreamState, StreamStep, Write, Wrote, count, not_done, write}
use Rattle.cfb_whole_streams.specs.cfb_agreement.Changes.{StaysOrFails}
use Rattle.cfb_whole_streams.specs.cfb_agreement.Files.{Agrees, FileState, SameSetting}
use Rattle.cfb_whole_streams.proofs.cfb_compound_file.StoredStreams.{agrees_as_before}
use Rattle.cfb_whole_streams.specs.cfb_stream_window.Contents.{stream_setting_of}
use Rattle.cfb_whole_streams.specs.cfb_stream_window.Windows.{Runs}
use Rattle.cfb_whole_streams.specs.cfb_path_changes.Answers.{IsRefusedBy, causes_of}
use Rattle.cfb_whole_streams.specs.cfb_compound_file.StreamAnswers.{OpenStream, StreamRunsOn, run_in, stored_in}
use Rattle.cfb_commands.specs.Promised.{CallKeeps, IsClosedOf, IsOpenSince, IsWorkedOn}
use Rattle.cfb_commands.specs.Working.{IsOpenedBy, LendsNothing, Works}
use Rattle.cfb_commands.proofs.Openings.{done_so, refused_so}
use Rattle.cfb_commands.proofs.Working.{works_none, works_on}
use Rattle.cfb_whole_streams.specs.Content.{IsPut, IsWrittenWhole, WritesAll}
use Rattle.cfb_whole_streams.specs.Told.{first_of, first_refusal, refusal_of_work, taken_by_work}

-- ---- a write takes something

not_served : (refusal : Refusal) → count 0 ≡ not_done refusal → ⊥
not_served refusal is = absurd (let w : true ≡ false = ap is_served is in cc)

module _ (setting : StreamSetting) (old new : StreamState) (bytes : List ℕ) (some : 0 < length bytes) where
  write_takes : Write setting bytes old (count 0) new → ⊥
  write_takes = go (length bytes == 0) (nat_le setting.limit old.position) setting.sound (grind arith)
    where
      go : (a b c : Bool) → a ≡ false → MatchBool a ((count 0 ≡ count 0) × Moves old new old.position 0)
          (MatchBool b ((count 0 ≡ not_done invalid_input) × (new ≡ old))
          (MatchBool c ((n : ℕ) × (1 ≤ n) × (n ≤ length bytes) × (old.position + n ≤ setting.limit) × (count 0 ≡ count n) × Wrote bytes n old new)
          ((count 0 ≡ not_done not_sound) × (new ≡ old)))) → ⊥
      go true b c e h = absurd (let w : true ≡ false = e in cc)
      go false true c e h = not_served invalid_input h.0
      go false false true e (n, least, most, fits, is, wrote) = let w : 0 ≡ n = ap taken_by_work is in omega (arith, least, w)
      go false false false e h = not_served not_sound h.0

runs_take : (causes : Causes) (setting : StreamSetting) (old new : StreamRun) (bytes : List ℕ) → 0 < length bytes → StreamCallRuns causes setting old (write bytes) (count 0) new → ⊥
runs_take causes setting old new bytes some = go old.failed
  where
    go : (b : Bool) → MatchBool b (StreamOnFailed (write bytes) (count 0) new)
        ((StreamStep setting old.stream (write bytes) (count 0) new.stream × (new.failed ≡ false)) ⊎ IsStreamBroken causes setting old.stream (write bytes) (count 0) new) → ⊥
    go true h = absurd (let w : true ≡ false = ap is_served h.1 in cc)
    go false (inl h) = write_takes setting old.stream new.stream bytes some h.0
    go false (inr (refusal, may, is, off, allowed)) = not_served refusal is

pub takes_some : (old new : OpenStream) (bytes : List ℕ) → 0 < length bytes → StreamRunsOn old (write bytes) (count 0) new → ⊥
unfolding Runs
takes_some old new bytes some runs = runs_take (causes_of old.file new.file) (stream_setting_of (stored_in old)) (run_in old) (run_in new) bytes some runs

-- ---- writes in turn

module _ (can_give : MediumFault → Bool) where
  -- a beginning is written, and the rest is left
  pub record IsBegun (old : OpenStream) (bytes rest : List ℕ) (now : OpenStream) : Type 0 where
    pub calls : List StreamCall
    pub replies : List StreamReply
    pub goes : (others : List StreamCall) (later : List StreamReply) → WritesAll rest others later → WritesAll bytes (calls ++ others) (replies ++ later)
    pub quiet : (later : List StreamReply) (closing : Option Refusal) → first_refusal (replies ++ later) closing ≡ first_refusal later closing
    pub works : (first opened : FileState) (path : List ℕ) (tree : Tree) → SameSetting first opened → IsOpenSince opened path old → LendsNothing old
        → Works can_give first opened path tree old calls replies now

  pub begun_none : (old : OpenStream) (bytes : List ℕ) → IsBegun old bytes bytes old
  begun_none old bytes = record {
    calls = [];
    replies = [];
    goes = λ others later h. h;
    quiet = λ later closing. refl;
    works = λ first opened path tree same since nothing. works_none can_give first opened path tree same old since nothing;
  }

  module _ (old : OpenStream) (bytes rest : List ℕ) (now next : OpenStream) (b : IsBegun old bytes rest now) where
    works_more : (reply : StreamReply) → IsWorkedOn now (write rest) reply next → Agrees next.file
        → (first opened : FileState) (path : List ℕ) (tree : Tree) → SameSetting first opened → IsOpenSince opened path old → LendsNothing old
        → Works can_give first opened path tree old (b.calls ++ write rest ∷ []) (b.replies ++ reply ∷ []) next
    works_more reply worked agrees first opened path tree same since nothing =
        works_on can_give first opened path tree same old now next b.calls b.replies (write rest) reply (b.works first opened path tree same since nothing) refl worked agrees

    pub begun_more : (n : ℕ) → IsWorkedOn now (write rest) (count n) next → Agrees next.file → IsBegun old bytes (drop n rest) next
    begun_more n worked agrees = record {
      calls = b.calls ++ write rest ∷ [];
      replies = b.replies ++ count n ∷ [];
      goes = λ others later h.
          subst (λ (cs : List StreamCall). WritesAll bytes cs ((b.replies ++ count n ∷ []) ++ later)) (sym (append_assoc {A = StreamCall} b.calls (write rest ∷ []) others))
          (subst (λ (rs : List StreamReply). WritesAll bytes (b.calls ++ write rest ∷ others) rs) (sym (append_assoc {A = StreamReply} b.replies (count n ∷ []) later))
          (b.goes (write rest ∷ others) (count n ∷ later) (refl, h)));
      quiet = λ later closing. ap (λ (rs : List StreamReply). first_refusal rs closing) (append_assoc {A = StreamReply} b.replies (count n ∷ []) later) ∙ b.quiet (count n ∷ later) closing;
      works = works_more (count n) worked agrees;
    }

    pub begun_refused : (refusal : Refusal) → IsWorkedOn now (write rest) (not_done refusal) next → Agrees next.file → IsWrittenWhole can_give old bytes (Some refusal) next
    begun_refused refusal worked agrees = record {
      calls = b.calls ++ write rest ∷ [];
      replies = b.replies ++ not_done refusal ∷ [];
      writes = b.goes (write rest ∷ []) (not_done refusal ∷ []) (refl, refl, refl);
      tells = sym (b.quiet (not_done refusal ∷ []) None);
      works = works_more (not_done refusal) worked agrees;
    }

  pub begun_done : (old : OpenStream) (bytes rest : List ℕ) (now : OpenStream) → IsBegun old bytes rest now → rest ≡ [] → IsWrittenWhole can_give old bytes None now
  begun_done old bytes rest now b none = record {
    calls = b.calls;
    replies = b.replies;
    writes = subst (λ (cs : List StreamCall). WritesAll bytes cs b.replies) (append-nil b.calls)
        (subst (λ (rs : List StreamReply). WritesAll bytes (b.calls ++ []) rs) (append-nil b.replies) (b.goes [] [] none));
    tells = sym (b.quiet [] None) ∙ ap (λ (rs : List StreamReply). first_refusal rs None) (append-nil b.replies);
    works = b.works;
  }

-- ---- from opening to closing

first_then : (first : Option Refusal) (rest closing : Option Refusal) → first_of first (first_of rest closing) ≡ first_of (first_of first rest) closing
first_then (Some refusal) rest closing = refl
first_then None rest closing = refl

pub closing_last : (replies : List StreamReply) (closing : Option Refusal) → first_refusal replies closing ≡ first_of (first_refusal replies None) closing
closing_last [] closing = refl
closing_last (reply ∷ replies) closing =
    ap (λ (o : Option Refusal). first_of (refusal_of_work reply) o) (closing_last replies closing) ∙ first_then (refusal_of_work reply) (first_refusal replies None) closing

-- a refused creation leaves in memory what the bytes say
by_stays : (old new : FileState) → StaysOrFails old new → Agrees old → Agrees new
by_stays old new (inl before) agrees = agrees_as_before old new before agrees
by_stays old new (inr failed) agrees = λ unfailed. absurd (let w : true ≡ false = sym failed ∙ unfailed in cc)

pub not_made_agrees : (can_give : MediumFault → Bool) (old new : FileState) (path : List ℕ) (e : Error) → IsRefusedBy can_give old (create_stream path) new e → Agrees old → Agrees new
not_made_agrees can_give old new path (Medium f) why agrees = by_stays old new why.stays agrees
not_made_agrees can_give old new path e why agrees = subst (λ (file : FileState). Agrees file) (sym why.stays) agrees

module _ (can_give : MediumFault → Bool) (old new : FileState) (path bytes : List ℕ) where
  pub put_not : (refusal : Refusal) → CallKeeps can_give old (create_stream path) (refused refusal) new → Agrees new → IsPut can_give old path bytes (Some refusal) new
  put_not refusal keeps agrees = record {
    calls = [];
    reply = replied (refused refusal);
    writes = refl;
    tells = refl;
    agrees = agrees;
    answers = refused_so can_give old new creates path [] refusal keeps;
  }

  pub put_so : (s now : OpenStream) (written closing told : Option Refusal) → IsOpenedBy can_give (create_stream path) old path s
      → IsWrittenWhole can_give s bytes written now → IsClosedOf s.file now closing new → Agrees new → told ≡ first_of written closing → IsPut can_give old path bytes told new
  put_so s now written closing told o w closed agrees is = record {
    calls = w.calls;
    reply = streamed w.replies closing;
    writes = w.writes;
    tells = is ∙ ap (λ (r : Option Refusal). first_of r closing) w.tells ∙ sym (closing_last w.replies closing);
    agrees = agrees;
    answers = done_so can_give old new creates path s now w.calls w.replies closing o
        (λ first tree same. w.works first s.file path tree same o.since o.lends) closed;
  }

-- nothing is left
pub emptied : (bytes : List ℕ) → length bytes ≡ 0 → bytes ≡ []
emptied [] none = refl
emptied (b ∷ bytes) none = absurd (omega (arith))
