-- What stands at a path where a `put` or an `add` was done to its end.
use Rattle.std.proofs.Common.{◌≡◌, ◌∙◌, ◌==◌, ℕ, Bool, true, false, List, [], ◌∷◌, ◌++◌, ap, append-nil, append_assoc, drop, length, refl, subst, sym, take}
use Rattle.std.proofs.lemmas.List.{take-append-drop}
use Rattle.std.proofs.lemmas.Bool.{eqb-true}
use Rattle.std.specs.Prelude.{MatchBool, Option, Some, None, pos}
use Rattle.cfb_rules.specs.Lists.{Command, CommandReply, CommandRuns, Deed, FileView, IsLegalRun, causes_between, creates, names_at, on_stream, replied, streamed}
use Rattle.cfb_rules.specs.Refusal.{Refusal, medium_failed, out_of_memory}
use Rattle.cfb_rules.specs.Runs.{Setting, opened_by_path}
use Rattle.cfb_rules.specs.StreamCalls.{StreamState, from_end, seek, write}
use Rattle.cfb_whole_streams.specs.Content.{HasStream}
use Rattle.cfb_whole_streams.specs.Laws.{Keeps}
use Rattle.cfb_whole_streams.specs.Told.{first_refusal, refusal_in, refusal_of_call, taken_by_work}
use Rattle.cfb_whole_streams.proofs.Stored.{EndsWith, added_with, empty_of, made_with, one_quiet, seek_runs, some_not_none, write_called}
use Rattle.cfb_tool.specs.Laws.{AddedIsStored, PutIsStored}
use Rattle.cfb_tool.specs.Playing.{AddsInTurn, PlaysOne, Unless, addition, bytes_written, path_written, taken_in}

-- that is what was told
abbrev pub IsTold : Option Refusal → Option Refusal → Type 0
IsTold told what = told ≡ what

module _ {S : Type 0} (seen : S → FileView) (promised : S → Deed → S → Type 0) (setting : Setting) where
  module _ (old new : S) (path : List ℕ) where
    -- one that writes once
    pub put_some : (bytes : List ℕ) (reply : CommandReply) → refusal_in reply ≡ None → CommandRuns seen promised setting old (on_stream creates path (write bytes ∷ [])) reply new
        → Keeps seen promised setting new path (take (taken_in reply) bytes)
    put_some bytes (replied reply) quiet runs = absurd (some_not_none runs.0.0 (sym (ap refusal_of_call runs.0.1) ∙ quiet))
    put_some bytes (streamed [] closing) quiet runs = absurd runs.works
    put_some bytes (streamed (reply ∷ []) closing) quiet runs =
        let q = one_quiet reply closing quiet in
        let (middle, between, step, rest) = runs.works in
        made_with seen promised setting old new path (write bytes ∷ []) (reply ∷ []) closing q.1 (take (taken_by_work reply) bytes) runs
        (λ begins. subst (λ (s : StreamState). EndsWith s (take (taken_by_work reply) bytes)) (sym rest.0)
        (write_called seen promised setting (names_at path) (opened_by_path setting.cases (seen runs.opened).state.tree path) middle runs.opened between (write bytes) [] bytes reply q.0 begins refl step).ends)
    put_some bytes (streamed (reply ∷ next ∷ replies) closing) quiet runs = absurd runs.works.3

    -- one that adds once
    pub add_some : (before bytes : List ℕ) (reply : CommandReply) → HasStream setting.cases (seen old).state.tree path before → refusal_in reply ≡ None
        → CommandRuns seen promised setting old (addition path bytes) reply new → Keeps seen promised setting new path (before ++ take (taken_in reply) bytes)
    add_some before bytes (replied reply) there quiet runs = absurd (some_not_none runs.0.0 (sym (ap refusal_of_call runs.0.1) ∙ quiet))
    add_some before bytes (streamed [] closing) there quiet runs = absurd runs.works
    add_some before bytes (streamed (first ∷ []) closing) there quiet runs = absurd runs.works.3
    add_some before bytes (streamed (first ∷ second ∷ []) closing) there quiet runs =
        let q = one_quiet first (first_refusal (second ∷ []) closing) quiet in
        let r = one_quiet second closing q.1 in
        let (found, at_end, seeks, writes) = runs.works in
        let (middle, between, step, rest) = writes in
        let start = opened_by_path setting.cases (seen runs.opened).state.tree path in
        added_with seen promised setting old new path (seek (from_end (pos 0)) ∷ write bytes ∷ []) (first ∷ second ∷ []) closing r.1 before (take (taken_by_work second) bytes) there runs
        (λ begins.
        let there_at = seek_runs (causes_between (seen runs.opened) (seen at_end) (seen at_end).full) setting.stream (record { stream = start; failed = (seen runs.opened).state.failed })
        (record { stream = found; failed = (seen at_end).state.failed }) first q.0 before (ap (λ (s : StreamState). s.len) begins) (ap (λ (s : StreamState). s.content) begins) seeks.runs in
        let grows = write_called seen promised setting (names_at path) found middle at_end between (write bytes) before bytes second r.0 there_at refl step in
        (subst (λ (s : StreamState). EndsWith s (before ++ take (taken_by_work second) bytes)) (sym rest.0) grows.ends, grows.unsound))
    add_some before bytes (streamed (first ∷ second ∷ third ∷ replies) closing) there quiet runs = absurd runs.works.3.3

  -- what is left is added in turn
  adds_all : (old new : S) (path before bytes : List ℕ) (commands : List Command) (replies : List CommandReply) → Keeps seen promised setting old path before
      → AddsInTurn path bytes commands replies None → IsLegalRun seen promised setting old commands replies new → Keeps seen promised setting new path (before ++ bytes)
  adds_all old new path before bytes [] [] keeps adds run = go (length bytes == 0) refl adds
    where
      none_not_some : IsTold None (Some out_of_memory) → ⊥
      none_not_some e = cc

      go : (b : Bool) → (length bytes == 0) ≡ b → MatchBool b (IsTold None None) (IsTold None (Some out_of_memory)) → Keeps seen promised setting new path (before ++ bytes)
      go true e h = subst (λ (s : S). Keeps seen promised setting s path (before ++ bytes)) (sym run)
          (subst (λ (bs : List ℕ). Keeps seen promised setting old path bs) (sym (ap (λ (bs : List ℕ). before ++ bs) (empty_of bytes (eqb-true (length bytes) 0 e)) ∙ append-nil before)) keeps)
      go false e h = absurd (none_not_some h)
  adds_all old new path before bytes [] (reply ∷ replies) keeps adds run = absurd adds
  adds_all old new path before bytes (command ∷ commands) [] keeps adds run = absurd adds
  adds_all old new path before bytes (command ∷ commands) (reply ∷ replies) keeps adds (middle, runs, rest) =
      go (λ added more. adds_all middle new path (before ++ take (taken_in reply) bytes) (drop (taken_in reply) bytes) commands replies added more rest) (length bytes == 0) adds
    where
      goes : ((added : Keeps seen promised setting middle path (before ++ take (taken_in reply) bytes)) → AddsInTurn path (drop (taken_in reply) bytes) commands replies None
          → Keeps seen promised setting new path (before ++ take (taken_in reply) bytes ++ drop (taken_in reply) bytes))
          → command ≡ addition path bytes → (o : Option Refusal) → refusal_in reply ≡ o → (b : Bool)
          → Unless o commands replies None (MatchBool b ((commands ≡ []) × (replies ≡ []) × IsTold None (Some medium_failed)) (AddsInTurn path (drop (taken_in reply) bytes) commands replies None))
          → Keeps seen promised setting new path (before ++ bytes)
      goes next is (Some r) e b h = absurd (some_not_none r (sym h.2))
      goes next is None e true h = absurd (some_not_none medium_failed (sym h.2))
      goes next is None e false h =
          let run_added = subst (λ (c : Command). CommandRuns seen promised setting old c reply middle) is runs in
          subst (λ (bs : List ℕ). Keeps seen promised setting new path bs)
          (append_assoc {A = ℕ} before (take (taken_in reply) bytes) (drop (taken_in reply) bytes) ∙ ap (λ (bs : List ℕ). before ++ bs) (take-append-drop (taken_in reply) bytes))
          (next (add_some old middle path before bytes reply keeps.1 e run_added) h)

      go : ((added : Keeps seen promised setting middle path (before ++ take (taken_in reply) bytes)) → AddsInTurn path (drop (taken_in reply) bytes) commands replies None
          → Keeps seen promised setting new path (before ++ take (taken_in reply) bytes ++ drop (taken_in reply) bytes))
          → (b : Bool) → MatchBool b ⊥ ((command ≡ addition path bytes) × Unless (refusal_in reply) commands replies None (
          MatchBool (taken_in reply == 0)
          ((commands ≡ []) × (replies ≡ []) × IsTold None (Some medium_failed))
          (AddsInTurn path (drop (taken_in reply) bytes) commands replies None)
          )) → Keeps seen promised setting new path (before ++ bytes)
      go next true h = absurd h
      go next false h = goes next h.0 (refusal_in reply) refl (taken_in reply == 0) h.1

module _ {S : Type 0} (seen : S → FileView) (promised : S → Deed → S → Type 0) where
  -- the first command, and what its write has left
  played_on : (setting : Setting) (old new : S) (asked : Command) (path before bytes : List ℕ) (commands : List Command) (replies : List CommandReply)
      → path_written asked ≡ path → bytes_written asked ≡ bytes
      → ((middle : S) (reply : CommandReply) → refusal_in reply ≡ None → CommandRuns seen promised setting old asked reply middle → Keeps seen promised setting middle path (before ++ take (taken_in reply) bytes))
      → PlaysOne asked commands replies None → IsLegalRun seen promised setting old commands replies new → Keeps seen promised setting new path (before ++ bytes)
  played_on setting old new asked path before bytes [] replies at is first plays run = absurd plays
  played_on setting old new asked path before bytes (command ∷ commands) [] at is first plays run = absurd plays
  played_on setting old new asked path before bytes (command ∷ commands) (reply ∷ replies) at is first plays (middle, runs, rest) = go (refusal_in reply) refl plays.1
    where
      go : (o : Option Refusal) → refusal_in reply ≡ o
          → Unless o commands replies None (AddsInTurn (path_written asked) (drop (taken_in reply) (bytes_written asked)) commands replies None)
          → Keeps seen promised setting new path (before ++ bytes)
      go (Some r) e h = absurd (some_not_none r (sym h.2))
      go None e h =
          let run_asked = subst (λ (c : Command). CommandRuns seen promised setting old c reply middle) plays.0 runs in
          let adds = subst (λ (p : List ℕ). AddsInTurn p (drop (taken_in reply) bytes) commands replies None) at
          (subst (λ (bs : List ℕ). AddsInTurn (path_written asked) (drop (taken_in reply) bs) commands replies None) is h) in
          subst (λ (bs : List ℕ). Keeps seen promised setting new path bs)
          (append_assoc {A = ℕ} before (take (taken_in reply) bytes) (drop (taken_in reply) bytes) ∙ ap (λ (bs : List ℕ). before ++ bs) (take-append-drop (taken_in reply) bytes))
          (adds_all seen promised setting middle new path (before ++ take (taken_in reply) bytes) (drop (taken_in reply) bytes) commands replies (first middle reply e run_asked) adds rest)

  pub put_is_stored : PutIsStored seen promised
  put_is_stored setting old new path bytes commands replies plays run =
      played_on setting old new (on_stream creates path (write bytes ∷ [])) path [] bytes commands replies refl refl
      (λ middle reply quiet runs. put_some seen promised setting old middle path bytes reply quiet runs) plays run

  pub added_is_stored : AddedIsStored seen promised
  added_is_stored setting old new path before bytes commands replies there plays run =
      played_on setting old new (addition path bytes) path before bytes commands replies refl refl
      (λ middle reply quiet runs. add_some seen promised setting old middle path before bytes reply there quiet runs) plays run
