-- Runs one behind the other.
use Rattle.std.proofs.Common.{◌≡◌, ◌∙◌, ◌<◌, ℕ, Bool, true, false, List, [], ◌∷◌, ◌++◌, ap, append-nil, append_assoc, arith, drop, get_or, length, map, refl, subst, sym}
use Rattle.std.proofs.lemmas.List.{drop_all}
use Rattle.std.specs.Prelude.{Option, Some, None, Ok, Err, IsTrue}
use Rattle.cfb_format.specs.declared.error.Error.{Error}
use Rattle.cfb_format.specs.declared.medium.MediumFault.{MediumFault}
use Rattle.cfb_rules.specs.Lists.{Command, CommandReply, Deed, FileView, IsLegalRun}
use Rattle.cfb_rules.specs.Refusal.{Refusal, medium_failed, out_of_memory}
use Rattle.cfb_rules.specs.Runs.{Setting}
use Rattle.cfb_tool.specs.cfb_agreement.Files.{FileState}
use Rattle.cfb_tool.specs.cfb_path_changes.Answers.{setting_of}
use Rattle.cfb_commands.specs.Promised.{promised}
use Rattle.cfb_commands.specs.Seen.{seen_as, standing_at}
use Rattle.cfb_commands.proofs.Made.{run_stays}
use Rattle.cfb_commands.specs.declared.command.Command.{Command as TheCommand}
use Rattle.cfb_commands.specs.declared.command.Reply.{Reply as TheReply}
use Rattle.cfb_commands.specs.Commands.{command_of, refusal_of_error, command_reply_of}
use Rattle.cfb_commands.specs.Working.{RunsLegally}
use Rattle.cfb_tool.specs.Playing.{AddsInTurn, ArePlayed, IsAdded, IsPlayed, PlaysOnce, addition, bytes_written, is_all_done, path_written, told_line, told_lines}
use Rattle.cfb_tool.proofs.Turns.{adds_more, adds_not, adds_nothing, adds_refused, adds_stuck, done_more, done_not, lines_more, plays_more, plays_on, plays_refused}
use Rattle.cfb_commands.proofs.Before.{setting_same}

module _ {S : Type 0} (seen : S → FileView) (promised : S → Deed → S → Type 0) (setting : Setting) where
  legal_then : (old middle new : S) (commands others : List Command) (replies later : List CommandReply)
      → IsLegalRun seen promised setting old commands replies middle → IsLegalRun seen promised setting middle others later new
      → IsLegalRun seen promised setting old (commands ++ others) (replies ++ later) new
  legal_then old middle new [] others [] later runs then_runs = subst (λ (s : S). IsLegalRun seen promised setting s others later new) runs then_runs
  legal_then old middle new [] others (reply ∷ replies) later runs then_runs = absurd runs
  legal_then old middle new (command ∷ commands) others [] later runs then_runs = absurd runs
  legal_then old middle new (command ∷ commands) others (reply ∷ replies) later runs then_runs =
      (runs.0, runs.1, legal_then runs.0 middle new commands others replies later runs.2 then_runs)

module _ (can_give : MediumFault → Bool) where
  pub runs_none : (file : FileState) → RunsLegally can_give file [] [] file
  runs_none file = λ tree means. (tree, means, refl)

  pub runs_then : (old middle new : FileState) (commands others : List Command) (replies later : List CommandReply)
      → RunsLegally can_give old commands replies middle → RunsLegally can_give middle others later new
      → RunsLegally can_give old (commands ++ others) (replies ++ later) new
  runs_then old middle new commands others replies later runs then_runs = λ tree means.
      let r = runs tree means in
      let stays = run_stays can_give (setting_of old) (standing_at old tree) (standing_at middle r.0) commands replies r.2 in
      let s = then_runs r.0 r.1 in (
        s.0,
        s.1,
        legal_then seen_as (promised can_give) (setting_of old) (standing_at old tree) (standing_at middle r.0) (standing_at new s.0) commands others replies later r.2
            (subst (λ (z : Setting). IsLegalRun seen_as (promised can_give) z (standing_at middle r.0) others later (standing_at new s.0)) (setting_same old middle stays.setting) s.2),
      )

single : {X : Type 0} (xs : List X) (x : X) → length xs ≡ 1 → x ≡ get_or xs 0 x → xs ≡ x ∷ []
single [] x one is = absurd (omega arith)
single (y ∷ []) x one is = ap (λ z. z ∷ []) (sym is)
single (y ∷ z ∷ xs) x one is = absurd (omega arith)

drop_none : {X : Type 0} (n : ℕ) (xs : List X) → n ≡ 0 → drop n xs ≡ xs
drop_none n xs none = ap (λ (m : ℕ). drop m xs) none

-- a list of one command, with its reply
pub one_run : {A : Type 0} (can_give : MediumFault → Bool) (old new : FileState) (commands : List (TheCommand A)) (asked : Command) (olds news : List (TheReply A)) (reply : TheReply A)
    → map command_of commands ≡ asked ∷ [] → length olds ≡ 0 → length news ≡ 1 → reply ≡ get_or news 0 reply
    → RunsLegally can_give old (map command_of commands) (map command_reply_of (drop (length olds) news)) new
    → RunsLegally can_give old (asked ∷ []) (command_reply_of reply ∷ []) new
one_run {A = A} can_give old new commands asked olds news reply one none each is runs =
    subst (λ (cs : List Command). RunsLegally can_give old cs (command_reply_of reply ∷ []) new) one
    (subst (λ (rs : List (TheReply A)). RunsLegally can_give old (map command_of commands) (map command_reply_of rs) new) (drop_none (length olds) news none ∙ single news reply each is) runs)

-- ---- what is left is added in turn

module _ (can_give : MediumFault → Bool) (old : FileState) (path bytes : List ℕ) where
  -- a beginning of the bytes was added, and the rest is left
  pub record IsAdding (rest : List ℕ) (now : FileState) : Type 0 where
    pub commands : List Command
    pub replies : List CommandReply
    pub goes : (others : List Command) (later : List CommandReply) (told : Option Refusal) → AddsInTurn path rest others later told
        → AddsInTurn path bytes (commands ++ others) (replies ++ later) told
    pub runs : RunsLegally can_give old commands replies now

  pub adding_none : IsAdding bytes old
  adding_none = record { commands = []; replies = []; goes = λ others later told h. h; runs = runs_none can_give old }

  module _ (rest : List ℕ) (now : FileState) (a : IsAdding rest now) where
    added : (next : FileState) (others : List Command) (later : List CommandReply) (told : Option Refusal) → AddsInTurn path rest others later told → RunsLegally can_give now others later next
        → IsAdded can_give old path bytes told next
    added next others later told adds runs = record {
      commands = a.commands ++ others;
      replies = a.replies ++ later;
      adds = a.goes others later told adds;
      runs = runs_then can_give old now next a.commands others a.replies later a.runs runs;
    }

    pub added_all : length rest ≡ 0 → IsAdded can_give old path bytes None now
    added_all none = added now [] [] None (adds_nothing path rest none) (runs_none can_give now)

    -- memory was refused for a command
    pub added_not : 0 < length rest → IsAdded can_give old path bytes (Some out_of_memory) now
    added_not some = added now [] [] (Some out_of_memory) (adds_not path rest some) (runs_none can_give now)

    module _ (some : 0 < length rest) (next : FileState) where
      pub added_refused : (e : Error) → PlaysOnce can_give now (addition path rest) (Err e) next → IsAdded can_give old path bytes (Some (refusal_of_error e)) next
      added_refused e h = added next (addition path rest ∷ []) (h.0 ∷ []) (Some (refusal_of_error e)) (adds_refused path rest some h.0 (refusal_of_error e) h.2) h.1

      pub added_stuck : (n : ℕ) → n ≡ 0 → PlaysOnce can_give now (addition path rest) (Ok n) next → IsAdded can_give old path bytes (Some medium_failed) next
      added_stuck n none h = added next (addition path rest ∷ []) (h.0 ∷ []) (Some medium_failed) (adds_stuck path rest some h.0 h.2.0 (sym h.2.1 ∙ none)) h.1

      pub adding_more : (n : ℕ) → 0 < n → PlaysOnce can_give now (addition path rest) (Ok n) next → IsAdding (drop n rest) next
      adding_more n took h = record {
        commands = a.commands ++ addition path rest ∷ [];
        replies = a.replies ++ h.0 ∷ [];
        goes = λ others later told adds.
            subst (λ (cs : List Command). AddsInTurn path bytes cs ((a.replies ++ h.0 ∷ []) ++ later) told) (sym (append_assoc {A = Command} a.commands (addition path rest ∷ []) others))
            (subst (λ (rs : List CommandReply). AddsInTurn path bytes (a.commands ++ addition path rest ∷ others) rs told) (sym (append_assoc {A = CommandReply} a.replies (h.0 ∷ []) later))
            (a.goes (addition path rest ∷ others) (h.0 ∷ later) told (adds_more path rest some h.0 others later told h.2.0 (subst (λ (m : ℕ). 0 < m) h.2.1 took)
            (subst (λ (m : ℕ). AddsInTurn path (drop m rest) others later told) h.2.1 adds))));
        runs = runs_then can_give old now next a.commands (addition path rest ∷ []) a.replies (h.0 ∷ []) a.runs h.1;
      }

-- ---- one command, done to its end

module _ (can_give : MediumFault → Bool) (old : FileState) (asked : Command) where
  pub played_not : (next : FileState) (e : Error) → PlaysOnce can_give old asked (Err e) next → IsPlayed can_give old asked (Some (refusal_of_error e)) next
  played_not next e h = record {
    commands = asked ∷ [];
    replies = h.0 ∷ [];
    plays = plays_refused asked h.0 (refusal_of_error e) h.2;
    runs = h.1;
  }

  module _ (middle : FileState) (n : ℕ) (h : PlaysOnce can_give old asked (Ok n) middle) where
    -- and its write has left nothing, or what is added
    pub played_then : (new : FileState) (told : Option Refusal) → IsAdded can_give middle (path_written asked) (drop n (bytes_written asked)) told new → IsPlayed can_give old asked told new
    played_then new told a = record {
      commands = asked ∷ a.commands;
      replies = h.0 ∷ a.replies;
      plays = plays_on asked h.0 a.commands a.replies told h.2.0
          (subst (λ (m : ℕ). AddsInTurn (path_written asked) (drop m (bytes_written asked)) a.commands a.replies told) h.2.1 a.adds);
      runs = runs_then can_give old middle new (asked ∷ []) a.commands (h.0 ∷ []) a.replies h.1 a.runs;
    }

    pub played_whole : bytes_written asked ≡ [] → IsPlayed can_give old asked None middle
    played_whole none = played_then middle None (record {
      commands = [];
      replies = [];
      adds = adds_nothing (path_written asked) (drop n (bytes_written asked)) (ap (λ (bs : List ℕ). length (drop n bs)) none ∙ ap (λ (bs : List ℕ). length bs) (drop_all n [] (omega (arith))));
      runs = runs_none can_give middle;
    })

    pub played_adding : (new : FileState) (told : Option Refusal) (path bytes left : List ℕ) → path_written asked ≡ path → bytes_written asked ≡ bytes → left ≡ drop n bytes
        → IsAdded can_give middle path left told new → IsPlayed can_give old asked told new
    played_adding new told path bytes left at is rest a = played_then new told
        (subst (λ (p : List ℕ). IsAdded can_give middle p (drop n (bytes_written asked)) told new) (sym at)
        (subst (λ (bs : List ℕ). IsAdded can_give middle path (drop n bs) told new) (sym is)
        (subst (λ (bs : List ℕ). IsAdded can_give middle path bs told new) rest a)))

-- ---- the commands of a list

module _ (tells : Bool) (can_give : MediumFault → Bool) (old : FileState) where
  pub all_none : (text : List ℕ) → ArePlayed tells can_give old [] text text true old
  all_none text = record {
    told = [];
    each = refl;
    lines = sym (append-nil text);
    done = refl;
    plays = λ t. record { commands = []; replies = []; plays = (refl, refl); runs = runs_none can_give old };
  }

  module _ (asked : List Command) (next : Command) (text now line : List ℕ) (done : Bool) (middle new : FileState) (p : ArePlayed tells can_give old asked text now done middle) where
    all_on : (told : Option Refusal) (ends : Bool) → ends ≡ is_all_done (p.told ++ told ∷ []) → line ≡ told_line told → (IsTrue tells → IsPlayed can_give middle next told new)
        → ArePlayed tells can_give old (asked ++ next ∷ []) text (now ++ line) ends new
    all_on told ends is lines played = record {
      told = p.told ++ told ∷ [];
      each = one_longer p.told told asked next p.each;
      lines = ap (λ (ls : List ℕ). ls ++ line) p.lines ∙ append_assoc {A = ℕ} text (told_lines p.told) line ∙ ap (λ (ls : List ℕ). text ++ ls) (ap (λ (ls : List ℕ). told_lines p.told ++ ls) lines ∙ sym (lines_more p.told told));
      done = is;
      plays = λ t.
          let b = p.plays t in
          let o = played t in
          record {
            commands = b.commands ++ o.commands;
            replies = b.replies ++ o.replies;
            plays = plays_more asked p.told b.commands b.replies next told o.commands o.replies b.plays o.plays;
            runs = runs_then can_give old middle new b.commands o.commands b.replies o.replies b.runs o.runs;
          };
    }
      where
        one_longer : {X Y : Type 0} (xs : List X) (x : X) (ys : List Y) (y : Y) → length xs ≡ length ys → length (xs ++ x ∷ []) ≡ length (ys ++ y ∷ [])
        one_longer [] x [] y e = refl
        one_longer [] x (z ∷ ys) y e = absurd (omega arith)
        one_longer (z ∷ xs) x [] y e = absurd (omega arith)
        one_longer (z ∷ xs) x (w ∷ ys) y e = omega (arith, one_longer xs x ys y (omega arith))

    pub all_ok : line ≡ told_line None → (IsTrue tells → IsPlayed can_give middle next None new) → ArePlayed tells can_give old (asked ++ next ∷ []) text (now ++ line) done new
    all_ok = all_on None done (p.done ∙ sym (done_more p.told))

    pub all_but : (refusal : Refusal) → line ≡ told_line (Some refusal) → (IsTrue tells → IsPlayed can_give middle next (Some refusal) new)
        → ArePlayed tells can_give old (asked ++ next ∷ []) text (now ++ line) false new
    all_but refusal = all_on (Some refusal) false (sym (done_not p.told refusal))
