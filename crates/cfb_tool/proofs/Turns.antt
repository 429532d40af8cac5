-- Commands that are done to their end.
use Rattle.std.proofs.Common.{◌≡◌, ◌≢◌, ◌∙◌, ◌+◌, ◌<◌, ◌==◌, ℕ, Bool, true, false, List, [], ◌∷◌, ◌++◌, ap, append-nil, append_assoc, arith, drop, length, refl, subst, sym}
use Rattle.std.proofs.lemmas.Bool.{eqb-true}
use Rattle.std.specs.Prelude.{MatchBool, Option, Some, None}
use Rattle.cfb_rules.specs.Lists.{Command, CommandReply}
use Rattle.cfb_rules.specs.Refusal.{Refusal, medium_failed, out_of_memory}
use Rattle.cfb_tool.specs.Playing.{AddsInTurn, PlaysAll, PlaysOne, Unless, addition, bytes_written, is_all_done, path_written, taken_in, told_line, told_lines}
use Rattle.cfb_whole_streams.specs.Told.{refusal_in}

-- ---- what is left is added

none_left : (n : ℕ) → n ≡ 0 → (n == 0) ≡ true
none_left n e = subst (λ (m : ℕ). (m == 0) ≡ true) (sym e) refl

some_left : (n : ℕ) → 0 < n → (n == 0) ≡ false
some_left n some = grind arith

abbrev Stops : List Command → List CommandReply → (told : Option Refusal) → Type 0
Stops commands replies told = (commands ≡ []) × (replies ≡ []) × (told ≡ Some medium_failed)

abbrev Tells : Option Refusal → Option Refusal → Type 0
Tells told what = told ≡ what

pub adds_nothing : (path bytes : List ℕ) → length bytes ≡ 0 → AddsInTurn path bytes [] [] None
adds_nothing path bytes e = subst (λ (b : Bool). MatchBool b (Tells None None) (Tells None (Some out_of_memory))) (sym (none_left (length bytes) e)) refl

-- memory was refused for the command
pub adds_not : (path bytes : List ℕ) → 0 < length bytes → AddsInTurn path bytes [] [] (Some out_of_memory)
adds_not path bytes some = subst (λ (b : Bool). MatchBool b (Tells (Some out_of_memory) None) (Tells (Some out_of_memory) (Some out_of_memory))) (sym (some_left (length bytes) some)) refl

module _ (path bytes : List ℕ) (some : 0 < length bytes) (reply : CommandReply) where
  -- what follows a command, whose reply tells a refusal or none
  abbrev Follows : List Command → List CommandReply → (told refusal : Option Refusal) → Type 0
  Follows commands replies told refusal = Unless refusal commands replies told (
      MatchBool (taken_in reply == 0)
      ((commands ≡ []) × (replies ≡ []) × (told ≡ Some medium_failed))
      (AddsInTurn path (drop (taken_in reply) bytes) commands replies told)
      )

  adds_so : (commands : List Command) (replies : List CommandReply) (told : Option Refusal) → Follows commands replies told (refusal_in reply)
      → AddsInTurn path bytes (addition path bytes ∷ commands) (reply ∷ replies) told
  adds_so commands replies told h =
      subst (λ (b : Bool). MatchBool b ⊥ ((addition path bytes ≡ addition path bytes) × Follows commands replies told (refusal_in reply))) (sym (some_left (length bytes) some)) (refl, h)

  -- it was refused
  pub adds_refused : (refusal : Refusal) → refusal_in reply ≡ Some refusal → AddsInTurn path bytes (addition path bytes ∷ []) (reply ∷ []) (Some refusal)
  adds_refused refusal is = adds_so [] [] (Some refusal) (subst (λ (o : Option Refusal). Follows [] [] (Some refusal) o) (sym is) (refl, refl, refl))

  -- it took nothing
  pub adds_stuck : refusal_in reply ≡ None → taken_in reply ≡ 0 → AddsInTurn path bytes (addition path bytes ∷ []) (reply ∷ []) (Some medium_failed)
  adds_stuck is none = adds_so [] [] (Some medium_failed) (subst (λ (o : Option Refusal). Follows [] [] (Some medium_failed) o) (sym is)
      (subst (λ (b : Bool). MatchBool b (Stops [] [] (Some medium_failed)) (AddsInTurn path (drop (taken_in reply) bytes) [] [] (Some medium_failed)))
      (sym (none_left (taken_in reply) none)) (refl, refl, refl)))

  -- it took some
  pub adds_more : (commands : List Command) (replies : List CommandReply) (told : Option Refusal) → refusal_in reply ≡ None → 0 < taken_in reply
      → AddsInTurn path (drop (taken_in reply) bytes) commands replies told → AddsInTurn path bytes (addition path bytes ∷ commands) (reply ∷ replies) told
  adds_more commands replies told is took h = adds_so commands replies told (subst (λ (o : Option Refusal). Follows commands replies told o) (sym is)
      (subst (λ (b : Bool). MatchBool b ((commands ≡ []) × (replies ≡ []) × (told ≡ Some medium_failed)) (AddsInTurn path (drop (taken_in reply) bytes) commands replies told))
      (sym (some_left (taken_in reply) took)) h))

-- ---- one command

module _ (asked : Command) (reply : CommandReply) where
  pub plays_refused : (refusal : Refusal) → refusal_in reply ≡ Some refusal → PlaysOne asked (asked ∷ []) (reply ∷ []) (Some refusal)
  plays_refused refusal is = (
    refl,
    subst (λ (o : Option Refusal). Unless o [] [] (Some refusal) (AddsInTurn (path_written asked) (drop (taken_in reply) (bytes_written asked)) [] [] (Some refusal)))
        (sym is) (refl, refl, refl),
  )

  pub plays_on : (commands : List Command) (replies : List CommandReply) (told : Option Refusal) → refusal_in reply ≡ None
      → AddsInTurn (path_written asked) (drop (taken_in reply) (bytes_written asked)) commands replies told → PlaysOne asked (asked ∷ commands) (reply ∷ replies) told
  plays_on commands replies told is adds = (
    refl,
    subst (λ (o : Option Refusal). Unless o commands replies told (AddsInTurn (path_written asked) (drop (taken_in reply) (bytes_written asked)) commands replies told))
        (sym is) adds,
  )

-- ---- one command more

append_back : {X : Type 0} (xs firsts others more : List X) → xs ≡ firsts ++ others → xs ++ more ≡ firsts ++ (others ++ more)
append_back {X = X} xs firsts others more e = ap (λ (ys : List X). ys ++ more) e ∙ append_assoc {A = X} firsts others more

pub plays_more : (asked : List Command) (told : List (Option Refusal)) (commands : List Command) (replies : List CommandReply)
    (next : Command) (tells : Option Refusal) (others : List Command) (later : List CommandReply)
    → PlaysAll asked told commands replies → PlaysOne next others later tells → PlaysAll (asked ++ next ∷ []) (told ++ tells ∷ []) (commands ++ others) (replies ++ later)
plays_more [] [] commands replies next tells others later h one =
    (others, later, [], [], one, (refl, refl), ap (λ (cs : List Command). cs ++ others) h.0 ∙ sym (append-nil others), ap (λ (rs : List CommandReply). rs ++ later) h.1 ∙ sym (append-nil later))
plays_more [] (t ∷ told) commands replies next tells others later h one = absurd h
plays_more (a ∷ asked) [] commands replies next tells others later h one = absurd h
plays_more (a ∷ asked) (t ∷ told) commands replies next tells others later h one =
    let (firsts, answers, rest, behind, first, more, e, f) = h in (
      firsts,
      answers,
      rest ++ others,
      behind ++ later,
      first,
      plays_more asked told rest behind next tells others later more one,
      append_back commands firsts rest others e,
      append_back replies answers behind later f,
    )

pub lines_more : (told : List (Option Refusal)) (tells : Option Refusal) → told_lines (told ++ tells ∷ []) ≡ told_lines told ++ told_line tells
lines_more [] tells = append-nil (told_line tells)
lines_more (t ∷ told) tells = ap (λ (ls : List ℕ). told_line t ++ ls) (lines_more told tells) ∙ sym (append_assoc {A = ℕ} (told_line t) (told_lines told) (told_line tells))

pub done_more : (told : List (Option Refusal)) → is_all_done (told ++ None ∷ []) ≡ is_all_done told
done_more [] = refl
done_more (None ∷ told) = done_more told
done_more (Some refusal ∷ told) = refl

pub done_not : (told : List (Option Refusal)) (refusal : Refusal) → is_all_done (told ++ Some refusal ∷ []) ≡ false
done_not [] refusal = refl
done_not (None ∷ told) refusal = done_not told refusal
done_not (Some r ∷ told) refusal = refl
