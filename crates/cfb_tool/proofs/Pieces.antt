-- A list of commands, one by one, and the line of each.
use Rattle.std.proofs.Common.{◌≡◌, ◌∙◌, ◌+◌, ◌-◌, ◌^◌, ◌<◌, ◌≤◌, ℕ, Bool, false, List, [], ◌∷◌, ◌++◌, ap, arith, drop, get_or, length, length-append, map, min, refl, subst, sym, take}
use Rattle.std.proofs.lemmas.List.{drop_more, length-drop, length-take-le, map_more}
use Rattle.std.specs.Prelude.{None, Some, IsTrue, unwrap_or}
use Rattle.std.specs.List.{slice_get}
use Rattle.cfb_format.specs.declared.error.Error.{Error}
use Rattle.cfb_format.specs.declared.error.Error.TheVariants.{NotFound, AlreadyExists, InvalidInput, InvalidData, Medium, Memory, Full, Unsound, Failed}
use Rattle.cfb_format.specs.declared.medium.MediumFault.{MediumFault}
use Rattle.cfb_format.specs.Refused.{number_of}
use Rattle.cfb_rules.specs.Lists.{Command}
use Rattle.cfb_rules.specs.Refusal.{refusal_number}
use Rattle.cfb_tool.specs.cfb_agreement.Files.{FileState}
use Rattle.cfb_commands.specs.declared.command.Command.{Command as TheCommand}
use Rattle.cfb_commands.specs.Commands.{command_of, refusal_of_error}
use Rattle.cfb_tool.specs.Playing.{ArePlayed, IsPlayed}
use Rattle.cfb_tool.proofs.Runs.{all_but, all_ok}

-- what is printed of a kind
pub digit : (e : Error) (n : ℕ) → n ≡ number_of e → min (48 + n) (2 ^ 8 - 1) ≡ 48 + refusal_number (refusal_of_error e)
digit (NotFound d) n is = ap (λ (k : ℕ). min (48 + k) (2 ^ 8 - 1)) is
digit (AlreadyExists d) n is = ap (λ (k : ℕ). min (48 + k) (2 ^ 8 - 1)) is
digit (InvalidInput d) n is = ap (λ (k : ℕ). min (48 + k) (2 ^ 8 - 1)) is
digit (InvalidData d) n is = ap (λ (k : ℕ). min (48 + k) (2 ^ 8 - 1)) is
digit (Medium f) n is = ap (λ (k : ℕ). min (48 + k) (2 ^ 8 - 1)) is
digit Memory n is = ap (λ (k : ℕ). min (48 + k) (2 ^ 8 - 1)) is
digit Full n is = ap (λ (k : ℕ). min (48 + k) (2 ^ 8 - 1)) is
digit Unsound n is = ap (λ (k : ℕ). min (48 + k) (2 ^ 8 - 1)) is
digit Failed n is = ap (λ (k : ℕ). min (48 + k) (2 ^ 8 - 1)) is

-- the first of a list of one
pub first_asked : {A : Type 0} (ones : List (TheCommand A)) (command : TheCommand A) (asked : Command) → map command_of ones ≡ asked ∷ [] → Some command ≡ slice_get ones 0 → command_of command ≡ asked
first_asked [] command asked one is = absurd (let w : 0 ≡ 1 = ap (λ (cs : List Command). length cs) one in omega (arith, w))
first_asked (c ∷ ones) command asked one is =
    ap (λ o. command_of (unwrap_or o command)) is ∙ ap (λ (cs : List Command). get_or cs 0 asked) one

-- a list of one is one long
pub one_long_asked : {A : Type 0} (ones : List (TheCommand A)) (asked : Command) → map command_of ones ≡ asked ∷ [] → length ones ≡ 1
one_long_asked [] asked one = absurd (let w : 0 ≡ 1 = ap (λ (cs : List Command). length cs) one in omega (arith, w))
one_long_asked (c ∷ []) asked one = refl
one_long_asked (c ∷ d ∷ ones) asked one = absurd (let w : length (command_of c ∷ command_of d ∷ map command_of ones) ≡ 1 = ap (λ (cs : List Command). length cs) one in omega (arith, w))

pub three_more : (old new : List ℕ) (a b c : ℕ) → new ≡ old ++ a ∷ b ∷ c ∷ [] → length new ≡ length old + 3
three_more old new a b c is = ap (λ (ls : List ℕ). length ls) is ∙ length-append old (a ∷ b ∷ c ∷ [])

pub one_long : {X : Type 0} (xs ones : List X) (i : ℕ) → i < length xs → ones ≡ take 1 (drop i xs) → length ones ≡ 1
one_long xs ones i less is = ap (λ ys. length ys) is ∙ length-take-le 1 (drop i xs) (omega (arith, length-drop i xs, less))

some_of : {X : Type 0} (xs : List X) → 0 < length xs → X
some_of [] some = absurd (omega (arith))
some_of (x ∷ xs) some = x

module _ {A : Type 0} (tells : Bool) (can_give : MediumFault → Bool) (old : FileState) (commands : List (TheCommand A)) (i : ℕ) (less : i < length commands)
    (text now next : List ℕ) (done : Bool) (middle new : FileState) (p : ArePlayed tells can_give old (map command_of (take i commands)) text now done middle) where
  here : TheCommand A
  here = get_or commands i (some_of commands (omega (arith, less)))

  one : map command_of (take 1 (drop i commands)) ≡ command_of here ∷ []
  unfolding here
  one = ap (λ (cs : List (TheCommand A)). map command_of (take 1 cs)) (drop_more commands i (some_of commands (omega (arith, less))) less)

  more : map command_of (take (i + 1) commands) ≡ map command_of (take i commands) ++ command_of here ∷ []
  unfolding here
  more = map_more command_of commands i (some_of commands (omega (arith, less))) less

  abbrev IsOnePlayed : Bool → (line : List ℕ) → Type 0
  IsOnePlayed all line = next ≡ now ++ line → ArePlayed tells can_give old (map command_of (take (i + 1) commands)) text next all new

  behind : (all : Bool) (line : List ℕ) → ArePlayed tells can_give old (map command_of (take i commands) ++ command_of here ∷ []) text (now ++ line) all new → IsOnePlayed all line
  behind all line played is =
      subst (λ (asked : List Command). ArePlayed tells can_give old asked text next all new) (sym more)
      (subst (λ (lines : List ℕ). ArePlayed tells can_give old (map command_of (take i commands) ++ command_of here ∷ []) text lines all new) (sym is) played)

  -- one more, which was not refused
  pub one_ok : (IsTrue tells → (asked : Command) → map command_of (take 1 (drop i commands)) ≡ asked ∷ [] → IsPlayed can_give middle asked None new)
      → next ≡ now ++ 111 ∷ 107 ∷ 10 ∷ [] → ArePlayed tells can_give old (map command_of (take (i + 1) commands)) text next done new
  one_ok played is = behind done (111 ∷ 107 ∷ 10 ∷ [])
      (all_ok tells can_give old (map command_of (take i commands)) (command_of here) text now (111 ∷ 107 ∷ 10 ∷ []) done middle new p refl (λ t. played t (command_of here) one)) is

  -- one that was
  pub one_refused : (e : Error) (letter : ℕ) → letter ≡ 48 + refusal_number (refusal_of_error e)
      → (IsTrue tells → (asked : Command) → map command_of (take 1 (drop i commands)) ≡ asked ∷ [] → IsPlayed can_give middle asked (Some (refusal_of_error e)) new)
      → next ≡ now ++ 69 ∷ letter ∷ 10 ∷ [] → ArePlayed tells can_give old (map command_of (take (i + 1) commands)) text next false new
  one_refused e letter digits played is = behind false (69 ∷ letter ∷ 10 ∷ [])
      (all_but tells can_give old (map command_of (take i commands)) (command_of here) text now (69 ∷ letter ∷ 10 ∷ []) done middle new p (refusal_of_error e)
      (ap (λ (n : ℕ). 69 ∷ n ∷ 10 ∷ []) digits) (λ t. played t (command_of here) one)) is
