-- Commands that are done to their end: a write goes on until all of its bytes are taken.
use Rattle.std.specs.Prelude.{ℕ, ◌≡◌, ◌+◌, ◌==◌, pos, Bool, true, false, List, [], ◌∷◌, ◌++◌, length, drop, Option, Some, None, Result, MatchBool, MatchResult, IsTrue}
use Rattle.cfb_format.specs.declared.error.Error.{Error}
use Rattle.cfb_format.specs.declared.medium.MediumFault.{MediumFault}
use Rattle.cfb_rules.specs.Lists.{Command, CommandReply, by_path, on_stream, opens, replied, streamed}
use Rattle.cfb_rules.specs.Refusal.{Refusal, medium_failed, out_of_memory, refusal_number}
use Rattle.cfb_rules.specs.StreamCalls.{StreamCall, StreamReply, from_end, seek, write}
use Rattle.cfb_tool.specs.cfb_agreement.Files.{FileState}
use Rattle.cfb_commands.specs.Commands.{refusal_of_error}
use Rattle.cfb_commands.specs.Working.{RunsLegally}
use Rattle.cfb_whole_streams.specs.Told.{refusal_in, taken_by_work}

-- ---- what a reply tells

-- how many bytes the last operation took
abbrev pub last_count : List StreamReply → ℕ
last_count [] = 0
last_count (reply ∷ []) = taken_by_work reply
last_count (reply ∷ next ∷ replies) = last_count (next ∷ replies)

abbrev pub taken_in : CommandReply → ℕ
taken_in (replied reply) = 0
taken_in (streamed replies closing) = last_count replies

-- the bytes that an operation writes
abbrev pub bytes_of_work : StreamCall → List ℕ
bytes_of_work (write bytes) = bytes
bytes_of_work call = []

-- and the last one
abbrev pub last_write : List StreamCall → List ℕ
last_write [] = []
last_write (call ∷ []) = bytes_of_work call
last_write (call ∷ next ∷ calls) = last_write (next ∷ calls)

abbrev pub bytes_written : Command → List ℕ
bytes_written (by_path call) = []
bytes_written (on_stream how path calls) = last_write calls

abbrev pub path_written : Command → List ℕ
path_written (by_path call) = []
path_written (on_stream how path calls) = path

-- ---- one command, done to its end

-- a command that opens the stream at this path, and writes at its end
abbrev pub addition : List ℕ → List ℕ → Command
addition path bytes = on_stream opens path (seek (from_end (pos 0)) ∷ write bytes ∷ [])

-- after a refusal nothing more is done, and that is what is told; else it goes on so
abbrev pub Unless : Option Refusal → List Command → List CommandReply → (told : Option Refusal) → Type 0 → Type 0
Unless (Some refusal) commands replies told Next = (commands ≡ []) × (replies ≡ []) × (told ≡ Some refusal)
Unless None commands replies told Next = Next

-- These bytes are added in turn: by each command what those before it have left, until nothing is left, a command is refused, or memory is
-- refused for it. That a write takes nothing is told as a fault of the medium: no file with honest bytes has such a write.
abbrev pub AddsInTurn : List ℕ → List ℕ → List Command → List CommandReply → (told : Option Refusal) → Type 0
AddsInTurn path bytes [] [] told = MatchBool (length bytes == 0) (told ≡ None) (told ≡ Some out_of_memory)
AddsInTurn path bytes [] (reply ∷ replies) told = ⊥
AddsInTurn path bytes (command ∷ commands) [] told = ⊥
AddsInTurn path bytes (command ∷ commands) (reply ∷ replies) told =
    MatchBool (length bytes == 0) ⊥ (
    (command ≡ addition path bytes) × Unless (refusal_in reply) commands replies told (
    MatchBool (taken_in reply == 0)
    ((commands ≡ []) × (replies ≡ []) × (told ≡ Some medium_failed))
    (AddsInTurn path (drop (taken_in reply) bytes) commands replies told)
    )
    )

-- the command that was asked for, and then what its write has left
abbrev pub PlaysOne : Command → List Command → List CommandReply → (told : Option Refusal) → Type 0
PlaysOne asked [] replies told = ⊥
PlaysOne asked (command ∷ commands) [] told = ⊥
PlaysOne asked (command ∷ commands) (reply ∷ replies) told =
    (command ≡ asked) × Unless (refusal_in reply) commands replies told (
    AddsInTurn (path_written asked) (drop (taken_in reply) (bytes_written asked)) commands replies told
    )

-- ---- the commands of a list

-- each of them in its order, whether or not one before it was refused
abbrev pub PlaysAll : List Command → List (Option Refusal) → List Command → List CommandReply → Type 0
PlaysAll [] [] commands replies = (commands ≡ []) × (replies ≡ [])
PlaysAll [] (told ∷ more) commands replies = ⊥
PlaysAll (asked ∷ rest) [] commands replies = ⊥
PlaysAll (asked ∷ rest) (told ∷ more) commands replies =
    (firsts : List Command) × (answers : List CommandReply) × (others : List Command) × (later : List CommandReply)
    × PlaysOne asked firsts answers told × PlaysAll rest more others later × (commands ≡ firsts ++ others) × (replies ≡ answers ++ later)

-- what is printed of a command: `ok`, or `E` and the number of its first refusal
abbrev pub told_line : Option Refusal → List ℕ
told_line None = 111 ∷ 107 ∷ 10 ∷ []
told_line (Some refusal) = 69 ∷ (48 + refusal_number refusal) ∷ 10 ∷ []

abbrev pub told_lines : List (Option Refusal) → List ℕ
told_lines [] = []
told_lines (told ∷ more) = told_line told ++ told_lines more

abbrev pub is_all_done : List (Option Refusal) → Bool
is_all_done [] = true
is_all_done (None ∷ more) = is_all_done more
is_all_done (Some refusal ∷ more) = false

-- ---- on a file

-- the command was done once, by the rules: its last operation took so many bytes, or that was its first refusal
abbrev pub PlaysOnce : (MediumFault → Bool) → FileState → Command → Result ℕ Error → FileState → Type 0
PlaysOnce can_give old command result new = (reply : CommandReply) × RunsLegally can_give old (command ∷ []) (reply ∷ []) new
    × MatchResult result (λ n. (refusal_in reply ≡ None) × (n ≡ taken_in reply)) (λ e. refusal_in reply ≡ Some (refusal_of_error e))

module _ (can_give : MediumFault → Bool) (old : FileState) where
  -- bytes were added at the end of the stream at this path, by calls that keep the rules
  pub record IsAdded (path bytes : List ℕ) (told : Option Refusal) (new : FileState) : Type 0 where
    pub commands : List Command
    pub replies : List CommandReply
    pub adds : AddsInTurn path bytes commands replies told
    pub runs : RunsLegally can_give old commands replies new

  -- one command was done to its end
  pub record IsPlayed (asked : Command) (told : Option Refusal) (new : FileState) : Type 0 where
    pub commands : List Command
    pub replies : List CommandReply
    pub plays : PlaysOne asked commands replies told
    pub runs : RunsLegally can_give old commands replies new

  -- and so were those of a list, by one run of the file
  pub record ArePlayedAs (asked : List Command) (told : List (Option Refusal)) (new : FileState) : Type 0 where
    pub commands : List Command
    pub replies : List CommandReply
    pub plays : PlaysAll asked told commands replies
    pub runs : RunsLegally can_give old commands replies new

-- the commands of a list were done, and a line for each was put behind the text
pub record ArePlayed (tells : Bool) (can_give : MediumFault → Bool) (old : FileState) (asked : List Command) (text now : List ℕ) (all_done : Bool) (new : FileState) : Type 0 where
  pub told : List (Option Refusal)
  pub each : length told ≡ length asked
  pub lines : now ≡ text ++ told_lines told
  pub done : all_done ≡ is_all_done told
  pub plays : IsTrue tells → ArePlayedAs can_give old asked told new

-- ---- what was refused, by its place

-- the refusals among what is told of commands from this place on, each with its place
abbrev pub refusals_from : (place : ℕ) → List (Option Refusal) → List (ℕ × Refusal)
refusals_from place [] = []
refusals_from place (None ∷ more) = refusals_from (place + 1) more
refusals_from place (Some refusal ∷ more) = (place, refusal) ∷ refusals_from (place + 1) more

-- an error at a place, by its kind
abbrev pub placed : ℕ × Error → ℕ × Refusal
placed (place, e) = (place, refusal_of_error e)

-- these are the refusals that the lines behind a text tell
pub record AreToldIn (text now : List ℕ) (refusals : List (ℕ × Refusal)) : Type 0 where
  pub told : List (Option Refusal)
  pub lines : now ≡ text ++ told_lines told
  pub each : refusals ≡ refusals_from 0 told
