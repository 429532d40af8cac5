-- What is done with the stream of a command, and what a command comes to.
use Rattle.std.specs.Prelude.{ℕ, ◌≡◌, Bool, List, false}
use Rattle.cfb_format.specs.declared.medium.MediumFault.{MediumFault}
use Rattle.cfb_format.specs.Tree.{Tree}
use Rattle.cfb_commands.specs.cfb_rules.Calls.{Call, done}
use Rattle.cfb_commands.specs.cfb_rules.Lists.{Command, CommandReply, CommandRuns, IsLegalRun, StreamCallsRun, names_at}
use Rattle.cfb_commands.specs.cfb_rules.StreamCalls.{StreamCall, StreamReply}
use Rattle.cfb_commands.specs.cfb_agreement.Files.{Agrees, FileState, SameSetting, is_failed}
use Rattle.cfb_commands.specs.cfb_path_changes.Answers.{MeansTree, setting_of}
use Rattle.cfb_compound_file.specs.OpenedStreams.{BeginsAt}
use Rattle.cfb_compound_file.specs.StreamAnswers.{OpenStream, stream_in}
use Rattle.cfb_commands.specs.Promised.{CallKeeps, IsOpenSince, promised}
use Rattle.cfb_commands.specs.Seen.{seen_as, standing_at}

-- no bytes of the stream are lent, unless the file has failed
abbrev pub LendsNothing : OpenStream → Type 0
LendsNothing s = is_failed s.file ≡ false → s.window.ahead ≡ 0

module _ (can_give : MediumFault → Bool) where
  -- by this call a stream was opened at this path, at its start, as the tree has it then
  pub record IsOpenedBy (call : Call) (old : FileState) (path : List ℕ) (s : OpenStream) : Type 0 where
    pub keeps : CallKeeps can_give old call done s.file
    pub agrees : Agrees s.file
    pub begins : BeginsAt s.file path s
    pub since : IsOpenSince s.file path s
    pub lends : LendsNothing s

  -- these calls on an open stream were answered so, in a run whose setting was that of the file at first; the stream is open as before then
  pub record Works (first opened : FileState) (path : List ℕ) (tree : Tree) (old : OpenStream) (calls : List StreamCall) (replies : List StreamReply) (now : OpenStream) : Type 0 where
    pub runs : StreamCallsRun seen_as (promised can_give) (setting_of first) (names_at path) (stream_in old) (standing_at old.file tree) calls replies
        (stream_in now) (standing_at now.file tree)
    pub since : IsOpenSince opened path now
    pub lends : LendsNothing now

  -- from a file whose bytes mean any tree, one command leads to one whose bytes mean a tree, by the rules, if memory is what they say
  abbrev pub AnswersCommand : FileState → Command → CommandReply → FileState → Type 0
  AnswersCommand old command reply new = (first : FileState) (tree : Tree) → SameSetting first old → MeansTree old tree → Agrees new
      → (after : Tree) × MeansTree new after × CommandRuns seen_as (promised can_give) (setting_of first) (standing_at old tree) command reply (standing_at new after)

  -- and so does a list of them
  abbrev pub RunsLegally : FileState → List Command → List CommandReply → FileState → Type 0
  RunsLegally old commands replies new = (tree : Tree) → MeansTree old tree → (after : Tree) × MeansTree new after
      × IsLegalRun seen_as (promised can_give) (setting_of old) (standing_at old tree) commands replies (standing_at new after)
