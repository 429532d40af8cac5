-- What commands leave over any medium, also one of whose bytes nothing is known.
use Rattle.std.specs.Prelude.{◌≡◌, List, [], ◌∷◌, OnErr, Result, Ok, Err, Vec, true}
use Rattle.cfb_format.specs.declared.error.Error.{Error}
use Rattle.cfb_commands.specs.cfb_agreement.Files.{FileState, is_failed}
use Rattle.cfb_compound_file.specs.cfb_volume.Answers.{StaysInMemoryOrFails}
use Rattle.cfb_commands.specs.declared.command.StreamReply.{StreamReply}
use Rattle.cfb_commands.specs.declared.command.Reply.{Reply as TheReply}
use Rattle.cfb_commands.specs.declared.command.Reply.TheVariants as reply

-- where closing was refused the file has failed
pub record FailsIfLost {T : Type 0} (closing : Result T Error) (new : FileState) : Type 0 where
  pub lost : OnErr closing (is_failed new ≡ true)

module _ {A : Type 0} where
  -- where no stream was opened all that memory has is as before but the count of failures, or the file has failed; and where closing one was
  -- refused it has
  abbrev pub WorksHeed : {H T : Type 0} → FileState → Result (Vec (StreamReply A) H × Result T Error) Error → FileState → Type 0
  WorksHeed old (Ok works) new = FailsIfLost works.1 new
  WorksHeed old (Err e) new = StaysInMemoryOrFails old new

  -- the same where a change was refused; and what only looks changes nothing
  abbrev pub ReplyHeeds : FileState → TheReply A → FileState → Type 0
  ReplyHeeds old (reply.Done result) new = OnErr result (StaysInMemoryOrFails old new)
  ReplyHeeds old (reply.Flag b) new = new ≡ old
  ReplyHeeds old (reply.Entry result) new = new ≡ old
  ReplyHeeds old (reply.Entries result) new = new ≡ old
  ReplyHeeds old (reply.Stream result) new = WorksHeed old result new

  -- one command leaves the file so: one that has failed as it is
  pub record HeedsCommand (old : FileState) (answer : TheReply A) (new : FileState) : Type 0 where
    pub untouched : is_failed old ≡ true → new ≡ old
    pub stays : ReplyHeeds old answer new

  -- and so do several, one after the other
  abbrev pub HeedInTurn : FileState → List (TheReply A) → FileState → Type 0
  HeedInTurn old [] new = new ≡ old
  HeedInTurn old (answer ∷ more) new = (between : FileState) × HeedsCommand old answer between × HeedInTurn between more new

  -- a file that has failed stays as it is, whatever the commands are
  pub record HeedsCommands (old : FileState) (replies : List (TheReply A)) (new : FileState) : Type 0 where
    pub untouched : is_failed old ≡ true → new ≡ old
    pub each : HeedInTurn old replies new
