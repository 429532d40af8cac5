-- Each fault that a reply tells is one that the medium can give.
use Rattle.std.specs.Prelude.{Bool, All, IfErr, IsTrue, MatchResult, Result, Vec, ⊤}
use Rattle.cfb_format.specs.declared.error.Error.{Error}
use Rattle.cfb_format.specs.declared.medium.MediumFault.{MediumFault}
use Rattle.cfb_format.specs.Refused.{HasReason, at_every_error}
use Rattle.cfb_commands.specs.declared.command.StreamReply.{StreamReply}
use Rattle.cfb_commands.specs.declared.command.StreamReply.TheVariants as answer
use Rattle.cfb_commands.specs.declared.command.Reply.{Reply}
use Rattle.cfb_commands.specs.declared.command.Reply.TheVariants as reply

module _ (can_give : MediumFault → Bool) where
  -- where the error is the medium's, it can give this fault
  abbrev pub CanBeGiven : Error → Type 0
  CanBeGiven = HasReason (record (at_every_error ⊤) { medium = λ fault. IsTrue (can_give fault) })

  module _ {A : Type 0} where
    -- of one operation on an open stream
    abbrev pub IsAnswerGiven : StreamReply A → Type 0
    IsAnswerGiven (answer.Bytes result) = IfErr result CanBeGiven
    IsAnswerGiven (answer.Count result) = IfErr result CanBeGiven
    IsAnswerGiven (answer.Place result) = IfErr result CanBeGiven
    IsAnswerGiven (answer.Done result) = IfErr result CanBeGiven

    -- of a stream command: of each operation and of closing, or of the opening
    abbrev pub IsWorkGiven : {H T : Type 0} → Result (Vec (StreamReply A) H × Result T Error) Error → Type 0
    IsWorkGiven result = MatchResult result (λ works. All IsAnswerGiven works.0.items × IfErr works.1 CanBeGiven) CanBeGiven

    -- of one command
    abbrev pub IsGiven : Reply A → Type 0
    IsGiven (reply.Done result) = IfErr result CanBeGiven
    IsGiven (reply.Flag b) = ⊤
    IsGiven (reply.Entry result) = IfErr result CanBeGiven
    IsGiven (reply.Entries result) = IfErr result CanBeGiven
    IsGiven (reply.Stream result) = IsWorkGiven result
