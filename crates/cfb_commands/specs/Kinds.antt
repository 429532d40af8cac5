-- Which kind of reply is given to each command, and to each operation on an open stream, refused or not.
use Rattle.std.specs.Prelude.{◌≡◌, List, [], ◌∷◌, IfOk, map, ⊤}
use Rattle.cfb_commands.specs.declared.command.StreamOp.{StreamOp}
use Rattle.cfb_commands.specs.declared.command.StreamOp.TheVariants as op
use Rattle.cfb_commands.specs.declared.command.Command.{Command}
use Rattle.cfb_commands.specs.declared.command.Command.TheVariants as command
use Rattle.cfb_commands.specs.declared.command.StreamReply.{StreamReply}
use Rattle.cfb_commands.specs.declared.command.StreamReply.TheVariants as answer
use Rattle.cfb_commands.specs.declared.command.Reply.{Reply}
use Rattle.cfb_commands.specs.declared.command.Reply.TheVariants as reply

pub data StreamReplyKind : Type 0 where
  bytes count place nothing : StreamReplyKind

-- of a stream command: those of its operations
pub data ReplyKind : Type 0 where
  done flag one_entry entries : ReplyKind
  streamed : List StreamReplyKind → ReplyKind

module _ {A : Type 0} where
  abbrev pub kind_of_op : StreamOp A → StreamReplyKind
  kind_of_op (op.Read wanted) = bytes
  kind_of_op op.ReadToEnd = bytes
  kind_of_op (op.Write text) = count
  kind_of_op (op.Seek to) = place
  kind_of_op (op.SetLen len) = nothing
  kind_of_op op.Flush = nothing
  kind_of_op op.Position = place
  kind_of_op op.Len = place

  abbrev pub kind_of_answer : StreamReply A → StreamReplyKind
  kind_of_answer (answer.Bytes result) = bytes
  kind_of_answer (answer.Count result) = count
  kind_of_answer (answer.Place result) = place
  kind_of_answer (answer.Done result) = nothing

  abbrev pub kind_of_command : Command A → ReplyKind
  kind_of_command (command.CreateStorage path moment) = done
  kind_of_command (command.CreateStorageAll path moment) = done
  kind_of_command (command.RemoveStorage path) = done
  kind_of_command (command.RemoveStorageAll path) = done
  kind_of_command (command.RemoveStream path) = done
  kind_of_command (command.SetStorageClsid path clsid) = done
  kind_of_command (command.SetStateBits path bits) = done
  kind_of_command (command.SetCreatedTime path moment) = done
  kind_of_command (command.SetModifiedTime path moment) = done
  kind_of_command (command.Touch path moment) = done
  kind_of_command command.Flush = done
  kind_of_command (command.Exists path) = flag
  kind_of_command (command.IsStream path) = flag
  kind_of_command (command.IsStorage path) = flag
  kind_of_command (command.Entry path) = one_entry
  kind_of_command (command.ReadStorage path) = entries
  kind_of_command (command.WalkStorage path) = entries
  kind_of_command (command.Stream how path ops) = streamed (map kind_of_op ops.items)

  -- the reply is of this kind; of a stream command that opened no stream it says nothing of the operations
  abbrev pub IsOfKind : ReplyKind → Reply A → Type 0
  IsOfKind kind (reply.Done result) = kind ≡ done
  IsOfKind kind (reply.Flag b) = kind ≡ flag
  IsOfKind kind (reply.Entry result) = kind ≡ one_entry
  IsOfKind kind (reply.Entries result) = kind ≡ entries
  IsOfKind kind (reply.Stream result) = (kinds : List StreamReplyKind) × (kind ≡ streamed kinds) × IfOk result (λ works. map kind_of_answer works.0.items ≡ kinds)

  -- one of each kind, in this order
  abbrev pub AreOfKinds : List ReplyKind → List (Reply A) → Type 0
  AreOfKinds [] [] = ⊤
  AreOfKinds [] (r ∷ replies) = ⊥
  AreOfKinds (kind ∷ kinds) [] = ⊥
  AreOfKinds (kind ∷ kinds) (r ∷ replies) = IsOfKind kind r × AreOfKinds kinds replies
