use Rattle.std.proofs.Common.{◌≡◌, ℕ, List, length, map, take, vec_capacity}
use Rattle.std.specs.Prelude.{◌||◌, All, IsTrue}
use Rattle.cfb_commands.specs.cfb_agreement.Files.{FileState, SameSetting}
use Rattle.cfb_commands.specs.Promised.{IsOpenSince}
use Rattle.cfb_compound_file.specs.Streams.{file_of, open_of}
use Rattle.cfb_format.specs.Tree.{Tree}
use Rattle.cfb_commands.specs.Commands.{stream_call_of, stream_reply_of}
use Rattle.cfb_commands.specs.Faults.{IsAnswerGiven}
use Rattle.cfb_commands.specs.Kinds.{kind_of_answer, kind_of_op}
use Rattle.cfb_commands.specs.Working.{LendsNothing, Works}
use Rattle.cfb_commands.proofs.streams.work_all.Given as goal

abbrev pub invariant-loop-op : goal.invariant-loop-op
invariant-loop-op g l = record {
  same_file : (file_of l.stream).ghost_name ≡ (file_of l.fn.stream).ghost_name;
  count : length l.replies.items ≡ l.op-index;
  room : vec_capacity l.replies ≡ vec_capacity l.fn.replies;
  of_kinds : map kind_of_answer l.replies.items ≡ map kind_of_op (take l.op-index l.ops);
  given : IsTrue g.F.ReadMedium.tells → All (IsAnswerGiven (λ f. g.F.ReadMedium.read_faults f || g.F.Medium.write_faults f)) l.replies.items;
  works : IsTrue g.F.ReadMedium.tells → (first opened : FileState) (path : List ℕ) (tree : Tree) → SameSetting first opened → IsOpenSince opened path (open_of l.fn.stream)
      → LendsNothing (open_of l.fn.stream)
      → Works (λ f. g.F.ReadMedium.read_faults f || g.F.Medium.write_faults f) first opened path tree (open_of l.fn.stream)
      (map stream_call_of (take l.op-index l.ops)) (map stream_reply_of l.replies.items) (open_of l.stream);
}
