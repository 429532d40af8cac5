use Rattle.std.proofs.Common.{◌∙◌, List, ◌∷◌, [], ap, arith, length, length-append, map, subst}
use Rattle.std.specs.Prelude.{◌||◌}
use Rattle.std.proofs.lemmas.List.{take_all}
use Rattle.cfb_commands.specs.declared.command.StreamOp.{StreamOp}
use Rattle.cfb_commands.specs.Commands.{stream_call_of, stream_reply_of}
use Rattle.cfb_commands.specs.Faults.{IsAnswerGiven}
use Rattle.cfb_commands.specs.Kinds.{kind_of_answer, kind_of_op}
use Rattle.cfb_commands.specs.Working.{Works}
use Rattle.cfb_compound_file.specs.Streams.{open_of}
use Rattle.cfb_commands.proofs.Faults.{one_more}
use Rattle.cfb_commands.proofs.Growing.{kinds_more}
use Rattle.cfb_commands.proofs.Working.{works_more}
use Rattle.cfb_commands.proofs.streams.work_all.Goals as goal

pub loop-op-preserved : goal.loop-op-preserved
loop-op-preserved g c =
    let i = c.loop-op.invariant in
    let longer = ap length c.push_reserved.ensures.items ∙ length-append c.loop-op.replies.items (c.work-reply.result ∷ []) in
    record {
      same_file = c.work-reply.ensures.same_file ∙ i.same_file;
      count = omega (arith, longer, i.count);
      room = c.push_reserved.ensures.capacity ∙ i.room;
      of_kinds = kinds_more kind_of_op kind_of_answer c.args.ops.now c.loop-op.op-index c.op-item.result c.loop-op.replies.items c.push_reserved.new.self.items c.work-reply.result
          c.loop-op-test.true c.op-item.is c.push_reserved.ensures.items i.of_kinds c.work-reply.ensures.of_kind;
      given = λ told. one_more (IsAnswerGiven (λ f. g.F.ReadMedium.read_faults f || g.F.Medium.write_faults f)) c.loop-op.replies.items c.push_reserved.new.self.items c.work-reply.result
          c.push_reserved.ensures.items (i.given told) (c.work-reply.ensures.given told);
      works = λ told first opened path tree same since nothing.
          let w = i.works told first opened path tree same since nothing in
          works_more _ first opened path tree same (open_of c.args.stream.now) (open_of c.loop-op.stream) (open_of c.work-reply.new.stream) c.args.ops.now c.loop-op.op-index
          c.op-item.result c.loop-op.replies.items c.push_reserved.new.self.items c.work-reply.result c.loop-op-test.true c.op-item.is c.push_reserved.ensures.items w
          (c.work-reply.ensures.works told w.lends) (c.is_failed-is_failed.ensures.agrees told);
    }

pub returns-clause-works : goal.returns-clause-works
returns-clause-works g c = λ told first opened path tree same since nothing.
    subst (λ (ops : List (StreamOp g.row.A.Denot)). Works (λ f. g.F.ReadMedium.read_faults f || g.F.Medium.write_faults f) first opened path tree (open_of c.args.stream.now)
    (map stream_call_of ops) (map stream_reply_of c.loop-op.replies.items) (open_of c.loop-op.stream)) (take_all c.loop-op.op-index c.args.ops.now c.loop-op-test.false)
    (c.loop-op.invariant.works told first opened path tree same since nothing)

pub returns-clause-of_kinds : goal.returns-clause-of_kinds
returns-clause-of_kinds g c = c.loop-op.invariant.of_kinds ∙ ap (map kind_of_op) (take_all c.loop-op.op-index c.args.ops.now c.loop-op-test.false)
