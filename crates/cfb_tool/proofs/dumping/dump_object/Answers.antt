use Rattle.std.proofs.Common.{◌∙◌, [], inl, refl, string_bytes, sym}
use Rattle.std.proofs.lemmas.Result.{err_from_is_err_and}
use Rattle.cfb_tool.proofs.Dumped.{output_alone, storage_holds, stream_refused}
use Rattle.cfb_tool.proofs.dumping.dump_object.Goals as goal

pub returns-clause-sent : goal.returns-clause-sent
returns-clause-sent g c = λ told. record {
  content = [];
  holds = storage_holds c.args.entry.now.obj_type c.args.file.now c.args.entry.now [] (sym c.is_stream.ensures ∙ c.if-is_stream.false);
  text = string_bytes c.push_object.new.text;
  lines = c.in_ok-push_object.ensures;
  sent = c.in_ok-send_long.ensures.sent;
}

pub returns-in_err-push_object-clause-refused : goal.returns-in_err-push_object-clause-refused
returns-in_err-push_object-clause-refused g c =
    let p = err_from_is_err_and c.from_residual.result c.from_residual.ensures.1 in
    rw (p.1, p.2) (λ told. (refl, inl refl))

pub returns-in_err-send_long-clause-refused : goal.returns-in_err-send_long-clause-refused
returns-in_err-send_long-clause-refused g c =
    let p = err_from_is_err_and c.from_residual-in_err-send_long.result c.from_residual-in_err-send_long.ensures.1 in
    rw (p.1, p.2) (λ told. output_alone g.F.ReadMedium.read_faults c.args.file.now _ _ _ c.args.entry.now c.in_err-send_long.field-0.0 c.in_err-send_long.ensures.refused)

pub returns-in-Err-clause-refused : goal.returns-in-Err-clause-refused
returns-in-Err-clause-refused g c = λ told. stream_refused g.F.ReadMedium.read_faults c.args.file.now _ _ _ c.args.entry.now c.in-Err.e c.at_object.result (sym c.is_stream.ensures ∙ c.if-is_stream.true) (c.in-Err.ensures.refused told) c.at_object.ensures
