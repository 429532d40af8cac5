use Rattle.std.proofs.Common.{◌≡◌, ◌∙◌, List, ℕ, false, ap, chars, inl, inr, refl, rules, string_bytes, subst, sym}
use Rattle.std.specs.Prelude.{IsTrue}
use Rattle.std.proofs.lemmas.Result.{err_from_is_err_and}
use Rattle.cfb_rules.specs.Calls.{open_read_stream}
use Rattle.cfb_tool.specs.cfb_agreement.Files.{FileState, is_failed}
use Rattle.cfb_tool.specs.cfb_path_changes.Answers.{AnswersNot}
use Rattle.cfb_tool.specs.cfb_compound_file.ReadStreams.{open_of}
use Rattle.cfb_tool.specs.cfb_compound_file.Stored.{kept_of}
use Rattle.cfb_tool.specs.cfb_compound_file.StreamAnswers.{stream_in}
use Rattle.cfb_commands.proofs.Openings.{at_error, same_file}
use Rattle.cfb_whole_streams.specs.Content.{HoldsStream, IsOnlyRead}
use Rattle.cfb_lines.specs.Writing.{IsHeadOf}
use Rattle.cfb_lines.specs.declared.word.Word.TheVariants.{Put}
use Rattle.cfb_tool.specs.Dumping.{SendsInPart, SendsNoStream}
use Rattle.cfb_tool.proofs.Digits.{part_of_all}
use Rattle.cfb_tool.proofs.Dumped.{closes_unfailed, holds_sent, in_part, not_read, not_sent, output_of_stream, starts, stream_sent}
use Rattle.cfb_tool.proofs.dumping.dump_stream.Goals as goal

pub returns-clause-kept : goal.returns-clause-kept
returns-clause-kept g c =
    same_file (λ (file : FileState). IsTrue g.F.ReadMedium.tells → IsOnlyRead c.args.file.now file) _ c.close-closed.new.self.0
    (search (c.in_ok-stream.ensures.lent, c.write_digits-written.ensures.same_file, rules))
    (λ told. record { kept = ap kept_of c.close-closed.ensures.same ∙ c.write_digits-written.ensures.kept told ∙ ap kept_of c.in_ok-stream.ensures.opened.file })

pub returns-clause-sent : goal.returns-clause-sent
returns-clause-sent g c = λ told.
    let old = c.args.file.now in
    let info = c.args.entry.now in
    let path = chars c.path.result.now in
    let s = open_of c.in_ok-stream.stream in
    let unfailed : is_failed old ≡ false = c.in_ok-stream.ensures.any in
    let fresh = starts old path s c.in_ok-stream.ensures.opened unfailed (c.in_ok-stream.stream.is_open told) in
    let digits = c.in_ok-written.ensures.sent told fresh in
    let holds = holds_sent old path s c.in_ok-stream.ensures.opened unfailed (c.in_ok-stream.ensures.begins told) (c.in_ok-stream.ensures.runs told) digits.whole in
    stream_sent old info _ _ _ (string_bytes c.args.text.now) (string_bytes c.push_stream_head.new.text) (string_bytes c.write_digits-written.new.text) (string_bytes c.push_stream_end.new.text)
    (string_bytes c.send_long.new.text) (stream_in s) c.requires.path c.requires.kind (subst (λ (p : List ℕ). HoldsStream old p (stream_in s).content) c.path.ensures holds)
    c.in_ok-push_stream_head.ensures digits c.in_ok-push_stream_end.ensures c.in_ok-send_long.ensures.sent

pub returns-in_err-written-clause-kept : goal.returns-in_err-written-clause-kept
returns-in_err-written-clause-kept g c =
    same_file (λ (file : FileState). IsTrue g.F.ReadMedium.tells → IsOnlyRead c.args.file.now file) _ c.close-closed.new.self.0
    (search (c.in_ok-stream.ensures.lent, c.write_digits-written.ensures.same_file, rules))
    (λ told. record { kept = ap kept_of c.close-closed.ensures.same ∙ c.write_digits-written.ensures.kept told ∙ ap kept_of c.in_ok-stream.ensures.opened.file })

pub returns-in_err-closed-clause-kept : goal.returns-in_err-closed-clause-kept
returns-in_err-closed-clause-kept g c =
    same_file (λ (file : FileState). IsTrue g.F.ReadMedium.tells → IsOnlyRead c.args.file.now file) _ c.close-closed.new.self.0
    (search (c.in_ok-stream.ensures.lent, c.write_digits-written.ensures.same_file, rules))
    (λ told. record { kept = ap kept_of c.close-closed.ensures.same ∙ c.write_digits-written.ensures.kept told ∙ ap kept_of c.in_ok-stream.ensures.opened.file })

pub returns-in_err-push_stream_end-clause-kept : goal.returns-in_err-push_stream_end-clause-kept
returns-in_err-push_stream_end-clause-kept g c =
    same_file (λ (file : FileState). IsTrue g.F.ReadMedium.tells → IsOnlyRead c.args.file.now file) _ c.close-closed.new.self.0
    (search (c.in_ok-stream.ensures.lent, c.write_digits-written.ensures.same_file, rules))
    (λ told. record { kept = ap kept_of c.close-closed.ensures.same ∙ c.write_digits-written.ensures.kept told ∙ ap kept_of c.in_ok-stream.ensures.opened.file })

pub returns-in_err-send_long-clause-kept : goal.returns-in_err-send_long-clause-kept
returns-in_err-send_long-clause-kept g c =
    same_file (λ (file : FileState). IsTrue g.F.ReadMedium.tells → IsOnlyRead c.args.file.now file) _ c.close-closed.new.self.0
    (search (c.in_ok-stream.ensures.lent, c.write_digits-written.ensures.same_file, rules))
    (λ told. record { kept = ap kept_of c.close-closed.ensures.same ∙ c.write_digits-written.ensures.kept told ∙ ap kept_of c.in_ok-stream.ensures.opened.file })

pub returns-in_err-push_stream_head-clause-kept : goal.returns-in_err-push_stream_head-clause-kept
returns-in_err-push_stream_head-clause-kept g c = λ told. not_read c.args.file.now

pub returns-in_err-stream-clause-kept : goal.returns-in_err-stream-clause-kept
returns-in_err-stream-clause-kept g c =
    let h = at_error _ c.open_read_stream.result c.in_err-stream.field-0.0 c.in_err-stream.was c.open_read_stream.follows.holds-at-none in
    λ told. record { kept = ap kept_of h.0 }

pub returns-in_err-stream-clause-refused : goal.returns-in_err-stream-clause-refused
returns-in_err-stream-clause-refused g c =
    let p = err_from_is_err_and c.from_residual-in_err-stream.result c.from_residual-in_err-stream.ensures.1 in
    let old = c.args.file.now in
    let e = c.in_err-stream.field-0.0 in
    let h = at_error _ c.open_read_stream.result e c.in_err-stream.was c.open_read_stream.follows.holds-at-none in
    rw (p.1, p.2) (λ told. (inl (old, not_read old, subst (λ (path : List ℕ). AnswersNot old (open_read_stream path) e) c.path.ensures (h.1 told)), inl refl))

pub returns-in_err-push_stream_head-clause-refused : goal.returns-in_err-push_stream_head-clause-refused
returns-in_err-push_stream_head-clause-refused g c =
    let p = err_from_is_err_and c.from_residual.result c.from_residual.ensures.1 in
    rw (p.1, p.2) (λ told. (inr (inr tt), inl refl))

-- the digits are sent, and their line has no end yet
pub returns-in_err-push_stream_end-clause-refused : goal.returns-in_err-push_stream_end-clause-refused
returns-in_err-push_stream_end-clause-refused g c =
    let p = err_from_is_err_and c.from_residual-in_err-push_stream_end.result c.from_residual-in_err-push_stream_end.ensures.1 in
    let old = c.args.file.now in
    let path = chars c.path.result.now in
    let s = open_of c.in_ok-stream.stream in
    let unfailed : is_failed old ≡ false = c.in_ok-stream.ensures.any in
    let start = g.W.Write.contents c.args.out.now in
    let now = g.W.Write.contents c.write_digits-written.new.out in
    let text = string_bytes c.args.text.now in
    let head = string_bytes c.push_stream_head.new.text in
    rw (p.1, p.2) (λ told.
    let fresh = starts old path s c.in_ok-stream.ensures.opened unfailed (c.in_ok-stream.stream.is_open told) in
    let part = part_of_all (stream_in s) start now head _ (c.in_ok-written.ensures.sent told fresh) in (
      inr (inr tt),
      subst (λ (at : List ℕ). SendsInPart old at start now text) c.path.ensures
          (in_part old path s c.in_ok-stream.ensures.opened unfailed (c.in_ok-stream.ensures.begins told) (c.in_ok-stream.ensures.runs told) start now text head
          (subst (λ (at : List ℕ). IsHeadOf text head Put at) (sym c.path.ensures) c.in_ok-push_stream_head.ensures) part),
    ))

pub returns-in_err-written-clause-refused : goal.returns-in_err-written-clause-refused
returns-in_err-written-clause-refused g c =
    let p = err_from_is_err_and c.from_residual-in_err-written.result c.from_residual-in_err-written.ensures.1 in
    let old = c.args.file.now in
    let path = chars c.path.result.now in
    let s = open_of c.in_ok-stream.stream in
    let unfailed : is_failed old ≡ false = c.in_ok-stream.ensures.any in
    let e = c.in_err-written.field-0.0 in
    let start = g.W.Write.contents c.args.out.now in
    let now = g.W.Write.contents c.write_digits-written.new.out in
    let text = string_bytes c.args.text.now in
    let head = string_bytes c.push_stream_head.new.text in
    rw (p.1, p.2) (λ told.
    let fresh = starts old path s c.in_ok-stream.ensures.opened unfailed (c.in_ok-stream.stream.is_open told) in
    subst (λ (at : List ℕ). SendsNoStream g.F.ReadMedium.read_faults old at start now text e) c.path.ensures
    (not_sent old path s c.in_ok-stream.ensures.opened unfailed (c.in_ok-stream.ensures.begins told) (c.in_ok-stream.ensures.runs told) start now text head
    (subst (λ (at : List ℕ). IsHeadOf text head Put at) (sym c.path.ensures) c.in_ok-push_stream_head.ensures) g.F.ReadMedium.read_faults e (c.in_err-written.ensures.refused told fresh)))

pub returns-in_err-closed-clause-refused : goal.returns-in_err-closed-clause-refused
returns-in_err-closed-clause-refused g c =
    let s = open_of c.in_ok-stream.stream in
    let next = open_of c.write_digits-written.new.stream in
    let unfailed : is_failed c.args.file.now ≡ false = c.in_ok-stream.ensures.any in
    λ told.
    let calm : is_failed next.file ≡ false =
    ap is_failed (c.write_digits-written.ensures.kept told ∙ ap kept_of c.in_ok-stream.ensures.opened.file) ∙ unfailed in
    absurd (closes_unfailed next _ calm c.close-closed.result c.in_err-closed.field-0.0 c.in_err-closed.was _ c.close-closed.ensures.closes)

pub returns-in_err-send_long-clause-refused : goal.returns-in_err-send_long-clause-refused
returns-in_err-send_long-clause-refused g c =
    let p = err_from_is_err_and c.from_residual-in_err-send_long.result c.from_residual-in_err-send_long.ensures.1 in
    rw (p.1, p.2) (λ told. output_of_stream g.F.ReadMedium.read_faults c.args.file.now _ _ _ c.args.entry.now.path c.in_err-send_long.field-0.0 c.in_err-send_long.ensures.refused)
