use Rattle.std.proofs.Common.{◌∙◌, ◌-◌, ℕ, arith, inl, inr, length, refl, subst, take}
use Rattle.std.proofs.lemmas.Result.{err_from_is_err_and}
use Rattle.cfb_commands.specs.cfb_rules.StreamCalls.{from_start, read, seek}
use Rattle.std.proofs.lemmas.Grind.{common_steps}
use borrow.Rule.Slice.PartMut.{take_put}
use Rattle.cfb_commands.specs.cfb_compound_file.ReadStreams.{open_of}
use Rattle.cfb_commands.specs.cfb_compound_file.StreamAnswers.{causes_of_reading, stream_in}
use Rattle.cfb_c.specs.Pieces.{StandsIn}
use Rattle.cfb_c.proofs.Pieces.{begun, ends_there, none_counted, piece_in, piece_refused, put_behind, room_behind, same_file, sought_in, stands_on}
use Rattle.cfb_c.proofs.streams.fill_from.Goals as goal

pub loop-count-init : goal.loop-count-init
loop-count-init g c =
    let old = c.args.stream.now in
    let new = c.seek.new.self in
    record {
      same_file = c.seek.ensures.answers.same_file;
      same = c.seek.ensures.answers.stays.untouched tt;
      inside = omega arith;
      stands = subst (λ (k : ℕ). StandsIn (stream_in (open_of old)) k (stream_in (open_of new))) (omega arith)
          (sought_in (causes_of_reading old.file.now new.file.now) (open_of old) (open_of new) c.args.at _ (c.in_ok-seek.ensures.answers.answer.rules c.requires.tells));
      read = begun (stream_in (open_of old)) c.args.at c.args.into.now;
    }

pub returns-then-more-eq0-clause-reads : goal.returns-then-more-eq0-clause-reads
returns-then-more-eq0-clause-reads g c =
    let l = c.loop-count in
    let old = l.stream in
    let new = c.read.new.self in
    let first = stream_in (open_of c.args.stream.now) in
    let more = c.in_ok-more.more in
    let slice = c.read.new.into in
    let fits = c.in_ok-more.ensures.into.most in
    let piece = piece_in (causes_of_reading old.file.now new.file.now) (open_of old) (open_of new) _ (take more slice) (c.in_ok-more.ensures.answers.answer.rules c.requires.tells) in
    let room = room_behind first (stream_in (open_of old)) (stream_in (open_of new)) c.args.at l.count _ more l.into slice l.invariant.stands piece fits (length l.into - l.count) l.invariant.inside in
    record {
      most = omega (arith, room);
      read = record { bytes = take_put l.count _ l.into slice l.invariant.inside ∙ l.invariant.read.bytes; inside = l.invariant.read.inside };
      end = λ _. ends_there first (stream_in (open_of old)) (stream_in (open_of new)) c.args.at l.count _ more l.into slice l.invariant.stands piece fits
          (grind (arith, c.if-more-eq0.true)) (grind (arith, common_steps, c.loop-count-test.true));
    }

pub loop-count-preserved : goal.loop-count-preserved
loop-count-preserved g c =
    let l = c.loop-count in
    let old = l.stream in
    let new = c.read.new.self in
    let first = stream_in (open_of c.args.stream.now) in
    let more = c.in_ok-more.more in
    let slice = c.read.new.into in
    let fits = c.in_ok-more.ensures.into.most in
    let piece = piece_in (causes_of_reading old.file.now new.file.now) (open_of old) (open_of new) _ (take more slice) (c.in_ok-more.ensures.answers.answer.rules c.requires.tells) in
    record {
      same_file = c.read.ensures.answers.same_file ∙ l.invariant.same_file;
      same = same_file old.file.now new.file.now (c.read.ensures.answers.stays.kept c.requires.tells) (c.in_ok-more.ensures.answers.answer.no_failure c.requires.tells) ∙ l.invariant.same;
      inside = room_behind first (stream_in (open_of old)) (stream_in (open_of new)) c.args.at l.count _ more l.into slice l.invariant.stands piece fits _ l.invariant.inside;
      stands = stands_on first (stream_in (open_of old)) (stream_in (open_of new)) c.args.at l.count _ more l.into slice l.invariant.stands piece fits;
      read = put_behind first (stream_in (open_of old)) (stream_in (open_of new)) c.args.at l.count _ more l.into slice l.invariant.stands piece fits _ l.invariant.read l.invariant.inside;
    }

-- ---- nothing of the file has changed

pub returns-in_err-seek-clause-same : goal.returns-in_err-seek-clause-same
returns-in_err-seek-clause-same g c = c.seek.ensures.answers.stays.untouched tt

pub returns-in_err-more-clause-same : goal.returns-in_err-more-clause-same
returns-in_err-more-clause-same g c =
    let l = c.loop-count in
    let old = l.stream in
    let new = c.read.new.self in
    same_file old.file.now new.file.now (c.read.ensures.answers.stays.kept c.requires.tells) (none_counted g.F.ReadMedium.read_faults c.requires.sure _ _ c.in_err-more.field-0.0 (c.in_err-more.ensures.answers.answer.rules c.requires.tells).counts) ∙ l.invariant.same

pub returns-then-more-eq0-clause-same : goal.returns-then-more-eq0-clause-same
returns-then-more-eq0-clause-same g c =
    let l = c.loop-count in
    let old = l.stream in
    let new = c.read.new.self in
    same_file old.file.now new.file.now (c.read.ensures.answers.stays.kept c.requires.tells) (c.in_ok-more.ensures.answers.answer.no_failure c.requires.tells) ∙ l.invariant.same

-- ---- refused

pub returns-in_err-seek-clause-refused : goal.returns-in_err-seek-clause-refused
returns-in_err-seek-clause-refused g c =
    let p = err_from_is_err_and c.from_residual.result c.from_residual.ensures.1 in
    let first = open_of c.args.stream.now in
    let next = open_of c.seek.new.self in
    rw (p.1, p.2) (piece_refused g.F.ReadMedium.read_faults first first next c.args.at (seek (from_start c.args.at)) c.in_err-seek.field-0.0 refl (c.seek.ensures.answers.stays.untouched tt) refl refl (inl refl)
    (c.in_err-seek.ensures.answers.answer.rules c.requires.tells))

pub returns-in_err-more-clause-refused : goal.returns-in_err-more-clause-refused
returns-in_err-more-clause-refused g c =
    let p = err_from_is_err_and c.from_residual-in_err-more.result c.from_residual-in_err-more.ensures.1 in
    let l = c.loop-count in
    let first = open_of c.args.stream.now in
    let old = open_of l.stream in
    let next = open_of c.read.new.self in
    let e = c.in_err-more.field-0.0 in
    let still = same_file old.file next.file (c.read.ensures.answers.stays.kept c.requires.tells) (none_counted g.F.ReadMedium.read_faults c.requires.sure _ _ e (c.in_err-more.ensures.answers.answer.rules c.requires.tells).counts) ∙ l.invariant.same in
    rw (p.1, p.2) (piece_refused g.F.ReadMedium.read_faults first old next c.args.at (read _) e l.invariant.same still l.invariant.stands.len l.invariant.stands.content
    (inr (_, refl, omega (arith, l.invariant.stands.position))) (c.in_err-more.ensures.answers.answer.rules c.requires.tells))
