use Rattle.std.proofs.Common.{◌≡◌, ◌∙◌, ◌<◌, ℕ, arith, length, subst}
use Rattle.std.proofs.lemmas.Result.{err_from_is_err_and}
use Rattle.cfb_compound_file.specs.StreamAnswers.{StreamRunsOn}
use Rattle.cfb_compound_file.specs.cfb_rules.StreamCalls.{count, write}
use Rattle.cfb_compound_file.specs.Streams.{open_of}
use Rattle.cfb_compound_file.proofs.Writing.{begun_done, begun_more, begun_once, begun_refused, begun_stuck, emptied, refused_once, takes_some}
use Rattle.cfb_compound_file.proofs.stream.Stream+F+A.write_all.Goals as goal

pub loop-rest-init : goal.loop-rest-init
loop-rest-init g c = record {
  same_file = c.write.ensures.answers.same_file;
  begun = begun_once _ _ (open_of c.args.self.now) c.args.bytes.now c.in_ok-first.first (open_of c.write.new.self)
      (record { stays = c.write.ensures.answers.stays; answer = c.in_ok-first.ensures.answers.answer });
}

pub loop-rest-preserved : goal.loop-rest-preserved
loop-rest-preserved g c =
    let i = c.loop-rest.invariant in
    let w = c.write-in-loop-rest.ensures.answers in
    record {
      same_file = w.same_file ∙ i.same_file;
      begun = begun_more _ _ (open_of c.args.self.now) c.args.bytes.now c.loop-rest.rest.now (open_of c.loop-rest.self) i.begun c.in_ok-count.count (open_of c.write-in-loop-rest.new.self)
          (record { stays = w.stays; answer = c.in_ok-count.ensures.answers.answer });
    }

pub returns-in_err-first-clause-whole : goal.returns-in_err-first-clause-whole
returns-in_err-first-clause-whole g c =
    let p = err_from_is_err_and c.from_residual.result c.from_residual.ensures.1 in
    rw (p.1, p.2) (refused_once _ _ (open_of c.args.self.now) c.args.bytes.now c.in_err-first.field-0.0 (open_of c.write.new.self)
    (record { stays = c.write.ensures.answers.stays; answer = c.in_err-first.ensures.answers.answer }))

pub returns-in_err-count-clause-whole : goal.returns-in_err-count-clause-whole
returns-in_err-count-clause-whole g c =
    let p = err_from_is_err_and c.from_residual-in_err-count.result c.from_residual-in_err-count.ensures.1 in
    rw (p.1, p.2) (begun_refused _ _ (open_of c.args.self.now) c.args.bytes.now c.loop-rest.rest.now (open_of c.loop-rest.self) c.loop-rest.invariant.begun
    c.in_err-count.field-0.0 (open_of c.write-in-loop-rest.new.self) (record { stays = c.write-in-loop-rest.ensures.answers.stays; answer = c.in_err-count.ensures.answers.answer }))

-- where the medium tells its bytes, a write of bytes takes some
pub returns-then-count-eq0-clause-whole : goal.returns-then-count-eq0-clause-whole
returns-then-count-eq0-clause-whole g c =
    let old = open_of c.loop-rest.self in
    let now = open_of c.write-in-loop-rest.new.self in
    let rest = c.loop-rest.rest.now in
    let done = c.in_ok-count.ensures.answers.answer in
    let none : c.in_ok-count.count ≡ 0 = omega (arith, c.if-count-eq0.true) in
    let some : 0 < length rest = grind (arith, c.is_empty.ensures, c.loop-rest-test.true) in
    begun_stuck _ _ (open_of c.args.self.now) c.args.bytes.now rest old c.loop-rest.invariant.begun c.in_ok-count.count now (record { stays = c.write-in-loop-rest.ensures.answers.stays; answer = done })
    (λ told. takes_some old now rest some (subst (λ (n : ℕ). StreamRunsOn old (write rest) (count n) now) none (done.rules told))) _

pub returns-clause-whole : goal.returns-clause-whole
returns-clause-whole g c =
    let none : length c.loop-rest.rest.now ≡ 0 = grind (arith, c.is_empty.ensures, c.loop-rest-test.false) in
    begun_done _ _ (open_of c.args.self.now) c.args.bytes.now c.loop-rest.rest.now (open_of c.loop-rest.self) c.loop-rest.invariant.begun tt (emptied c.loop-rest.rest.now none)
