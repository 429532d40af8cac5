use Rattle.std.proofs.Common.{arith, ◌<◌, length, sym, ◌∙◌, rules}
use Rattle.std.specs.Str.{chars}
use Rattle.std.proofs.lemmas.Bool.{eqb-true}
use Rattle.std.proofs.lemmas.Bool.Decides.{nat_tests}
use Rattle.cfb_codecs.proofs.PathText.{chars-empty}
use Rattle.cfb_codecs.proofs.PathWalks.{left-nothing, left-plain, left-end, plain-rest}
use Rattle.cfb_codecs.proofs.path.next_plain.Goals as goal

pub returns-then-not-says_nothing-clause-some : goal.returns-then-not-says_nothing-clause-some
returns-then-not-says_nothing-clause-some c =
    c.loop-left.invariant.same
    ∙ left-plain (chars c.loop-left.left.now) (chars c.first_part.result.0.now) (chars c.first_part.result.1.now) c.first_part.ensures.step c.first_part.ensures.parents c.loop-left.invariant.plain
    (sym c.says_nothing.ensures ∙ c.if-not-says_nothing.true)

pub returns-then-not-says_nothing-clause-plain : goal.returns-then-not-says_nothing-clause-plain
returns-then-not-says_nothing-clause-plain c = plain-rest (chars c.loop-left.left.now) (chars c.first_part.result.0.now) (chars c.first_part.result.1.now) c.first_part.ensures.parents c.loop-left.invariant.plain

pub loop-left-preserved : goal.loop-left-preserved
loop-left-preserved c = record {
  text = search rules;
  same = c.loop-left.invariant.same
      ∙ left-nothing (chars c.loop-left.left.now) (chars c.first_part.result.0.now) (chars c.first_part.result.1.now) c.first_part.ensures.step (sym c.says_nothing.ensures ∙ c.if-not-says_nothing.false);
  plain = plain-rest (chars c.loop-left.left.now) (chars c.first_part.result.0.now) (chars c.first_part.result.1.now) c.first_part.ensures.parents c.loop-left.invariant.plain;
  within = let full : 0 < length c.loop-left.left.now = grind (arith, nat_tests) in omega (arith, c.first_part.ensures.shorter full, c.loop-left.invariant.within);
}

pub returns-clause-none : goal.returns-clause-none
returns-clause-none c =
    c.loop-left.invariant.same
    ∙ left-end (chars c.loop-left.left.now) (chars-empty c.loop-left.left.now (eqb-true (length c.loop-left.left.now) 0 (sym c.is_empty.ensures ∙ c.loop-left-test.false)))
