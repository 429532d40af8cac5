use Rattle.std.proofs.Common.{length, sym, ◌∙◌, rules}
use Rattle.std.specs.Str.{chars}
use Rattle.std.proofs.lemmas.Bool.{eqb-true}
use Rattle.cfb_codecs.proofs.PathText.{chars-empty}
use Rattle.cfb_codecs.proofs.PathWalks.{parents-here, parents-behind, parents-none}
use Rattle.cfb_codecs.proofs.path.says_parents.Goals as goal

pub returns-then-says_parent : goal.returns-then-says_parent
returns-then-says_parent c =
    sym (c.loop-left.invariant.same ∙ parents-here (chars c.loop-left.left.now) (chars c.first_part.result.0.now) (chars c.first_part.result.1.now) c.first_part.ensures.parents (sym c.says_parent.ensures ∙ c.if-says_parent.true))

pub loop-left-preserved : goal.loop-left-preserved
loop-left-preserved c = record {
  text = search rules;
  same = c.loop-left.invariant.same
      ∙ parents-behind (chars c.loop-left.left.now) (chars c.first_part.result.0.now) (chars c.first_part.result.1.now) c.first_part.ensures.parents (sym c.says_parent.ensures ∙ c.if-says_parent.false);
}

pub returns : goal.returns
returns c =
    sym (c.loop-left.invariant.same
    ∙ parents-none (chars c.loop-left.left.now) (chars-empty c.loop-left.left.now (eqb-true (length c.loop-left.left.now) 0 (sym c.is_empty.ensures ∙ c.loop-left-test.false))))
