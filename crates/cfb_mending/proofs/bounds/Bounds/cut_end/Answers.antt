use Rattle.std.proofs.Common.{sym, ◌∙◌, arith}
use Rattle.cfb_format.proofs.Words.{four-words}
use Rattle.cfb_mending.proofs.CutEnds.{cut-here, cut-more, cut-none}
use Rattle.cfb_mending.proofs.bounds.Bounds.cut_end.Goals as goal

pub loop-sector-preserved : goal.loop-sector-preserved
loop-sector-preserved c =
    sym (cut-more c.args.self.version c.args.self.len c.args.sectors.now c.loop-sector.sector-index _ c.loop-sector-test.true (sym c.is_cut.ensures ∙ c.if-is_cut.false)) ∙ c.loop-sector.invariant

pub returns-then-is_cut : goal.returns-then-is_cut
returns-then-is_cut c =
    let upto = cut-here c.args.self.version c.args.self.len c.args.sectors.now c.loop-sector.sector-index _ c.loop-sector-test.true (sym c.is_cut.ensures ∙ c.if-is_cut.true) in
    omega (arith, c.place_in.ensures.is, c.words_in.ensures.is, four-words c.args.self.version, upto) ∙ c.loop-sector.invariant

pub returns : goal.returns
returns c = sym (cut-none c.args.self.version c.args.self.len c.args.sectors.now c.loop-sector.sector-index (omega (arith, c.loop-sector-test.false))) ∙ c.loop-sector.invariant
