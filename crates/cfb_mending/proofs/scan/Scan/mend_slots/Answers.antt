use Rattle.std.proofs.Common.{refl, ◌∙◌, ap, arith}
use Rattle.cfb_mending.specs.Missing.{links_in}
use Rattle.cfb_mending.proofs.MarkedWords.{each-all, each-more}
use Rattle.cfb_mending.proofs.scan.Scan.mend_slots.Goals as goal

pub loop-sector-init : goal.loop-sector-init
loop-sector-init g c = record {
  same = λ told. refl;
  mends = λ told all before. before;
  exact = λ told bytes same len. refl;
}

pub loop-sector-preserved : goal.loop-sector-preserved
loop-sector-preserved g c =
    let loop = c.loop-sector.invariant in
    let version = c.args.tables.now.bounds.version in
    record {
      same = λ told. ap g.F.ReadMedium.bytes c.in_ok-mend_links.ensures.same ∙ c.in_ok-loaded.ensures.same told ∙ loop.same told;
      mends = λ told all before.
          c.in_ok-mend_links.ensures.mends (g.F.ReadMedium.bytes c.args.self.now.medium) c.args.tables.now.fat.items (all c.loop-sector.sector-index _ c.loop-sector-test.true) (loop.mends told all before);
      exact = λ told bytes same len.
          each-more (links_in version bytes c.args.kinds.now) c.args.directory.now c.loop-sector.sector-index _ c.loop-sector.self.patches.items _ _ c.loop-sector-test.true (loop.exact told bytes same len)
          (c.in_ok-mend_links.ensures.exact bytes (c.in_ok-loaded.ensures.holds told bytes (loop.same told ∙ same) len));
    }

pub returns-clause-exact : goal.returns-clause-exact
returns-clause-exact g c told bytes same len =
    let version = c.args.tables.now.bounds.version in
    each-all (links_in version bytes c.args.kinds.now) c.args.directory.now c.loop-sector.sector-index _ _ (omega (arith, c.loop-sector-test.false)) (c.loop-sector.invariant.exact told bytes same len)
