use Rattle.std.proofs.Common.{◌<◌, Bool, refl, ◌∙◌, ap, arith}
use Rattle.cfb_format.specs.Bytes.{points_below, sector_start, words_per_sector}
use Rattle.cfb_mending.specs.Missing.{chain_mark, end_unless}
use Rattle.cfb_mending.proofs.HeldWords.{most-words, word-there}
use Rattle.cfb_mending.proofs.MarkedWords.{marked-all, marked-more, marked-none}
use Rattle.cfb_mending.proofs.scan.Scan.end_chains.Goals as goal

pub loop-index-init : goal.loop-index-init
loop-index-init g c = record {
  same = refl;
  mends = λ bytes fat table before. before;
  exact = λ bytes h. marked-none (chain_mark c.args.known bytes (sector_start c.args.version c.args.sector)) (sector_start c.args.version c.args.sector) c.args.self.now.patches.items;
}

pub chain_mark-requires : goal.chain_mark-requires
chain_mark-requires g c = omega (arith, c.loop-index-test.true, c.requires, most-words c.args.version)

pub mark-requires-clause-below : goal.mark-requires-clause-below
mark-requires-clause-below g c = omega (arith, c.loop-index-test.true, c.requires)

pub loop-index-preserved : goal.loop-index-preserved
loop-index-preserved g c =
    let loop = c.loop-index.invariant in
    let version = c.args.version in
    let below : c.loop-index.index < words_per_sector version = omega (arith, c.loop-index-test.true, c.requires) in
    record {
      same = c.in_ok-mark.ensures.same ∙ loop.same;
      mends = λ bytes fat table before. c.in_ok-mark.ensures.mends bytes fat table (loop.mends bytes fat table before);
      exact = λ bytes h.
          marked-more (chain_mark c.args.known bytes (sector_start version c.args.sector)) (sector_start version c.args.sector) c.loop-index.index _ c.loop-index.self.patches.items _ _
          (c.chain_mark.ensures.is ∙ ap (λ (b : Bool). end_unless b) (word-there (points_below c.args.known) version bytes c.args.sector _ _ c.loop-index.index h below)) (loop.exact bytes h)
          c.in_ok-mark.ensures.exact;
    }

pub returns-clause-exact : goal.returns-clause-exact
returns-clause-exact g c bytes h =
    marked-all (chain_mark c.args.known bytes (sector_start c.args.version c.args.sector)) (sector_start c.args.version c.args.sector) c.loop-index.index c.args.count _ _
    c.loop-index.auto.index-end c.loop-index-test.false (c.loop-index.invariant.exact bytes h)
