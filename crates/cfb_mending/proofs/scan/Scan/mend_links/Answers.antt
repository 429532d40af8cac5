use Rattle.std.proofs.Common.{◌<◌, Bool, refl, ◌∙◌, ap, arith}
use Rattle.cfb_format.specs.Bytes.{sector_start, words_per_sector}
use Rattle.cfb_mending.specs.Missing.{is_link_word, leads_to_none, link_mark, none_if}
use Rattle.cfb_mending.proofs.HeldWords.{link-there, most-words}
use Rattle.cfb_mending.proofs.MarkedWords.{marked-all, marked-more, marked-none}
use Rattle.cfb_mending.proofs.scan.Scan.mend_links.Goals as goal

pub loop-index-init : goal.loop-index-init
loop-index-init g c = record {
  same = refl;
  mends = λ bytes fat table before. before;
  exact = λ bytes h. marked-none (link_mark c.args.kinds.now bytes (sector_start c.args.version c.args.sector)) (sector_start c.args.version c.args.sector) c.args.self.now.patches.items;
}

pub link_mark-requires : goal.link_mark-requires
link_mark-requires g c = omega (arith, c.loop-index-test.true, c.words_in-index-end.ensures.is, most-words c.args.version)

pub mark-requires-clause-below : goal.mark-requires-clause-below
mark-requires-clause-below g c = omega (arith, c.loop-index-test.true, c.words_in-index-end.ensures.is)

pub loop-index-preserved : goal.loop-index-preserved
loop-index-preserved g c =
    let loop = c.loop-index.invariant in
    let version = c.args.version in
    let below : c.loop-index.index < words_per_sector version = omega (arith, c.loop-index-test.true, c.words_in-index-end.ensures.is) in
    record {
      same = c.in_ok-mark.ensures.same ∙ loop.same;
      mends = λ bytes fat table before. c.in_ok-mark.ensures.mends bytes fat table (loop.mends bytes fat table before);
      exact = λ bytes h.
          marked-more (link_mark c.args.kinds.now bytes (sector_start version c.args.sector)) (sector_start version c.args.sector) c.loop-index.index _ c.loop-index.self.patches.items _ _
          (c.link_mark.ensures.is ∙ ap (λ (b : Bool). none_if b) (link-there (leads_to_none c.args.kinds.now) (is_link_word c.loop-index.index) version bytes c.args.sector _ _ c.loop-index.index h below))
          (loop.exact bytes h) c.in_ok-mark.ensures.exact;
    }

pub returns-clause-exact : goal.returns-clause-exact
returns-clause-exact g c bytes h =
    marked-all (link_mark c.args.kinds.now bytes (sector_start c.args.version c.args.sector)) (sector_start c.args.version c.args.sector) c.loop-index.index (words_per_sector c.args.version) _ _
    (omega (arith, c.loop-index.auto.index-end, c.words_in-index-end.ensures.is)) (omega (arith, c.loop-index-test.false, c.words_in-index-end.ensures.is)) (c.loop-index.invariant.exact bytes h)
