use Rattle.std.proofs.Common.{◌++◌, ℕ, List, refl, ◌∙◌, ap, arith}
use Rattle.cfb_format.specs.Bytes.{entries_per_sector, sector_start}
use Rattle.cfb_mending.specs.Missing.{kinds_from, kinds_of}
use Rattle.cfb_mending.proofs.MarkedWords.{each-all, each-more}
use Rattle.cfb_mending.proofs.scan.Scan.kinds.Goals as goal

pub loop-sector-init : goal.loop-sector-init
loop-sector-init g c = record {
  same = λ told. refl;
  stays = refl;
  exact = λ told bytes same len. ap (λ (l : List ℕ). l ++ kinds_of c.args.tables.now.bounds.version bytes c.args.directory.now) c.new-kinds.ensures.items;
}

pub loop-sector-preserved : goal.loop-sector-preserved
loop-sector-preserved g c =
    let loop = c.loop-sector.invariant in
    let version = c.args.tables.now.bounds.version in
    record {
      same = λ told. c.in_ok-loaded.ensures.same told ∙ loop.same told;
      stays = loop.stays;
      exact = λ told bytes same len.
          each-more (λ (s : ℕ). kinds_from bytes (sector_start version s) (entries_per_sector version)) c.args.directory.now c.loop-sector.sector-index _ c.loop-sector.kinds.items _ _ c.loop-sector-test.true
          (loop.exact told bytes same len) (c.in_ok-push_kinds.ensures bytes _ (c.in_ok-loaded.ensures.holds told bytes (loop.same told ∙ same) len));
    }

pub returns-clause-kinds : goal.returns-clause-kinds
returns-clause-kinds g c told bytes same len =
    let version = c.args.tables.now.bounds.version in
    each-all (λ (s : ℕ). kinds_from bytes (sector_start version s) (entries_per_sector version)) c.args.directory.now c.loop-sector.sector-index _ _ (omega (arith, c.loop-sector-test.false))
    (c.loop-sector.invariant.exact told bytes same len)
