use Rattle.std.proofs.Common.{◌+◌, ◌-◌, ◌++◌, ℕ, refl, ◌∙◌, ap, arith, drop}
use Rattle.cfb_mending.specs.Missing.{fat_patches, known_of}
use Rattle.cfb_mending.proofs.InTables.{tables-moved}
use Rattle.cfb_mending.proofs.FreedWords.{fat-all, fat-more-of}
use Rattle.cfb_mending.proofs.scan.Scan.mend_fat.Goals as goal

pub loop-sector-init : goal.loop-sector-init
loop-sector-init g c = record {
  same = λ told. refl;
  mends = λ told before. before;
  exact = λ told bytes same len. refl;
}

pub loop-sector-preserved : goal.loop-sector-preserved
loop-sector-preserved g c =
    let loop = c.loop-sector.invariant in
    let version = c.args.tables.now.bounds.version in
    let fat = c.args.tables.now.fat.items in
    let known = known_of version c.args.tables.now.bounds.sectors fat in
    let rest = drop (c.loop-sector.sector-index + 1) fat in
    record {
      same = λ told. c.in_ok-mend_fat_sector.ensures.same told ∙ loop.same told;
      mends = λ told before.
          tables-moved version (g.F.ReadMedium.bytes c.loop-sector.self.medium) (g.F.ReadMedium.bytes c.args.self.now.medium) fat _ _ (loop.same told)
          (c.in_ok-mend_fat_sector.ensures.mends told) (loop.mends told before);
      exact = λ told bytes same len.
          ap (λ (n : ℕ). c.mend_fat_sector.new.self.patches.items ++ fat_patches version bytes known rest n)
          (c.saturating_sub-left.ensures ∙ ap (λ (n : ℕ). c.loop-sector.left - n) c.words_in.ensures.is)
          ∙ fat-more-of version bytes known fat c.deref-sector-items.result.now c.loop-sector.sector-index _ c.loop-sector.left _ _ _ c.deref-sector-items.ensures.value c.loop-sector-test.true (loop.exact told bytes same len)
          (c.in_ok-mend_fat_sector.ensures.exact told bytes (loop.same told ∙ same) len);
    }

pub returns-clause-exact : goal.returns-clause-exact
returns-clause-exact g c told bytes same len =
    let version = c.args.tables.now.bounds.version in
    let fat = c.args.tables.now.fat.items in
    fat-all version bytes (known_of version c.args.tables.now.bounds.sectors fat) fat c.loop-sector.sector-index c.loop-sector.left _ _ (omega (arith, c.loop-sector-test.false))
    (c.loop-sector.invariant.exact told bytes same len)
