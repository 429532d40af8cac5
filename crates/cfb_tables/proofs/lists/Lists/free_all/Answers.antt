use Rattle.std.proofs.Common.{ℕ, List, get_or, sym, ◌∙◌, ap}
use Rattle.cfb_format.specs.Chain.{value}
use Rattle.cfb_tables.specs.Tables.{Kept}
use Rattle.cfb_tables.proofs.AttachLemmas.{next-busy, freed-step}
use Rattle.cfb_tables.proofs.lists.Lists.free_all.Goals as goal

pub release-requires : goal.release-requires
release-requires g c =
    let l = c.loop-sector in
    let fat = ap (λ (z : Kept). z.state.fat) l.invariant.freed in
    record {
      busy = λ e. next-busy c.args.self.now.state.fat c.args.list.now l.sector-index c.loop-sector-test.true c.requires.busy c.requires.once
          (ap (λ (z : List ℕ). value z (get_or c.args.list.now l.sector-index 0)) (sym fat) ∙ e);
    }

pub loop-sector-preserved : goal.loop-sector-preserved
loop-sector-preserved g c =
    let l = c.loop-sector in
    record { freed = freed-step c.args.self.now l.self c.release.new.self c.args.list.now l.sector-index c.loop-sector-test.true l.invariant.freed c.release.ensures }
