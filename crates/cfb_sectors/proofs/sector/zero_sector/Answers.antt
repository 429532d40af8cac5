use Rattle.std.proofs.Common.{ap, refl, ◌∙◌, take, replicate, ℕ}
use Rattle.cfb_sectors.proofs.FreshLemmas.{zeros_fresh}
use Rattle.cfb_sectors.proofs.sector.zero_sector.Goals as goal

pub returns-clause-zeros : goal.returns-clause-zeros
returns-clause-zeros c = ap (λ n. take n (replicate {A = ℕ} 4096 0)) c.sector_len.ensures ∙ zeros_fresh c.args.version (replicate 4096 0) refl
