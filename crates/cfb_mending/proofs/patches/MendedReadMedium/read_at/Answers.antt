use Rattle.std.proofs.Common.{ℕ, List, ◌++◌, ◌∙◌, ap, drop, take}
use Rattle.cfb_mending.specs.declared.patches.Patch.{Patch}
use Rattle.cfb_mending.specs.Mended.{mended_from, padded}
use Rattle.cfb_mending.proofs.Patching.{reads-mended}
use Rattle.cfb_mending.proofs.patches.MendedReadMedium.read_at.Goals as goal

pub returns-clause-honest : goal.returns-clause-honest
returns-clause-honest g c told =
    let patches = c.args.self.now.patches.items in
    let n = c.in_ok-count.count in
    let served = c.read_padded.new.into in
    reads-mended g.F.ReadMedium.read_faults patches (padded c.args.self.now.least (g.F.ReadMedium.bytes c.args.self.now.medium)) _ _ c.args.at served _ n (c.in_ok-count.ensures.honest told) c.in_ok-count.ensures.bound
    (ap (λ (l : List ℕ). l ++ drop n served) (c.set_all.ensures ∙ ap (λ (ps : List Patch). mended_from ps c.args.at (take n served)) c.deref.ensures.value))
