use Rattle.std.proofs.Common.{◌≡◌, ℕ, List, max, ◌∙◌, ap}
use Rattle.cfb_mending.specs.Missing.{cut_end}
use Rattle.cfb_mending.proofs.scan.Scan.least.Goals as goal

pub returns-clause-is : goal.returns-clause-is
returns-clause-is g c told bytes same len =
    let version = c.args.tables.now.bounds.version in
    let n = c.args.tables.now.bounds.len in
    let fat : c.cut_end-fat_end.result ≡ cut_end version n c.args.tables.now.fat.items = c.cut_end-fat_end.ensures ∙ ap (λ (l : List ℕ). cut_end version n l) c.deref.ensures.value in
    c.max-3.ensures
    ∙ (λ j. max ((c.max-2.ensures ∙ (λ k. max ((c.max.ensures ∙ (λ i. max (fat i) (c.cut_end-directory_end.ensures i))) k) (c.cut_end-minifat_end.ensures k))) j)
    (c.in_ok-difat_end.ensures.is told bytes same len j))
