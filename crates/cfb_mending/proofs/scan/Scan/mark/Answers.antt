use Rattle.std.proofs.Common.{◌+◌, ◌*◌, ◌++◌, ℕ, sym, ◌∙◌, ap, subst, append-nil}
use Rattle.std.specs.Prelude.{IfSome, Option, Some}
use Rattle.cfb_format.specs.Bytes.{sector_start}
use Rattle.cfb_mending.specs.Missing.{mark_at}
use Rattle.cfb_mending.specs.Tables.{IsMark}
use Rattle.cfb_mending.proofs.InTables.{sector-patch, tables-more}
use Rattle.cfb_mending.proofs.scan.Scan.mark.Goals as goal

pub returns-clause-mends : goal.returns-clause-mends
returns-clause-mends g c bytes fat table before =
    let mark = subst (λ (o : Option ℕ). IfSome o IsMark) c.in-Some.is c.requires.mark in
    tables-more c.args.version bytes fat _ c.args.self.now.patches.items _ c.in_ok-set.ensures.added
    (sector-patch c.args.version bytes fat c.args.sector c.args.index c.place_in-at.result c.in-Some.mark table c.requires.below c.place_in-at.ensures.is mark) before

pub returns-clause-exact : goal.returns-clause-exact
returns-clause-exact g c =
    let old = c.args.self.now.patches.items in
    c.in_ok-set.ensures.added ∙ (λ j. old ++ mark_at (c.place_in-at.ensures.is j) (Some c.in-Some.mark))
    ∙ ap (λ (m : Option ℕ). old ++ mark_at (sector_start c.args.version c.args.sector + 4 * c.args.index) m) (sym c.in-Some.is)

pub returns-in_default-clause-exact : goal.returns-in_default-clause-exact
returns-in_default-clause-exact g c =
    let old = c.args.self.now.patches.items in
    sym (append-nil old) ∙ ap (λ (m : Option ℕ). old ++ mark_at (sector_start c.args.version c.args.sector + 4 * c.args.index) m) (sym c.in_default.is)
