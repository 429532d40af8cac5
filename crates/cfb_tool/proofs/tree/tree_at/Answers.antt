use Rattle.std.proofs.Common.{chars, refl, subst}
use Rattle.cfb_codecs.specs.EntryModel.{entries_of as entries_in}
use Rattle.cfb_rules.specs.Calls.{walk_storage}
use Rattle.cfb_compound_file.proofs.Numbers.{object-in-list}
use Rattle.cfb_shown.specs.Trees.{ShowsTree}
use Rattle.cfb_tool.specs.Trees.{HasTreeAt}
use Rattle.cfb_tool.proofs.Listed.{not-listed, writes-as}
use Rattle.cfb_tool.proofs.Treed.{at-path-shown}
use Rattle.cfb_tool.proofs.tree.tree_at.Goals as goal

pub write_tree-requires : goal.write_tree-requires
write_tree-requires g c =
    object-in-list c.args.file.now c.entries.result.now c.in_ok-number.number c.entries.ensures.entries c.entries.ensures.in_order c.in_ok-number.ensures.found.object

pub returns-clause-shows : goal.returns-clause-shows
returns-clause-shows g c = λ told.
    writes-as c.write_tree.result (ShowsTree (entries_in c.entries.result.now) c.in_ok-number.number) (HasTreeAt c.args.file.now (chars c.args.path.now)) _ _
    (λ text shows. at-path-shown c.args.file.now (c.entries.ensures.agrees told) text (chars c.args.path.now) c.in_ok-number.number c.in_ok-number.ensures.found
    (subst (λ es. ShowsTree es c.in_ok-number.number text) c.entries.ensures.entries shows))
    c.write_tree.ensures.text

pub returns-clause-refused : goal.returns-clause-refused
returns-clause-refused g c = λ told. not-listed c.write_tree.result c.args.file.now (walk_storage (chars c.args.path.now)) _ _ refl c.write_tree.ensures.refused
