use Rattle.std.proofs.Common.{refl, subst}
use Rattle.cfb_codecs.specs.EntryModel.{entries_of as entries_in}
use Rattle.cfb_rules.specs.Calls.{walk}
use Rattle.cfb_compound_file.proofs.Numbers.{object-in-list, root-is-object}
use Rattle.cfb_shown.specs.Trees.{ShowsTree}
use Rattle.cfb_tool.specs.Trees.{HasTree}
use Rattle.cfb_tool.proofs.Listed.{not-listed, writes-as}
use Rattle.cfb_tool.proofs.Treed.{all-shown}
use Rattle.cfb_tool.proofs.tree.tree.Goals as goal

pub write_tree-requires : goal.write_tree-requires
write_tree-requires g c = object-in-list c.args.file.now c.entries.result.now 0 c.entries.ensures.entries c.entries.ensures.in_order (root-is-object c.args.file.now)

pub returns-clause-shows : goal.returns-clause-shows
returns-clause-shows g c = λ told.
    writes-as c.write_tree.result (ShowsTree (entries_in c.entries.result.now) 0) (HasTree c.args.file.now) _ _
    (λ text shows. all-shown c.args.file.now (c.entries.ensures.agrees told) text (subst (λ es. ShowsTree es 0 text) c.entries.ensures.entries shows))
    c.write_tree.ensures.text

pub returns-clause-refused : goal.returns-clause-refused
returns-clause-refused g c = λ told. not-listed c.write_tree.result c.args.file.now walk _ _ refl c.write_tree.ensures.refused
