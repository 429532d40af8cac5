use Rattle.std.proofs.Common.{ℕ, List, [], ◌∷◌, chars, refl, subst}
use Rattle.cfb_codecs.specs.EntryModel.{entries_of as entries_in}
use Rattle.cfb_listing.proofs.Slashes.{chars-slash}
use Rattle.cfb_rules.specs.Calls.{walk}
use Rattle.cfb_compound_file.proofs.Numbers.{object-in-list, root-is-object}
use Rattle.cfb_shown.specs.Lines.{HasLinesOf}
use Rattle.cfb_tool.specs.Listing.{HasLines}
use Rattle.cfb_tool.proofs.Listed.{all-listed, not-listed, writes-as}
use Rattle.cfb_tool.proofs.listing.listing.Goals as goal

pub write_walk-requires : goal.write_walk-requires
write_walk-requires g c = object-in-list c.args.file.now c.entries.result.now 0 c.entries.ensures.entries c.entries.ensures.in_order (root-is-object c.args.file.now)

pub returns-clause-lists : goal.returns-clause-lists
returns-clause-lists g c = λ told.
    let es = entries_in c.entries.result.now in
    writes-as c.write_walk.result (λ text. HasLinesOf c.args.form es (chars (47 ∷ [])) 0 text) (HasLines c.args.form c.args.file.now walk) _ _
    (λ text has. all-listed c.args.form c.args.file.now es text (c.entries.ensures.agrees told) c.entries.ensures.entries
    (subst (λ (p : List ℕ). HasLinesOf c.args.form es p 0 text) chars-slash has))
    c.write_walk.ensures.lines

pub returns-clause-refused : goal.returns-clause-refused
returns-clause-refused g c = λ told. not-listed c.write_walk.result c.args.file.now walk _ _ refl c.write_walk.ensures.refused
