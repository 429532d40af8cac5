use Rattle.std.proofs.Common.{◌∙◌, ◌++◌, ap}
use Rattle.std.specs.Prelude.{chars}
use Rattle.cfb_codecs.specs.EntryModel.{entries_of}
use Rattle.cfb_format.specs.Meaning.{objects_from}
use Rattle.cfb_listing.specs.Listings.{listed_by}
use Rattle.cfb_listing.proofs.listing.list_inside.Goals as goal

pub returns-clause-ok : goal.returns-clause-ok
returns-clause-ok g c = λ cases inside content has.
    c.in_ok-push_inside.ensures.ok cases inside content has
    ∙ ap (λ list. list ++ listed_by c.args.order (chars c.args.path.now) (objects_from (entries_of c.args.entries.now) content inside)) c.new-list.ensures.items
