use Rattle.std.proofs.Common.{rules}
use Rattle.std.specs.Str.{chars}
use Rattle.cfb_listing.proofs.entry.name_of.Goals as goal

pub returns-then-eq : goal.returns-then-eq
unfolding chars
returns-then-eq g c = search rules
