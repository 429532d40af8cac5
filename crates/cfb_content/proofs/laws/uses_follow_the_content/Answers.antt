use Rattle.cfb_content.proofs.Changing.{growth-stays, large-becomes-small, large-goes-on, large-is-cut, same-is-used, small-becomes-large, small-goes-on, small-is-cut}
use Rattle.cfb_content.proofs.Owned.{used-by-owners}
use Rattle.cfb_content.proofs.laws.uses_follow_the_content.Goals as goal

pub returns-clause-owners : goal.returns-clause-owners
returns-clause-owners c = used-by-owners

pub returns-clause-same : goal.returns-clause-same
returns-clause-same c = same-is-used

pub returns-clause-large_longer : goal.returns-clause-large_longer
returns-clause-large_longer c = large-goes-on

pub returns-clause-large_shorter : goal.returns-clause-large_shorter
returns-clause-large_shorter c = large-is-cut

pub returns-clause-small_longer : goal.returns-clause-small_longer
returns-clause-small_longer c = small-goes-on

pub returns-clause-growth : goal.returns-clause-growth
returns-clause-growth c = growth-stays

pub returns-clause-small_shorter : goal.returns-clause-small_shorter
returns-clause-small_shorter c = small-is-cut

pub returns-clause-to_small : goal.returns-clause-to_small
returns-clause-to_small c = large-becomes-small

pub returns-clause-to_large : goal.returns-clause-to_large
returns-clause-to_large c = small-becomes-large
