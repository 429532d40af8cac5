use Rattle.cfb_shown.proofs.TreeWalks.{lines_follow_the_walk}
use Rattle.cfb_shown.proofs.laws.lines_follow_the_walk.Goals as goal

pub returns : goal.returns
returns c = lines_follow_the_walk
