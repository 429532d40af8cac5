use Rattle.cfb_rules.proofs.StreamBounds.{StreamStep-keeps}
use Rattle.cfb_rules.proofs.laws.streams_keep_their_bounds.Goals as goal

pub returns : goal.returns
returns c = StreamStep-keeps
