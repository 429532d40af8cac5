use Rattle.cfb_sound_changes.proofs.MiniGrown.{used-minis-grow}
use Rattle.cfb_sound_changes.proofs.laws.mini_owners_lists_grow.Goals as goal

pub returns : goal.returns
returns c = used-minis-grow
