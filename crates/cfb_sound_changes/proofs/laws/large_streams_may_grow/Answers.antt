use Rattle.cfb_sound_changes.proofs.Growing.{large-stream-grows}
use Rattle.cfb_sound_changes.proofs.laws.large_streams_may_grow.Goals as goal

pub returns : goal.returns
returns c = large-stream-grows
