use Rattle.cfb_entry_changes.proofs.Spared.{put-keeps-streams}
use Rattle.cfb_entry_changes.proofs.insertion.insertions_keep_streams.Goals as goal

pub returns : goal.returns
returns c = put-keeps-streams
