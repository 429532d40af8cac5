use Rattle.cfb_compound_file.proofs.StoredStreams.{stream_inside}
use Rattle.cfb_compound_file.proofs.contents.CompoundFileReadContents.len.Goals as goal

pub len-requires : goal.len-requires
len-requires g c = record { inside = stream_inside _ _ (rw (← c.self.view_is) at c.requires.there) }
