use Rattle.cfb_tool.proofs.Stored.{added_is_stored, put_is_stored}
use Rattle.cfb_whole_streams.proofs.Stored.{written_is_stored}
use Rattle.cfb_tool.proofs.laws.what_is_told_is_stored.Goals as goal

pub returns : goal.returns
returns g c = record {
  written = written_is_stored g.S.Seen.seen g.S.Seen.promised;
  put = put_is_stored g.S.Seen.seen g.S.Seen.promised;
  added = added_is_stored g.S.Seen.seen g.S.Seen.promised;
}
