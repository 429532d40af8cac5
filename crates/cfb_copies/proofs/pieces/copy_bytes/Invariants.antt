use Rattle.std.proofs.Common.{◌≡◌, ◌-◌, ◌≤◌, length, take, IsTrue}
use Rattle.cfb_copies.specs.cfb_content.Contents.{len_of}
use Rattle.cfb_copies.specs.cfb_agreement.Files.{Holds, failures_of}
use Rattle.cfb_volume.specs.Answers.{content_at}
use Rattle.cfb_copies.specs.Steps.{FillsStream, IsReadOnly}
use Rattle.cfb_copies.proofs.Settled.{IsSettled}
use Rattle.cfb_copies.proofs.pieces.copy_bytes.Given as goal

abbrev pub invariant-loop-at : goal.invariant-loop-at
invariant-loop-at g l = record {
  within : l.at ≤ l.len;
  -- the stream lies where it is to lie, or is empty
  settled : IsSettled l.len l.at;
  reads : IsReadOnly g.F.ReadMedium.tells l.fn.source l.source;
  calm : IsTrue g.F.ReadMedium.tells → failures_of l.source ≡ failures_of l.fn.source;
  fills : FillsStream g.W.ReadMedium.tells l.to l.fn.target l.target;
  end : len_of l.target.base l.to ≡ l.at;
  room : length l.piece ≡ length l.fn.piece;
  content : IsTrue g.F.ReadMedium.tells → IsTrue g.W.ReadMedium.tells → Holds l.fn.source → Holds l.fn.target
      → l.len ≡ length (content_at l.fn.source l.from) → content_at l.target l.to ≡ take l.at (content_at l.fn.source l.from);
}

abbrev pub decreases-loop-at : goal.decreases-loop-at
decreases-loop-at g l = l.len - l.at
