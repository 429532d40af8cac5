use Rattle.std.proofs.Common.{◌≡◌, ◌≤◌, ◌-◌, length, take}
use Rattle.std.specs.Prelude.{IsTrue}
use Rattle.cfb_format.specs.Siblings.{entry_at}
use Rattle.cfb_extract.specs.Items.{IsLonger, IsLongerSo}
use Rattle.cfb_extract.specs.Sources.{StaysSource}
use Rattle.cfb_extract.proofs.objects.write_stream.Given as goal

abbrev pub invariant-loop-at : goal.invariant-loop-at
invariant-loop-at g l = record {
  inside : l.at ≤ l.readable;
  stays : StaysSource g.S.Source l.fn.source l.source;
  count : g.S.Source.tells l.fn.source → l.readable ≡ length (g.S.Source.content l.fn.source (entry_at (g.S.Source.listed l.fn.source) l.entry));
  any : IsTrue g.D.Folder.tells → IsLongerSo (g.D.Folder.items l.fn.folder) (g.D.Folder.items l.folder);
  longer : g.S.Source.tells l.fn.source → IsTrue g.D.Folder.tells
      → IsLonger (take l.at (g.S.Source.content l.fn.source (entry_at (g.S.Source.listed l.fn.source) l.entry))) (g.D.Folder.items l.fn.folder) (g.D.Folder.items l.folder);
}

abbrev pub decreases-loop-at : goal.decreases-loop-at
decreases-loop-at g l = l.readable - l.at
