use Rattle.std.proofs.Common.{◌≡◌, ◌++◌, [], drop}
use Rattle.std.specs.Prelude.{IsTrue}
use Rattle.cfb_extract.specs.Cuts.{told_cuts}
use Rattle.cfb_extract.specs.Items.{IsKept, texts}
use Rattle.cfb_extract.specs.Sources.{StaysSource}
use Rattle.cfb_extract.specs.Steps.{cuts_along, items_along}
use Rattle.cfb_extract.proofs.objects.put_all.Given as goal

abbrev pub invariant-loop-object : goal.invariant-loop-object
invariant-loop-object g l = record {
  stays : StaysSource g.S.Source l.fn.source l.source;
  kept : IsTrue g.D.Folder.tells → IsKept (g.D.Folder.items l.fn.folder) (g.D.Folder.items l.folder);
  made : g.S.Source.tells l.fn.source → IsTrue g.D.Folder.tells
      → g.D.Folder.items l.folder ++ items_along (g.S.Source.listed l.fn.source) (g.S.Source.content l.fn.source) (texts l.names.items) (drop l.object-index l.list)
      ≡ g.D.Folder.items l.fn.folder ++ items_along (g.S.Source.listed l.fn.source) (g.S.Source.content l.fn.source) [] l.list;
  cut : g.S.Source.tells l.fn.source
      → told_cuts l.cuts.items ++ cuts_along (g.S.Source.listed l.fn.source) (g.S.Source.content l.fn.source) (texts l.names.items) (drop l.object-index l.list)
      ≡ told_cuts l.fn.cuts.items ++ cuts_along (g.S.Source.listed l.fn.source) (g.S.Source.content l.fn.source) [] l.list;
}
