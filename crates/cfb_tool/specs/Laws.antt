-- What is told to be done is stored.
use Rattle.std.specs.Prelude.{ℕ, ◌≡◌, List, [], ◌∷◌, ◌++◌, Option, None, false, true}
use Rattle.cfb_format.specs.Created.{empty_tree}
use Rattle.cfb_format.specs.Tree.{Tree}
use Rattle.cfb_rules.specs.Lists.{Command, CommandReply, Deed, FileView, IsLegalRun, creates, on_stream}
use Rattle.cfb_rules.specs.Refusal.{Refusal}
use Rattle.cfb_rules.specs.Runs.{Setting}
use Rattle.cfb_rules.specs.StreamCalls.{write}
use Rattle.cfb_lines.specs.Commands.{IsScript}
use Rattle.cfb_lines.specs.Dumps.{IsDumpOf}
use Rattle.cfb_whole_streams.specs.Content.{HasStream}
use Rattle.cfb_whole_streams.specs.Laws.{Keeps}
use Rattle.cfb_tool.specs.Playing.{PlaysAll, PlaysOne, addition, is_all_done}

module _ {S : Type 0} (seen : S → FileView) (promised : S → Deed → S → Type 0) where
  -- where a `put` is done to its end, and no refusal is told
  abbrev pub PutIsStored : Type 0
  PutIsStored = (setting : Setting) (old new : S) (path bytes : List ℕ) (commands : List Command) (replies : List CommandReply)
      → PlaysOne (on_stream creates path (write bytes ∷ [])) commands replies None → IsLegalRun seen promised setting old commands replies new
      → Keeps seen promised setting new path bytes

  -- where an `add` is
  abbrev pub AddedIsStored : Type 0
  AddedIsStored = (setting : Setting) (old new : S) (path before bytes : List ℕ) (commands : List Command) (replies : List CommandReply)
      → HasStream setting.cases (seen old).state.tree path before
      → PlaysOne (addition path bytes) commands replies None → IsLegalRun seen promised setting old commands replies new
      → Keeps seen promised setting new path (before ++ bytes)

  -- where the commands of a dump of a tree are done to their end in an empty file, and none is refused, the file has not failed and has that tree
  abbrev pub DumpIsRebuilt : Type 0
  DumpIsRebuilt = (setting : Setting) (old new : S) (tree : Tree) (text : List ℕ) (asked : List Command) (told : List (Option Refusal)) (commands : List Command) (replies : List CommandReply)
      → IsDumpOf setting.cases tree text → IsScript text asked → (seen old).state.tree ≡ empty_tree → (seen old).state.failed ≡ false
      → PlaysAll asked told commands replies → is_all_done told ≡ true → IsLegalRun seen promised setting old commands replies new
      → ((seen new).state.failed ≡ false) × ((seen new).state.tree ≡ tree)
