-- What was written whole is stored.
use Rattle.std.specs.Prelude.{ℕ, ◌≡◌, List, None, false}
use Rattle.cfb_rules.specs.Lists.{CommandReply, CommandRuns, Deed, FileView, creates, on_stream}
use Rattle.cfb_rules.specs.Runs.{Setting}
use Rattle.cfb_rules.specs.StreamCalls.{StreamCall}
use Rattle.cfb_whole_streams.specs.Content.{HasStream, WritesOn}
use Rattle.cfb_whole_streams.specs.Told.{refusal_in}

module _ {S : Type 0} (seen : S → FileView) (promised : S → Deed → S → Type 0) where
  -- the file has not failed, and a stream stands at this path with exactly these bytes
  abbrev pub Keeps : Setting → S → (path bytes : List ℕ) → Type 0
  Keeps setting file path bytes = ((seen file).state.failed ≡ false) × HasStream setting.cases (seen file).state.tree path bytes

  -- where by one command a stream is made or emptied and written, and no refusal is told
  abbrev pub WrittenIsStored : Type 0
  WrittenIsStored = (setting : Setting) (old new : S) (path bytes : List ℕ) (calls : List StreamCall) (reply : CommandReply)
      → WritesOn bytes calls reply → refusal_in reply ≡ None → CommandRuns seen promised setting old (on_stream creates path calls) reply new
      → Keeps setting new path bytes
