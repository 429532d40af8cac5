use mathlib.Core.List.{[], ◌∷◌}
use mir.Syntax.{named}
use Rattle.cfb_stream_window.specs.contracts.window.Window as window
use Rattle.cfb_compound_file.specs.contracts.stream.Stream as stream
use Rattle.cfb_compound_file.proofs.Lending.{meets_by_more}
use Rattle.cfb_compound_file.proofs.std_stream.StreamBufRead.TheImpl.Goals as goal

-- it says more of the stream than std's `fill_buf`
pub fill_buf-meets : goal.fill_buf-meets
fill_buf-meets g c =
    meets_by_more g.world.𝓛 (stream.the_row (record { mir = named 1; lft = [] }) g.row.F g.row.A (window.the_row g.row.A g.A.Allocator) g.F.Medium g.F.ReadMedium _ g.A.Allocator)
    c.args.self _ _ _ _ _ _ (λ r e. _ ∷ _ ∷ _ ∷ _ ∷ []) (λ r x k. k.0)
