use Rattle.std.proofs.Common.{◌≡◌, ◌∙◌, ℕ, List, [], ap, false}
use Rattle.cfb_stream_window.specs.Buffers.{Buffered}
use Rattle.cfb_stream_window.specs.Contents.{IsFitting}
use Rattle.cfb_stream_window.specs.Windows.{window_over}
use Rattle.cfb_stream_window.proofs.Carrying.{opened_state, opened_suits}
use Rattle.cfb_stream_window.proofs.window.Window.over.Goals as goal

-- a buffer that holds nothing as a window over the start of a stream of this length
begins_over : (size long : ℕ) (b : Buffered) → b.filled ≡ [] → b.cursor ≡ 0 → long ≡ size
    → record { filled = b.filled; cursor = b.cursor; room = b.room; bound = b.bound; base = 0; size = long; ahead = 0; pending = false } ≡ window_over size b
begins_over size long b filled cursor is =
    ap (λ (xs : List ℕ). record (window_over long b) { filled = xs; cursor = b.cursor }) filled
    ∙ ap (λ (n : ℕ). record (window_over long b) { cursor = n }) cursor
    ∙ ap (λ (n : ℕ). window_over n b) is

pub returns-clause-value : goal.returns-clause-value
returns-clause-value g c = begins_over (g.C.ReadContents.stored c.args.content.now c.args.id).size c.len.result c.args.buffer c.requires.unfilled c.requires.start c.len.ensures

pub returns-clause-begins : goal.returns-clause-begins
returns-clause-begins g c = opened_state (g.C.ReadContents.stored c.args.content.now c.args.id) c.args.buffer _
    (begins_over (g.C.ReadContents.stored c.args.content.now c.args.id).size c.len.result c.args.buffer c.requires.unfilled c.requires.start c.len.ensures)

pub returns-clause-is_open : goal.returns-clause-is_open
returns-clause-is_open g c = λ (told : g.C.ReadContents.tells c.args.content.now) (fits : IsFitting (g.C.ReadContents.stored c.args.content.now c.args.id)).
    record {
      told = told;
      suits = opened_suits (g.C.ReadContents.stored c.args.content.now c.args.id) c.args.buffer _ fits
          (begins_over (g.C.ReadContents.stored c.args.content.now c.args.id).size c.len.result c.args.buffer c.requires.unfilled c.requires.start c.len.ensures);
    }
