use Rattle.std.proofs.Common.{◌≡◌, ℕ, List, length, ◌∙◌, subst}
use Rattle.std.specs.Prelude.{Contains}
use Rattle.cfb_format.specs.Soundness.{streams}
use Rattle.cfb_flaws.specs.Flaws.{IsWholeIn, on_whole}
use Rattle.cfb_flaws.specs.Telling.{Told}
use Rattle.cfb_flaws.proofs.Filling.{knows-none}
use Rattle.cfb_flaws.proofs.Sharing.{member-at}
use Rattle.cfb_flaws.proofs.Streaming.{told-start, told-step, told-end}
use Rattle.cfb_flaws.proofs.reach.tell_cut_with.Goals as goal

pub loop-number-init : goal.loop-number-init
loop-number-init g c = record {
  seen = c.requires.seen;
  reach = c.requires.reach;
  known = λ cases bytes r reads knows. knows-none c.args.known.now c.args.table (length c.args.seen.now) c.args.seen.now c.args.reach.now c.requires.unseen;
  told = λ cases bytes r reads knows. told-start bytes r on_whole (IsWholeIn c.args.table bytes r) c.args.known.now.parts.now.streams.now c.args.found.now.items;
}

pub loop-number-preserved : goal.loop-number-preserved
loop-number-preserved g c =
    let t = c.args.table in
    let list = c.args.known.now.parts.now.streams.now in
    let l = c.loop-number in
    let lt = c.loop-number-test.true in
    record {
      seen = c.tell_cut_stream.auto.seen ∙ l.invariant.seen;
      reach = c.tell_cut_stream.auto.reach ∙ l.invariant.reach;
      known = λ cases bytes r reads knows. c.in_ok-tell_cut_stream.ensures.reach cases bytes r reads knows (l.invariant.known cases bytes r reads knows);
      told = λ cases bytes r reads knows.
          told-step bytes r on_whole (IsWholeIn t bytes r) list l.number-index c.args.found.now.items l.found.items c.tell_cut_stream.new.found.items lt
          (l.invariant.told cases bytes r reads knows)
          (c.in_ok-tell_cut_stream.ensures.told cases bytes r reads knows (member-at list (streams r) l.number-index lt knows.parts.streams)
          (l.invariant.known cases bytes r reads knows));
    }

pub returns-clause-told : goal.returns-clause-told
returns-clause-told g c = λ cases bytes r reads knows.
    let t = c.args.table in
    let list = c.args.known.now.parts.now.streams.now in
    let l = c.loop-number in
    subst (λ (z : List ℕ). Told on_whole ((i : ℕ) → Contains z i → IsWholeIn t bytes r i) bytes r c.args.found.now.items l.found.items) knows.parts.streams
    (told-end bytes r on_whole (IsWholeIn t bytes r) list l.number-index c.args.found.now.items l.found.items c.loop-number-test.false
    (l.invariant.told cases bytes r reads knows))
