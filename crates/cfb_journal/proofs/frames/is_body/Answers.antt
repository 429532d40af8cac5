use Rattle.std.proofs.Common.{◌∙◌, ◌≤◌, ap, length, drop, arith}
use Rattle.std.proofs.lemmas.List.{take_rest}
use Rattle.cfb_format.specs.Bytes.{long_at}
use Rattle.cfb_journal.specs.Journal.{are_whole}
use Rattle.cfb_journal.proofs.FrameLists.{body_is_whole}
use Rattle.cfb_journal.proofs.frames.is_body.Goals as goal

pub returns-then-body-ge-FRAMES : goal.returns-then-body-ge-FRAMES
returns-then-body-ge-FRAMES c =
    let body = c.args.body.now in
    let long : 24 ≤ length body = omega (arith, c.if-body-ge-FRAMES.true) in
    c.are_frames.ensures
    ∙ ap (are_whole c.u64_at.result c.u64_at-then-body-ge-FRAMES.result) (take_rest body 24)
    ∙ ap (λ n. are_whole n c.u64_at-then-body-ge-FRAMES.result (drop 24 body)) c.u64_at.ensures
    ∙ ap (λ k. are_whole (long_at body 0) k (drop 24 body)) c.u64_at-then-body-ge-FRAMES.ensures
    ∙ body_is_whole body long
