use Rattle.std.proofs.Common.{◌≡◌, ◌∙◌, ◌≤◌, ◌++◌, ap, subst, length, length-take, length-drop, drop, take, List, ℕ, refl, arith}
use Rattle.std.proofs.lemmas.List.{take-append-le}
use Rattle.cfb_journal.specs.Journal.{frames_of}
use Rattle.cfb_journal.specs.Seen.{frames_behind, ShowsFrames}
use Rattle.cfb_journal.proofs.Contents.{front_piece}
use Rattle.cfb_journal.proofs.LaidFrames.{looked_reads}
use Rattle.cfb_journal.proofs.looking.RecoveredReadMedium.read_at.Goals as goal

pub returns-clause-honest : goal.returns-clause-honest
returns-clause-honest g c tells =
    let me = c.args.self.now in
    let into = c.args.into.now in
    let room = c.room-count.result in
    let n = c.in_ok-read.read in
    let got = c.read_at.new.into in
    let laid = c.lay_frames.new.into in
    let front = take n (got ++ drop room into) in
    let fits : room ≤ length into = c.room-count.ensures.no_more in
    let whole : length got ≡ room = omega (arith, c.read_at.auto.into, length-take room into, fits) in
    let few : n ≤ room = omega (arith, c.in_ok-read.ensures.bound, whole) in
    let piece : length front ≡ n = omega (arith, length-take n (got ++ drop room into), whole, few) in
    let size : length laid ≡ n = omega (arith, c.lay_frames.ensures.same_length, piece) in
    let behind = c.frames_behind.ensures ∙ ap frames_behind c.deref.ensures.value in
    looked_reads g.F.ReadMedium.read_faults me.journal.items me.count me.len (g.F.ReadMedium.bytes me.file) (me.within tells) me.whole
    _ _ c.args.at room n into got front laid _
    (c.in_ok-read.ensures.honest tells) whole few fits c.room-count.ensures.inside c.room-count.ensures.some
    (take-append-le n got (drop room into) (omega (arith, whole, few)))
    (subst (λ (b : List ℕ). ShowsFrames (frames_of me.count b) c.args.at front laid) behind c.lay_frames.ensures)
    (front_piece n laid (drop n (got ++ drop room into)) laid size refl)
    (omega (arith, size, whole, few, fits, length-drop n (got ++ drop room into), length-drop room into))
