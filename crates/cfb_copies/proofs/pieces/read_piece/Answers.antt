use Rattle.std.proofs.Common.{◌≡◌, ◌+◌, ◌-◌, ◌<◌, ◌≤◌, ℕ, List, refl, sym, ◌∙◌, ap, subst, length, drop, arith, length-take, length-drop}
use Rattle.std.proofs.lemmas.List.{take_all}
use Rattle.std.proofs.lemmas.Result.{err_from_is_err_and}
use Rattle.cfb_format.specs.DirectoryEntry.{Entry}
use Rattle.cfb_format.specs.Medium.{part}
use Rattle.cfb_format.proofs.ByteLemmas.{served_more}
use Rattle.cfb_volume.specs.Answers.{content_at}
use Rattle.cfb_copies.proofs.Faults.{read_breaks}
use Rattle.cfb_copies.proofs.Reading.{read_content, read_holds, read_none, read_then}
use Rattle.cfb_copies.proofs.pieces.read_piece.Goals as goal

pub loop-done-init : goal.loop-done-init
loop-done-init g c = record {
  within = omega arith;
  reads = read_none g.F.ReadMedium.tells c.args.source.now;
  calm = λ told. refl;
  served = λ told holds. refl;
}

pub read-requires : goal.read-requires
read-requires g c = record { inside = subst (λ (n : ℕ). c.args.from < n) (sym (ap (λ (es : List Entry). length es) c.loop-done.invariant.reads.entries)) c.requires.from }

pub returns-in_err-count-clause-err : goal.returns-in_err-count-clause-err
returns-in_err-count-clause-err g c told holds enough =
    let p = err_from_is_err_and c.from_residual.result c.from_residual.ensures.1 in
    let start = c.args.source.now in
    let mid = c.loop-done.source in
    let i = c.loop-done.invariant in
    let same : length (content_at mid c.args.from) ≡ length (content_at start c.args.from) = ap (λ (xs : List ℕ). length xs) (read_content g.F.ReadMedium.tells start mid i.reads told c.args.from) in
    let more = c.loop-done-test.true in
    rw (p.1, p.2) (read_breaks _ (λ past. absurd (omega (arith, past.0, same, enough, c.loop-done.auto.into, more))) c.in_err-count.field-0.0
    (c.in_err-count.ensures.error.err told (read_holds g.F.ReadMedium.tells start mid i.reads told holds)))

pub loop-done-preserved : goal.loop-done-preserved
loop-done-preserved g c =
    let tells = g.F.ReadMedium.tells in
    let start = c.args.source.now in
    let mid = c.loop-done.source in
    let new = c.read.new.self in
    let i = c.loop-done.invariant in
    let r = c.in_ok-count.ensures in
    let n = c.in_ok-count.count in
    let done = c.loop-done.done in
    let at = c.args.at in
    let into = c.loop-done.into in
    let most = r.read.count in
    let same-len = c.loop-done.auto.into in
    let part-len = length-take (length into - done) (drop done into) in
    let rest-len = length-drop done into in
    let within : done ≤ length into = omega (arith, i.within, same-len) in
    record {
      within = omega (arith, most, same-len, part-len, rest-len, within);
      reads = read_then tells start mid new i.reads (record { setting = r.stays.setting; flag = r.stays.flag; entries = r.stays.entries; same = r.stays.same });
      calm = λ told. r.error.counts told ∙ i.calm told;
      served = λ told holds.
          let same = read_content tells start mid i.reads told c.args.from in
          served_more (content_at start c.args.from) into c.read.new.into at done n within (omega (arith, most, c.read.auto.into)) (i.served told holds)
          (r.read.ok told (read_holds tells start mid i.reads told holds) ∙ ap (λ (xs : List ℕ). part xs (at + done) n) same);
    }

pub returns-clause-ok : goal.returns-clause-ok
returns-clause-ok g c told holds =
    let into = c.loop-done.into in
    let done = c.loop-done.done in
    let content = content_at c.args.source.now c.args.from in
    let same-len = c.loop-done.auto.into in
    let i = c.loop-done.invariant in
    let over = c.loop-done-test.false in
    sym (take_all done into (omega (arith, over))) ∙ i.served told holds
    ∙ ap (λ (n : ℕ). part content c.args.at n) (omega (arith, i.within, over, same-len))
