use Rattle.std.proofs.lemmas.Grind.{common_steps}
use Rattle.std.proofs.Common.{◌≡◌, ◌+◌, ◌<◌, ◌≤◌, ◌++◌, ◌⊎◌, inl, inr, ℕ, List, refl, sym, ◌∙◌, ap, subst, length, take, drop, arith, length-append, length-take, length-drop, rules}
use Rattle.std.proofs.lemmas.List.{take_all, take-append-le}
use Rattle.std.proofs.lemmas.Result.{err_from_is_err_and}
use Rattle.cfb_format.specs.Content.{mini_stream_cutoff}
use Rattle.cfb_format.specs.DirectoryEntry.{Entry}
use Rattle.cfb_format.specs.Medium.{part, written}
use Rattle.cfb_format.specs.Siblings.{entry_at}
use Rattle.cfb_copies.specs.cfb_content.Contents.{len_of}
use Rattle.cfb_volume.specs.Answers.{content_at}
use Rattle.cfb_copies.proofs.Appended.{next_joins, nothing_yet}
use Rattle.cfb_copies.proofs.Faults.{break_at_all, counted_gives, no_full_break, target_failed}
use Rattle.cfb_copies.proofs.Filling.{fills_none, fills_then, fills_written}
use Rattle.cfb_copies.proofs.Settled.{leaves_none, settles}
use Rattle.cfb_copies.proofs.Slots.{moved_tight}
use Rattle.cfb_copies.proofs.Reading.{read_content, read_holds, read_none, read_then}
use Rattle.cfb_copies.proofs.pieces.copy_bytes.Goals as goal

pub loop-at-init : goal.loop-at-init
loop-at-init g c = record {
  within = omega arith;
  settled = inl refl;
  reads = read_none g.F.ReadMedium.tells c.args.source.now;
  calm = λ told. refl;
  fills = fills_none g.W.ReadMedium.tells c.args.to c.args.target.now c.requires.can_change.unfailed c.requires.empty_stream.stream;
  end = c.requires.empty_stream.empty;
  room = refl;
  content = λ told tells source target whole. nothing_yet c.args.target.now c.args.to c.requires.empty_stream.empty;
}

pub read_piece-requires-clause-from : goal.read_piece-requires-clause-from
read_piece-requires-clause-from g c = subst (λ (n : ℕ). c.args.from < n) (sym (ap (λ (es : List Entry). length es) c.loop-at.invariant.reads.entries)) c.requires.source.from

pub read_piece-requires-clause-inside : goal.read_piece-requires-clause-inside
read_piece-requires-clause-inside g c =
    let i = c.loop-at.invariant in
    let lens : len_of c.loop-at.source.base c.args.from ≡ len_of c.args.source.now.base c.args.from = ap (λ (es : List Entry). (entry_at es c.args.from).stream_len) i.reads.entries in
    omega (arith, lens, c.requires.source.within, i.within, c.min-count.ensures, length-take c.min-count.result c.loop-at.piece)

pub append-requires-clause-can_change : goal.append-requires-clause-can_change
append-requires-clause-can_change g c = record {
  sound = c.loop-at.invariant.fills.setting.is_sound ∙ c.requires.can_change.sound;
  unfailed = c.loop-at.invariant.fills.unfailed;
}

pub append-requires-clause-can_append : goal.append-requires-clause-can_append
append-requires-clause-can_append g c = record {
  stream = c.loop-at.invariant.fills.stream;
  fits = first_of (search rules, grind (arith, common_steps));
}

pub returns-in_err-read_piece-clause-error : goal.returns-in_err-read_piece-clause-error
returns-in_err-read_piece-clause-error g c =
    let p = err_from_is_err_and c.from_residual.result c.from_residual.ensures.1 in
    let start = c.args.source.now in
    let mid = c.loop-at.source in
    let i = c.loop-at.invariant in
    record {
      err = λ told tells holds target whole. (
          let same : length (content_at mid c.args.from) ≡ length (content_at start c.args.from) = ap (λ (xs : List ℕ). length xs) (read_content g.F.ReadMedium.tells start mid i.reads told c.args.from) in
          rw (p.1, p.2) (break_at_all _ c.in_err-read_piece.field-0.0 (c.in_err-read_piece.ensures.err told (read_holds g.F.ReadMedium.tells start mid i.reads told holds)
          (omega (arith, same, whole, i.within, c.min-count.ensures, length-take c.min-count.result c.loop-at.piece))))
          );
      enough = λ told tells holds target whole can. (
          let same : length (content_at mid c.args.from) ≡ length (content_at start c.args.from) = ap (λ (xs : List ℕ). length xs) (read_content g.F.ReadMedium.tells start mid i.reads told c.args.from) in
          rw (p.1, p.2) (no_full_break c.in_err-read_piece.field-0.0 (c.in_err-read_piece.ensures.err told (read_holds g.F.ReadMedium.tells start mid i.reads told holds)
          (omega (arith, same, whole, i.within, c.min-count.ensures, length-take c.min-count.result c.loop-at.piece))))
          );
    }

pub returns-in_err-append-clause-error : goal.returns-in_err-append-clause-error
returns-in_err-append-clause-error g c =
    let p = err_from_is_err_and c.from_residual-in_err-append.result c.from_residual-in_err-append.ensures.1 in
    record {
      err = λ told tells holds target whole. rw (p.1, p.2) (break_at_all _ c.in_err-append.field-0.0 (c.in_err-append.ensures.error.err tells (c.loop-at.invariant.fills.holds tells target)));
      enough = λ told tells holds target whole can. (
          let i = c.loop-at.invariant in
          let to = c.args.to in
          let old = c.loop-at.target in
          let n = c.min-count.result in
          let at = c.loop-at.at in
          let into = c.read_piece.new.into in
          let least = c.min-count.ensures in
          let more = c.loop-at-test.true in
          let upto : at + n ≤ c.args.len = omega (arith, least, i.within) in
          let long : length into ≡ n = omega (arith, c.read_piece.auto.into, length-take n c.loop-at.piece, least) in
          let put : take n (into ++ drop n c.loop-at.piece) ≡ take n into = take-append-le n into (drop n c.loop-at.piece) (omega (arith, long)) in
          let count : length (take n (into ++ drop n c.loop-at.piece)) ≡ n = ap (λ (xs : List ℕ). length xs) put ∙ omega (arith, long, length-take n into) in
          let some : 0 < n = omega (arith, least, more, c.requires.room, c.loop-at.auto.piece) in
          let size = len_of old.base to + length (take n (into ++ drop n c.loop-at.piece)) in
          let is : size ≡ at + n = λ j. i.end j + count j in
          let settled : (mini_stream_cutoff ≤ size) ⊎ (size ≡ c.args.len) =
          elim (settles c.args.len at n (length c.loop-at.piece) least (omega (arith, c.requires.room, c.loop-at.auto.piece)) i.within) [
            | inl none ↦ absurd (omega (arith, none, some))
            | inr (inl large) ↦ inl (omega (arith, large, is))
            | inr (inr all) ↦ inr (is ∙ all)
          ] in
          let end = i.end in
          rw (p.1, p.2) (λ full. can old size i.fills (omega (arith, end, is, some)) (omega (arith, is, upto)) settled
          (leaves_none old to c.args.len at (length (take n (into ++ drop n c.loop-at.piece))) i.end i.settled more)
          (c.in_err-append.ensures.error.full_only tells (i.fills.holds tells target) full))
          );
    }

pub returns-in_err-append-clause-reads : goal.returns-in_err-append-clause-reads
returns-in_err-append-clause-reads g c =
    let p = err_from_is_err_and c.from_residual-in_err-append.result c.from_residual-in_err-append.ensures.1 in
    let i = c.loop-at.invariant in
    let e = c.in_err-append.field-0.0 in
    record {
      reads = read_then g.F.ReadMedium.tells c.args.source.now c.loop-at.source c.read_piece.new.source i.reads c.in_ok-read_piece.ensures.reads;
      counts = λ told. rw (p.1, p.2) (target_failed _ _ _ _ _ (c.in_ok-read_piece.ensures.counts told ∙ i.calm told) e
          (λ tells. counted_gives _ _ _ e (c.in_err-append.ensures.ends.counts tells)));
    }

pub loop-at-preserved : goal.loop-at-preserved
loop-at-preserved g c =
    let start = c.args.source.now in
    let mid = c.loop-at.source in
    let to = c.args.to in
    let old = c.loop-at.target in
    let new = c.append.new.self in
    let i = c.loop-at.invariant in
    let r = c.in_ok-read_piece.ensures in
    let a = c.in_ok-append.ensures in
    let n = c.min-count.result in
    let at = c.loop-at.at in
    let into = c.read_piece.new.into in
    let least = c.min-count.ensures in
    let more = c.loop-at-test.true in
    let upto : at + n ≤ c.args.len = omega (arith, least, i.within) in
    -- what is put is what was read
    let long : length into ≡ n = omega (arith, c.read_piece.auto.into, length-take n c.loop-at.piece, least) in
    let put : take n (into ++ drop n c.loop-at.piece) ≡ take n into = take-append-le n into (drop n c.loop-at.piece) (omega (arith, long)) in
    let count : length (take n (into ++ drop n c.loop-at.piece)) ≡ n = ap (λ (xs : List ℕ). length xs) put ∙ omega (arith, long, length-take n into) in
    let read : length (take n c.loop-at.piece) ≡ n = omega (arith, length-take n c.loop-at.piece, least) in
    record {
      within = upto;
      settled = settles c.args.len at n (length c.loop-at.piece) least (omega (arith, c.requires.room, c.loop-at.auto.piece)) i.within;
      reads = read_then g.F.ReadMedium.tells start mid c.read_piece.new.source i.reads r.reads;
      calm = λ told. r.counts told ∙ i.calm told;
      fills = fills_then g.W.ReadMedium.tells to c.args.target.now old new i.fills
          (fills_written g.W.ReadMedium.tells to old new a.ends.setting a.ends.ended a.only.stream a.only.entries
          (λ told holds. moved_tight old.base new.base to a.only.entries a.ends.setting.limits.version
          (λ none. a.minis_full told holds (leaves_none old to c.args.len at (length (take n (into ++ drop n c.loop-at.piece))) i.end i.settled more) none)) (λ told holds. a.ends.agrees told holds) (λ told holds. a.only.changes told holds)
          (λ told holds none. a.takes.stays_full told holds (leaves_none old to c.args.len at (length (take n (into ++ drop n c.loop-at.piece))) i.end i.settled more) none) (λ told. a.ends.counts told));
      end = a.appended.len ∙ (λ j. i.end j + count j);
      room = omega (arith, length-append into (drop n c.loop-at.piece), length-drop n c.loop-at.piece, long, least, c.loop-at.auto.piece);
      content = λ told tells holds target whole.
          let same = read_content g.F.ReadMedium.tells start mid i.reads told c.args.from in
          next_joins (content_at start c.args.from) (content_at old to) (content_at new to) into at n (omega (arith, whole, i.within)) (i.content told tells holds target whole)
          (a.appended.content tells (i.fills.holds tells target) ∙ (λ j. written (content_at old to) (i.end j) (put j)))
          (take_all n into (omega (arith, long)) ∙ r.ok told (read_holds g.F.ReadMedium.tells start mid i.reads told holds) ∙ (λ j. part (same j) at (read j)));
    }

pub returns-clause-content : goal.returns-clause-content
returns-clause-content g c told tells holds target whole =
    let i = c.loop-at.invariant in
    let all : length (content_at c.args.source.now c.args.from) ≤ c.loop-at.at = omega (arith, whole, c.loop-at-test.false) in
    i.content told tells holds target whole ∙ take_all c.loop-at.at (content_at c.args.source.now c.args.from) all
