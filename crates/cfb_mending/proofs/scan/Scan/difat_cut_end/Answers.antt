use Rattle.std.proofs.Common.{◌≡◌, ◌+◌, ◌-◌, ◌*◌, ℕ, List, true, false, refl, sym, ◌∙◌, ap, arith}
use Rattle.std.proofs.lemmas.Bool.{le-leb, lt-leb}
use Rattle.cfb_format.specs.Bytes.{sector_start, word_at}
use Rattle.cfb_format.proofs.Words.{four-words}
use Rattle.cfb_mending.specs.Missing.{cut_end, difat_from, has_word}
use Rattle.cfb_mending.proofs.ChainWalk.{file-has}
use Rattle.cfb_mending.proofs.CutEnds.{difat-cut, difat-mark, difat-missing, difat-uncut, difat-unspent}
use Rattle.cfb_mending.proofs.scan.Scan.difat_cut_end.Goals as goal

pub loop-turn-init : goal.loop-turn-init
loop-turn-init g c = record {
  bound = omega arith;
  same = λ told. refl;
  stays = refl;
  exact = λ told bytes same len.
      ap (λ (n : ℕ). cut_end c.args.bounds.version c.args.bounds.len (difat_from c.args.bounds.version bytes n 68)) (let e : c.args.bounds.sectors - 0 ≡ c.args.bounds.sectors = omega arith in e);
}

pub loop-turn-preserved : goal.loop-turn-preserved
loop-turn-preserved g c =
    let loop = c.loop-turn.invariant in
    let version = c.args.bounds.version in
    let m = c.args.bounds.sectors in
    let at = c.loop-turn.link in
    let next = c.in_ok-next.next in
    record {
      bound = omega (arith, c.place_in-link.ensures.bound);
      same = λ told. c.in_ok-next.ensures.same told ∙ loop.same told;
      stays = loop.stays;
      exact = λ told bytes same len.
          let has : has_word bytes at ≡ true = file-has at c.args.bounds.len bytes _ true c.has_word.ensures c.if-not-has_word.false len in
          let named : word_at bytes at ≡ c.in_ok-next.next = sym (c.in_ok-next.ensures.ok told ∙ ap (λ (b : List ℕ). word_at b at) (loop.same told ∙ same)) in
          difat-uncut version bytes c.args.bounds.len m c.loop-turn._turn at next _ _ c.loop-turn-test.true has named (le-leb next 4294967290 (omega (arith, c.if-next-gt-MAX_REGULAR_SECTOR.false))) (sym c.is_cut.ensures ∙ c.if-is_cut.false)
          (c.place_in-link.ensures.is ∙ ap (λ (n : ℕ). sector_start version next + 4 * (n - 1)) c.words_in-in-loop-turn.ensures.is) (loop.exact told bytes same len);
    }

pub returns-then-not-has_word-clause-is : goal.returns-then-not-has_word-clause-is
returns-then-not-has_word-clause-is g c told bytes same len =
    let loop = c.loop-turn.invariant in
    let version = c.args.bounds.version in
    let m = c.args.bounds.sectors in
    let at = c.loop-turn.link in
    difat-missing version bytes c.args.bounds.len (m - c.loop-turn._turn) at _ (file-has at c.args.bounds.len bytes _ false c.has_word.ensures c.if-not-has_word.true len) (loop.exact told bytes same len)

pub returns-then-next-gt-MAX_REGULAR_SECTOR-clause-is : goal.returns-then-next-gt-MAX_REGULAR_SECTOR-clause-is
returns-then-next-gt-MAX_REGULAR_SECTOR-clause-is g c told bytes same len =
    let loop = c.loop-turn.invariant in
    let version = c.args.bounds.version in
    let m = c.args.bounds.sectors in
    let at = c.loop-turn.link in
    let has : has_word bytes at ≡ true = file-has at c.args.bounds.len bytes _ true c.has_word.ensures c.if-not-has_word.false len in
    let named : word_at bytes at ≡ c.in_ok-next.next = sym (c.in_ok-next.ensures.ok told ∙ ap (λ (b : List ℕ). word_at b at) (loop.same told ∙ same)) in
    difat-mark version bytes c.args.bounds.len (m - c.loop-turn._turn) at c.in_ok-next.next _ has named (lt-leb c.in_ok-next.next 4294967290 (omega (arith, c.if-next-gt-MAX_REGULAR_SECTOR.true))) (loop.exact told bytes same len)

pub returns-then-is_cut-clause-is : goal.returns-then-is_cut-clause-is
returns-then-is_cut-clause-is g c told bytes same len =
    let loop = c.loop-turn.invariant in
    let version = c.args.bounds.version in
    let m = c.args.bounds.sectors in
    let at = c.loop-turn.link in
    let has : has_word bytes at ≡ true = file-has at c.args.bounds.len bytes _ true c.has_word.ensures c.if-not-has_word.false len in
    let named : word_at bytes at ≡ c.in_ok-next.next = sym (c.in_ok-next.ensures.ok told ∙ ap (λ (b : List ℕ). word_at b at) (loop.same told ∙ same)) in
    difat-cut version bytes c.args.bounds.len m c.loop-turn._turn at c.in_ok-next.next _ _ c.loop-turn-test.true has named (le-leb c.in_ok-next.next 4294967290 (omega (arith, c.if-next-gt-MAX_REGULAR_SECTOR.false))) (sym c.is_cut.ensures ∙ c.if-is_cut.true)
    (omega (arith, c.place_in.ensures.is, c.words_in.ensures.is, four-words version)) (loop.exact told bytes same len)

pub returns-clause-is : goal.returns-clause-is
returns-clause-is g c told bytes same len =
    let loop = c.loop-turn.invariant in
    let version = c.args.bounds.version in
    let m = c.args.bounds.sectors in
    let at = c.loop-turn.link in
    difat-unspent version bytes c.args.bounds.len (m - c.loop-turn._turn) at _ (omega (arith, c.loop-turn-test.false)) (loop.exact told bytes same len)
