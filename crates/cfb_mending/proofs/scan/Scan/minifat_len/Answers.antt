use Rattle.std.proofs.Common.{◌-◌, ℕ, length, refl, ◌∙◌, arith}
use Rattle.cfb_mending.specs.Missing.{used_words}
use Rattle.cfb_mending.proofs.AllPatches.{capped}
use Rattle.cfb_mending.proofs.UsedWords.{words-none, words-pass, words-stop}
use Rattle.cfb_mending.proofs.scan.Scan.minifat_len.Goals as goal

pub loop-count-init : goal.loop-count-init
loop-count-init g c = record {
  most = omega arith;
  same = λ told. refl;
  stays = refl;
  exact = λ told bytes same len. refl;
}

pub used_in-used-requires : goal.used_in-used-requires
used_in-used-requires g c = omega (arith, c.words_in-words.ensures.bound)

pub loop-count-preserved : goal.loop-count-preserved
loop-count-preserved g c =
    let loop = c.loop-count.invariant in
    let version = c.args.tables.now.bounds.version in
    let minifat = c.args.minifat.now in
    let k : ℕ = c.loop-count.count - 1 in
    record {
      most = omega (arith, loop.most);
      same = λ told. c.in_ok-loaded.ensures.same told ∙ loop.same told;
      stays = loop.stays;
      exact = λ told bytes same len.
          words-pass version bytes minifat k _ c.used_in-used.result c.words_in-words.result c.loop-count.count _ (omega (arith, loop.most, c.loop-count-test.true)) (omega (arith, c.loop-count-test.true))
          (c.used_in-used.ensures version bytes _ (omega (arith, c.words_in-words.ensures.is)) (c.in_ok-loaded.ensures.holds told bytes (loop.same told ∙ same) len))
          c.words_in-words.ensures.is (omega (arith, c.if-used-gt0.false)) (loop.exact told bytes same len);
    }

pub returns-then-used-gt0-clause-is : goal.returns-then-used-gt0-clause-is
returns-then-used-gt0-clause-is g c told bytes same len =
    let loop = c.loop-count.invariant in
    let version = c.args.tables.now.bounds.version in
    let minifat = c.args.minifat.now in
    let k : ℕ = c.loop-count.count - 1 in
    let all = used_words version bytes minifat (length minifat) in
    capped all c.args.most c.saturating_add.result c.min.result
    (words-stop version bytes minifat k _ c.used_in-used.result c.words_in-words.result c.loop-count.count _ _ _ (omega (arith, loop.most, c.loop-count-test.true)) (omega (arith, c.loop-count-test.true))
    (c.used_in-used.ensures version bytes _ (omega (arith, c.words_in-words.ensures.is)) (c.in_ok-loaded.ensures.holds told bytes (loop.same told ∙ same) len))
    c.words_in-words.ensures.is (omega (arith, c.if-used-gt0.true)) c.saturating_mul-before.ensures c.saturating_add.ensures (loop.exact told bytes same len)) (omega (arith, c.ranges.most)) c.min.ensures

pub returns-clause-is : goal.returns-clause-is
returns-clause-is g c told bytes same len =
    let loop = c.loop-count.invariant in
    omega (arith, words-none c.args.tables.now.bounds.version bytes c.args.minifat.now c.loop-count.count (omega (arith, c.loop-count-test.false)), loop.exact told bytes same len)
