use Rattle.std.proofs.Common.{refl, sym, ◌∙◌, ap, arith, get_or, drop, eq-eqb}
use Rattle.std.proofs.lemmas.Bool.{ne_eqb}
use Rattle.std.specs.List.{list_all}
use Rattle.cfb_format.specs.Bytes.{words, free_sector, is_regular}
use Rattle.cfb_format.specs.Header.{padded_difat}
use Rattle.cfb_format.proofs.Words.{words-length}
use Rattle.cfb_format.proofs.HeaderDifat.{passed-none, passed-more, passed-free, passed-all, passed-bad, word-there, filled-more, padded-filled}
use Rattle.cfb_format.proofs.header.difat_entries.Goals as goal

pub loop-i-init : goal.loop-i-init
loop-i-init c = record { passed = passed-none (words 109 (drop 76 c.args.bytes.now)); filled = refl }

pub returns-then-word-clause-some : goal.returns-then-word-clause-some
returns-then-word-clause-some c =
    let ws = words 109 (drop 76 c.args.bytes.now) in
    let n = words-length 109 (drop 76 c.args.bytes.now) in
    let w = word-there c.args.bytes.now c.loop-i.i c.loop-i-test.true ∙ sym c.u32_at-word.ensures ∙ c.if-word.true in
    let same = passed-free ws c.loop-i.i c.loop-i.invariant.passed (omega arith) (eq-eqb (get_or ws c.loop-i.i 0) free_sector w) in (
      c.loop-i.invariant.filled ∙ padded-filled ws c.loop-i.i (omega arith) n ∙ ap padded_difat (sym same),
      ap (list_all is_regular) same ∙ c.loop-i.invariant.passed.numbers,
    )

pub returns-then-not-is_regular_word-clause-none : goal.returns-then-not-is_regular_word-clause-none
returns-then-not-is_regular_word-clause-none c = λ all.
    let ws = words 109 (drop 76 c.args.bytes.now) in
    let n = words-length 109 (drop 76 c.args.bytes.now) in
    let w = word-there c.args.bytes.now c.loop-i.i c.loop-i-test.true ∙ sym c.u32_at-word.ensures in
    passed-bad ws c.loop-i.i c.loop-i.invariant.passed (omega arith) (ne_eqb (get_or ws c.loop-i.i 0) free_sector (λ e. c.if-word.false (sym w ∙ e)))
    (ap is_regular w ∙ sym c.is_regular_word.ensures ∙ c.if-not-is_regular_word.true) all

pub loop-i-preserved : goal.loop-i-preserved
loop-i-preserved c =
    let ws = words 109 (drop 76 c.args.bytes.now) in
    let n = words-length 109 (drop 76 c.args.bytes.now) in
    let w = word-there c.args.bytes.now c.loop-i.i c.loop-i-test.true ∙ sym c.u32_at-word.ensures in
    record {
      passed = passed-more ws c.loop-i.i c.loop-i.invariant.passed (omega arith) (ne_eqb (get_or ws c.loop-i.i 0) free_sector (λ e. c.if-word.false (sym w ∙ e)))
          (ap is_regular w ∙ sym c.is_regular_word.ensures ∙ c.if-not-is_regular_word.false);
      filled = rw c.loop-i.invariant.filled (filled-more ws c.loop-i.i c.u32_at-word.result c.loop-i-test.true n (sym w));
    }

pub returns-clause-some : goal.returns-clause-some
returns-clause-some c =
    let ws = words 109 (drop 76 c.args.bytes.now) in
    let n = words-length 109 (drop 76 c.args.bytes.now) in
    let same = passed-all ws c.loop-i.i c.loop-i.invariant.passed (omega arith) in (
      c.loop-i.invariant.filled ∙ padded-filled ws c.loop-i.i (omega arith) n ∙ ap padded_difat (sym same),
      ap (list_all is_regular) same ∙ c.loop-i.invariant.passed.numbers,
    )
