use Rattle.std.proofs.Common.{inl, inr, ◌≡◌, ◌+◌, ◌*◌, ◌/◌, ◌%◌, sym, subst, arith}
use Rattle.std.specs.Prelude.{slice_index}
use Rattle.std.proofs.lemmas.Bool.{cases_lt}
use Rattle.cfb_mini.specs.MiniSectors.{HasMiniByte}
use Rattle.cfb_content.proofs.in_minis.there_in_minis.Goals as goal

pub returns-then-has : goal.returns-then-has
returns-then-has g c =
    let s = c.args.mini.now in
    let ids = c.args.ids.now in
    let i = c.loop-number.number-index in
    let inside = c.loop-number-test.true in
    let there = c.loop-number.invariant.there in
    let sum = c.saturating_add-there.ensures in
    let least = c.min.ensures in
    let few = c.if-has.true in
    let fits = c.ranges.len.fits in
    let has = c.there_in_mini-has.result in
    record {
      few = omega (arith, least);
      there = λ k low. elim (cases_lt k (i * 64)) [
        | inl before ↦ record { listed = omega (arith, before, inside); reached = c.loop-number.invariant.full (k / 64) (omega (arith, before)) (k % 64) (omega arith) }
        | inr from ↦
            let here : k / 64 ≡ i = omega (arith, from, low, least, sum, there, few) in
            record {
              listed = omega (arith, here, inside);
              reached = subst (λ n. HasMiniByte s (slice_index ids n) (k % 64)) (sym here) (c.there_in_mini-has.ensures.there (k % 64) (omega (arith, from, low, least, sum, there, few)));
            }
      ];
      cut = λ less is.
          let at : c.min.result ≡ i * 64 + has = omega (arith, less, least, sum, there, fits) in
          let here : c.min.result / 64 ≡ i = omega (arith, at, few) in
          let rest : c.min.result % 64 ≡ has = omega (arith, at, few) in
          c.there_in_mini-has.ensures.cut few (subst (λ n. HasMiniByte s (slice_index ids i) n) rest (subst (λ n. HasMiniByte s (slice_index ids n) (c.min.result % 64)) here is.reached));
    }

pub loop-number-preserved : goal.loop-number-preserved
loop-number-preserved g c =
    let s = c.args.mini.now in
    let ids = c.args.ids.now in
    let there = c.loop-number.invariant.there in
    let sum = c.saturating_add-there.ensures in
    let full = c.if-has.false in
    let few = c.there_in_mini-has.ensures.few in
    record {
      there = omega (arith, there, sum, full, few);
      full = λ j low k short. elim (cases_lt j c.loop-number.number-index) [
        | inl before ↦ c.loop-number.invariant.full j before k short
        | inr from ↦
            let here : j ≡ c.loop-number.number-index = omega (arith, from, low) in
            subst (λ n. HasMiniByte s (slice_index ids n) k) (sym here) (c.there_in_mini-has.ensures.there k (omega (arith, short, full)))
      ];
    }

pub returns : goal.returns
returns g c =
    let there = c.loop-number.invariant.there in
    let past = c.loop-number-test.false in
    let end = c.loop-number.auto.number-index-end in
    let least = c.min-2.ensures in
    let fits = c.ranges.len.fits in
    record {
      few = omega (arith, least);
      there = λ k low.
          record { listed = omega (arith, low, least, there, end); reached = c.loop-number.invariant.full (k / 64) (omega (arith, low, least, there)) (k % 64) (omega arith) };
      cut = λ less is. let listed = is.listed in omega (arith, less, least, there, past, listed, fits);
    }
