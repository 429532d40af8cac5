use Rattle.std.proofs.Common.{◌≡◌, ◌<◌, ◌-◌, ℕ, suc, refl, sym, ◌∙◌, ap, arith}
use Rattle.std.specs.Prelude.{◌==◌}
use Rattle.cfb_format.specs.Bytes.{free_sector, sector_start, words_per_sector}
use Rattle.cfb_mending.specs.Missing.{used_in}
use Rattle.cfb_mending.proofs.HeldWords.{word-there}
use Rattle.cfb_mending.proofs.UsedWords.{used-free, used-here, used-none}
use Rattle.cfb_mending.proofs.scan.used_in.Goals as goal

pub loop-used-init : goal.loop-used-init
loop-used-init c = record { most = omega arith; exact = λ version bytes s most h. refl }

pub loop-used-preserved : goal.loop-used-preserved
loop-used-preserved c =
    let loop = c.loop-used.invariant in
    let k : ℕ = c.loop-used.used - 1 in
    record {
      most = omega (arith, loop.most);
      exact = λ version bytes s most h.
          let start = sector_start version s in
          let below : k < words_per_sector version = omega (arith, c.loop-used-test.true, loop.most, most) in
          sym (used-free bytes start k (sym (word-there (λ w. w == free_sector) version bytes s _ _ k h below) ∙ sym c.is_free.ensures ∙ c.if-not-is_free.false))
          ∙ ap (λ (n : ℕ). used_in bytes start n) (let e : suc k ≡ c.loop-used.used = omega (arith, c.loop-used-test.true) in e) ∙ loop.exact version bytes s most h;
    }

pub returns-then-not-is_free : goal.returns-then-not-is_free
returns-then-not-is_free c version bytes s most h =
    let loop = c.loop-used.invariant in
    let k : ℕ = c.loop-used.used - 1 in
    let start = sector_start version s in
    let below : k < words_per_sector version = omega (arith, c.loop-used-test.true, loop.most, most) in
    let one : suc k ≡ c.loop-used.used = omega (arith, c.loop-used-test.true) in
    sym one ∙ sym (used-here bytes start k (sym (word-there (λ w. w == free_sector) version bytes s _ _ k h below) ∙ sym c.is_free.ensures ∙ c.if-not-is_free.true))
    ∙ ap (λ (n : ℕ). used_in bytes start n) one ∙ loop.exact version bytes s most h

pub returns : goal.returns
returns c version bytes s most h = sym (used-none bytes (sector_start version s) c.loop-used.used (omega (arith, c.loop-used-test.false))) ∙ c.loop-used.invariant.exact version bytes s most h
