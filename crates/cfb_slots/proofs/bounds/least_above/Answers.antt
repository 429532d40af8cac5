use Rattle.std.proofs.Common.{◌≡◌, inl, inr, ◌∙◌, sym, arith, get_or}
use Rattle.std.proofs.lemmas.List.{get_or_default}
use Rattle.std.proofs.lemmas.List.Elements.{Contains-append_cases, Contains-append_left, Contains-append_right, Contains-get_or}
use Rattle.cfb_slots.proofs.bounds.least_above.Goals as goal

pub returns : goal.returns
returns c sectors is_least n =
    let more = c.args.more.now in
    let least = c.loop-sector.least in
    let past = c.loop-sector-test.false in
    let inv = c.loop-sector.invariant in (
      (λ le i m. elim (Contains-append_cases sectors more i m) [
        | inl here ↦ let low = inv.above in (is_least n).0 (omega (arith, low, le)) i here
        | inr there ↦
            let k = there.0 in
            let lt = there.1 in
            let low = inv.met k (omega (arith, lt, past)) in
            let same : get_or more k 0 ≡ i = sym (get_or_default more k i 0 lt) ∙ there.2 in
            omega (arith, low, same, le)
      ]),
      (λ all. elim inv.least [
        | inl same ↦ let low = (is_least n).1 (λ i m. all i (Contains-append_left sectors more i m)) in omega (arith, low, same)
        | inr (k, lt, same) ↦
            let low = all (get_or more k 0) (Contains-append_right sectors more (get_or more k 0) (Contains-get_or more k 0 (omega (arith, lt, c.loop-sector.invariant)))) in
            omega (arith, low, same)
      ]),
    )
