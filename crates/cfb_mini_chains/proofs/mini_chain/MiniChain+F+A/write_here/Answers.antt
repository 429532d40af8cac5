use Rattle.std.proofs.Common.{◌≡◌, ◌+◌, ◌/◌, ◌%◌, ℕ, List, arith, subst}
use Rattle.cfb_mini_chains.specs.LentMiniChain.{ids_of, position_of, state_of}
use Rattle.cfb_mini_chains.specs.MiniRunsAlong.{StandTogether}
use Rattle.cfb_mini_chains.proofs.MiniChainRuns.{together_fits}
use Rattle.cfb_mini_chains.proofs.mini_chain.MiniChain+F+A.write_here.Goals as goal

pub returns-clause-count : goal.returns-clause-count
returns-clause-count g c =
    let now = c.args.self.now in
    let s = state_of now in
    let e = c.in_ok-count.ensures in
    let n = c.in_ok-count.count in
    let fits = together_fits s (ids_of now) (position_of now) n e.some.0 (subst (λ (xs : List ℕ). StandTogether s xs (position_of now) n) c.numbers.ensures e.together) in
    let few = e.some.1 in
    omega (arith, fits, few)

pub invariant_of-self-2-clause-within : goal.invariant_of-self-2-clause-within
invariant_of-self-2-clause-within g c =
    let now = c.args.self.now in
    let s = state_of now in
    let e = c.in_ok-count.ensures in
    let n = c.in_ok-count.count in
    together_fits s (ids_of now) (position_of now) n e.some.0 (subst (λ (xs : List ℕ). StandTogether s xs (position_of now) n) c.numbers.ensures e.together)
