use Rattle.std.proofs.Common.{sym, ap, subst, length, arith}
use Rattle.std.proofs.lemmas.Result.{IfOk-weaker}
use Rattle.cfb_format.proofs.Chains.{Follows-length}
use Rattle.cfb_alloc.specs.Kept.{IsKeptChain}
use Rattle.cfb_alloc.proofs.alloc.Allocator.open_chain_in.Goals as goal
use Rattle.cfb_alloc.proofs.alloc.Allocator.open_chain_in.Goals.{in-Some, in_default+in-Some-1, in_default+in-None-1}

pub returns-clause-few : goal.returns-clause-few
returns-clause-few g c =
    let short = c.len.ensures.sizes.short in
    elim c.match-take.branch [
      | in-Some w ↦
          let chain = subst (IsKeptChain c.self.inside.tables.fat) (sym w.in-Some.ensures.value) c.self.invariant.1 in
          rw w.result-is (omega (arith, w.in-Some.kept.ok.0, Follows-length _ _ _ chain.follows, short))
      | in_default+in-Some-1 w ↦ rw w.result-is (IfOk-weaker w.walk.result _ _ (λ list chain. omega (arith, list.ok.0, ap length w.fat.ensures, Follows-length _ _ _ chain.follows, short)) w.walk.ensures.ok)
      | in_default+in-None-1 w ↦ rw w.result-is (IfOk-weaker w.walk.result _ _ (λ list chain. omega (arith, list.ok.0, ap length w.fat.ensures, Follows-length _ _ _ chain.follows, short)) w.walk.ensures.ok)
    ]
