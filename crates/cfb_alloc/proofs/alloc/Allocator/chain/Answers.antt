use Rattle.std.proofs.Common.{arith}
use Rattle.std.proofs.lemmas.Result.{err_from_is_err_and}
use Rattle.cfb_format.proofs.Chains.{Follows-length}
use Rattle.cfb_alloc.proofs.alloc.Allocator.chain.Goals as goal

pub returns-clause-few : goal.returns-clause-few
returns-clause-few g c = omega (arith, Follows-length _ _ _ c.in_ok-list.ensures.ok.follows, c.len-sectors.ensures.sizes.short)

pub returns-in_err-list-clause-err : goal.returns-in_err-list-clause-err
returns-in_err-list-clause-err g c =
    let p = err_from_is_err_and c.from_residual-in_err-list.result c.from_residual-in_err-list.ensures.1 in
    rw (p.1, p.2) (rw (← c.self.view_is) c.in_err-list.ensures.err)
