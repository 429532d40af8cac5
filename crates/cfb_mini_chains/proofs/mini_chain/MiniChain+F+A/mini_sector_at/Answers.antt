use Rattle.std.proofs.Common.{◌≡◌, ◌/◌, rules, sym, subst}
use Rattle.std.specs.Prelude.{slice_index, Contains}
use Rattle.cfb_mini_chains.specs.LentMiniChain.{ids_of}
use Rattle.cfb_mini_chains.proofs.MiniChainPlaces.{mini_member}
use Rattle.cfb_mini_chains.proofs.mini_chain.MiniChain+F+A.mini_sector_at.Goals as goal

pub returns-clause-member : goal.returns-clause-member
returns-clause-member g c inside =
    let now = c.args.self.now in
    let is : c.unwrap_or.result ≡ slice_index (ids_of now) (c.args.position / 64) = search rules in
    subst (Contains (ids_of now)) (sym is) (mini_member (ids_of now) c.args.position inside)
