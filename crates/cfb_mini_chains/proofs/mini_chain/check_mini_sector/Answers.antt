use Rattle.std.proofs.Common.{ℕ, List, [], ap, length}
use Rattle.std.specs.Prelude.{Option, unwrap_or}
use Rattle.cfb_mini_chains.specs.cfb_alloc.Alloc.{AllocatorState}
use Rattle.cfb_mini.proofs.MiniKnown.{mini-has}
use Rattle.cfb_mini_chains.proofs.mini_chain.check_mini_sector.Goals as goal
use Rattle.cfb_format.proofs.Members.{Contains-here}

pub returns-clause-ok : goal.returns-clause-ok
returns-clause-ok g c =
    let lent = c.allocator.ensures in
    mini-has c.allocator.result.now.tables.version c.in-Some.stream.now (length c.allocator.result.now.tables.fat) c.args.mini c.args.minialloc.now
    (ap (λ (a : AllocatorState). a.tables.version) lent)
    (ap (λ (o : Option (List ℕ)). unwrap_or o []) c.in-Some.ensures)
    (ap (λ (a : AllocatorState). length a.tables.fat) lent)
    (c.are_known_minis.ensures.0 c.if-not-are_known_minis.false c.args.mini (Contains-here c.args.mini []))
