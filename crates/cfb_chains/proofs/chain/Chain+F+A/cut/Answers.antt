use Rattle.std.proofs.Common.{arith}
use Rattle.cfb_chains.specs.LentChain.{allocator_of, start_sector_of, ids_of, version_of}
use Rattle.cfb_chains.proofs.cfb_alloc.Answering.{on_ok}
use Rattle.cfb_chains.proofs.cfb_alloc.FrameLemmas.{changes_refl}
use Rattle.cfb_chains.proofs.LentContent.{content_cut, content_uncut}
use Rattle.cfb_chains.proofs.cfb_alloc.Spared.{spares_refl}
use Rattle.cfb_chains.proofs.chain.Chain+F+A.cut.Goals as goal

pub returns-then-count-len-clause-changes : goal.returns-then-count-len-clause-changes
returns-then-count-len-clause-changes g c told = changes_refl _ _ _

pub returns-then-count-len-clause-content : goal.returns-then-count-len-clause-content
returns-then-count-len-clause-content g c told validation h whole =
    let now = c.args.self.now in
    let all = c.if-count-len.true in
    let len = c.len.ensures in
    content_uncut (version_of now) (allocator_of now).now.file.bytes (ids_of now) c.args.count whole (omega (arith, all, len))

pub returns-clause-content : goal.returns-clause-content
returns-clause-content g c told validation h whole =
    let now = c.args.self.now in
    let short = c.shorten_list-cut in
    let fewer = c.if-count-len.false in
    on_ok _ _ short.result
    (λ is. content_cut validation (allocator_of now).now short.new.allocator (start_sector_of now) (ids_of now) short.new.ids.items now.chained h whole short.ensures.version
    c.args.count (omega (arith, fewer)) is (short.ensures.changes told))
    short.ensures.ids

pub returns-then-count-len-clause-spares : goal.returns-then-count-len-clause-spares
returns-then-count-len-clause-spares g c told = spares_refl (ids_of c.args.self.now) (allocator_of c.args.self.now).now
