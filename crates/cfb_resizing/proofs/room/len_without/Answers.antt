use Rattle.std.proofs.Common.{◌≡◌, ◌∙◌, sym, arith, true, false}
use Rattle.cfb_content.proofs.Freed.{ends-freed}
use Rattle.cfb_resizing.proofs.room.len_without.Goals as goal

pub returns-else-is_free_then : goal.returns-else-is_free_then
returns-else-is_free_then c =
    let l = c.loop-len in
    ends-freed c.args.table.now c.args.rising.now l.len l.invariant.within l.invariant.rest
    (λ some is. let yes = c.is_free_then.ensures.1 is in let no = c.if-is_free_then.false in let clash : true ≡ false = sym yes ∙ no in cc)

pub returns-after-loop-len : goal.returns-after-loop-len
returns-after-loop-len c =
    let l = c.loop-len in
    ends-freed c.args.table.now c.args.rising.now l.len l.invariant.within l.invariant.rest (λ some is. (let none = c.loop-len-test.false in omega (arith, none, some)))
