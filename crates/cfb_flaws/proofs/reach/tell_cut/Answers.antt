use Rattle.std.proofs.Common.{◌≡◌, ◌<◌, ℕ, List, length, sym, ◌∙◌, arith}
use Rattle.cfb_format.specs.Content.{readable}
use Rattle.cfb_format.specs.Siblings.{entry_at}
use Rattle.cfb_flaws.specs.declared.flaw.Flaw.TheVariants.{Cut}
use Rattle.cfb_flaws.specs.Flaws.{on_whole}
use Rattle.cfb_flaws.proofs.Tellings.{told-one, told-same}
use Rattle.cfb_flaws.proofs.reach.tell_cut.Goals as goal

pub returns-then-readable-len-clause-told : goal.returns-then-readable-len-clause-told
returns-then-readable-len-clause-told g c = λ bytes r m there len.
    let k = c.args.stream in
    told-same bytes r on_whole (length (readable bytes r (entry_at r.entries k)) ≡ (entry_at r.entries k).stream_len) c.args.found.now.items
    (sym there ∙ c.if-readable-len.true ∙ len)

pub returns-clause-told : goal.returns-clause-told
returns-clause-told g c = λ bytes r m there len.
    let k = c.args.stream in
    let less : c.args.readable < c.args.len = omega (arith, c.requires, c.if-readable-len.false) in
    rw c.in_ok-push.ensures.items
    (told-one bytes r (length (readable bytes r (entry_at r.entries k)) ≡ (entry_at r.entries k).stream_len) c.args.found.now.items (Cut k c.args.readable c.args.len)
    (m, len, there, less))
