use Rattle.std.proofs.Common.{length, sym, ◌∙◌}
use Rattle.std.proofs.lemmas.Bool.{eqb-false, eqb-true}
use Rattle.cfb_mending.proofs.HeldWords.{first-len-there, len-of-none, len-of-some}
use Rattle.cfb_mending.proofs.scan.Scan.mini_stream_len.Goals as goal

pub returns-then-is_empty-clause-len : goal.returns-then-is_empty-clause-len
returns-then-is_empty-clause-len g c told bytes same len =
    sym (len-of-none c.args.tables.now.bounds.version bytes c.args.directory.now (eqb-true (length c.args.directory.now) 0 (sym c.is_empty.ensures ∙ c.if-is_empty.true)))

pub returns-clause-len : goal.returns-clause-len
returns-clause-len g c told bytes same len =
    let version = c.args.tables.now.bounds.version in
    let some = eqb-false (length c.args.directory.now) 0 (sym c.is_empty.ensures ∙ c.if-is_empty.false) in
    c.first_len.ensures ∙ first-len-there version bytes _ _ _ (c.in_ok-loaded.ensures.holds told bytes same len)
    ∙ sym (len-of-some version bytes c.args.directory.now _ some)
