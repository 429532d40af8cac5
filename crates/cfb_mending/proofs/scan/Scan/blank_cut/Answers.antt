use Rattle.std.proofs.Common.{◌<◌, ◌+◌, ◌-◌, ◌%◌, ◌++◌, ℕ, List, sym, ◌∙◌, ap, subst}
use Rattle.std.proofs.lemmas.List.Elements.{All-contains}
use Rattle.cfb_format.specs.Bytes.{sector_len, sector_start}
use Rattle.cfb_format.proofs.Words.{four-words}
use Rattle.cfb_mending.specs.declared.patches.Patch.{Patch}
use Rattle.cfb_mending.specs.Tables.{IsOnChain, directory_start}
use Rattle.cfb_mending.proofs.InTables.{cut-patch, tables-more}
use Rattle.cfb_mending.proofs.CutEnds.{blank-none, blank-some, cut-in}
use Rattle.cfb_mending.proofs.scan.Scan.blank_cut.Goals as goal

pub returns-clause-mends : goal.returns-clause-mends
returns-clause-mends g c bytes fat is all before =
    let version = c.args.bounds.version in
    let cut = cut-in version c.args.bounds.len c.args.directory.now c.cut_end-end.result c.cut_end-end.ensures c.if-end-eq0.false in
    let s = cut.sector in
    let on = All-contains (IsOnChain version bytes fat directory_start) _ s all cut.among in
    tables-more version bytes fat _ c.args.self.now.patches.items _ c.in_ok-set.ensures.added
    (cut-patch version bytes fat s _ _ on (subst (λ (n : ℕ). sector_start version s < n) is cut.begun) (subst (λ (n : ℕ). n < sector_start version s + sector_len version) is cut.cut)
    (ap (λ (n : ℕ). n - n % 128) is) (cut.ends ∙ sym (ap (λ (n : ℕ). sector_start version s + n) (four-words version)))) before

pub returns-then-end-eq0-clause-exact : goal.returns-then-end-eq0-clause-exact
returns-then-end-eq0-clause-exact g c = blank-none c.args.self.now.patches.items c.args.bounds.len _ (sym c.cut_end-end.ensures ∙ c.if-end-eq0.true)

pub returns-clause-exact : goal.returns-clause-exact
returns-clause-exact g c =
    c.in_ok-set.ensures.added ∙ ap (λ (l : List Patch). c.args.self.now.patches.items ++ l) (blank-some c.args.bounds.len c.cut_end-end.result _ c.cut_end-end.ensures c.if-end-eq0.false)
