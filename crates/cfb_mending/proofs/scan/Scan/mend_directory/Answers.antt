use Rattle.std.proofs.Common.{◌++◌, ℕ, List, refl, ◌∙◌, ap, arith, append_assoc}
use Rattle.std.specs.Prelude.{flat_map}
use Rattle.std.proofs.lemmas.List.Elements.{All-same}
use Rattle.cfb_mending.specs.declared.patches.Patch.{Patch}
use Rattle.cfb_mending.specs.Missing.{cut_end, cut_patches, links_in, lost_links}
use Rattle.cfb_mending.specs.Tables.{IsInTables}
use Rattle.cfb_mending.proofs.InTables.{directory-tables, sectors-moved}
use Rattle.cfb_mending.proofs.CutEnds.{more-by}
use Rattle.cfb_mending.proofs.scan.Scan.mend_directory.Goals as goal

pub returns-clause-mends : goal.returns-clause-mends
returns-clause-mends g c told is all before =
    let version = c.args.tables.now.bounds.version in
    let bytes = g.F.ReadMedium.bytes c.args.self.now.medium in
    let fat = c.args.tables.now.fat.items in
    let counted = c.in_ok-kinds.ensures.same told ∙ c.in_ok-root_len.ensures.same told in
    let p1 = All-same (IsInTables version bytes fat) _ _ (c.in_ok-kinds.ensures.stays ∙ c.in_ok-root_len.ensures.stays) before in
    let sectors = directory-tables version bytes bytes fat _ _ refl refl all in
    let p2 = sectors-moved version (g.F.ReadMedium.bytes c.kinds.new.self.medium) bytes fat _ _ _ counted (c.in_ok-mend_slots.ensures.mends told) sectors p1 in
    c.in_ok-blank_cut.ensures.mends bytes fat is all p2

pub returns-clause-exact : goal.returns-clause-exact
returns-clause-exact g c told bytes same len =
    let version = c.args.tables.now.bounds.version in
    let directory = c.args.directory.now in
    let old = c.args.self.now.patches.items in
    let blank = cut_patches c.args.tables.now.bounds.len (cut_end version c.args.tables.now.bounds.len directory) in
    let first = c.in_ok-root_len.ensures.same told ∙ same in
    let linked = c.in_ok-mend_slots.ensures.exact told bytes (c.in_ok-kinds.ensures.same told ∙ first) len in
    let stays = c.in_ok-kinds.ensures.stays ∙ c.in_ok-root_len.ensures.stays in
    let kinds = c.deref.ensures.value ∙ c.in_ok-kinds.ensures.kinds told bytes first len in
    let added = linked ∙ ap (λ (l : List Patch). l ++ flat_map (links_in version bytes c.deref.result.now) directory) stays
    ∙ ap (λ (k : List ℕ). old ++ flat_map (links_in version bytes k) directory) kinds in
    c.in_ok-blank_cut.ensures.exact ∙ ap (λ (l : List Patch). l ++ blank) added ∙ append_assoc old (lost_links version bytes directory) blank

pub returns-clause-lost : goal.returns-clause-lost
returns-clause-lost g c told bytes same len =
    let version = c.args.tables.now.bounds.version in
    let directory = c.args.directory.now in
    let first = c.in_ok-root_len.ensures.same told ∙ same in
    let linked = c.in_ok-mend_slots.ensures.exact told bytes (c.in_ok-kinds.ensures.same told ∙ first) len in
    let added = linked ∙ ap (λ (k : List ℕ). c.kinds.new.self.patches.items ++ flat_map (links_in version bytes k) directory) (c.deref.ensures.value ∙ c.in_ok-kinds.ensures.kinds told bytes first len) in
    more-by c.kinds.new.self.patches.items c.mend_slots.new.self.patches.items (lost_links version bytes directory) c.len-before.result c.len.result c.saturating_sub-lost.result
    (omega (arith, c.len-before.ensures, c.kinds.new.self.patches.ok.0)) (omega (arith, c.len.ensures, c.mend_slots.new.self.patches.ok.0)) c.saturating_sub-lost.ensures added

pub returns-clause-len : goal.returns-clause-len
returns-clause-len g c told bytes same len = c.in_ok-root_len.ensures.len told bytes same len
