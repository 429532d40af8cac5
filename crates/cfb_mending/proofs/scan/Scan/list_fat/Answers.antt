use Rattle.std.proofs.Common.{◌++◌, ℕ, List, Bool, ◌∙◌, ap, append_assoc}
use Rattle.std.proofs.lemmas.List.Elements.{All-nil, All-same, All-take}
use Rattle.cfb_mending.specs.declared.patches.Patch.{Patch}
use Rattle.cfb_mending.specs.Listing.{header_entries, listed_from, listed_patches, named_from, named_patches, without_zeros}
use Rattle.cfb_mending.specs.Missing.{first_difat_link}
use Rattle.cfb_mending.specs.Tables.{IsFatSector}
use Rattle.cfb_mending.proofs.InTables.{fat-moved, tables-moved}
use Rattle.cfb_mending.proofs.scan.Scan.list_fat.Goals as goal

pub returns-clause-listed : goal.returns-clause-listed
returns-clause-listed g c told =
    let version = c.args.bounds.version in
    let bytes = g.F.ReadMedium.bytes c.args.self.now.medium in
    let first = c.in_ok-is_cut.ensures.listed told (All-same (IsFatSector version bytes) _ _ c.new-fat.ensures.items (All-nil (IsFatSector version bytes))) in
    let all = fat-moved version (g.F.ReadMedium.bytes c.list_in.new.self.medium) bytes _ _ (c.in_ok-is_cut.ensures.same told) (c.in_ok-list_in_sectors.ensures.listed told) first in
    All-same (IsFatSector version bytes) _ _ c.drop_padding.ensures.some (All-take (IsFatSector version bytes) _ _ all)

pub returns-clause-mends : goal.returns-clause-mends
returns-clause-mends g c told table before =
    tables-moved c.args.bounds.version (g.F.ReadMedium.bytes c.list_in.new.self.medium) (g.F.ReadMedium.bytes c.args.self.now.medium) table _ _ (c.in_ok-is_cut.ensures.same told)
    (c.in_ok-list_in_sectors.ensures.mends told table) (c.in_ok-is_cut.ensures.mends told table before)

pub returns-clause-is : goal.returns-clause-is
returns-clause-is g c told file same len =
    let version = c.args.bounds.version in
    let n = c.args.bounds.sectors in
    let later = c.in_ok-is_cut.ensures.same told ∙ same in
    let ends = c.in_ok-is_cut.ensures.ends told file same len in
    let first = c.in_ok-is_cut.ensures.named told file same len ∙ ap (λ (l : List ℕ). l ++ named_from n file header_entries 109) c.new-fat.ensures.items in
    let rest = c.in_ok-list_in_sectors.ensures.named told file later len in
    let all = rest ∙ ap (λ (l : List ℕ). l ++ listed_from version file n n c.in_ok-is_cut.is_cut first_difat_link) first
    ∙ ap (λ (b : Bool). named_from n file header_entries 109 ++ listed_from version file n n b first_difat_link) ends in
    c.drop_padding.ensures.is ∙ ap (λ (l : List ℕ). without_zeros c.args.header.now.num_fat_sectors l) all

pub returns-clause-patched : goal.returns-clause-patched
returns-clause-patched g c told file same len =
    let version = c.args.bounds.version in
    let n = c.args.bounds.sectors in
    let later = c.in_ok-is_cut.ensures.same told ∙ same in
    let ends = c.in_ok-is_cut.ensures.ends told file same len in
    let old = c.args.self.now.patches.items in
    let first = c.in_ok-is_cut.ensures.patched told file same len in
    let rest = c.in_ok-list_in_sectors.ensures.patched told file later len in
    rest ∙ ap (λ (l : List Patch). l ++ listed_patches version file n n c.in_ok-is_cut.is_cut first_difat_link) first
    ∙ append_assoc old (named_patches n file header_entries 109) (listed_patches version file n n c.in_ok-is_cut.is_cut first_difat_link)
    ∙ ap (λ (b : Bool). old ++ (named_patches n file header_entries 109 ++ listed_patches version file n n b first_difat_link)) ends
