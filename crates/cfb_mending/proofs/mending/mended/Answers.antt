use Rattle.std.proofs.Common.{◌≡◌, ◌/◌, ◌++◌, List, ℕ, length, max, min, ◌∙◌, ap, subst}
use Rattle.std.specs.List.{All}
use Rattle.std.proofs.lemmas.List.Elements.{All-contains, All-nil, All-same}
use Rattle.cfb_format.specs.Bytes.{sector_count}
use Rattle.cfb_mending.specs.declared.patches.Patch.{Patch}
use Rattle.cfb_mending.specs.Listing.{difat_patches, fat_sectors}
use Rattle.cfb_mending.specs.Missing.{cut_end, cut_patches, difat_from, first_difat_link, known_of, lost_links, mini_patches, mini_stream_len, used_words}
use Rattle.cfb_mending.specs.Tables.{IsFatSector, IsInTables, IsTableSector, directory_start, minifat_start}
use Rattle.cfb_mending.specs.WholeFile.{chain_of, least_len, mini_count, tables_patches}
use Rattle.cfb_mending.proofs.InTables.{chain-moved, directory-moved, directory-tables, minifat-tables, sectors-moved, tables-moved}
use Rattle.cfb_mending.proofs.AllPatches.{joined}
use Rattle.cfb_mending.proofs.CutEnds.{least-padded}
use Rattle.cfb_mending.proofs.mending.mended.Goals as goal

pub returns-clause-tables : goal.returns-clause-tables
returns-clause-tables g c told =
    let version = c.in_ok-header.bounds.version in
    let bytes = g.F.ReadMedium.bytes c.args.medium in
    let fat = c.in_ok-fat.fat.items in
    let started = c.in_ok-header.ensures.same told in
    let listed = c.in_ok-fat.ensures.same told ∙ started in
    let mended = c.in_ok-mend_fat.ensures.same told ∙ listed in
    let chained = c.in_ok-directory.ensures.same told ∙ mended in
    let linked = c.in_ok-lost.ensures.same told ∙ chained in
    let mini = c.in_ok-minifat.ensures.same told ∙ linked in
    let measured = c.in_ok-len.ensures.same told ∙ mini in
    let limited = c.in_ok-mend_minifat.ensures.same told ∙ measured in
    let is = c.in_ok-header.ensures.len told in
    let p0 = All-same (IsInTables version bytes fat) _ _ c.new-patches.ensures.items (All-nil (IsInTables version bytes fat)) in
    let p1 = tables-moved version (g.F.ReadMedium.bytes c.start.new.medium) bytes fat _ _ started (c.in_ok-fat.ensures.mends told fat) p0 in
    let p2 = tables-moved version (g.F.ReadMedium.bytes c.list_fat.new.self.medium) bytes fat _ _ listed (c.in_ok-mend_fat.ensures.mends told) p1 in
    let p3 = tables-moved version (g.F.ReadMedium.bytes c.mend_fat.new.self.medium) bytes fat _ _ mended (c.in_ok-directory.ensures.mends told) p2 in
    let chain = chain-moved version bytes fat directory_start (g.F.ReadMedium.bytes c.mend_fat.new.self.medium) _ _ mended c.deref.ensures.value (c.in_ok-directory.ensures.chain told) in
    let p4 = directory-moved version (g.F.ReadMedium.bytes c.mend_chain.new.self.medium) bytes fat _ _ _ _ chained (c.in_ok-lost.ensures.mends told) is chain p3 in
    let p5 = tables-moved version (g.F.ReadMedium.bytes c.mend_directory.new.self.medium) bytes fat _ _ linked (c.in_ok-minifat.ensures.mends told) p4 in
    let p6 = All-same (IsInTables version bytes fat) _ _ c.in_ok-len.ensures.stays p5 in
    let minifat = minifat-tables version (g.F.ReadMedium.bytes c.mend_directory.new.self.medium) bytes fat _ _ linked c.deref-3.ensures.value (c.in_ok-minifat.ensures.chain told) in
    let p7 = sectors-moved version (g.F.ReadMedium.bytes c.minifat_len.new.self.medium) bytes fat _ _ _ measured (c.in_ok-mend_minifat.ensures.mends told) minifat p6 in
    let p8 = All-same (IsInTables version bytes fat) _ _ c.in_ok-least.ensures.stays p7 in
    let directory = directory-tables version (g.F.ReadMedium.bytes c.mend_fat.new.self.medium) bytes fat _ _ mended c.deref-4.ensures.value (c.in_ok-directory.ensures.chain told) in
    let minifat' = minifat-tables version (g.F.ReadMedium.bytes c.mend_directory.new.self.medium) bytes fat _ _ linked c.deref-5.ensures.value (c.in_ok-minifat.ensures.chain told) in
    let padding =
    least-padded version bytes fat c.deref-4.result.now c.deref-5.result.now c.in_ok-header.bounds.sectors c.in_ok-least.least (λ s k. All-contains (IsTableSector version bytes fat) _ s directory k)
    (λ s k. All-contains (IsTableSector version bytes fat) _ s minifat' k)
    (c.in_ok-least.ensures.is told bytes limited is
    ∙ (λ j. max (max (max (cut_end version (is j) fat) (cut_end version (is j) c.deref-4.result.now)) (cut_end version (is j) c.deref-5.result.now))
    (cut_end version (is j) (difat_from version bytes c.in_ok-header.bounds.sectors first_difat_link)))) in
    record {
      version = version;
      fixed = c.in_ok-header.ensures.version told;
      fat = fat;
      listed = subst (λ (b : List ℕ). All (IsFatSector version b) fat) started (c.in_ok-fat.ensures.listed told);
      tables = p8;
      padding = padding;
    }

pub returns-clause-exact : goal.returns-clause-exact
returns-clause-exact g c told =
    let version = c.in_ok-header.bounds.version in
    let bytes = g.F.ReadMedium.bytes c.args.medium in
    let n = c.in_ok-header.bounds.sectors in
    let len = c.in_ok-header.bounds.len in
    let fat = c.in_ok-fat.fat.items in
    let d = c.in_ok-directory.directory.items in
    let m = c.in_ok-minifat.minifat.items in
    let known = known_of version n fat in
    let started = c.in_ok-header.ensures.same told in
    let listed = c.in_ok-fat.ensures.same told ∙ started in
    let mended = c.in_ok-mend_fat.ensures.same told ∙ listed in
    let chained = c.in_ok-directory.ensures.same told ∙ mended in
    let linked = c.in_ok-lost.ensures.same told ∙ chained in
    let mini = c.in_ok-minifat.ensures.same told ∙ linked in
    let measured = c.in_ok-len.ensures.same told ∙ mini in
    let limited = c.in_ok-mend_minifat.ensures.same told ∙ measured in
    let is : len ≡ length bytes = c.in_ok-header.ensures.len told in
    let sectors : n ≡ sector_count version bytes = c.in_ok-header.ensures.sectors told in
    let count : c.in_ok-len.len ≡ mini_count version bytes d m =
    c.in_ok-len.ensures.is told bytes mini is ∙ ap (λ (l : List ℕ). min (used_words version bytes l (length l)) (c.in_ok-lost.root_len / 64)) c.deref-2.ensures.value
    ∙ ap (λ (r : ℕ). min (used_words version bytes m (length m)) (r / 64)) (c.in_ok-lost.ensures.len told bytes chained is ∙ ap (λ (l : List ℕ). mini_stream_len version bytes l) c.deref.ensures.value) in
    let e3 = c.in_ok-lost.ensures.exact told bytes chained is
    ∙ ap (λ (l : List ℕ). c.mend_chain.new.self.patches.items ++ (lost_links version bytes l ++ cut_patches len (cut_end version len l))) c.deref.ensures.value
    ∙ ap (λ (k : ℕ). c.mend_chain.new.self.patches.items ++ (lost_links version bytes d ++ cut_patches k (cut_end version k d))) is in
    let e5 = c.in_ok-least.ensures.stays ∙ c.in_ok-mend_minifat.ensures.exact told bytes measured is
    ∙ ap (λ (l : List Patch). l ++ mini_patches version bytes c.deref-3.result.now c.in_ok-len.len) c.in_ok-len.ensures.stays
    ∙ ap (λ (l : List ℕ). c.mend_chain-2.new.self.patches.items ++ mini_patches version bytes l c.in_ok-len.len) c.deref-3.ensures.value
    ∙ ap (λ (k : ℕ). c.mend_chain-2.new.self.patches.items ++ mini_patches version bytes m k) count in
    record {
      version = version;
      fixed = c.in_ok-header.ensures.version told;
      fat = fat;
      directory = d;
      minifat = m;
      fat_is = c.in_ok-fat.ensures.is told bytes started is ∙ (λ j. fat_sectors version bytes (sectors j) (c.in_ok-header.ensures.counted told j));
      directory_is = c.in_ok-directory.ensures.exact told bytes mended is ∙ ap (λ (k : ℕ). chain_of version bytes k fat directory_start) sectors;
      minifat_is = c.in_ok-minifat.ensures.exact told bytes linked is ∙ ap (λ (k : ℕ). chain_of version bytes k fat minifat_start) sectors;
      patched =
          joined _ _ _ _ _ _ _ _ _ _ _ _ (c.in_ok-mend_fat.ensures.exact told bytes listed is) (c.in_ok-directory.ensures.ends told bytes mended is) e3
          (c.in_ok-minifat.ensures.ends told bytes linked is) e5
          ∙ ap (λ (l : List Patch). l ++ tables_patches version bytes (length bytes) n fat d m)
          (c.in_ok-fat.ensures.patched told bytes started is ∙ ap (λ (l : List Patch). l ++ difat_patches version bytes n) c.new-patches.ensures.items)
          ∙ ap (λ (k : ℕ). difat_patches version bytes k ++ tables_patches version bytes (length bytes) k fat d m) sectors;
      padded = c.in_ok-least.ensures.is told bytes limited is ∙ (λ j. least_len version bytes (is j) (sectors j) fat (c.deref-4.ensures.value j) (c.deref-5.ensures.value j));
      counted = c.in_ok-lost.ensures.lost told bytes chained is ∙ ap (λ (l : List ℕ). length (lost_links version bytes l)) c.deref.ensures.value;
    }
