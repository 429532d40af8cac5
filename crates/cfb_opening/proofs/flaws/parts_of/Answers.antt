use Rattle.std.proofs.Common.{◌∙◌, sym, ap}
use Rattle.cfb_sectors.specs.Sectors.{SectorFile}
use Rattle.cfb_alloc.specs.Alloc.{AllocatorState}
use Rattle.cfb_opening.specs.cfb_directory.State.{DirectoryState}
use Rattle.cfb_opening.proofs.flaws.parts_of.Goals as goal

pub returns : goal.returns
returns g c = λ cases bytes h o read streams.
    let allocator = c.allocator-allocator.ensures in
    record {
      len = c.file_len.ensures.len ∙ ap (λ (a : AllocatorState). a.file.len) allocator ∙ read.len;
      version = c.version.ensures ∙ sym read.version;
      fat_sectors = c.fat_sectors.ensures ∙ ap (λ (a : AllocatorState). a.tables.fat_sectors) allocator;
      difat_sectors = c.difat_sectors.ensures ∙ ap (λ (a : AllocatorState). a.tables.difat_sectors) allocator;
      fat = c.fat.ensures ∙ ap (λ (a : AllocatorState). a.tables.fat) allocator;
      directory = c.sectors.ensures ∙ ap (λ (d : DirectoryState). d.sectors) c.directory.ensures;
      entries = c.entries.ensures.entries;
      streams = streams;
      minifat_sectors = c.minifat_sectors.ensures;
      minifat = c.minifat.ensures;
    }
