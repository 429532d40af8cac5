-- What the directory's entries and the MiniFAT's words of an acceptable file are.
use Rattle.std.proofs.Common.{◌≡◌, ◌≤◌, ◌*◌, ℕ, List, Bool, length, sym, subst, ap, refl}
use Rattle.std.specs.Prelude.{flat_map}
use Rattle.cfb_format.specs.declared.header.Header.{Header}
use Rattle.cfb_format.specs.declared.validate.Validation.{Validation}
use Rattle.cfb_format.specs.declared.version.Version.{Version}
use Rattle.cfb_format.specs.Bytes.{sector_words, words_per_sector}
use Rattle.cfb_format.specs.Chain.{IsChain}
use Rattle.cfb_format.specs.DirectoryEntry.{Entry}
use Rattle.cfb_format.specs.Full.{max_entries}
use Rattle.cfb_format.specs.Names.{Cases}
use Rattle.cfb_format.specs.Reading.{IsStrict, Reading}
use Rattle.cfb_sectors.specs.Sectors.{SectorFile}
use Rattle.cfb_alloc.specs.Alloc.{AllocatorState, IsMeasured}
use Rattle.cfb_opening.specs.cfb_entries.EntryList.{HaveShortNames}
use Rattle.cfb_reading.specs.ReadDirectory.{AcceptsDirectory, AreFromSlots, FillsSlots, NoDirectory}
use Rattle.cfb_reading.specs.ReadMinifat.{HasMinifatWords, NoMinifatWords}
use Rattle.cfb_opening.specs.Acceptable.{IsAcceptable, IsRefused}
use Rattle.cfb_opening.specs.Known.{KnowsEntries, KnowsTables, KnowsWords}
use Rattle.cfb_opening.proofs.TableParts.{if-strict, same-fat, same-header}
use Rattle.cfb_opening.proofs.Writable.{slots-are-writable}

module _ (validation : Validation) (bytes : List ℕ) (failures : ℕ) (h : Header) (a : AllocatorState) (points : Bool) (knows : KnowsTables validation bytes failures h a points) where
  module _ (cases : Cases) (r : Reading) (is : IsAcceptable validation cases bytes r) where
    pub header-is : r.header ≡ h
    header-is = same-header validation cases bytes r is h knows.tables.head

    pub fat-is : r.fat ≡ a.tables.fat
    fat-is = same-fat validation cases bytes r is h a.tables knows.tables

    pub its-directory : AcceptsDirectory validation h.version bytes a.tables.fat h.first_dir_sector r.directory r.entries
    its-directory = subst (λ (fat : List ℕ). AcceptsDirectory validation h.version bytes fat h.first_dir_sector r.directory r.entries) fat-is
        (subst (λ (k : Header). AcceptsDirectory validation k.version bytes r.fat k.first_dir_sector r.directory r.entries) header-is
        (record { directory = is.reads.directory; strict = if-strict validation (λ (s : IsStrict bytes r). s.entries) is.strict }))

    its-words : HasMinifatWords h.version bytes a.tables.fat h.first_minifat_sector r.minifat_sectors (flat_map (sector_words h.version bytes) r.minifat_sectors)
    its-words = subst (λ (fat : List ℕ). HasMinifatWords h.version bytes fat h.first_minifat_sector r.minifat_sectors (flat_map (sector_words h.version bytes) r.minifat_sectors)) fat-is
        (subst (λ (k : Header). HasMinifatWords k.version bytes r.fat k.first_minifat_sector r.minifat_sectors (flat_map (sector_words k.version bytes) r.minifat_sectors)) header-is
        (record { chain = is.reads.minifat.chain; whole = is.reads.minifat.whole; words = refl }))

  measured : IsMeasured a.file
  measured = subst IsMeasured (sym knows.file) refl

  bytes-are : a.file.bytes ≡ bytes
  bytes-are = ap (λ (f : SectorFile). f.bytes) knows.file

  -- what is said of the file and the tables' version, said of the bytes and the header's
  said : (P : Version → List ℕ → Type 0) → P a.tables.version a.file.bytes → P h.version bytes
  said P p = subst (λ (v : Version). P v bytes) knows.version (subst (λ (b : List ℕ). P a.tables.version b) bytes-are p)

  pub directory-refused : (IsMeasured a.file → NoDirectory validation a.tables.version a.file.bytes a.tables.fat h.first_dir_sector) → (cases : Cases) → IsRefused validation cases bytes
  directory-refused none cases r is =
      said (λ v b. NoDirectory validation v b a.tables.fat h.first_dir_sector) (none measured) r.directory r.entries (its-directory cases r is)

  pub words-refused : (IsMeasured a.file → NoMinifatWords a.tables.version a.file.bytes a.tables.fat h.first_minifat_sector) → (cases : Cases) → IsRefused validation cases bytes
  words-refused none cases r is =
      said (λ v b. NoMinifatWords v b a.tables.fat h.first_minifat_sector) (none measured) r.minifat_sectors (flat_map (sector_words h.version bytes) r.minifat_sectors) (its-words cases r is)

  pub entries-known : (entries : List Entry)
      → (IsMeasured a.file → (sectors : List ℕ) → IsChain a.tables.fat h.first_dir_sector sectors
      → AcceptsDirectory validation a.tables.version a.file.bytes a.tables.fat h.first_dir_sector sectors entries)
      → (sectors : List ℕ) → FillsSlots a.tables.version a.tables.fat h.first_dir_sector sectors (length entries)
      → HaveShortNames entries → length entries ≤ max_entries → AreFromSlots validation a.tables.version entries → KnowsEntries validation bytes h a.tables entries
  entries-known entries accepted sectors fills short few from = record {
    sectors = sectors;
    accepted = said (λ v b. AcceptsDirectory validation v b a.tables.fat h.first_dir_sector sectors entries) (accepted measured sectors fills.chain);
    count = (subst (λ (v : Version). FillsSlots v a.tables.fat h.first_dir_sector sectors (length entries)) knows.version fills).count;
    short = short;
    few = few;
    writable = slots-are-writable validation h.version entries (subst (λ (v : Version). AreFromSlots validation v entries) knows.version from);
  }

  pub words-known : (words : List ℕ)
      → (IsMeasured a.file → (sectors : List ℕ) → IsChain a.tables.fat h.first_minifat_sector sectors
      → HasMinifatWords a.tables.version a.file.bytes a.tables.fat h.first_minifat_sector sectors words)
      → (sectors : List ℕ) → IsChain a.tables.fat h.first_minifat_sector sectors → length words ≡ length sectors * words_per_sector a.tables.version
      → KnowsWords bytes h a.tables words
  words-known words has sectors chain count = record {
    sectors = sectors;
    has = said (λ v b. HasMinifatWords v b a.tables.fat h.first_minifat_sector sectors words) (has measured sectors chain);
    count = subst (λ (v : Version). length words ≡ length sectors * words_per_sector v) knows.version count;
  }
