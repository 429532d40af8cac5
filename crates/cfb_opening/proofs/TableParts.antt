-- What the header and the tables of an acceptable file are.
use Rattle.std.proofs.Common.{◌≡◌, ◌↔◌, ℕ, List, Bool, sym, subst, ap, ◌∙◌, refl}
use Rattle.std.specs.Prelude.{IsTrue}
use Rattle.cfb_format.specs.declared.header.Header.{Header}
use Rattle.cfb_format.specs.declared.validate.Validation.{Validation}
use Rattle.cfb_format.specs.declared.validate.Validation.TheVariants.{Permissive, Strict}
use Rattle.cfb_format.specs.Bytes.{max_regular_sector, sector_count}
use Rattle.cfb_format.specs.Fat.{IsFat, IsStrictFat, raw_fat}
use Rattle.cfb_format.specs.Header.{IfStrict}
use Rattle.cfb_format.specs.Names.{Cases}
use Rattle.cfb_format.specs.Reading.{IsStrict, Reading}
use Rattle.cfb_format.specs.Soundness.{PointsIntoFile}
use Rattle.cfb_format.proofs.Unique.{IsDifat-unique, IsFat-unique, IsHeader-unique}
use Rattle.cfb_opening.specs.cfb_tables.ReadFat.{AcceptsFat, AcceptsNoFat}
use Rattle.cfb_opening.specs.cfb_tables.Tables.{TableState, tables_of}
use Rattle.cfb_sectors.specs.Sectors.{SectorFile}
use Rattle.cfb_alloc.specs.Alloc.{AllocatorState, AreListed, IsMeasured}
use Rattle.cfb_reading.specs.Difat.{AcceptsDifat, AcceptsNoDifat}
use Rattle.cfb_reading.specs.FatWords.{AcceptsFatWords, AcceptsNoFatWords, PointsInto}
use Rattle.cfb_reading.proofs.KeptWordLaws.{make-the-fat, point-into-file, words-are-kept}
use Rattle.cfb_opening.specs.Acceptable.{IsAcceptable, IsRefused}
use Rattle.cfb_opening.specs.Known.{AcceptsHead, AcceptsNoHead, AcceptsTables, KnowsTables, table_parts, unchanged_sectors}

pub if-strict : (validation : Validation) {P Q : Type 0} → (P → Q) → IfStrict validation P → IfStrict validation Q
if-strict Permissive turn s = tt
if-strict Strict turn s = turn s

module _ (validation : Validation) (cases : Cases) (bytes : List ℕ) (r : Reading) (is : IsAcceptable validation cases bytes r) where
  pub its-head : AcceptsHead validation bytes r.header
  its-head = record { header = record { header = is.reads.header; strict = if-strict validation (λ (s : IsStrict bytes r). s.header) is.strict }; len = is.reads.len }

  module _ (h : Header) (head : AcceptsHead validation bytes h) where
    pub same-header : r.header ≡ h
    same-header = IsHeader-unique bytes r.header h is.reads.header head.header.header

    pub its-difat : AcceptsDifat validation bytes h r.fat_sectors r.difat_sectors
    its-difat = subst (λ (k : Header). AcceptsDifat validation bytes k r.fat_sectors r.difat_sectors) same-header
        (record { difat = is.reads.difat; strict = if-strict validation (λ (s : IsStrict bytes r). s.difat) is.strict })

    module _ (list own : List ℕ) (difat : AcceptsDifat validation bytes h list own) where
      same-lists : (r.fat_sectors ≡ list) × (r.difat_sectors ≡ own)
      same-lists = IsDifat-unique bytes h r.fat_sectors list r.difat_sectors own its-difat.difat difat.difat

      pub same-fat-sectors : r.fat_sectors ≡ list
      same-fat-sectors = same-lists.0

      pub same-difat-sectors : r.difat_sectors ≡ own
      same-difat-sectors = same-lists.1

      pub its-fat : IsFat h.version bytes list own r.fat
      its-fat = subst (λ (xs : List ℕ). IsFat h.version bytes xs own r.fat) same-lists.0
          (subst (λ (xs : List ℕ). IsFat h.version bytes r.fat_sectors xs r.fat) same-lists.1
          (subst (λ (k : Header). IsFat k.version bytes r.fat_sectors r.difat_sectors r.fat) same-header is.reads.fat))

      pub its-strict-fat : IfStrict validation (IsStrictFat h.version bytes list own)
      its-strict-fat = if-strict validation (λ (s : IsStrict bytes r). subst (λ (xs : List ℕ). IsStrictFat h.version bytes xs own) same-lists.0
          (subst (λ (xs : List ℕ). IsStrictFat h.version bytes r.fat_sectors xs) same-lists.1
          (subst (λ (k : Header). IsStrictFat k.version bytes r.fat_sectors r.difat_sectors) same-header s.fat))) is.strict

      pub no-words : AcceptsNoFatWords validation (sector_count h.version bytes) h.version bytes list → ⊥
      no-words none = none (raw_fat h.version bytes list)
          (words-are-kept validation h.version bytes list own r.fat (sector_count h.version bytes) refl difat.difat.in_file its-fat its-strict-fat)

      pub no-fat : (words : List ℕ) → AcceptsFatWords validation (sector_count h.version bytes) h.version bytes list words
          → AcceptsNoFat validation (sector_count h.version bytes) words list own → ⊥
      no-fat words kept none = none r.fat ((make-the-fat validation h.version bytes list own r.fat words (sector_count h.version bytes) refl kept).1 its-fat its-strict-fat)

  module _ (h : Header) (t : TableState) (tables : AcceptsTables validation bytes h t) where
    pub same-fat : r.fat ≡ t.fat
    same-fat = IsFat-unique h.version bytes t.fat_sectors t.difat_sectors r.fat t.fat (its-fat h tables.head t.fat_sectors t.difat_sectors tables.difat) tables.fat

-- no header is none of an acceptable file
pub none-without-head : (validation : Validation) (bytes : List ℕ) → AcceptsNoHead validation bytes → (cases : Cases) → IsRefused validation cases bytes
none-without-head validation bytes none cases r is = none r.header (its-head validation cases bytes r is)

module _ (validation : Validation) (bytes : List ℕ) (h : Header) (head : AcceptsHead validation bytes h) where
  pub none-without-difat : AcceptsNoDifat validation bytes h → (cases : Cases) → IsRefused validation cases bytes
  none-without-difat none cases r is = none r.fat_sectors r.difat_sectors (its-difat validation cases bytes r is h head)

  module _ (list own : List ℕ) (difat : AcceptsDifat validation bytes h list own) where
    pub none-without-words : AcceptsNoFatWords validation (sector_count h.version bytes) h.version bytes list → (cases : Cases) → IsRefused validation cases bytes
    none-without-words none cases r is = no-words validation cases bytes r is h head list own difat none

    pub none-without-fat : (words : List ℕ) → AcceptsFatWords validation (sector_count h.version bytes) h.version bytes list words
        → AcceptsNoFat validation (sector_count h.version bytes) words list own → (cases : Cases) → IsRefused validation cases bytes
    none-without-fat words kept none cases r is = no-fat validation cases bytes r is h head list own difat words kept none

-- what the steps say of the sectors that they were given, said of the medium's bytes
module _ (validation : Validation) (bytes : List ℕ) (failures : ℕ) (h : Header) (head : AcceptsHead validation bytes h) where
  module _ (file : SectorFile) (same : file ≡ unchanged_sectors h.version bytes failures) where
    pub difat-accepted : (list own : List ℕ) → (IsMeasured file → h.version ≡ file.version → AcceptsDifat validation file.bytes h list own) → AcceptsDifat validation bytes h list own
    difat-accepted list own given = subst (λ (f : SectorFile). IsMeasured f → h.version ≡ f.version → AcceptsDifat validation f.bytes h list own) same given refl refl

    pub difat-refused : (IsMeasured file → h.version ≡ file.version → AcceptsNoDifat validation file.bytes h) → (cases : Cases) → IsRefused validation cases bytes
    difat-refused none = none-without-difat validation bytes h head
        (subst (λ (f : SectorFile). IsMeasured f → h.version ≡ f.version → AcceptsNoDifat validation f.bytes h) same none refl refl)

    module _ (list own : List ℕ) (difat : AcceptsDifat validation bytes h list own) where
      pub words-accepted : (words : List ℕ) → (IsMeasured file → AcceptsFatWords validation file.num_sectors file.version file.bytes list words)
          → AcceptsFatWords validation (sector_count h.version bytes) h.version bytes list words
      words-accepted words given = subst (λ (f : SectorFile). IsMeasured f → AcceptsFatWords validation f.num_sectors f.version f.bytes list words) same given refl

      pub words-refused : (IsMeasured file → AcceptsNoFatWords validation file.num_sectors file.version file.bytes list) → (cases : Cases) → IsRefused validation cases bytes
      words-refused none = none-without-words validation bytes h head list own difat
          (subst (λ (f : SectorFile). IsMeasured f → AcceptsNoFatWords validation f.num_sectors f.version f.bytes list) same none refl)

      module _ (words : List ℕ) (kept : AcceptsFatWords validation (sector_count h.version bytes) h.version bytes list words) where
        pub fat-refused : AreListed file.version file.num_sectors list own
            → (AreListed file.version file.num_sectors list own → AcceptsNoFat validation file.num_sectors words list own) → (cases : Cases) → IsRefused validation cases bytes
        fat-refused listed none = none-without-fat validation bytes h head list own difat words kept
            (subst (λ (f : SectorFile). AcceptsNoFat validation f.num_sectors words list own) same (none listed))

        pub tables-known : (a : AllocatorState) (points : Bool) → (IsTrue points ↔ PointsInto file.num_sectors words list own) → a.file ≡ file
            → a.tables ≡ tables_of file.version max_regular_sector a.tables.fat list own
            → AcceptsFat validation file.num_sectors words list own a.tables.fat → KnowsTables validation bytes failures h a points
        tables-known a points into a_file a_tables fat =
            let made : TableState = tables_of h.version max_regular_sector a.tables.fat list own in
            let tables : a.tables ≡ made = a_tables ∙ ap (λ (f : SectorFile). tables_of f.version max_regular_sector a.tables.fat list own) same in
            let accepts : AcceptsFat validation (sector_count h.version bytes) words list own a.tables.fat =
            subst (λ (f : SectorFile). AcceptsFat validation f.num_sectors words list own a.tables.fat) same fat in
            let is_fat = (make-the-fat validation h.version bytes list own a.tables.fat words (sector_count h.version bytes) refl kept).0 accepts in
            let there : IsTrue points ↔ PointsInto (sector_count h.version bytes) words list own =
            subst (λ (f : SectorFile). IsTrue points ↔ PointsInto f.num_sectors words list own) same into in
            let file_too = point-into-file validation bytes words (table_parts h made) (sector_count h.version bytes) refl kept in
            record {
              file = a_file ∙ same;
              version = ap (λ (t : TableState). t.version) tables;
              tables = subst (λ (t : TableState). AcceptsTables validation bytes h t) (sym tables) (record { head = head; difat = difat; fat = is_fat.0; strict = is_fat.1 });
              into_file = subst (λ (t : TableState). IsTrue points ↔ PointsIntoFile bytes (table_parts h t)) (sym tables)
                  (λ p. file_too.0 (there.0 p), λ p. there.1 (file_too.1 p));
            }
