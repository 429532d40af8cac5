-- A directory whose slots were written is held by the bytes as before.
use Rattle.std.proofs.Common.{◌≡◌, ◌≢◌, ◌≤◌, ◌<◌, ◌+◌, ℕ, List, [], sym, ◌∙◌, subst, length, arith}
use Rattle.std.specs.Prelude.{slice_index}
use Rattle.cfb_format.specs.declared.version.Version.{Version}
use Rattle.cfb_format.specs.declared.version.Version.TheVariants.{V3, V4}
use Rattle.cfb_format.specs.declared.validate.Validation.{Validation}
use Rattle.cfb_format.specs.declared.validate.Validation.TheVariants.{Permissive, Strict}
use Rattle.cfb_format.specs.Bytes.{sector_len, word_at}
use Rattle.cfb_format.specs.DirectoryEntry.{Entry}
use Rattle.cfb_format.specs.Header.{IfStrict, IsStrictHeader}
use Rattle.cfb_format.specs.Names.{Cases}
use Rattle.cfb_format.specs.Reading.{IsStrictCount}
use Rattle.cfb_sectors.proofs.WordLemmas.{word_same}
use Rattle.cfb_directory.specs.cfb_tables.Tables.{TableState}
use Rattle.cfb_alloc.specs.Agreement.{HasSectors}
use Rattle.cfb_alloc.specs.Alloc.{AllocatorState, HoldsTables}
use Rattle.cfb_slots.specs.Slots.{HoldSlotsBut}
use Rattle.cfb_directory.specs.State.{DirectoryState, HoldsDirectory, AreWritable, directory_version, directory_bytes, directory_tables}
use Rattle.cfb_directory.proofs.Placed.{header_there}

-- what strict opening wants of a header's word 40
pub strict_header_stays : (validation : Validation) (v : Version) (old new : List ℕ) → word_at new 40 ≡ word_at old 40
    → IfStrict validation (IsStrictHeader v old) → IfStrict validation (IsStrictHeader v new)
strict_header_stays Permissive v old new e h = tt
strict_header_stays Strict V3 old new e h = e ∙ h
strict_header_stays Strict V4 old new e h = tt

-- ---- a header that stays

module _ (v : Version) (old new list : List ℕ) (some : list ≢ []) (whole : HasSectors v old list)
    (header : (i : ℕ) → i < length old → i < sector_len v → slice_index new i ≡ slice_index old i) where
  pub word_left : (p : ℕ) → p + 4 ≤ 512 → word_at new p ≡ word_at old p
  word_left p low =
      let there = header_there v old list some whole in
      let long = there.0 in
      let room : 512 ≤ sector_len v = sector_room v in
      word_same old new p (λ k lt. header (p + k) (omega (arith, lt, low, long)) (omega (arith, lt, low, room)))
    where
      sector_room : (w : Version) → 512 ≤ sector_len w
      sector_room V3 = omega arith
      sector_room V4 = omega arith

-- its sectors and tables as before, and the entries that the slots hold now
pub rewritten : (validation : Validation) (d : DirectoryState) (a : AllocatorState) (cases : Cases) (entries : List Entry) → HoldsDirectory validation d
    → a.tables ≡ directory_tables d → HoldsTables validation a → length (directory_bytes d) ≤ length a.file.bytes
    → ((i : ℕ) → i < length (directory_bytes d) → i < sector_len (directory_version d) → slice_index a.file.bytes i ≡ slice_index (directory_bytes d) i)
    → HoldSlotsBut [] validation (directory_version d) a.file.bytes d.sectors entries → AreWritable (directory_version d) entries → length entries ≡ length d.entries
    → HoldsDirectory validation (record { table = a; sectors = d.sectors; cases = cases; entries = entries })
rewritten validation d a cases entries h same tables longer header slots writable count =
    let v = directory_version d in
    let bytes = a.file.bytes in
    let word = word_left v (directory_bytes d) bytes d.sectors h.some h.whole header in
    let held : HoldsTables validation (record { file = a.file; tables = directory_tables d }) = subst (λ (t : TableState). HoldsTables validation (record { file = a.file; tables = t })) same tables in
    subst (λ (t : TableState). HoldsDirectory validation (record { table = record { file = a.file; tables = t }; sectors = d.sectors; cases = cases; entries = entries })) (sym same) (record {
      tables = held;
      sizes = h.sizes;
      chain = h.chain;
      some = h.some;
      whole = λ i m. let w = h.whole i m in omega (arith, w, longer);
      first = word 48 (omega arith) ∙ h.first;
      slots = slots;
      writable = writable;
      most = let few = h.most in omega (arith, few, count);
      counted = subst (λ n. IfStrict validation (IsStrictCount v n (length d.sectors))) (sym (word 40 (omega arith))) h.counted;
      strict_header = strict_header_stays validation v (directory_bytes d) bytes (word 40 (omega arith)) h.strict_header;
    })
