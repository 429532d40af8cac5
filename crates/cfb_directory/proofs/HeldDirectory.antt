-- A directory that the bytes hold is the one that is read, and stays held through changes that spare it.
use Rattle.std.proofs.Common.{◌≡◌, ◌≤◌, ◌+◌, inl, inr, ℕ, List, [], true, sym, ◌∙◌, ap, subst, length, arith, le-leb}
use Rattle.std.specs.Prelude.{slice_index}
use Rattle.std.specs.List.{AllZip, list_all}
use Rattle.std.proofs.lemmas.List.Elements.{Contains-get_or, Contains-append_cases}
use Rattle.cfb_format.specs.declared.version.Version.{Version}
use Rattle.cfb_format.specs.declared.version.Version.TheVariants.{V3, V4}
use Rattle.cfb_format.specs.declared.validate.Validation.TheVariants.{Strict}
use Rattle.cfb_format.specs.declared.header.Header.{Header}
use Rattle.cfb_format.specs.Bytes.{is_whole_sector, sector_len, sector_start, word_at}
use Rattle.cfb_format.specs.Chain.{IsChain}
use Rattle.cfb_format.specs.DirectoryEntry.{IsStrictEntry, slots}
use Rattle.cfb_format.specs.Header.{IfStrict, IsStrictHeader, dir_sectors_of}
use Rattle.cfb_format.specs.Reading.{IsStrictCount}
use Rattle.cfb_format.proofs.Unique.{IsHeader-unique}
use Rattle.cfb_directory.specs.cfb_tables.Changes.{AreDisjoint}
use Rattle.cfb_directory.specs.cfb_tables.Tables.{first_or_end}
use Rattle.cfb_alloc.specs.Agreement.{HasSectors}
use Rattle.cfb_alloc.specs.Frame.{table_sectors}
use Rattle.cfb_alloc.proofs.AgreementLemmas.{every}
use Rattle.cfb_alloc.proofs.Frames.{other-chains-spared}
use Rattle.cfb_slots.specs.Slots.{HoldSlotsBut}
use Rattle.cfb_directory.specs.State.{AreWritable, directory_bytes, directory_tables, directory_version}
use Rattle.cfb_directory.specs.HeldLaws.{DirectoryStaysHeld, HeldDirectoryIsRead, HeldDirectoryIsStrict}
use Rattle.cfb_directory.proofs.Placed.{held_no_tables}
use Rattle.cfb_directory.proofs.Rewritten.{strict_header_stays}
use Rattle.cfb_slots.proofs.SlotLists.{by-place}
use Rattle.cfb_slots.proofs.SlotWrites.{slots-stay}

pub all_whole : (v : Version) (bytes list : List ℕ) → HasSectors v bytes list → list_all (is_whole_sector v bytes) list ≡ true
all_whole v bytes list whole = every (is_whole_sector v bytes) list
    (λ i lt. le-leb (sector_start v (slice_index list i) + sector_len v) (length bytes) (whole (slice_index list i) (Contains-get_or list i 0 lt)))

pub held-directory-is-read : HeldDirectoryIsRead
held-directory-is-read validation d h =
    let read = by-place validation (directory_version d) (directory_bytes d) d.sectors d.entries h.slots in
    let few = h.most in
    record {
      chain = subst (λ s. IsChain (directory_tables d).fat s d.sectors) (sym h.first) h.chain;
      some = h.some;
      whole = all_whole (directory_version d) (directory_bytes d) d.sectors h.whole;
      most = omega (arith, few, read.2);
      slots = read.0;
    }

counted_in : (v : Version) (number word n : ℕ) → number ≡ dir_sectors_of v word → IsStrictCount v word n → IsStrictCount v number n
counted_in V3 number word n e c = tt
counted_in V4 number word n e c = subst (λ x. n ≤ x) (sym e) c

pub held-directory-is-strict : HeldDirectoryIsStrict
held-directory-is-strict d h held is =
    let listed = held.tables.holds.listed in
    let version : h.version ≡ directory_version d = ap (λ (k : Header). k.version) (IsHeader-unique (directory_bytes d) h listed.header is listed.is_header) ∙ listed.same_version in
    let read = by-place Strict (directory_version d) (directory_bytes d) d.sectors d.entries held.slots in
    record {
      header = subst (λ w. IsStrictHeader w (directory_bytes d)) (sym version) held.strict_header;
      directory_count = subst (λ w. IsStrictCount w h.num_dir_sectors (length d.sectors)) (sym version)
          (counted_in (directory_version d) h.num_dir_sectors (word_at (directory_bytes d) 40) (length d.sectors)
          (subst (λ w. h.num_dir_sectors ≡ dir_sectors_of w (word_at (directory_bytes d) 40)) version is.num_dir_sectors) held.counted);
      entries = subst (λ w. AllZip (IsStrictEntry w) (slots w (directory_bytes d) d.sectors) d.entries) (sym version) read.1;
    }

pub directory-stays-held : DirectoryStaysHeld
directory-stays-held validation own d a h tables sizes spares apart count first =
    let v = directory_version d in
    let bytes = a.file.bytes in
    let longer = spares.no_shorter in
    let version = sym spares.same_version in
    let free : AreDisjoint d.sectors (table_sectors (directory_tables d)) = λ i m t.
    let none = held_no_tables validation d h i m in
    elim (Contains-append_cases (directory_tables d).fat_sectors (directory_tables d).difat_sectors i t) [ inl fat ↦ none.0 fat | inr difat ↦ none.1 difat ] in
    let stays = other-chains-spared own d.table a (first_or_end d.sectors) d.sectors spares h.chain apart free in
    let whole : HasSectors v bytes d.sectors = λ i m. (let w = h.whole i m in omega (arith, w, longer)) in
    record {
      tables = tables;
      sizes = sizes;
      chain = stays.0;
      some = h.some;
      whole = subst (λ w. HasSectors w bytes d.sectors) version whole;
      first = first ∙ h.first;
      slots = subst (λ w. HoldSlotsBut [] validation w bytes d.sectors d.entries) version
          (slots-stay [] validation v (directory_bytes d) bytes d.sectors d.entries h.slots h.whole stays.2);
      writable = subst (λ w. AreWritable w d.entries) version h.writable;
      most = h.most;
      counted = subst (λ w. IfStrict validation (IsStrictCount w (word_at bytes 40) (length d.sectors))) version
          (subst (λ n. IfStrict validation (IsStrictCount v n (length d.sectors))) (sym count) h.counted);
      strict_header = subst (λ w. IfStrict validation (IsStrictHeader w bytes)) version (strict_header_stays validation v (directory_bytes d) bytes count h.strict_header);
    }
