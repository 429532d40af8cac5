-- An entry that was read from a slot and is in use can be written into a slot.
use Rattle.std.proofs.Common.{◌≡◌, ◌≢◌, ℕ, ◌≤◌, List, false, length, refl, subst, sym}
use Rattle.std.specs.Prelude.{IsTrue}
use Rattle.std.specs.List.{list_any}
use Rattle.std.proofs.lemmas.Bool.{le-leb}
use Rattle.cfb_format.specs.declared.objtype.ObjType.{ObjType}
use Rattle.cfb_format.specs.declared.objtype.ObjType.TheVariants.{Root, Storage, Stream, Unallocated}
use Rattle.cfb_format.specs.declared.validate.Validation.{Validation}
use Rattle.cfb_format.specs.declared.version.Version.{Version}
use Rattle.cfb_format.specs.Bytes.{max_stream_len}
use Rattle.cfb_format.specs.DirectoryEntry.{Entry, IsAllowedChild, IsAllowedName, IsEntry, IsNameFor, IsValidEntry, is_entry_link, name_for, nil_clsid, stored_name, unless_storage, unless_stream}
use Rattle.cfb_format.specs.Names.{is_forbidden_character, is_valid_name, max_name_len, utf16_units}
use Rattle.cfb_format.specs.Siblings.{entry_at}
use Rattle.cfb_opening.specs.cfb_directory.State.{AreWritable}
use Rattle.cfb_reading.specs.ReadDirectory.{AreFromSlots}
use Rattle.cfb_format.proofs.Slots.{in-version}

valid-name : (name : List ℕ) → length (utf16_units name) ≤ max_name_len → list_any is_forbidden_character name ≡ false → IsTrue (is_valid_name name)
valid-name name short allowed = rw (le-leb (length (utf16_units name)) max_name_len short, allowed) refl

named : (kind : ObjType) (name stored : List ℕ) → kind ≢ Unallocated → name ≡ name_for kind stored → IsAllowedName kind stored → length (utf16_units name) ≤ max_name_len
    → IsNameFor kind name
named Unallocated name stored used is allowed short = absurd (used refl)
named Storage name stored used is allowed short = valid-name name short (subst (λ (n : List ℕ). list_any is_forbidden_character n ≡ false) (sym is) allowed)
named Stream name stored used is allowed short = valid-name name short (subst (λ (n : List ℕ). list_any is_forbidden_character n ≡ false) (sym is) allowed)
named Root name stored used is allowed short = is

stream-kept : {X : Type 0} (kind : ObjType) (none x y : X) → y ≡ unless_stream kind none x → y ≡ unless_stream kind none y
stream-kept Unallocated none x y is = refl
stream-kept Storage none x y is = refl
stream-kept Stream none x y is = is
stream-kept Root none x y is = refl

storage-kept : (kind : ObjType) (x y : ℕ) → y ≡ unless_storage kind x → y ≡ unless_storage kind y
storage-kept Unallocated x y is = refl
storage-kept Storage x y is = is
storage-kept Stream x y is = refl
storage-kept Root x y is = refl

valid : (version : Version) (slot : List ℕ) (e : Entry) → IsEntry version slot e → length (utf16_units e.name) ≤ max_name_len
    → e.stream_len ≤ max_stream_len version → e.obj_type ≢ Unallocated → IsValidEntry version e
valid version slot e is short most used = record {
  name = named e.obj_type e.name (stored_name slot) used is.name is.name_allowed short;
  left_sibling = subst (λ n. IsTrue (is_entry_link n)) (sym is.left_sibling) is.left_allowed;
  right_sibling = subst (λ n. IsTrue (is_entry_link n)) (sym is.right_sibling) is.right_allowed;
  child = subst (λ n. IsAllowedChild e.obj_type n) (sym is.child) is.child_allowed;
  clsid = stream-kept e.obj_type nil_clsid _ e.clsid is.clsid;
  creation_time = stream-kept e.obj_type 0 _ e.creation_time is.creation_time;
  modified_time = stream-kept e.obj_type 0 _ e.modified_time is.modified_time;
  start_sector = storage-kept e.obj_type _ e.start_sector is.start_sector;
  stream_len = storage-kept e.obj_type _ e.stream_len is.stream_len;
  len_in_version = in-version version e.stream_len most;
}

pub slots-are-writable : (validation : Validation) (version : Version) (entries : List Entry) → AreFromSlots validation version entries → AreWritable version entries
slots-are-writable validation version entries from k inside used =
    let slot = from.slot k inside in
    (slot.1.fits, valid version slot.0 (entry_at entries k) slot.1.accepted.entry slot.1.name (from.stream_len k inside) used)
