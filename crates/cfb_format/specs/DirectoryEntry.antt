-- Directory entries, 128 bytes each (MS-CFB 2.6.1 to 2.6.3).
use Rattle.std.specs.Prelude.{ℕ, zero, suc, ◌+◌, ◌-◌, ◌*◌, ◌/◌, ◌%◌, ◌≡◌, ◌<◌, ◌≤◌, ◌^◌, List, [], ◌∷◌, ◌++◌, Bool, true, false, ◌||◌, length, take, drop, map, reverse, replicate, IsTrue, Option, Some, None, codes, if◌then◌else◌, ◌==◌, ⊤}
use Rattle.std.specs.Int.{from_le_bytes, to_le_bytes, w16, w32, w64}
use Rattle.std.specs.List.{list_any, flat_map, range_with_len}
use Rattle.std.specs.Char.Utf16.{has_unpaired_surrogate, utf16_lossy_chars}
use Rattle.cfb_format.specs.declared.version.Version.{Version}
use Rattle.cfb_format.specs.declared.validate.Validation.{Validation}
use Rattle.cfb_format.specs.declared.objtype.ObjType.{ObjType}
use Rattle.cfb_format.specs.declared.objtype.ObjType.TheVariants.{Unallocated, Storage, Stream, Root}
use Rattle.cfb_format.specs.declared.color.Color.{Color}
use Rattle.cfb_format.specs.declared.color.Color.TheVariants.{Red, Black}
use Rattle.cfb_format.specs.Bytes.{byte_at, unit_bytes, unit_at, word_at, long_at, stream_len_modulus, sector_bytes, entries_per_sector, is_regular, no_stream, end_of_chain}
use Rattle.std.specs.Str.{all_scalars}
use Rattle.cfb_format.specs.Names.{utf16_units, is_forbidden_character, is_valid_name}
use Rattle.cfb_format.specs.Header.{IfStrict}

pub record Entry : Type 0 where
  pub name : List ℕ
  pub obj_type : ObjType
  pub color : Color
  -- numbers of entries, or `no_stream`
  pub left_sibling : ℕ
  pub right_sibling : ℕ
  pub child : ℕ
  -- the 16 bytes of the class id, in the order in which its text is written
  pub clsid : List ℕ
  pub state_bits : ℕ
  pub creation_time : ℕ
  pub modified_time : ℕ
  pub start_sector : ℕ
  pub stream_len : ℕ

abbrev pub nil_clsid : List ℕ
nil_clsid = replicate 16 0

-- ---- the fields, as they stand

abbrev pub obj_type_of : ℕ → Option ObjType
obj_type_of byte =
    if byte == 0 then Some Unallocated
    else if byte == 1 then Some Storage
    else if byte == 2 then Some Stream
    else if byte == 5 then Some Root
    else None

abbrev pub color_of : ℕ → Option Color
color_of byte = if byte == 0 then Some Red else if byte == 1 then Some Black else None

-- the first k units of 2 bytes
unfoldable pub units : ℕ → List ℕ → List ℕ
units zero bytes = []
units (suc k) bytes = from_le_bytes w16 bytes ∷ units k (drop 2 bytes)

-- how many units the name has: the stored length counts bytes, the terminator's with them, and 0 is the empty name too
abbrev pub name_unit_count : List ℕ → ℕ
name_unit_count slot = unit_at slot 64 / 2 - 1

abbrev pub stored_units : List ℕ → List ℕ
stored_units slot = units (name_unit_count slot) slot

-- the characters that the units spell
abbrev pub stored_name : List ℕ → List ℕ
stored_name slot = utf16_lossy_chars (stored_units slot)

abbrev pub root_entry_name : List ℕ
root_entry_name = codes "Root Entry"

-- a u32, two u16, all of them little-endian, and 8 bytes
abbrev pub stored_clsid : List ℕ → List ℕ
stored_clsid slot = reverse (take 4 (drop 80 slot)) ++ reverse (take 2 (drop 84 slot)) ++ reverse (take 2 (drop 86 slot)) ++ take 8 (drop 88 slot)

abbrev pub stored_len : Version → List ℕ → ℕ
stored_len version slot = long_at slot 120 % stream_len_modulus version

-- ---- the fields, as they are read: what an object of that type can't have counts as not there

abbrev pub name_for : ObjType → List ℕ → List ℕ
name_for Root name = root_entry_name
name_for other name = name

-- class id and moments are a storage's, and the root's
abbrev pub unless_stream : {X : Type 0} → ObjType → X → X → X
unless_stream Stream none x = none
unless_stream other none x = x

-- start and length are a stream's, and the root's
abbrev pub unless_storage : ObjType → ℕ → ℕ
unless_storage Storage n = 0
unless_storage other n = n

-- every name but the root's has none of the forbidden characters
abbrev pub IsAllowedName : ObjType → List ℕ → Type 0
IsAllowedName Root name = ⊤
IsAllowedName Unallocated name = list_any is_forbidden_character name ≡ false
IsAllowedName Storage name = list_any is_forbidden_character name ≡ false
IsAllowedName Stream name = list_any is_forbidden_character name ≡ false

abbrev pub is_entry_link : ℕ → Bool
is_entry_link word = is_regular word || word == no_stream

-- a stream has no child
abbrev pub IsAllowedChild : ObjType → ℕ → Type 0
IsAllowedChild Stream child = child ≡ no_stream
IsAllowedChild other child = IsTrue (is_entry_link child)

-- e is what the 128 bytes of a slot hold
pub record IsEntry (version : Version) (slot : List ℕ) (e : Entry) : Type 0 where
  pub name_len : unit_at slot 64 ≤ 64
  pub name_len_even : unit_at slot 64 % 2 ≡ 0
  pub name_is_text : has_unpaired_surrogate (stored_units slot) ≡ false
  pub obj_type : obj_type_of (byte_at slot 66) ≡ Some e.obj_type
  pub color : color_of (byte_at slot 67) ≡ Some e.color
  pub name : e.name ≡ name_for e.obj_type (stored_name slot)
  pub name_allowed : IsAllowedName e.obj_type (stored_name slot)
  pub left_sibling : e.left_sibling ≡ word_at slot 68
  pub left_allowed : IsTrue (is_entry_link (word_at slot 68))
  pub right_sibling : e.right_sibling ≡ word_at slot 72
  pub right_allowed : IsTrue (is_entry_link (word_at slot 72))
  pub child : e.child ≡ word_at slot 76
  pub child_allowed : IsAllowedChild e.obj_type (word_at slot 76)
  pub clsid : e.clsid ≡ unless_stream e.obj_type nil_clsid (stored_clsid slot)
  pub state_bits : e.state_bits ≡ word_at slot 96
  pub creation_time : e.creation_time ≡ unless_stream e.obj_type 0 (long_at slot 100)
  pub modified_time : e.modified_time ≡ unless_stream e.obj_type 0 (long_at slot 108)
  pub start_sector : e.start_sector ≡ unless_storage e.obj_type (word_at slot 116)
  pub stream_len : e.stream_len ≡ unless_storage e.obj_type (stored_len version slot)

-- strict opening also wants the name's terminator, and each field that was read otherwise to stand as it is read
pub record IsStrictEntry (version : Version) (slot : List ℕ) (e : Entry) : Type 0 where
  pub terminator : unit_at slot (2 * name_unit_count slot) ≡ 0
  pub name : e.name ≡ stored_name slot
  pub clsid : e.clsid ≡ stored_clsid slot
  pub creation_time : e.creation_time ≡ long_at slot 100
  pub modified_time : e.modified_time ≡ long_at slot 108
  pub start_sector : e.start_sector ≡ word_at slot 116
  pub stream_len : e.stream_len ≡ stored_len version slot

-- opening in this mode takes the slot for this entry
pub record AcceptsEntry (validation : Validation) (version : Version) (slot : List ℕ) (e : Entry) : Type 0 where
  pub entry : IsEntry version slot e
  pub strict : IfStrict validation (IsStrictEntry version slot e)

-- ---- the directory: the slots of its sectors

-- the slots of one sector
abbrev pub slot_at : List ℕ → ℕ → List ℕ
slot_at bytes i = take 128 (drop (128 * i) bytes)

abbrev pub slots_of_sector : Version → List ℕ → ℕ → List (List ℕ)
slots_of_sector version bytes i = map (slot_at (sector_bytes version bytes i)) (range_with_len 0 (entries_per_sector version))

-- all slots of the directory's sectors, in order
unfoldable pub slots : Version → List ℕ → List ℕ → List (List ℕ)
slots version bytes directory = flat_map (slots_of_sector version bytes) directory

-- ---- writing

abbrev pub obj_type_byte : ObjType → ℕ
obj_type_byte Unallocated = 0
obj_type_byte Storage = 1
obj_type_byte Stream = 2
obj_type_byte Root = 5

abbrev pub color_byte : Color → ℕ
color_byte Red = 0
color_byte Black = 1

-- the terminator counts, but an unallocated entry has none
abbrev pub written_name_len : ObjType → List ℕ → ℕ
written_name_len Unallocated name = 0
written_name_len Storage name = 2 * (length (utf16_units name) + 1)
written_name_len Stream name = 2 * (length (utf16_units name) + 1)
written_name_len Root name = 2 * (length (utf16_units name) + 1)

abbrev pub written_clsid : List ℕ → List ℕ
written_clsid clsid = reverse (take 4 clsid) ++ reverse (take 2 (drop 4 clsid)) ++ reverse (take 2 (drop 6 clsid)) ++ drop 8 clsid

-- the 128 bytes of an entry
unfoldable pub entry_bytes : Entry → List ℕ
entry_bytes e = unit_bytes (utf16_units e.name) ++ replicate (64 - 2 * length (utf16_units e.name)) 0
    ++ to_le_bytes w16 (written_name_len e.obj_type e.name)
    ++ obj_type_byte e.obj_type ∷ color_byte e.color ∷ []
    ++ to_le_bytes w32 e.left_sibling ++ to_le_bytes w32 e.right_sibling ++ to_le_bytes w32 e.child
    ++ written_clsid e.clsid ++ to_le_bytes w32 e.state_bits
    ++ to_le_bytes w64 e.creation_time ++ to_le_bytes w64 e.modified_time
    ++ to_le_bytes w32 e.start_sector ++ to_le_bytes w64 e.stream_len

-- the names that an object of that kind may be given; the root has its own, and what isn't used has none
abbrev pub IsNameFor : ObjType → List ℕ → Type 0
IsNameFor Unallocated name = name ≡ []
IsNameFor Storage name = IsTrue (is_valid_name name)
IsNameFor Stream name = IsTrue (is_valid_name name)
IsNameFor Root name = name ≡ root_entry_name

-- an entry that is read back as it was written: its fields are those that its kind may have in that version
pub record IsValidEntry (version : Version) (e : Entry) : Type 0 where
  pub name : IsNameFor e.obj_type e.name
  pub left_sibling : IsTrue (is_entry_link e.left_sibling)
  pub right_sibling : IsTrue (is_entry_link e.right_sibling)
  pub child : IsAllowedChild e.obj_type e.child
  pub clsid : e.clsid ≡ unless_stream e.obj_type nil_clsid e.clsid
  pub creation_time : e.creation_time ≡ unless_stream e.obj_type 0 e.creation_time
  pub modified_time : e.modified_time ≡ unless_stream e.obj_type 0 e.modified_time
  pub start_sector : e.start_sector ≡ unless_storage e.obj_type e.start_sector
  pub stream_len : e.stream_len ≡ unless_storage e.obj_type e.stream_len
  pub len_in_version : e.stream_len < stream_len_modulus version

-- its fields have their widths, and its name is of characters
pub record EntryFits (e : Entry) : Type 0 where
  pub name : all_scalars e.name ≡ true
  pub left_sibling : e.left_sibling < 2 ^ 32
  pub right_sibling : e.right_sibling < 2 ^ 32
  pub child : e.child < 2 ^ 32
  pub clsid : length e.clsid ≡ 16
  pub state_bits : e.state_bits < 2 ^ 32
  pub creation_time : e.creation_time < 2 ^ 64
  pub modified_time : e.modified_time < 2 ^ 64
  pub start_sector : e.start_sector < 2 ^ 32
  pub stream_len : e.stream_len < 2 ^ 64

-- an entry that isn't used, and the root of a file that was just made
abbrev pub unallocated_entry : Entry
unallocated_entry = record {
  name = [];
  obj_type = Unallocated;
  color = Red;
  left_sibling = no_stream;
  right_sibling = no_stream;
  child = no_stream;
  clsid = nil_clsid;
  state_bits = 0;
  creation_time = 0;
  modified_time = 0;
  start_sector = 0;
  stream_len = 0;
}

abbrev pub empty_root_entry : Entry
empty_root_entry = record {
  name = root_entry_name;
  obj_type = Root;
  color = Black;
  left_sibling = no_stream;
  right_sibling = no_stream;
  child = no_stream;
  clsid = nil_clsid;
  state_bits = 0;
  creation_time = 0;
  modified_time = 0;
  start_sector = end_of_chain;
  stream_len = 0;
}

-- but for its start and its length an entry stays
abbrev pub ButContent : Entry → Entry → Type 0
ButContent old new = new ≡ record old { start_sector = new.start_sector; stream_len = new.stream_len }
