-- What the fields of a slot of the directory can be.
use Rattle.std.proofs.Common.{List, arith, mod-lt, ℕ, ◌%◌, ◌<◌, ◌≤◌, ap, subst, ◌∙◌, ◌≡◌, [], length, length-append, ◌*◌, ◌∷◌}
use Rattle.std.specs.Prelude.{flat_map}
use Rattle.std.proofs.lemmas.List.FromFn.{length-map-range_with_len}
use Rattle.cfb_format.specs.declared.version.Version.TheVariants.{V3, V4}
use Rattle.cfb_format.specs.declared.version.Version.{Version}
use Rattle.cfb_format.specs.Bytes.{long_at, max_stream_len, stream_len_modulus, entries_per_sector, sector_bytes}
use Rattle.cfb_format.specs.DirectoryEntry.{stored_len, unless_storage, IsAllowedName, name_for, slot_at, slots, slots_of_sector}
use Rattle.cfb_format.specs.declared.objtype.ObjType.{ObjType}
use Rattle.cfb_format.specs.declared.objtype.ObjType.TheVariants.{Root, Storage, Stream, Unallocated}

pub stored_short : (v : Version) (slot : List ℕ) → stored_len v slot ≤ max_stream_len v
stored_short V3 slot = let low : long_at slot 120 % 0x1_0000_0000 < 0x1_0000_0000 = mod-lt (long_at slot 120) (omega arith) in omega (arith, low)
stored_short V4 slot = let low : long_at slot 120 % 0x1_0000_0000_0000_0000 < 0x1_0000_0000_0000_0000 = mod-lt (long_at slot 120) (omega arith) in omega (arith, low)

pub read_short : (kind : ObjType) (n most : ℕ) → n ≤ most → unless_storage kind n ≤ most
read_short Unallocated n most h = h
read_short Storage n most h = omega arith
read_short Stream n most h = h
read_short Root n most h = h

pub stored_free : (kind t : ObjType) (name stored : List ℕ) → t ≡ kind → name ≡ name_for t stored → IsAllowedName t stored → (name ≡ name_for kind stored) × IsAllowedName kind stored
stored_free kind t name stored is named allowed = (named ∙ ap (λ (k : ObjType). name_for k stored) is, subst (λ (k : ObjType). IsAllowedName k stored) is allowed)

pub in-version : (version : Version) (n : ℕ) → n ≤ max_stream_len version → n < stream_len_modulus version
in-version V3 n most = omega (arith, most)
in-version V4 n most = omega (arith, most)

pub length-slots : (v : Version) (bytes list : List ℕ) → length (slots v bytes list) ≡ length list * entries_per_sector v
unfolding slots
length-slots v bytes [] = omega arith
length-slots v bytes (i ∷ list) =
    let one : length (slots_of_sector v bytes i) ≡ entries_per_sector v = length-map-range_with_len (slot_at (sector_bytes v bytes i)) 0 (entries_per_sector v) in
    let both = length-append (slots_of_sector v bytes i) (flat_map (slots_of_sector v bytes) list) in
    let more = length-slots v bytes list in
    omega (arith, one, both, more)
