-- The root's entry with the start and the length of another mini stream.
use Rattle.std.proofs.Common.{◌≡◌, ◌<◌, ◌≤◌, ◌*◌, ℕ, refl, sym, subst, arith}
use Rattle.cfb_format.specs.declared.version.Version.{Version}
use Rattle.cfb_format.specs.declared.version.Version.TheVariants.{V3, V4}
use Rattle.cfb_format.specs.declared.objtype.ObjType.{ObjType}
use Rattle.cfb_format.specs.declared.objtype.ObjType.TheVariants.{Root}
use Rattle.cfb_format.specs.Bytes.{stream_len_modulus}
use Rattle.cfb_format.specs.Content.{mini_sector_len}
use Rattle.cfb_format.specs.DirectoryEntry.{Entry, IsValidEntry, unless_storage}
use Rattle.cfb_format.specs.Full.{max_mini_sectors}

-- so many mini sectors have a length of the version
pub len-in-version : (v : Version) (n : ℕ) → n ≤ max_mini_sectors v → mini_sector_len * n < stream_len_modulus v
len-in-version V3 n few = omega (arith, few)
len-in-version V4 n few = omega (arith, few)

pub root-valid : (v : Version) (e : Entry) (start n : ℕ) → e.obj_type ≡ Root → IsValidEntry v e → n ≤ max_mini_sectors v
    → IsValidEntry v (record e { start_sector = start; stream_len = mini_sector_len * n })
root-valid v e start n root valid few = record {
  name = valid.name;
  left_sibling = valid.left_sibling;
  right_sibling = valid.right_sibling;
  child = valid.child;
  clsid = valid.clsid;
  creation_time = valid.creation_time;
  modified_time = valid.modified_time;
  start_sector = subst (λ (t : ObjType). start ≡ unless_storage t start) (sym root) refl;
  stream_len = subst (λ (t : ObjType). mini_sector_len * n ≡ unless_storage t (mini_sector_len * n)) (sym root) refl;
  len_in_version = len-in-version v n few;
}
