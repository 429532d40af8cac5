-- The calls by path and their replies.
use Rattle.std.specs.Prelude.{ℕ, List, Bool}
use Rattle.cfb_format.specs.declared.objtype.ObjType.{ObjType}
use Rattle.cfb_rules.specs.Refusal.{Refusal}

-- paths are lists of characters, moments and bits are numbers, a class id is 16 bytes
pub data Call : Type 0 where
  create_storage create_storage_all : (path : List ℕ) → (moment : ℕ) → Call
  create_stream create_new_stream open_stream open_read_stream : (path : List ℕ) → Call
  remove_storage remove_storage_all remove_stream : (path : List ℕ) → Call
  set_storage_clsid : (path : List ℕ) → (clsid : List ℕ) → Call
  set_state_bits : (path : List ℕ) → (bits : ℕ) → Call
  set_created_time set_modified_time touch : (path : List ℕ) → (moment : ℕ) → Call
  flush : Call
  exists is_stream is_storage : (path : List ℕ) → Call
  root_entry read_root_storage walk : Call
  entry read_storage walk_storage : (path : List ℕ) → Call

-- what is told of one object
pub record EntryInfo : Type 0 where
  pub name : List ℕ
  pub path : List ℕ
  pub obj_type : ObjType
  pub len : ℕ
  pub clsid : List ℕ
  pub state_bits : ℕ
  pub created : ℕ
  pub modified : ℕ

-- what a call answers
pub data Reply : Type 0 where
  done : Reply
  flag : Bool → Reply
  one_entry : EntryInfo → Reply
  entries : List EntryInfo → Reply
  refused : Refusal → Reply
