-- What is told of an entry of each kind.
use Rattle.std.proofs.Common.{◌≡◌, ℕ, List, [], ◌∷◌, ◌++◌, ap, refl, sym}
use Rattle.cfb_format.specs.declared.objtype.ObjType.{ObjType}
use Rattle.cfb_format.specs.declared.objtype.ObjType.TheVariants.{Storage, Stream, Root}
use Rattle.cfb_format.specs.DirectoryEntry.{Entry, name_for, nil_clsid, unless_storage, unless_stream, root_entry_name}
use Rattle.cfb_format.specs.Siblings.{entry_at}
use Rattle.cfb_format.specs.Reading.{Outline, no_more, storage_at, stream_at}
use Rattle.cfb_format.specs.Meaning.{storage_info, stream_info, objects_from}
use Rattle.cfb_format.specs.Path.{child_path}
use Rattle.cfb_rules.specs.Calls.{EntryInfo}
use Rattle.cfb_rules.specs.CallReplies.{storage_entry, stream_entry, listed, walked}
use Rattle.cfb_listing.specs.declared.listing.EntriesOrder.{EntriesOrder}
use Rattle.cfb_listing.specs.declared.listing.EntriesOrder.TheVariants.{Nonrecursive, Preorder}
use Rattle.cfb_listing.specs.Told.{entry_info}
use Rattle.cfb_listing.specs.Listings.{listed_by}

-- the same with another kind
abbrev told_as : List ℕ → Entry → ObjType → EntryInfo
told_as path e kind = record {
  name = name_for kind e.name;
  path = path;
  obj_type = kind;
  len = unless_storage kind e.stream_len;
  clsid = unless_stream kind nil_clsid e.clsid;
  state_bits = e.state_bits;
  created = unless_stream kind 0 e.creation_time;
  modified = unless_stream kind 0 e.modified_time;
}

pub storage-told : (path : List ℕ) (e : Entry) → e.obj_type ≡ Storage → entry_info path e ≡ storage_entry Storage 0 path e.name (storage_info e)
storage-told path e kind = ap (told_as path e) kind

pub stream-told : (path : List ℕ) (e : Entry) (content : Entry → List ℕ) → e.obj_type ≡ Stream → entry_info path e ≡ stream_entry path e.name (stream_info content e)
stream-told path e content kind = ap (told_as path e) kind

pub root-told : (path : List ℕ) (e : Entry) → e.obj_type ≡ Root → entry_info path e ≡ storage_entry Root e.stream_len path root_entry_name (storage_info e)
root-told path e kind = ap (told_as path e) kind

-- ---- what streams hold does not count

pub listed-same : (es : List Entry) (a b : Entry → List ℕ) (o : Outline) (path : List ℕ) → listed path (objects_from es a o) ≡ listed path (objects_from es b o)
unfolding objects_from
listed-same es a b no_more path = refl
listed-same es a b (storage_at i inside rest) path =
    ap (λ list. storage_entry Storage 0 (child_path path (entry_at es i).name) (entry_at es i).name (storage_info (entry_at es i)) ∷ list) (listed-same es a b rest path)
listed-same es a b (stream_at i rest) path =
    ap (λ list. stream_entry (child_path path (entry_at es i).name) (entry_at es i).name (stream_info b (entry_at es i)) ∷ list) (listed-same es a b rest path)

pub walked-same : (es : List Entry) (a b : Entry → List ℕ) (o : Outline) (path : List ℕ) → walked path (objects_from es a o) ≡ walked path (objects_from es b o)
unfolding objects_from
walked-same es a b no_more path = refl
walked-same es a b (storage_at i inside rest) path =
    let below = child_path path (entry_at es i).name in
    let deeper = walked-same es a b inside below in
    let later = walked-same es a b rest path in
    λ k. storage_entry Storage 0 below (entry_at es i).name (storage_info (entry_at es i)) ∷ deeper k ++ later k
walked-same es a b (stream_at i rest) path =
    ap (λ list. stream_entry (child_path path (entry_at es i).name) (entry_at es i).name (stream_info b (entry_at es i)) ∷ list) (walked-same es a b rest path)

-- ---- the first of what is listed in a storage

module _ (es : List Entry) (content : Entry → List ℕ) (path : List ℕ) (i : ℕ) where
  pub stream-listed : (order : EntriesOrder) (rest : Outline) → (entry_at es i).obj_type ≡ Stream
      → listed_by order path (objects_from es content (stream_at i rest))
      ≡ entry_info (child_path path (entry_at es i).name) (entry_at es i) ∷ listed_by order path (objects_from es content rest)
  unfolding objects_from
  stream-listed Nonrecursive rest kind =
      ap (λ x. x ∷ listed path (objects_from es content rest)) (sym (stream-told (child_path path (entry_at es i).name) (entry_at es i) content kind))
  stream-listed Preorder rest kind =
      ap (λ x. x ∷ walked path (objects_from es content rest)) (sym (stream-told (child_path path (entry_at es i).name) (entry_at es i) content kind))

  pub storage-listed : (inside rest : Outline) → (entry_at es i).obj_type ≡ Storage
      → listed_by Nonrecursive path (objects_from es content (storage_at i inside rest))
      ≡ entry_info (child_path path (entry_at es i).name) (entry_at es i) ∷ listed_by Nonrecursive path (objects_from es content rest)
  unfolding objects_from
  storage-listed inside rest kind =
      ap (λ x. x ∷ listed path (objects_from es content rest)) (sym (storage-told (child_path path (entry_at es i).name) (entry_at es i) kind))

  pub storage-walked : (inside rest : Outline) → (entry_at es i).obj_type ≡ Storage
      → listed_by Preorder path (objects_from es content (storage_at i inside rest))
      ≡ entry_info (child_path path (entry_at es i).name) (entry_at es i)
      ∷ (walked (child_path path (entry_at es i).name) (objects_from es content inside) ++ walked path (objects_from es content rest))
  unfolding objects_from
  storage-walked inside rest kind =
      ap (λ x. x ∷ (walked (child_path path (entry_at es i).name) (objects_from es content inside) ++ walked path (objects_from es content rest)))
      (sym (storage-told (child_path path (entry_at es i).name) (entry_at es i) kind))

pub none-listed : (es : List Entry) (content : Entry → List ℕ) (order : EntriesOrder) (path : List ℕ) → listed_by order path (objects_from es content no_more) ≡ []
unfolding objects_from
none-listed es content Nonrecursive path = refl
none-listed es content Preorder path = refl
