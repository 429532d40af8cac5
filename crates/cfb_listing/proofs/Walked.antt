-- An object and all that is in it, by its kind.
use Rattle.std.proofs.Common.{◌≡◌, ℕ, List, [], ◌∷◌, Bool, true, false, sym, ◌∙◌, ap}
use Rattle.cfb_format.specs.declared.objtype.ObjType.{ObjType}
use Rattle.cfb_format.specs.declared.objtype.ObjType.TheVariants.{Storage, Stream, Root}
use Rattle.cfb_format.specs.DirectoryEntry.{Entry}
use Rattle.cfb_format.specs.Siblings.{entry_at}
use Rattle.cfb_format.specs.Meaning.{objects_from}
use Rattle.cfb_rules.specs.Calls.{EntryInfo}
use Rattle.cfb_rules.specs.CallReplies.{walked}
use Rattle.cfb_outline.specs.Families.{is_stream_kind}
use Rattle.cfb_listing.specs.Told.{entry_info}
use Rattle.cfb_listing.specs.Listings.{OfInside, Walks}
use Rattle.cfb_listing.proofs.Telling.{storage-told, stream-told, root-told}

other-kind : (t s : ObjType) (b : Bool) → is_stream_kind t ≡ b → t ≡ s → is_stream_kind s ≡ b
other-kind t s b e is = sym (ap is_stream_kind is) ∙ e

pub walks-stream : (es : List Entry) (path : List ℕ) (k : ℕ) (list : List EntryInfo) → is_stream_kind (entry_at es k).obj_type ≡ true → list ≡ entry_info path (entry_at es k) ∷ []
    → Walks es path k list
walks-stream es path k list stream is = record {
  storage = λ kind. let bad = other-kind (entry_at es k).obj_type Storage true stream kind in cc;
  stream = λ kind content. is ∙ ap (λ x. x ∷ []) (stream-told path (entry_at es k) content kind);
  root = λ kind. let bad = other-kind (entry_at es k).obj_type Root true stream kind in cc;
}

pub walks-inside : (es : List Entry) (path : List ℕ) (k : ℕ) (list : List EntryInfo) → is_stream_kind (entry_at es k).obj_type ≡ false
    → OfInside es k (λ objects. list ≡ entry_info path (entry_at es k) ∷ walked path objects)
    → Walks es path k list
walks-inside es path k list other is = record {
  storage = λ kind cases inside content has. is cases inside content has ∙ ap (λ x. x ∷ walked path (objects_from es content inside)) (storage-told path (entry_at es k) kind);
  stream = λ kind content. let bad = other-kind (entry_at es k).obj_type Stream false other kind in cc;
  root = λ kind cases inside content has. is cases inside content has ∙ ap (λ x. x ∷ walked path (objects_from es content inside)) (root-told path (entry_at es k) kind);
}
