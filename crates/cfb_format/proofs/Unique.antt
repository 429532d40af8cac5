-- Bytes have at most one reading, and so they mean at most one tree.
use Rattle.std.proofs.Common.{◌≡◌, ℕ, List, [], ◌∷◌, true, false, refl, sym, ◌∙◌, ap, subst, take, arith}
use Rattle.std.specs.Prelude.{slice_index, Some, unwrap_or, ◌==◌, ◌/◌}
use Rattle.std.specs.List.{AllZip}
use Rattle.cfb_format.specs.declared.version.Version.{Version}
use Rattle.cfb_format.specs.declared.version.Version.TheVariants.{V3, V4}
use Rattle.cfb_format.specs.declared.objtype.ObjType.{ObjType}
use Rattle.cfb_format.specs.declared.objtype.ObjType.TheVariants.{Storage, Stream}
use Rattle.cfb_format.specs.Bytes.{word_at, long_at, version_number, free_sector}
use Rattle.cfb_format.specs.declared.header.Header.{Header}
use Rattle.cfb_format.specs.Header.{IsHeader, dir_sectors_of}
use Rattle.cfb_format.specs.Fat.{FollowsDifat, IsDifat, IsFat, next_difat, without_end, without_padding, all_difat_entries}
use Rattle.cfb_format.specs.Chain.{Follows, IsChain}
use Rattle.cfb_format.specs.Names.{Cases}
use Rattle.cfb_format.specs.DirectoryEntry.{Entry, IsEntry, name_for, unless_stream, unless_storage, stored_name, stored_clsid, stored_len, nil_clsid, slots}
use Rattle.cfb_format.specs.Siblings.{SiblingTree, leaf, node, HangsAt, in_order, Below, entry_at}
use Rattle.cfb_format.specs.Reading.{Reading, Reads, Outline, no_more, storage_at, stream_at, root_entry, siblings, HasContents, IsOutline, IsDirectory, IsMinifat, minifat_words}
use Rattle.cfb_format.specs.Tree.{Tree}
use Rattle.cfb_format.specs.Meaning.{Means, tree_of}

-- ---- lists and options

pub same_some : {A : Type 0} (x y : A) → Some x ≡ Some y → x ≡ y
same_some x y e = ap (λ o. unwrap_or o x) e

head_or : {A : Type 0} → A → List A → A
head_or d [] = d
head_or d (x ∷ xs) = x

tail_of : {A : Type 0} → List A → List A
tail_of [] = []
tail_of (x ∷ xs) = xs

same_head : {A : Type 0} (x y : A) (xs ys : List A) → x ∷ xs ≡ y ∷ ys → x ≡ y
unfolding head_or
same_head x y xs ys e = ap (head_or x) e

same_tail : {A : Type 0} (x y : A) (xs ys : List A) → x ∷ xs ≡ y ∷ ys → xs ≡ ys
unfolding tail_of
same_tail x y xs ys e = ap tail_of e

-- ---- chains

-- there is at most one chain from a start
pub Follows-unique : (table : List ℕ) (s : ℕ) (xs ys : List ℕ) → Follows table s xs → Follows table s ys → xs ≡ ys
Follows-unique table s [] [] a b = refl
Follows-unique table s [] (y ∷ ys) a b = absurd (b.1 a)
Follows-unique table s (x ∷ xs) [] a b = absurd (a.1 b)
Follows-unique table s (x ∷ xs) (y ∷ ys) a b =
    let e : x ≡ y = sym a.0 ∙ b.0 in
    λ i. e i ∷ Follows-unique table (slice_index table x) xs ys a.3 (subst (λ k. Follows table (slice_index table k) ys) (sym e) b.3) i

pub IsChain-unique : (table : List ℕ) (s : ℕ) (xs ys : List ℕ) → IsChain table s xs → IsChain table s ys → xs ≡ ys
IsChain-unique table s xs ys a b = Follows-unique table s xs ys a.follows b.follows

pub FollowsDifat-unique : (v : Version) (bytes : List ℕ) (s : ℕ) (xs ys : List ℕ) → FollowsDifat v bytes s xs → FollowsDifat v bytes s ys → xs ≡ ys
FollowsDifat-unique v bytes s [] [] a b = refl
FollowsDifat-unique v bytes s [] (y ∷ ys) a b = let e : true ≡ false = sym a ∙ b.1 in cc
FollowsDifat-unique v bytes s (x ∷ xs) [] a b = let e : true ≡ false = sym b ∙ a.1 in cc
FollowsDifat-unique v bytes s (x ∷ xs) (y ∷ ys) a b =
    let e : x ≡ y = sym a.0 ∙ b.0 in
    λ i. e i ∷ FollowsDifat-unique v bytes (next_difat v bytes x) xs ys a.4 (subst (λ k. FollowsDifat v bytes (next_difat v bytes k) ys) (sym e) b.4) i

-- ---- header, DIFAT and FAT

pub version_unique : (v w : Version) → version_number v ≡ version_number w → v ≡ w
version_unique V3 V3 e = refl
version_unique V3 V4 e = absurd (omega arith)
version_unique V4 V3 e = absurd (omega arith)
version_unique V4 V4 e = refl

pub IsHeader-unique : (bytes : List ℕ) (h k : Header) → IsHeader bytes h → IsHeader bytes k → h ≡ k
IsHeader-unique bytes h k a b =
    let v : h.version ≡ k.version = version_unique h.version k.version (sym a.fixed.major_version ∙ b.fixed.major_version) in
    λ i. record {
      version = v i;
      num_dir_sectors = (a.num_dir_sectors ∙ ap (λ w. dir_sectors_of w (word_at bytes 40)) v ∙ sym b.num_dir_sectors) i;
      num_fat_sectors = (a.num_fat_sectors ∙ sym b.num_fat_sectors) i;
      first_dir_sector = (a.first_dir_sector ∙ sym b.first_dir_sector) i;
      first_minifat_sector = (a.first_minifat_sector ∙ sym b.first_minifat_sector) i;
      num_minifat_sectors = (a.num_minifat_sectors ∙ sym b.num_minifat_sectors) i;
      first_difat_sector = (a.first_difat_sector ∙ sym b.first_difat_sector) i;
      num_difat_sectors = (a.num_difat_sectors ∙ sym b.num_difat_sectors) i;
      initial_difat_entries = (a.difat ∙ sym b.difat) i;
    }

own-unique : (bytes : List ℕ) (h : Header) (list list' own own' : List ℕ) → IsDifat bytes h list own → IsDifat bytes h list' own' → own ≡ own'
own-unique bytes h list list' own own' a b = FollowsDifat-unique h.version bytes h.first_difat_sector own own' a.sectors b.sectors

pub IsDifat-unique : (bytes : List ℕ) (h : Header) (list list' own own' : List ℕ) → IsDifat bytes h list own → IsDifat bytes h list' own'
    → (list ≡ list') × (own ≡ own')
IsDifat-unique bytes h list list' own own' a b =
    let owns = own-unique bytes h list list' own own' a b in (
      a.entries ∙ ap (λ o. without_end (λ word. word == free_sector) (without_padding h (all_difat_entries h bytes o))) owns ∙ sym b.entries,
      owns,
    )

pub IsFat-unique : (v : Version) (bytes list own fat fat' : List ℕ) → IsFat v bytes list own fat → IsFat v bytes list own fat' → fat ≡ fat'
IsFat-unique v bytes list own fat fat' a b = a.values ∙ sym b.values

-- ---- entries

pub IsEntry-unique : (v : Version) (slot : List ℕ) (d e : Entry) → IsEntry v slot d → IsEntry v slot e → d ≡ e
IsEntry-unique v slot d e a b =
    let t : d.obj_type ≡ e.obj_type = same_some d.obj_type e.obj_type (sym a.obj_type ∙ b.obj_type) in
    λ i. record {
      name = (a.name ∙ ap (λ k. name_for k (stored_name slot)) t ∙ sym b.name) i;
      obj_type = t i;
      color = same_some d.color e.color (sym a.color ∙ b.color) i;
      left_sibling = (a.left_sibling ∙ sym b.left_sibling) i;
      right_sibling = (a.right_sibling ∙ sym b.right_sibling) i;
      child = (a.child ∙ sym b.child) i;
      clsid = (a.clsid ∙ ap (λ k. unless_stream k nil_clsid (stored_clsid slot)) t ∙ sym b.clsid) i;
      state_bits = (a.state_bits ∙ sym b.state_bits) i;
      creation_time = (a.creation_time ∙ ap (λ k. unless_stream k 0 (long_at slot 100)) t ∙ sym b.creation_time) i;
      modified_time = (a.modified_time ∙ ap (λ k. unless_stream k 0 (long_at slot 108)) t ∙ sym b.modified_time) i;
      start_sector = (a.start_sector ∙ ap (λ k. unless_storage k (word_at slot 116)) t ∙ sym b.start_sector) i;
      stream_len = (a.stream_len ∙ ap (λ k. unless_storage k (stored_len v slot)) t ∙ sym b.stream_len) i;
    }

pub entries-unique : (v : Version) (ss : List (List ℕ)) (ds es : List Entry) → AllZip (IsEntry v) ss ds → AllZip (IsEntry v) ss es → ds ≡ es
entries-unique v [] [] [] a b = refl
entries-unique v [] [] (e ∷ es) a b = absurd b
entries-unique v [] (d ∷ ds) es a b = absurd a
entries-unique v (s ∷ ss) [] es a b = absurd a
entries-unique v (s ∷ ss) (d ∷ ds) [] a b = absurd b
entries-unique v (s ∷ ss) (d ∷ ds) (e ∷ es) a b = λ i. IsEntry-unique v s d e a.0 b.0 i ∷ entries-unique v ss ds es a.1 b.1 i

-- ---- sibling trees and the outline

pub HangsAt-unique : (entries : List Entry) (top : ℕ) (t u : SiblingTree) → HangsAt entries top t → HangsAt entries top u → t ≡ u
HangsAt-unique entries top leaf leaf a b = refl
HangsAt-unique entries top leaf (node l i r) a b = absurd (b.1 a)
HangsAt-unique entries top (node l i r) leaf a b = absurd (a.1 b)
HangsAt-unique entries top (node l k r) (node l' k' r') a b =
    let e : k ≡ k' = sym a.0 ∙ b.0 in
    λ i. node
    (HangsAt-unique entries (entry_at entries k).left_sibling l l' a.3 (subst (λ n. HangsAt entries (entry_at entries n).left_sibling l') (sym e) b.3) i)
    (e i)
    (HangsAt-unique entries (entry_at entries k).right_sibling r r' a.4 (subst (λ n. HangsAt entries (entry_at entries n).right_sibling r') (sym e) b.4) i)

-- the children of a storage are one list
pub Below-unique : (cases : Cases) (entries : List Entry) (top : ℕ) (xs ys : List ℕ) → Below cases entries top xs → Below cases entries top ys → xs ≡ ys
Below-unique cases entries top xs ys a b =
    a.is_in_order ∙ ap in_order (HangsAt-unique entries top a.tree b.tree a.hangs b.hangs) ∙ sym b.is_in_order

pub storage_is_no_stream : (t : ObjType) → t ≡ Storage → t ≡ Stream → ⊥
storage_is_no_stream t a b = let e : Storage ≡ Stream = sym a ∙ b in cc

pub outline-unique : (cases : Cases) (entries : List Entry) (o p : Outline) → siblings o ≡ siblings p → HasContents cases entries o → HasContents cases entries p → o ≡ p
outline-unique cases entries no_more no_more e a b = refl
outline-unique cases entries no_more (storage_at j inside rest) e a b = cc
outline-unique cases entries no_more (stream_at j rest) e a b = cc
outline-unique cases entries (storage_at i inside rest) no_more e a b = cc
outline-unique cases entries (stream_at i rest) no_more e a b = cc
outline-unique cases entries (storage_at i inside rest) (stream_at j rest') e a b =
    let s : i ≡ j = same_head i j (siblings rest) (siblings rest') e in
    absurd (storage_is_no_stream (entry_at entries j).obj_type (subst (λ n. (entry_at entries n).obj_type ≡ Storage) s a.0) b.0)
outline-unique cases entries (stream_at i rest) (storage_at j inside rest') e a b =
    let s : i ≡ j = same_head i j (siblings rest) (siblings rest') e in
    absurd (storage_is_no_stream (entry_at entries j).obj_type b.0 (subst (λ n. (entry_at entries n).obj_type ≡ Stream) s a.0))
outline-unique cases entries (storage_at i inside rest) (storage_at j inside' rest') e a b =
    let s : i ≡ j = same_head i j (siblings rest) (siblings rest') e in
    let same : siblings inside ≡ siblings inside' =
    Below-unique cases entries (entry_at entries j).child (siblings inside) (siblings inside')
    (subst (λ n. Below cases entries (entry_at entries n).child (siblings inside)) s a.1) b.1 in
    λ k. storage_at (s k) (outline-unique cases entries inside inside' same a.2 b.2 k)
    (outline-unique cases entries rest rest' (same_tail i j (siblings rest) (siblings rest') e) a.3 b.3 k)
outline-unique cases entries (stream_at i rest) (stream_at j rest') e a b =
    λ k. stream_at (same_head i j (siblings rest) (siblings rest') e k)
    (outline-unique cases entries rest rest' (same_tail i j (siblings rest) (siblings rest') e) a.1 b.1 k)

pub IsOutline-unique : (cases : Cases) (entries : List Entry) (o p : Outline) → IsOutline cases entries o → IsOutline cases entries p → o ≡ p
IsOutline-unique cases entries o p a b =
    outline-unique cases entries o p (Below-unique cases entries (entry_at entries 0).child (siblings o) (siblings p) a.children b.children) a.contents b.contents

-- ---- directory and MiniFAT

pub IsDirectory-unique : (v : Version) (bytes fat : List ℕ) (first : ℕ) (list list' : List ℕ) (ds es : List Entry)
    → IsDirectory v bytes fat first list ds → IsDirectory v bytes fat first list' es → (list ≡ list') × (ds ≡ es)
IsDirectory-unique v bytes fat first list list' ds es a b =
    let lists = IsChain-unique fat first list list' a.chain b.chain in
    (lists, entries-unique v (slots v bytes list) ds es a.slots (subst (λ d. AllZip (IsEntry v) (slots v bytes d) es) (sym lists) b.slots))

pub IsMinifat-unique : (v : Version) (bytes fat : List ℕ) (first root_len : ℕ) (sectors sectors' minifat minifat' : List ℕ)
    → IsMinifat v bytes fat first root_len sectors minifat → IsMinifat v bytes fat first root_len sectors' minifat'
    → (sectors ≡ sectors') × (minifat ≡ minifat')
IsMinifat-unique v bytes fat first root_len sectors sectors' minifat minifat' a b =
    let lists = IsChain-unique fat first sectors sectors' a.chain b.chain in
    (lists, a.values ∙ ap (λ list. take (root_len / 64) (minifat_words v bytes list)) lists ∙ sym b.values)

-- ---- the parts of a file, one after the other

module _ (cases : Cases) (bytes : List ℕ) (r s : Reading) (a : Reads cases bytes r) (b : Reads cases bytes s) where
  header_is : r.header ≡ s.header
  header_is = IsHeader-unique bytes r.header s.header a.header b.header

  difat_is : (r.fat_sectors ≡ s.fat_sectors) × (r.difat_sectors ≡ s.difat_sectors)
  difat_is = IsDifat-unique bytes r.header r.fat_sectors s.fat_sectors r.difat_sectors s.difat_sectors a.difat
      (subst (λ h. IsDifat bytes h s.fat_sectors s.difat_sectors) (sym header_is) b.difat)

  fat_is : r.fat ≡ s.fat
  fat_is = IsFat-unique r.header.version bytes r.fat_sectors r.difat_sectors r.fat s.fat a.fat
      (subst (λ (p : Header × List ℕ × List ℕ). IsFat p.0.version bytes p.1 p.2 s.fat) (λ i. (sym header_is i, sym difat_is.0 i, sym difat_is.1 i)) b.fat)

  directory_is : (r.directory ≡ s.directory) × (r.entries ≡ s.entries)
  directory_is = IsDirectory-unique r.header.version bytes r.fat r.header.first_dir_sector r.directory s.directory r.entries s.entries a.directory
      (subst (λ (p : Header × List ℕ). IsDirectory p.0.version bytes p.1 p.0.first_dir_sector s.directory s.entries)
      (λ i. (sym header_is i, sym fat_is i)) b.directory)

  outline_is : r.outline ≡ s.outline
  outline_is = IsOutline-unique cases r.entries r.outline s.outline a.outline
      (subst (λ es. IsOutline cases es s.outline) (sym directory_is.1) b.outline)

  minifat_is : (r.minifat_sectors ≡ s.minifat_sectors) × (r.minifat ≡ s.minifat)
  minifat_is = IsMinifat-unique r.header.version bytes r.fat r.header.first_minifat_sector (root_entry r).stream_len
      r.minifat_sectors s.minifat_sectors r.minifat s.minifat a.minifat
      (subst (λ (p : Header × List ℕ × List Entry). IsMinifat p.0.version bytes p.1 p.0.first_minifat_sector (entry_at p.2 0).stream_len s.minifat_sectors s.minifat)
      (λ i. (sym header_is i, sym fat_is i, sym directory_is.1 i)) b.minifat)

  -- bytes have at most one reading
  pub Reads-unique : r ≡ s
  Reads-unique = λ i. record {
    header = header_is i;
    fat_sectors = difat_is.0 i;
    difat_sectors = difat_is.1 i;
    fat = fat_is i;
    directory = directory_is.0 i;
    entries = directory_is.1 i;
    outline = outline_is i;
    minifat_sectors = minifat_is.0 i;
    minifat = minifat_is.1 i;
  }

-- bytes mean at most one tree
pub Means-unique : (cases : Cases) (bytes : List ℕ) (t u : Tree) → Means cases bytes t → Means cases bytes u → t ≡ u
Means-unique cases bytes t u a b = a.tree_is ∙ ap (tree_of bytes) (Reads-unique cases bytes a.reading b.reading a.reads b.reads) ∙ sym b.tree_is
