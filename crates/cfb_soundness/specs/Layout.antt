-- Where a stream lies: a list of pieces of one length.
use Rattle.std.specs.Prelude.{ℕ, ◌+◌, ◌*◌, ◌≡◌, ◌≢◌, ◌<◌, ◌≤◌, ◌⊎◌, List, [], ◌∷◌, ◌++◌, true, false, length, take, drop, slice_get, Some, Contains, nat_eq, nat_le, if◌then◌else◌}
use Rattle.std.specs.List.{IsDistinct}
use Rattle.cfb_format.specs.Bytes.{sector_len, sector_start}
use Rattle.cfb_format.specs.Content.{place_in_stream, readable, is_large, sector_chain, mini_chain, mini_stream_chain, mini_sector_len}
use Rattle.cfb_format.specs.DirectoryEntry.{Entry}
use Rattle.cfb_format.specs.Medium.{written}
use Rattle.cfb_format.specs.Reading.{Reading}
use Rattle.cfb_soundness.specs.Places.{Stand, place_by, mini_start, SamePiece, Written, Edited}

-- the stream lies in the pieces of this list, each `len` bytes from its start
pub record LiesInPieces (r : Reading) (e : Entry) (len : ℕ) (start : ℕ → ℕ) (list : List ℕ) : Type 0 where
  pub some : 0 < len
  pub places : (bytes : List ℕ) (k : ℕ) → place_in_stream bytes r e k ≡ place_by len start bytes list k

-- a large stream and its sectors
pub record IsLarge (r : Reading) (e : Entry) (list : List ℕ) : Type 0 where
  pub large : is_large e ≡ true
  pub chain : sector_chain r e ≡ Some list

-- a small stream and its mini sectors, all of which the mini stream's chain has
pub record IsSmall (r : Reading) (e : Entry) (root list : List ℕ) : Type 0 where
  pub small : is_large e ≡ false
  pub mini_stream : mini_stream_chain r ≡ Some root
  pub chain : mini_chain r e ≡ Some list
  pub room : (m : ℕ) → Contains list m → mini_sector_len * m < length root * sector_len r.header.version

-- the pieces one after the other, up to one that the file doesn't have whole
abbrev pub pieces_along : ℕ → (ℕ → ℕ) → List ℕ → List ℕ → List ℕ
pieces_along len start bytes [] = []
pieces_along len start bytes (i ∷ list) = take len (drop (start i) bytes)
    ++ (if nat_le (start i + len) (length bytes) then pieces_along len start bytes list else [])

abbrev pub IsWholeStream : List ℕ → Reading → Entry → Type 0
IsWholeStream bytes r e = length (readable bytes r e) ≡ e.stream_len

-- the pieces of a list overlap nowhere
abbrev pub ApartFrom : ℕ → (ℕ → ℕ) → List ℕ → ℕ → Type 0
ApartFrom len start list i = (j : ℕ) → Contains list j → j ≢ i → (start j + len ≤ start i) ⊎ (start i + len ≤ start j)

-- ---- laws

abbrev pub LargeStreamsLie : Type 0
LargeStreamsLie = (r : Reading) (e : Entry) (list : List ℕ) → IsLarge r e list
    → LiesInPieces r e (sector_len r.header.version) (sector_start r.header.version) list

abbrev pub SmallStreamsLie : Type 0
SmallStreamsLie = (r : Reading) (e : Entry) (root list : List ℕ) → IsSmall r e root list
    → LiesInPieces r e mini_sector_len (mini_start r.header.version root) list

-- what can be read is the beginning of the pieces
abbrev pub ReadAlongPieces : Type 0
ReadAlongPieces = (bytes : List ℕ) (r : Reading) (e : Entry) (len : ℕ) (start : ℕ → ℕ) (list : List ℕ) → LiesInPieces r e len start list
    → readable bytes r e ≡ take e.stream_len (pieces_along len start bytes list)

-- where its pieces and their bytes stay, a whole stream's content stays
abbrev pub ContentStays : Type 0
ContentStays = (bytes bytes' : List ℕ) (r r' : Reading) (e e' : Entry) (len : ℕ) (start start' : ℕ → ℕ) (list list' : List ℕ)
    → LiesInPieces r e len start list → LiesInPieces r' e' len start' (list ++ list') → e'.stream_len ≡ e.stream_len → IsWholeStream bytes r e
    → ((i : ℕ) → Contains list i → (start' i ≡ start i) × SamePiece len (start i) bytes bytes')
    → readable bytes' r' e' ≡ readable bytes r e

-- a write inside one of its pieces, which may be new ones at the end, changes the content at that place alone
abbrev pub ContentEdited : Type 0
ContentEdited = (bytes bytes' : List ℕ) (r r' : Reading) (e e' : Entry) (len : ℕ) (start : ℕ → ℕ) (list more : List ℕ) (q i o : ℕ) (ys xs' : List ℕ)
    → LiesInPieces r e len start list → LiesInPieces r' e' len start (list ++ more) → IsWholeStream bytes r e
    → IsDistinct nat_eq (list ++ more) → ApartFrom len start (list ++ more) i → slice_get (list ++ more) q ≡ Some i → o + length ys ≤ len
    → Written bytes (start i + o) ys bytes' → Edited (readable bytes r e) (q * len + o) ys xs' → length xs' ≡ e'.stream_len
    → readable bytes' r' e' ≡ xs'

-- a whole stream's content is what stands at its places
abbrev pub ContentStands : Type 0
ContentStands = (bytes : List ℕ) (r : Reading) (e : Entry) (len : ℕ) (start : ℕ → ℕ) (list : List ℕ) → LiesInPieces r e len start list
    → ((xs : List ℕ) → length xs ≡ e.stream_len → Stand bytes (place_by len start bytes list) xs → readable bytes r e ≡ xs)
    × (IsWholeStream bytes r e → Stand bytes (place_by len start bytes list) (readable bytes r e))

-- ---- streams of two readings

-- a large stream stays, whole as it was, where its chain and its sectors' bytes do
abbrev pub LargeStreamStays : Type 0
LargeStreamStays = (bytes bytes' : List ℕ) (r r' : Reading) (e e' : Entry) (list : List ℕ) → is_large e ≡ true
    → r'.header.version ≡ r.header.version → e'.stream_len ≡ e.stream_len
    → sector_chain r e ≡ Some list → sector_chain r' e' ≡ Some list → IsWholeStream bytes r e
    → ((i : ℕ) → Contains list i → SamePiece (sector_len r.header.version) (sector_start r.header.version i) bytes bytes')
    → readable bytes' r' e' ≡ readable bytes r e

-- a small one where its chain does, and the bytes of its mini sectors, and the mini stream at most goes on behind its end
abbrev pub SmallStreamStays : Type 0
SmallStreamStays = (bytes bytes' : List ℕ) (r r' : Reading) (e e' : Entry) (root more list : List ℕ) → is_large e ≡ false
    → r'.header.version ≡ r.header.version → e'.stream_len ≡ e.stream_len
    → mini_chain r e ≡ Some list → mini_chain r' e' ≡ Some list → mini_stream_chain r ≡ Some root → mini_stream_chain r' ≡ Some (root ++ more)
    → ((m : ℕ) → Contains list m → mini_sector_len * m < length root * sector_len r.header.version) → IsWholeStream bytes r e
    → ((m : ℕ) → Contains list m → SamePiece mini_sector_len (mini_start r.header.version root m) bytes bytes')
    → readable bytes' r' e' ≡ readable bytes r e

-- a write of the medium is one
abbrev pub WrittenIsWritten : Type 0
WrittenIsWritten = (old : List ℕ) (at : ℕ) (ys : List ℕ) → Written old at ys (written old at ys)

-- and an edit, if it begins inside what was there
abbrev pub WrittenIsEdited : Type 0
WrittenIsEdited = (old : List ℕ) (at : ℕ) (ys : List ℕ) → at ≤ length old → Edited old at ys (written old at ys)
