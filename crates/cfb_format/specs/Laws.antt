-- What the definitions promise about each other.
use Rattle.std.specs.Prelude.{ℕ, ◌≡◌, ◌↔◌, List, Some, length, take, IsTrue, ◌<◌, ◌≤◌, ◌*◌, ◌^◌, ◌+◌, None, if◌then◌else◌, true}
use Rattle.std.specs.List.{list_all}
use Rattle.std.specs.Cmp.{IsTotalOrder}
use Rattle.std.specs.declared.cmp.Ordering.TheVariants.{Equal}
use Rattle.cfb_format.specs.declared.version.Version.{Version}
use Rattle.cfb_format.specs.declared.validate.Validation.{Validation}
use Rattle.cfb_format.specs.Bytes.{sector_len, sector_count, words_per_sector}
use Rattle.cfb_format.specs.Names.{Cases, key_of_name, name_cmp}
use Rattle.cfb_format.specs.Header.{HeaderFits, IsValidHeader, IsHeader, AcceptsHeader, header_bytes}
use Rattle.cfb_format.specs.declared.header.Header.{Header}
use Rattle.cfb_format.specs.Path.{names_of_path, path_of_names, is_plain_name}
use Rattle.cfb_format.specs.Chain.{IsChain, chain_from}
use Rattle.cfb_format.specs.DirectoryEntry.{Entry, EntryFits, IsValidEntry, IsEntry, AcceptsEntry, entry_bytes}
use Rattle.cfb_format.specs.Siblings.{Below, Balanced, HangsAt, SiblingTree, depth, in_order, entry_at}
use Rattle.cfb_format.specs.Fat.{IsDifat, IsFat}
use Rattle.cfb_format.specs.Reading.{Reading, Reads, Outline, IsDirectory, IsOutline, IsMinifat, IsStrictFile}
use Rattle.cfb_format.specs.Meaning.{Means}
use Rattle.cfb_format.specs.Soundness.{IsSoundFile, IsOwnedFile, mini_stream_sectors}
use Rattle.cfb_format.specs.Full.{HasExactTablesFile, wanted_for, IsTooLong}
use Rattle.cfb_format.specs.Tree.{Tree, Objects, Object, IsOrdered, object_named, is_same_name, put_before, put_in_order, without}
use Rattle.cfb_format.specs.Content.{readable, is_large, bytes_along, mini_sector_len, mini_stream_cutoff}
use Rattle.cfb_format.specs.Created.{created_bytes, created_header, empty_tree}

-- bytes have at most one reading
abbrev pub AtMostOneReading : Type 0
AtMostOneReading = (cases : Cases) (bytes : List ℕ) (r s : Reading) → Reads cases bytes r → Reads cases bytes s → r ≡ s

-- and no part of it could be another one for the parts before it: the header,
abbrev pub AtMostOneHeader : Type 0
AtMostOneHeader = (bytes : List ℕ) (h k : Header) → IsHeader bytes h → IsHeader bytes k → h ≡ k

-- the FAT sectors and the DIFAT sectors,
abbrev pub AtMostOneDifat : Type 0
AtMostOneDifat = (bytes : List ℕ) (h : Header) (list list' own own' : List ℕ) → IsDifat bytes h list own → IsDifat bytes h list' own'
    → (list ≡ list') × (own ≡ own')

-- the FAT,
abbrev pub AtMostOneFat : Type 0
AtMostOneFat = (version : Version) (bytes list own fat fat' : List ℕ) → IsFat version bytes list own fat → IsFat version bytes list own fat' → fat ≡ fat'

-- the directory's sectors and its entries,
abbrev pub AtMostOneDirectory : Type 0
AtMostOneDirectory = (version : Version) (bytes fat : List ℕ) (first : ℕ) (directory directory' : List ℕ) (entries entries' : List Entry)
    → IsDirectory version bytes fat first directory entries → IsDirectory version bytes fat first directory' entries'
    → (directory ≡ directory') × (entries ≡ entries')

-- the outline,
abbrev pub AtMostOneOutline : Type 0
AtMostOneOutline = (cases : Cases) (entries : List Entry) (o p : Outline) → IsOutline cases entries o → IsOutline cases entries p → o ≡ p

-- the MiniFAT's sectors and its values
abbrev pub AtMostOneMinifat : Type 0
AtMostOneMinifat = (version : Version) (bytes fat : List ℕ) (first root_len : ℕ) (sectors sectors' minifat minifat' : List ℕ)
    → IsMinifat version bytes fat first root_len sectors minifat → IsMinifat version bytes fat first root_len sectors' minifat'
    → (sectors ≡ sectors') × (minifat ≡ minifat')

-- so they mean at most one tree
abbrev pub AtMostOneTree : Type 0
AtMostOneTree = (cases : Cases) (bytes : List ℕ) (t u : Tree) → Means cases bytes t → Means cases bytes u → t ≡ u

-- the chain from a start is what walking along finds, and so there is at most one
abbrev pub ChainIsWalked : Type 0
ChainIsWalked = (table : List ℕ) (s : ℕ) (list : List ℕ) → (chain_from table s ≡ Some list) ↔ IsChain table s list

-- the children of a storage are one list
abbrev pub OneListBelow : Type 0
OneListBelow = (cases : Cases) (entries : List Entry) (top : ℕ) (xs ys : List ℕ) → Below cases entries top xs → Below cases entries top ys → xs ≡ ys

-- names are in a total order
abbrev pub NamesAreOrdered : Type 0
NamesAreOrdered = (cases : Cases) → IsTotalOrder (name_cmp cases)

-- the names of one key are equal, and no others
abbrev pub EqualByKey : Type 0
EqualByKey = (cases : Cases) (a b : List ℕ) → (name_cmp cases a b ≡ Equal) ↔ (key_of_name cases a ≡ key_of_name cases b)

-- the file that is made for a version means the root alone, is strict and sound, whatever the letters
abbrev pub CreatedMeansRoot : Type 0
CreatedMeansRoot = (cases : Cases) (version : Version) → Means cases (created_bytes version) empty_tree

-- strict opening accepts it
abbrev pub CreatedIsStrict : Type 0
CreatedIsStrict = (cases : Cases) (version : Version) → IsStrictFile cases (created_bytes version)

-- it is sound
abbrev pub CreatedIsSound : Type 0
CreatedIsSound = (cases : Cases) (version : Version) → IsSoundFile cases (created_bytes version)

-- nothing in it is lost, and its tables are no larger than they need to be
abbrev pub CreatedIsOwned : Type 0
CreatedIsOwned = (cases : Cases) (version : Version) → IsOwnedFile cases (created_bytes version)

-- its tables are no larger than they need to be
abbrev pub CreatedHasExactTables : Type 0
CreatedHasExactTables = (cases : Cases) (version : Version) → HasExactTablesFile cases (created_bytes version)

-- the tree that bytes mean is a map: the names of each storage rise
abbrev pub MeantTreesAreOrdered : Type 0
MeantTreesAreOrdered = (cases : Cases) (bytes : List ℕ) (tree : Tree) → Means cases bytes tree → IsOrdered cases tree.objects

-- a balanced sibling tree with b black nodes on each way down has at most 2b levels, and at least 2^b - 1 names
abbrev pub BalancedIsLow : Type 0
BalancedIsLow = (entries : List Entry) (top b : ℕ) (t : SiblingTree) → Balanced entries top b → HangsAt entries top t
    → (depth t ≤ 2 * b) × (2 ^ b ≤ length (in_order t) + 1)

-- what can be read of a stream of 4096 bytes or more is its beginning of the bytes along its chain
abbrev pub LargeStreamsLieAlongChains : Type 0
LargeStreamsLieAlongChains = (bytes : List ℕ) (r : Reading) (e : Entry) (list : List ℕ) → IsTrue (is_large e) → IsChain r.fat e.start_sector list
    → readable bytes r e ≡ take e.stream_len (bytes_along r.header.version bytes list)

-- what is in a storage is a map by name: a storage or stream that is put is found, and the others are as before
abbrev pub PutIsFound : Type 0
PutIsFound = (cases : Cases) (name : List ℕ) (object : Object) (q : List ℕ) (objects : Objects) → object_named cases name objects ≡ None
    → object_named cases q (put_in_order cases name (put_before name object) objects)
    ≡ (if is_same_name cases q name then Some (record { name = name; object = object }) else object_named cases q objects)

-- one that is removed is not found, and the others are as before
abbrev pub RemovedIsGone : Type 0
RemovedIsGone = (cases : Cases) (name q : List ℕ) (objects : Objects) → IsOrdered cases objects
    → object_named cases q (without cases name objects) ≡ (if is_same_name cases q name then None else object_named cases q objects)

-- a valid header is read back as it was written, in both modes
abbrev pub HeaderIsReadBack : Type 0
HeaderIsReadBack = (validation : Validation) (h : Header) → HeaderFits h → IsValidHeader h → AcceptsHeader validation (header_bytes h) h

-- a header stands in the first 512 bytes, and what follows them has no part in it
abbrev pub HeaderIsAtTheStart : Type 0
HeaderIsAtTheStart = (validation : Validation) (bytes : List ℕ) (h : Header) → AcceptsHeader validation (take 512 bytes) h ↔ AcceptsHeader validation bytes h

-- a created file has room for header, FAT sector and directory sector, and no more
abbrev pub CreatedIsThreeSectors : Type 0
CreatedIsThreeSectors = (version : Version) → length (created_bytes version) ≡ 3 * sector_len version

-- created bytes hold their header in both modes
abbrev pub CreatedHeaderIsAccepted : Type 0
CreatedHeaderIsAccepted = (validation : Validation) (version : Version) → AcceptsHeader validation (created_bytes version) (created_header version)

-- a valid entry is read back as it was written, in both modes
abbrev pub EntryIsReadBack : Type 0
EntryIsReadBack = (validation : Validation) (version : Version) (e : Entry) → EntryFits e → IsValidEntry version e → AcceptsEntry validation version (entry_bytes e) e

-- a slot holds at most one entry, and so it is no other one that is read back
abbrev pub AtMostOneEntry : Type 0
AtMostOneEntry = (version : Version) (slot : List ℕ) (d e : Entry) → IsEntry version slot d → IsEntry version slot e → d ≡ e

-- the path of names says these names, where each of them is a name that a path can lead to
abbrev pub NamesOfTheirPath : Type 0
NamesOfTheirPath = (names : List (List ℕ)) → list_all is_plain_name names ≡ true → names_of_path (path_of_names names) ≡ Some names

-- no sector is wanted for this length, and so it is not too long, whatever the limit, where the FAT's sectors cover the file
abbrev pub WantsNone : List ℕ → Reading → ℕ → ℕ → Type 0
WantsNone bytes r i len = (wanted_for r i len ≡ 0)
    × (sector_count r.header.version bytes ≤ length r.fat_sectors * words_per_sector r.header.version → (limit : ℕ) → IsTooLong limit r i len → ⊥)

-- The mini stream has room for each entry of the MiniFAT, as in every sound file
abbrev pub HasMiniRoom : Reading → Type 0
HasMiniRoom r = length r.minifat * mini_sector_len ≤ length (mini_stream_sectors r) * sector_len r.header.version

-- A stream of 4096 bytes or more wants no sector for a length of at least 4096 that its chain has room for. So one of 5000 bytes in a chain of
-- 12 sectors of 512 may get 6144 bytes where no sector is free and the limit is reached
abbrev pub LongChainsWantNone : Type 0
LongChainsWantNone = (cases : Cases) (bytes : List ℕ) (r : Reading) (i len : ℕ) (list : List ℕ) → Reads cases bytes r → HasMiniRoom r
    → mini_stream_cutoff ≤ (entry_at r.entries i).stream_len → IsChain r.fat (entry_at r.entries i).start_sector list
    → mini_stream_cutoff ≤ len → len ≤ length list * sector_len r.header.version → WantsNone bytes r i len

-- nor does a shorter stream for a length below 4096 that its mini sectors have room for: none for itself, the MiniFAT or the mini stream
abbrev pub LongMiniChainsWantNone : Type 0
LongMiniChainsWantNone = (cases : Cases) (bytes : List ℕ) (r : Reading) (i len : ℕ) (list : List ℕ) → Reads cases bytes r → HasMiniRoom r
    → 0 < (entry_at r.entries i).stream_len → (entry_at r.entries i).stream_len < mini_stream_cutoff → IsChain r.minifat (entry_at r.entries i).start_sector list
    → len < mini_stream_cutoff → len ≤ length list * mini_sector_len → WantsNone bytes r i len
