-- Reasons why a file is not sound, when they are true of its bytes, and which clause of soundness each breaks.
use Rattle.std.specs.Prelude.{ℕ, All, IsSome, flat_map, ◌*◌, ◌≡◌, ◌≢◌, ◌<◌, ◌≤◌, List, [], ◌++◌, false, Option, None, length, slice_index, Contains, IsTrue, if◌then◌else◌, ⊤}
use Rattle.cfb_format.specs.Bytes.{sector_count, sector_len, words_per_sector, end_of_chain, is_regular, max_regular_sector}
use Rattle.cfb_format.specs.Chain.{value}
use Rattle.cfb_format.specs.Fat.{is_among, raw_fat}
use Rattle.cfb_format.specs.Content.{is_large, content_chain, mini_sector_len, mini_stream_chain, readable}
use Rattle.cfb_format.specs.Reading.{Reading, root_entry}
use Rattle.cfb_format.specs.Siblings.{entry_at}
use Rattle.cfb_format.specs.Soundness.{Owner as OwnerOf, no_owner, owner, mini_owner, KeepsLoose, IsLoose, streams, used_sectors, used_mini_sectors, large_streams, small_streams, sectors_of, mini_sectors_of, mini_stream_sectors}
use Rattle.cfb_flaws.specs.declared.owner.Owner.{Owner}
use Rattle.cfb_flaws.specs.declared.owner.Owner.TheVariants.{Fat as FatOwner, Difat, Directory, Minifat as MinifatOwner, MiniStream, Stream, Free, Unused}
use Rattle.cfb_flaws.specs.declared.owner.Table.{Table}
use Rattle.cfb_flaws.specs.declared.owner.Table.TheVariants.{Fat, Minifat}
use Rattle.cfb_flaws.specs.declared.flaw.Break.{Break}
use Rattle.cfb_flaws.specs.declared.flaw.Break.TheVariants.{BeginsAt, LeadsTo, LeadsBackTo, Somewhere}
use Rattle.cfb_flaws.specs.declared.flaw.Flaw.{Flaw}
use Rattle.cfb_flaws.specs.declared.flaw.Flaw.TheVariants.{TooFewWords, ListedTwice, UsedTwice, Broken, TooLittleRoom, Loose, Cut, PastFile}
use Rattle.cfb_flaws.specs.Owners.{meant}
use Rattle.cfb_flaws.specs.Claims.{IsPath, LiesIn, members_in, words_of}

-- the owner has the sector in its list or in its chain
abbrev pub HasSector : Reading → Owner → ℕ → Type 0
HasSector r FatOwner i = Contains r.fat_sectors i
HasSector r Difat i = Contains r.difat_sectors i
HasSector r Directory i = Contains r.directory i
HasSector r MinifatOwner i = Contains r.minifat_sectors i
HasSector r MiniStream i = Contains (mini_stream_sectors r) i
HasSector r (Stream k) i = Contains (large_streams r) k × Contains (sectors_of r k) i
HasSector r Free i = ⊥
HasSector r Unused i = ⊥

-- the stream has the mini sector in its chain
abbrev pub HasMiniSector : Reading → Owner → ℕ → Type 0
HasMiniSector r FatOwner m = ⊥
HasMiniSector r Difat m = ⊥
HasMiniSector r Directory m = ⊥
HasMiniSector r MinifatOwner m = ⊥
HasMiniSector r MiniStream m = ⊥
HasMiniSector r (Stream k) m = Contains (small_streams r) k × Contains (mini_sectors_of r k) m
HasMiniSector r Free m = ⊥
HasMiniSector r Unused m = ⊥

abbrev pub Has : Table → Reading → Owner → ℕ → Type 0
Has Fat r o i = HasSector r o i
Has Minifat r o m = HasMiniSector r o m

-- the owner of a sector or of a mini sector, in the format's words
abbrev pub owner_in : Table → Reading → ℕ → OwnerOf
owner_in Fat r i = owner r i
owner_in Minifat r m = mini_owner r m

-- the first of these owners has the number, and the second, which is another one, has it too
abbrev pub IsUsedTwice : Table → Reading → ℕ → Owner → Owner → Type 0
IsUsedTwice t r i a b = (owner_in t r i ≡ meant a) × Has t r b i × (a ≢ b)

-- the list has the number at two places
abbrev pub StandsTwice : List ℕ → ℕ → Type 0
StandsTwice list i = (j : ℕ) × (k : ℕ) × (j < k) × (k < length list) × (slice_index list j ≡ i) × (slice_index list k ≡ i)

-- the word is neither a number of the table nor the end of a chain
abbrev pub IsOutside : List ℕ → ℕ → Type 0
IsOutside table word = (word ≢ end_of_chain) × (word ≤ max_regular_sector → length table ≤ word)

-- from the start one comes to the number
abbrev pub Comes : List ℕ → ℕ → ℕ → Type 0
Comes table start i = (path : List ℕ) × IsPath table start path i

-- there the walk from the start goes off the table, or begins anew
abbrev pub BreaksAt : List ℕ → ℕ → Break → Type 0
BreaksAt table start (BeginsAt s) = (s ≡ start) × IsOutside table start
BreaksAt table start (LeadsTo i next) = Comes table start i × (i < length table) × (slice_index table i ≡ next) × IsOutside table next
BreaksAt table start (LeadsBackTo i next) = Comes table start i × (i < length table) × (slice_index table i ≡ next) × (next ≡ start)
BreaksAt table start Somewhere = ⊤

-- the owner has no chain in that table, and there it breaks
abbrev pub IsBroken : Reading → Table → Owner → Break → Type 0
IsBroken r t FatOwner place = ⊥
IsBroken r t Difat place = ⊥
IsBroken r t Directory place = ⊥
IsBroken r t MinifatOwner place = ⊥
IsBroken r t MiniStream place = (mini_stream_chain r ≡ None) × (t ≡ Fat) × BreaksAt (words_of t r) (root_entry r).start_sector place
IsBroken r t (Stream k) place = Contains (streams r) k × (content_chain r (entry_at r.entries k) ≡ None)
    × (t ≡ (if is_large (entry_at r.entries k) then Fat else Minifat)) × BreaksAt (words_of t r) (entry_at r.entries k).start_sector place
IsBroken r t Free place = ⊥
IsBroken r t Unused place = ⊥

-- the words of the FAT for the file's sectors, as they stand in the file
abbrev pub raw_of : List ℕ → Reading → List ℕ
raw_of bytes r = raw_fat r.header.version bytes r.fat_sectors

-- the sector is none of the FAT and the DIFAT, and its word points past the file
pub record PointsPast (bytes : List ℕ) (r : Reading) (i next : ℕ) : Type 0 where
  pub below : i < length (raw_of bytes r)
  pub unlisted : is_among (r.fat_sectors ++ r.difat_sectors) i ≡ false
  pub word : slice_index (raw_of bytes r) i ≡ next
  pub regular : IsTrue (is_regular next)
  pub past : sector_count r.header.version bytes ≤ next

-- the reason is true of the bytes
abbrev pub Holds : List ℕ → Reading → Flaw → Type 0
Holds bytes r (TooFewWords words sectors) =
    (words ≡ length r.fat_sectors * words_per_sector r.header.version) × (sectors ≡ sector_count r.header.version bytes) × (words < sectors)
Holds bytes r (ListedTwice i) = StandsTwice r.fat_sectors i
Holds bytes r (UsedTwice t first last a b) = (first ≤ last) × ((i : ℕ) → first ≤ i → i ≤ last → IsUsedTwice t r i a b)
Holds bytes r (Broken t o place) = IsBroken r t o place
Holds bytes r (TooLittleRoom room named) =
    (room * mini_sector_len ≡ length (mini_stream_sectors r) * sector_len r.header.version) × (named ≡ length r.minifat) × (room < named)
Holds bytes r (Loose t i next o) = (owner_in t r i ≡ no_owner) × (value (words_of t r) i ≡ next) × IsTrue (is_regular next)
    × (owner_in t r next ≡ meant o) × (o ≢ Unused)
Holds bytes r (Cut k there len) = Contains (streams r) k × (len ≡ (entry_at r.entries k).stream_len)
    × (there ≡ length (readable bytes r (entry_at r.entries k))) × (there < len)
Holds bytes r (PastFile i next) = PointsPast bytes r i next

-- ---- the clauses of soundness

pub data Clause : Type 0 where
  on_covers : Clause
  on_mini_stream : Clause
  on_chains : Clause
  on_sectors : Clause
  on_mini_sectors : Clause
  on_mini_room : Clause
  on_loose : Clause
  on_mini_loose : Clause
  on_pointers : Clause
  on_whole : Clause

-- that no number of the table is used twice
abbrev pub twice_in : Table → Clause
twice_in Fat = on_sectors
twice_in Minifat = on_mini_sectors

-- that no loose end of the table can come alive
abbrev pub loose_in : Table → Clause
loose_in Fat = on_loose
loose_in Minifat = on_mini_loose

-- that this owner has a chain
abbrev pub chain_of_owner : Owner → Clause
chain_of_owner FatOwner = on_chains
chain_of_owner Difat = on_chains
chain_of_owner Directory = on_chains
chain_of_owner MinifatOwner = on_chains
chain_of_owner MiniStream = on_mini_stream
chain_of_owner (Stream k) = on_chains
chain_of_owner Free = on_chains
chain_of_owner Unused = on_chains

-- the clause that the reason breaks
abbrev pub clause_of : Flaw → Clause
clause_of (TooFewWords words sectors) = on_covers
clause_of (ListedTwice i) = on_sectors
clause_of (UsedTwice t first last a b) = twice_in t
clause_of (Broken t o place) = chain_of_owner o
clause_of (TooLittleRoom room named) = on_mini_room
clause_of (Loose t i next o) = loose_in t
clause_of (Cut k there len) = on_whole
clause_of (PastFile i next) = on_pointers

-- none of these reasons breaks this clause
abbrev pub NoneOn : Clause → List Flaw → Type 0
NoneOn c found = All (λ f. clause_of f ≢ c) found

-- the FAT has a word for each sector
abbrev pub Covers : List ℕ → Reading → Type 0
Covers bytes r = sector_count r.header.version bytes ≤ length r.fat_sectors * words_per_sector r.header.version

-- the mini stream has room for each entry of the MiniFAT
abbrev pub HasRoom : Reading → Type 0
HasRoom r = length r.minifat * mini_sector_len ≤ length (mini_stream_sectors r) * sector_len r.header.version

-- the owner has these numbers
abbrev pub HasAll : Table → Reading → Owner → List ℕ → Type 0
HasAll t r o list = (i : ℕ) → Contains list i → Has t r o i

-- and it is the first to have them
abbrev pub OwnsIn : Table → Reading → Owner → List ℕ → Type 0
OwnsIn t r o list = (i : ℕ) → Contains list i → owner_in t r i ≡ meant o

-- a stream is the first to have what it lies in
abbrev pub OwnsMembers : Table → Reading → ℕ → Type 0
OwnsMembers t r k = OwnsIn t r (Stream k) (members_in t r (entry_at r.entries k))

abbrev pub OwnTheirMembers : Table → Reading → List ℕ → Type 0
OwnTheirMembers t r list = (k : ℕ) → Contains list k → OwnsMembers t r k

-- a stream that lies in that table has a chain
abbrev pub HasChainIn : Table → Reading → ℕ → Type 0
HasChainIn t r k = LiesIn t (entry_at r.entries k) → IsSome (content_chain r (entry_at r.entries k))

abbrev pub HaveChainsIn : Table → Reading → List ℕ → Type 0
HaveChainsIn t r list = (k : ℕ) → Contains list k → HasChainIn t r k

-- a stream that lies in that table can be read to its end
abbrev pub IsWholeIn : Table → List ℕ → Reading → ℕ → Type 0
IsWholeIn t bytes r k = LiesIn t (entry_at r.entries k) → length (readable bytes r (entry_at r.entries k)) ≡ (entry_at r.entries k).stream_len

abbrev pub AreWholeIn : Table → List ℕ → Reading → List ℕ → Type 0
AreWholeIn t bytes r list = (k : ℕ) → Contains list k → IsWholeIn t bytes r k

-- the numbers of that table that have a use
abbrev pub used_in : Table → Reading → List ℕ
used_in Fat r = used_sectors r
used_in Minifat r = used_mini_sectors r

-- a number of that table that is neither free nor used points, if it points at all, to such a number
abbrev pub IsLoosePair : Table → Reading → ℕ → Type 0
IsLoosePair t r i = IsLoose (words_of t r) (used_in t r) i → IsTrue (is_regular (value (words_of t r) i)) → IsLoose (words_of t r) (used_in t r) (value (words_of t r) i)

abbrev pub KeepsLooseIn : Table → Reading → Type 0
KeepsLooseIn t r = KeepsLoose (words_of t r) (used_in t r)
