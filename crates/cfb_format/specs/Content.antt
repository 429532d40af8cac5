-- Where the bytes of a stream stand (MS-CFB 2.3, 2.4 and 2.6.3).
use Rattle.std.specs.Prelude.{ℕ, zero, suc, ◌+◌, ◌*◌, ◌/◌, ◌%◌, List, [], ◌∷◌, ◌++◌, Bool, not, ◌&&◌, length, slice_get, nat_lt, nat_le, Option, Some, None, option_and_then, if◌then◌else◌, ◌==◌}
use Rattle.std.specs.Option.{option_map_or}
use Rattle.cfb_format.specs.declared.version.Version.{Version}
use Rattle.cfb_format.specs.Bytes.{byte_at, sector_len, sector_start, sector_bytes, is_whole_sector, is_regular}
use Rattle.cfb_format.specs.Chain.{chain_from}
use Rattle.cfb_format.specs.DirectoryEntry.{Entry}
use Rattle.cfb_format.specs.Reading.{Reading, root_entry}

-- a stream of this length or more lies in sectors, a shorter one in mini sectors of 64 bytes
abbrev pub mini_stream_cutoff : ℕ
mini_stream_cutoff = 4096

-- the length of a mini sector (MS-CFB 2.2 and 2.4)
abbrev pub mini_sector_len : ℕ
mini_sector_len = 64

-- the stream lies in sectors of its own (MS-CFB 2.6.3)
abbrev pub is_large : Entry → Bool
is_large e = nat_le mini_stream_cutoff e.stream_len

-- the chain of a stream of at least 4096 bytes, if it is one
abbrev pub sector_chain : Reading → Entry → Option (List ℕ)
sector_chain r e = chain_from r.fat e.start_sector

-- the mini chain of a shorter stream, if it is one; an empty stream has no mini sector, whatever its start
abbrev pub mini_chain : Reading → Entry → Option (List ℕ)
mini_chain r e = if e.stream_len == 0 then Some [] else chain_from r.minifat e.start_sector

-- the chain of a stream in the table where it lies, if it is one
abbrev pub content_chain : Reading → Entry → Option (List ℕ)
content_chain r e = if is_large e then sector_chain r e else mini_chain r e

-- the chain of the mini stream, if it is one; an empty one without a start has no sector
abbrev pub mini_stream_chain : Reading → Option (List ℕ)
mini_stream_chain r =
    if (root_entry r).stream_len == 0 && not (is_regular (root_entry r).start_sector) then Some []
    else chain_from r.fat (root_entry r).start_sector

-- a place, if the file reaches it
abbrev pub in_file : List ℕ → ℕ → Option ℕ
in_file bytes at = if nat_lt at (length bytes) then Some at else None

-- where byte k of a chain of sectors stands
abbrev pub place_in_chain : Version → List ℕ → List ℕ → ℕ → Option ℕ
place_in_chain version bytes list k =
    option_and_then (λ i. in_file bytes (sector_start version i + k % sector_len version)) (slice_get list (k / sector_len version))

-- where byte k of the mini stream stands
abbrev pub place_in_mini_stream : List ℕ → Reading → ℕ → Option ℕ
place_in_mini_stream bytes r k = option_and_then (λ list. place_in_chain r.header.version bytes list k) (mini_stream_chain r)

-- where byte k of a chain of mini sectors stands
abbrev pub place_in_mini_chain : List ℕ → Reading → List ℕ → ℕ → Option ℕ
place_in_mini_chain bytes r list k =
    option_and_then (λ m. place_in_mini_stream bytes r (mini_sector_len * m + k % mini_sector_len)) (slice_get list (k / mini_sector_len))

-- where byte k of a stream stands in the file, if anywhere
abbrev pub place_in_stream : List ℕ → Reading → Entry → ℕ → Option ℕ
place_in_stream bytes r e k =
    if is_large e then option_and_then (λ list. place_in_chain r.header.version bytes list k) (sector_chain r e)
    else option_and_then (λ list. place_in_mini_chain bytes r list k) (mini_chain r e)

-- the bytes from byte k on, at most this many, up to the first that has no place
unfoldable pub placed_from : List ℕ → (ℕ → Option ℕ) → ℕ → ℕ → List ℕ
placed_from bytes place_of k zero = []
placed_from bytes place_of k (suc more) =
    option_map_or (λ at. byte_at bytes at ∷ placed_from bytes place_of (k + 1) more) (place_of k) []

-- the longest beginning of a stream, up to its length, whose bytes all have a place
abbrev pub readable : List ℕ → Reading → Entry → List ℕ
readable bytes r e = placed_from bytes (place_in_stream bytes r e) 0 e.stream_len

-- the bytes of these sectors one after the other, up to one that the file doesn't have whole
abbrev pub bytes_along : Version → List ℕ → List ℕ → List ℕ
bytes_along version bytes [] = []
bytes_along version bytes (i ∷ list) =
    sector_bytes version bytes i ++ (if is_whole_sector version bytes i then bytes_along version bytes list else [])
