-- The FAT sectors that the DIFAT of a file lists that was cut short, up to the first that is missing (MS-CFB 2.5).
use Rattle.std.specs.Prelude.{ℕ, zero, suc, ◌+◌, ◌-◌, ◌*◌, ◌≡◌, max, List, [], ◌∷◌, ◌++◌, Bool, false, not, ◌&&◌, ◌||◌, ◌==◌, length, take, Option, Some, None, if◌then◌else◌}
use Rattle.std.specs.List.{suffix_len}
use Rattle.cfb_format.specs.declared.version.Version.{Version}
use Rattle.cfb_format.specs.Bytes.{word_at, sector_start, words_per_sector, is_regular, points_below, end_of_chain}
use Rattle.cfb_mending.specs.declared.patches.Patch.{Patch}
use Rattle.cfb_mending.specs.Missing.{first_difat_link, free_up_to, has_word, leads_below, link_place, mark_at}

-- where the header has its entries of the DIFAT (MS-CFB 2.2)
abbrev pub header_entries : ℕ
header_entries = 76

-- the FAT sectors that so many entries of the DIFAT from a place on name, of n sectors of the file, up to the first that is none, or is missing
unfoldable pub named_from : ℕ → List ℕ → ℕ → ℕ → List ℕ
named_from n bytes at zero = []
named_from n bytes at (suc k) = if leads_below n bytes at then word_at bytes at ∷ named_from n bytes (at + 4) k else []

-- an entry is missing, or the sector that it names
abbrev pub is_entry_missing : ℕ → List ℕ → ℕ → Bool
is_entry_missing n bytes at = not (has_word bytes at) || not (points_below n (word_at bytes at))

-- whether that is where these entries end
unfoldable pub is_named_cut : ℕ → List ℕ → ℕ → ℕ → Bool
is_named_cut n bytes at zero = false
is_named_cut n bytes at (suc k) = if leads_below n bytes at then is_named_cut n bytes (at + 4) k else is_entry_missing n bytes at

-- from there on they are free
unfoldable pub named_patches : ℕ → List ℕ → ℕ → ℕ → List Patch
named_patches n bytes at zero = []
named_patches n bytes at (suc k) =
    if leads_below n bytes at then named_patches n bytes (at + 4) k else if is_entry_missing n bytes at then free_up_to at (at + 4 * suc k) else []

-- how many entries a DIFAT sector has
abbrev pub entries_in : Version → ℕ
entries_in version = words_per_sector version - 1

-- what k DIFAT sectors at most list, from the one on whose number stands at a place, unless the list has ended
unfoldable pub listed_from : Version → List ℕ → ℕ → ℕ → Bool → ℕ → List ℕ
listed_from version bytes n zero ended at = []
listed_from version bytes n (suc k) ended at =
    if not ended && leads_below n bytes at then named_from n bytes (sector_start version (word_at bytes at)) (entries_in version)
    ++ listed_from version bytes n k (is_named_cut n bytes (sector_start version (word_at bytes at)) (entries_in version)) (link_place version (word_at bytes at))
    else []

-- where the list has ended or the next sector is missing, so ends the DIFAT
unfoldable pub listed_patches : Version → List ℕ → ℕ → ℕ → Bool → ℕ → List Patch
listed_patches version bytes n zero ended at = []
listed_patches version bytes n (suc k) ended at =
    if not ended && leads_below n bytes at then named_patches n bytes (sector_start version (word_at bytes at)) (entries_in version)
    ++ listed_patches version bytes n k (is_named_cut n bytes (sector_start version (word_at bytes at)) (entries_in version)) (link_place version (word_at bytes at))
    else if not (has_word bytes at) || is_regular (word_at bytes at) then mark_at at (Some end_of_chain) else []

-- what the sectors behind one list, if there are some: where the number of the next one stands, and whether the list has ended
abbrev pub listed_behind : Version → List ℕ → ℕ → ℕ → Option (ℕ × Bool) → List ℕ
listed_behind version bytes n k None = []
listed_behind version bytes n k (Some (at, ended)) = listed_from version bytes n k ended at

abbrev pub patched_behind : Version → List ℕ → ℕ → ℕ → Option (ℕ × Bool) → List Patch
patched_behind version bytes n k None = []
patched_behind version bytes n k (Some (at, ended)) = listed_patches version bytes n k ended at

-- one DIFAT sector more was gone through
pub record ListsOne (version : Version) (bytes : List ℕ) (n : ℕ) (ended : Bool) (at : ℕ) (old new : List ℕ) (before after : List Patch) (next : Option (ℕ × Bool)) : Type 0 where
  pub named : (k : ℕ) → new ++ listed_behind version bytes n k next ≡ old ++ listed_from version bytes n (suc k) ended at
  pub patched : (k : ℕ) → after ++ patched_behind version bytes n k next ≡ before ++ listed_patches version bytes n (suc k) ended at

-- without the zeros at the end that pad it, but not below the header's places and count (MS-CFB 2.5)
abbrev pub without_zeros : ℕ → List ℕ → List ℕ
without_zeros counted sectors = take (max (max 109 counted) (length sectors - suffix_len (λ s. s == 0) sectors)) sectors

-- the FAT sectors up to the first that is missing, in a file of n sectors whose header counts so many
abbrev pub fat_sectors : Version → List ℕ → ℕ → ℕ → List ℕ
fat_sectors version bytes n counted = without_zeros counted
    (named_from n bytes header_entries 109 ++ listed_from version bytes n n (is_named_cut n bytes header_entries 109) first_difat_link)

abbrev pub difat_patches : Version → List ℕ → ℕ → List Patch
difat_patches version bytes n = named_patches n bytes header_entries 109 ++ listed_patches version bytes n n (is_named_cut n bytes header_entries 109) first_difat_link
