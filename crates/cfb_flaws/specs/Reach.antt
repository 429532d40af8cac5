-- How much of a stream the file has.
use Rattle.std.specs.Prelude.{ℕ, ◌+◌, ◌-◌, ◌*◌, ◌/◌, ◌≡◌, ◌<◌, List, [], ◌∷◌, ◌++◌, Bool, true, length, drop, min, nat_lt, nat_le, slice_index, slice_index_or, Contains, if◌then◌else◌}
use Rattle.cfb_format.specs.declared.version.Version.{Version}
use Rattle.cfb_format.specs.Bytes.{sector_len, sector_start}
use Rattle.cfb_format.specs.Chain.{Follows}
use Rattle.cfb_format.specs.Content.{mini_sector_len}
use Rattle.cfb_soundness.specs.Marks.{mark_at}
use Rattle.cfb_soundness.specs.Places.{mini_start}
use Rattle.cfb_flaws.specs.declared.known.Known.{Known}
use Rattle.cfb_flaws.specs.declared.owner.Table.{Table}
use Rattle.cfb_flaws.specs.declared.owner.Table.TheVariants.{Fat, Minifat}
use Rattle.cfb_flaws.specs.Claims.{words_in}

-- the length of a sector, or of a mini sector
abbrev pub len_in : Version → Table → ℕ
len_in v Fat = sector_len v
len_in v Minifat = mini_sector_len

-- where one begins in the file: at its end where the mini stream has no room for it
abbrev pub start_in_file : Version → ℕ → List ℕ → Table → ℕ → ℕ
start_in_file v size root Fat i = sector_start v i
start_in_file v size root Minifat m = if nat_lt (mini_sector_len * m / sector_len v) (length root) then mini_start v root m else size

-- how many bytes a file of that length has of them, one after the other, up to the first that it has not
abbrev pub reach_along : ℕ → (ℕ → ℕ) → ℕ → List ℕ → ℕ
reach_along len start size [] = 0
reach_along len start size (i ∷ list) = min len (size - start i) + (if nat_le (start i + len) size then reach_along len start size list else 0)

abbrev pub reach_of : {A : Type 0} → Known A → Table → List ℕ → ℕ
reach_of known t list = reach_along (len_in known.parts.now.version t)
    (start_in_file known.parts.now.version known.parts.now.len known.root.items t) known.parts.now.len list

-- as far as a word counts
abbrev pub capped : ℕ → ℕ
capped n = min n 0xFFFF_FFFF_FFFF_FFFF

-- of each number that was seen and begins a chain it is known how far one reads from there
abbrev pub KnowsReach : {A : Type 0} → Known A → Table → List Bool → List ℕ → Type 0
KnowsReach known t seen reach = (i : ℕ) → mark_at seen i ≡ true → (list : List ℕ) → Follows (words_in t known.parts.now) i list
    → slice_index_or reach i 0 ≡ capped (reach_of known t list)

-- the numbers of the path got theirs, and the others stay
pub record Filled {A : Type 0} (known : Known A) (t : Table) (old path rest new : List ℕ) : Type 0 where
  pub filled : (j : ℕ) → j < length path → slice_index_or new (slice_index path j) 0 ≡ capped (reach_of known t (drop j path ++ rest))
  pub others : (i : ℕ) → (Contains path i → ⊥) → slice_index_or new i 0 ≡ slice_index_or old i 0
