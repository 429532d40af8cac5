-- What is read otherwise are words of tables: links of chains, and the words of a sector.
use Rattle.std.proofs.Common.{◌≡◌, ◌<◌, ◌≤◌, ℕ, suc, ◌+◌, ◌-◌, ◌*◌, ◌/◌, ◌%◌, ◌^◌, List, [], ◌∷◌, ◌++◌, drop, get_or-take, inl, inr, refl, sym, ◌∙◌, ap, subst, arith, zero, length}
use Rattle.std.specs.Prelude.{◌⊎◌, Bool, true, false, Option, Some, None, slice_get, option_and_then, if◌then◌else◌}
use Rattle.std.specs.Option.{option_map}
use Rattle.std.specs.List.{All, Contains}
use Rattle.std.proofs.lemmas.List.Elements.{All-push, All-same, All-weaker}
use Rattle.std.proofs.lemmas.Option.{get_or_from_slice_get, option_and_then_some, slice_get_within}
use Rattle.cfb_format.specs.declared.version.Version.{Version}
use Rattle.cfb_format.specs.declared.version.Version.TheVariants.{V3, V4}
use Rattle.cfb_format.specs.Bytes.{word_at, sector_len, sector_start, words_per_sector, is_regular}
use Rattle.cfb_format.specs.Medium.{part}
use Rattle.cfb_format.proofs.HeaderStart.{u32-same}
use Rattle.cfb_format.proofs.Words.{four-words}
use Rattle.cfb_mending.specs.declared.patches.Patch.{Patch}
use Rattle.cfb_mending.specs.Tables.{AreInTables, IsChainLink, IsDifatEntry, IsDifatLink, IsDifatSector, IsFatSector, IsInTables, IsMark, IsOnChain, IsPadded, IsTablePlace, IsTableSector, chain_link, difat_link, directory_start, fat_place, link_in, minifat_start}

-- the four bytes from this place on are of tables
abbrev pub IsWordOfTable : Version → List ℕ → List ℕ → ℕ → Type 0
IsWordOfTable version bytes fat at = (place : ℕ) → at ≤ place → place < at + 4 → IsTablePlace version bytes fat place

-- a word that was read is the one that stands there
pub word_of_part : (bytes : List ℕ) (at : ℕ) → word_at (part bytes at 4) 0 ≡ word_at bytes at
unfolding word_at
word_of_part bytes at = u32-same (part bytes at 4) (drop at bytes) (λ k low. get_or-take 4 (drop at bytes) k 0 low)

-- ---- patches

pub tables-more : (version : Version) (bytes fat : List ℕ) (p : Patch) (old new : List Patch) → new ≡ old ++ p ∷ [] → IsInTables version bytes fat p
    → AreInTables version bytes fat old → AreInTables version bytes fat new
tables-more version bytes fat p old new is inside before =
    subst (λ (ps : List Patch). AreInTables version bytes fat ps) (sym is) (All-push (IsInTables version bytes fat) old p before inside)

-- a step over the same bytes
pub tables-moved : (version : Version) (b b' fat : List ℕ) (old new : List Patch) → b ≡ b' → (AreInTables version b fat old → AreInTables version b fat new)
    → AreInTables version b' fat old → AreInTables version b' fat new
tables-moved version b b' fat old new same step =
    subst (λ (x : List ℕ). AreInTables version x fat old → AreInTables version x fat new) same step

-- a word of a table becomes a mark
pub word-patch : (version : Version) (bytes fat : List ℕ) (at word : ℕ) → IsWordOfTable version bytes fat at → IsMark word
    → IsInTables version bytes fat (record { at = at; «end» = at + 4; word = word })
word-patch version bytes fat at word inside mark = record { places = inside; word = inl mark }

-- ---- sectors

-- words of a table's sector
pub sector-place : (version : Version) (bytes fat : List ℕ) (s place : ℕ) → IsTableSector version bytes fat s → sector_start version s ≤ place
    → place < sector_start version s + 4 * words_per_sector version → IsTablePlace version bytes fat place
sector-place version bytes fat s place table from upto =
    inr (record { sector = s; table = table; inside = record { from = from; upto = omega (arith, four-words version) } })

pub sector-word : (version : Version) (bytes fat : List ℕ) (s index at : ℕ) → IsTableSector version bytes fat s → index < words_per_sector version
    → at ≡ sector_start version s + 4 * index → IsWordOfTable version bytes fat at
sector-word version bytes fat s index at table below is place from upto =
    sector-place version bytes fat s place table (omega (arith, is, from)) (omega (arith, is, upto, below))

pub sector-patch : (version : Version) (bytes fat : List ℕ) (s index at word : ℕ) → IsTableSector version bytes fat s → index < words_per_sector version
    → at ≡ sector_start version s + 4 * index → IsMark word → IsInTables version bytes fat (record { at = at; «end» = at + 4; word = word })
sector-patch version bytes fat s index at word table below is mark = word-patch version bytes fat at word (sector-word version bytes fat s index at table below is) mark

-- the rest of its words
pub rest-patch : (version : Version) (bytes fat : List ℕ) (s index at upto word : ℕ) → IsTableSector version bytes fat s
    → at ≡ sector_start version s + 4 * index → upto ≡ sector_start version s + 4 * words_per_sector version → IsMark word
    → IsInTables version bytes fat (record { at = at; «end» = upto; word = word })
rest-patch version bytes fat s index at upto word table is ends mark = record {
  places = λ place from below. sector-place version bytes fat s place table (omega (arith, is, from)) (omega (arith, ends, below));
  word = inl mark;
}

-- zeros from the entry on that the end of the file cuts
entry-start : (version : Version) (s n : ℕ) → sector_start version s < n → sector_start version s ≤ n - n % 128
entry-start V3 s n below = omega (arith, below)
entry-start V4 s n below = omega (arith, below)

pub cut-patch : (version : Version) (bytes fat : List ℕ) (s at upto : ℕ) → IsOnChain version bytes fat directory_start s → sector_start version s < length bytes
    → length bytes < sector_start version s + sector_len version → at ≡ length bytes - length bytes % 128 → upto ≡ sector_start version s + 4 * words_per_sector version
    → IsInTables version bytes fat (record { at = at; «end» = upto; word = 0 })
cut-patch version bytes fat s at upto on begun cut is ends =
    let from : sector_start version s ≤ at = omega (arith, is, entry-start version s (length bytes) begun) in
    record {
      places = λ place low high. sector-place version bytes fat s place (inr (inr (inl on))) (omega (arith, from, low)) (omega (arith, ends, high));
      word = inr (record {
        sector = s;
        directory = on;
        inside = record { from = from; upto = omega (arith, is, cut) };
        ends = omega (arith, ends, four-words version);
        entry = omega (arith, is);
        cut = omega (arith, is);
        zeros = refl;
      });
    }

-- up to the end of a sector that the end of the file cuts
pub table-padded : (version : Version) (bytes fat : List ℕ) (s least : ℕ) → IsTableSector version bytes fat s → sector_start version s < length bytes
    → length bytes < sector_start version s + sector_len version → least ≡ sector_start version s + 4 * words_per_sector version → IsPadded version bytes fat least
table-padded version bytes fat s least table begun cut is = record {
  sector = s;
  table = table;
  begun = begun;
  cut = omega (arith, is, cut, four-words version);
  ends = omega (arith, is, four-words version);
}

-- a word of the header
pub header-word : (version : Version) (bytes fat : List ℕ) (at : ℕ) → directory_start ≤ at → at + 4 ≤ 512 → IsWordOfTable version bytes fat at
header-word version bytes fat at low high place from upto = inl (record { from = omega (arith, low, from); upto = omega (arith, high, upto) })

-- ---- the DIFAT

pub difat-sector-word : (version : Version) (bytes fat : List ℕ) (s index at : ℕ) → IsDifatSector version bytes s → index < words_per_sector version
    → at ≡ sector_start version s + 4 * index → IsWordOfTable version bytes fat at
difat-sector-word version bytes fat s index at difat below is = sector-word version bytes fat s index at (inr (inl difat)) below is

pub entry-word : (version : Version) (bytes fat : List ℕ) (at : ℕ) → IsDifatEntry version bytes at → IsWordOfTable version bytes fat at
entry-word version bytes fat at (inl a) = header-word version bytes fat at (omega (arith, a.place)) (omega (arith, a.place, a.below))
entry-word version bytes fat at (inr e) =
    difat-sector-word version bytes fat e.sector e.among.index at e.difat (omega (arith, e.among.below)) e.among.place

-- the entries from one of them on
pub entries-patch : (version : Version) (bytes fat : List ℕ) (from count index at upto word : ℕ) → ((k : ℕ) → k < count → IsDifatEntry version bytes (from + 4 * k))
    → at ≡ from + 4 * index → upto ≡ from + 4 * count → IsMark word → IsInTables version bytes fat (record { at = at; «end» = upto; word = word })
entries-patch version bytes fat from count index at upto word entries is ends mark = record {
  places = λ place low high.
      let k = (place - from) / 4 in
      entry-word version bytes fat (from + 4 * k) (entries k (omega (arith, is, ends, low, high))) place (omega (arith, is, low)) (omega (arith, is, low));
  word = inl mark;
}

-- the link in a DIFAT sector
link-known : (version : Version) (s : ℕ) → is_regular s ≡ true → link_in version s ≡ Some (sector_start version s + 4 * (words_per_sector version - 1))
link-known version s regular = λ j. if regular j then Some (sector_start version s + 4 * (words_per_sector version - 1)) else None

pub difat-next : (version : Version) (bytes : List ℕ) (at s : ℕ) → IsDifatLink version bytes at → word_at bytes at ≡ s → is_regular s ≡ true
    → IsDifatLink version bytes (sector_start version s + 4 * (words_per_sector version - 1))
unfolding difat_link
difat-next version bytes at s (n, is) named regular =
    (suc n, ap (λ (o : Option ℕ). option_and_then (λ (a : ℕ). link_in version (word_at bytes a)) o) is ∙ ap (link_in version) named ∙ link-known version s regular)

pub difat-first : (version : Version) (bytes : List ℕ) → IsDifatLink version bytes 68
unfolding difat_link
difat-first version bytes = (0, refl)

if-some : (r : Bool) (n at : ℕ) → (if r then Some n else None) ≡ Some at → (r ≡ true) × (at ≡ n)
if-some true n at e = (refl, cc)
if-some false n at e = absurd (let w : None ≡ Some at = e in cc)

some-words : (version : Version) → 0 < words_per_sector version
some-words V3 = omega arith
some-words V4 = omega arith

-- where the number of a DIFAT sector stands is a word of a table
link-word : (version : Version) (bytes fat : List ℕ) (n at : ℕ) → difat_link version bytes n ≡ Some at → IsWordOfTable version bytes fat at
unfolding difat_link
link-word version bytes fat zero at is = header-word version bytes fat at (let e : 68 ≡ at = cc in omega (arith, e)) (let e : 68 ≡ at = cc in omega (arith, e))
link-word version bytes fat (suc n) at is =
    option_and_then_some (λ (a : ℕ). link_in version (word_at bytes a)) (difat_link version bytes n) at is (λ a before next.
    let s = word_at bytes a in
    let e = if-some (is_regular s) (sector_start version s + 4 * (words_per_sector version - 1)) at next in
    difat-sector-word version bytes fat s (words_per_sector version - 1) at (record { at = a; link = (n, before); named = refl; regular = e.0 })
    (omega (arith, some-words version)) e.1)

pub difat-link-word : (version : Version) (bytes fat : List ℕ) (at : ℕ) → IsDifatLink version bytes at → IsWordOfTable version bytes fat at
difat-link-word version bytes fat at (n, is) = link-word version bytes fat n at is

-- ---- chains

pub chain-first : (version : Version) (bytes fat : List ℕ) (start : ℕ) → IsChainLink version bytes fat start start
unfolding chain_link
chain-first version bytes fat start = (0, refl)

pub chain-next : (version : Version) (bytes fat : List ℕ) (start at s next : ℕ) → IsChainLink version bytes fat start at → word_at bytes at ≡ s
    → fat_place version fat s ≡ Some next → IsChainLink version bytes fat start next
unfolding chain_link
chain-next version bytes fat start at s next (n, is) named goes_on =
    (suc n, ap (λ (o : Option ℕ). option_and_then (λ (a : ℕ). fat_place version fat (word_at bytes a)) o) is ∙ ap (fat_place version fat) named ∙ goes_on)

pub start-word : (version : Version) (bytes fat : List ℕ) (start : ℕ) → (start ≡ directory_start) ⊎ (start ≡ minifat_start) → IsWordOfTable version bytes fat start
start-word version bytes fat start (inl e) = header-word version bytes fat start (omega (arith, e)) (omega (arith, e))
start-word version bytes fat start (inr e) = header-word version bytes fat start (omega (arith, e)) (omega (arith, e))

map-some : (f : ℕ → ℕ) (o : Option ℕ) (y : ℕ) → option_map f o ≡ Some y → (x : ℕ) × (o ≡ Some x) × (y ≡ f x)
map-some f (Some x) y e = (x, refl, let w : Some (f x) ≡ Some y = e in cc)
map-some f None y e = absurd (let w : None ≡ Some y = e in cc)

-- where the FAT has its word on a sector is a word of a table
pub fat-word : (version : Version) (bytes fat : List ℕ) (s at : ℕ) → fat_place version fat s ≡ Some at → IsWordOfTable version bytes fat at
fat-word version bytes fat s at is =
    let k = s / words_per_sector version in
    let m = map-some (λ (holder : ℕ). sector_start version holder + 4 * (s % words_per_sector version)) (slice_get fat k) at is in
    let holder = m.0 in
    let there : Contains fat holder = (k, slice_get_within fat k holder m.1, get_or_from_slice_get fat k holder holder m.1) in
    sector-word version bytes fat holder (s % words_per_sector version) at (inl there) (omega (arith, some-words version)) m.2

pub start-bound : (start : ℕ) → (start ≡ directory_start) ⊎ (start ≡ minifat_start) → start < 2 ^ 63
start-bound start (inl e) = omega (arith, e)
start-bound start (inr e) = omega (arith, e)

-- one more sector of the chain
pub chain-more : (version : Version) (bytes fat : List ℕ) (start at s : ℕ) (old new : List ℕ) → new ≡ old ++ s ∷ [] → IsChainLink version bytes fat start at
    → word_at bytes at ≡ s → All (IsOnChain version bytes fat start) old → All (IsOnChain version bytes fat start) new
chain-more version bytes fat start at s old new is link named before =
    subst (λ (l : List ℕ). All (IsOnChain version bytes fat start) l) (sym is)
    (All-push (IsOnChain version bytes fat start) old s before (record { at = at; link = link; named = named }))

-- one more FAT sector
pub fat-more : (version : Version) (bytes : List ℕ) (at s : ℕ) (old new : List ℕ) → new ≡ old ++ s ∷ [] → IsDifatEntry version bytes at → word_at bytes at ≡ s
    → All (IsFatSector version bytes) old → All (IsFatSector version bytes) new
fat-more version bytes at s old new is entry named before =
    subst (λ (l : List ℕ). All (IsFatSector version bytes) l) (sym is) (All-push (IsFatSector version bytes) old s before (record { at = at; entry = entry; named = named }))

-- an entry in the DIFAT sector whose number stands at a link
pub difat-entry : (version : Version) (bytes : List ℕ) (link s index at : ℕ) → IsDifatLink version bytes link → word_at bytes link ≡ s → is_regular s ≡ true
    → index < words_per_sector version - 1 → at ≡ sector_start version s + 4 * index → IsDifatEntry version bytes at
difat-entry version bytes link s index at linked named regular below is = inr (record {
  sector = s;
  difat = record { at = link; link = linked; named = named; regular = regular };
  among = record { index = index; below = below; place = is };
})

-- a step over the same bytes
pub fat-moved : (version : Version) (b b' old new : List ℕ) → b ≡ b' → (All (IsFatSector version b) old → All (IsFatSector version b) new)
    → All (IsFatSector version b') old → All (IsFatSector version b') new
fat-moved version b b' old new same step = subst (λ (x : List ℕ). All (IsFatSector version x) old → All (IsFatSector version x) new) same step

-- ---- the sectors of a chain

-- a step over the same bytes, along a chain
pub chain-moved : (version : Version) (bytes fat : List ℕ) (start : ℕ) (b items now : List ℕ) → b ≡ bytes → now ≡ items → All (IsOnChain version b fat start) items
    → All (IsOnChain version bytes fat start) now
chain-moved version bytes fat start b items now same e all =
    All-same (IsOnChain version bytes fat start) now items e (subst (λ (x : List ℕ). All (IsOnChain version x fat start) items) same all)

chain-tables : (version : Version) (bytes fat : List ℕ) (start : ℕ) → ((s : ℕ) → IsOnChain version bytes fat start s → IsTableSector version bytes fat s) → (b items now : List ℕ)
    → b ≡ bytes → now ≡ items → All (IsOnChain version b fat start) items → All (IsTableSector version bytes fat) now
chain-tables version bytes fat start is b items now same e all =
    let there = subst (λ (x : List ℕ). All (IsOnChain version x fat start) items) same all in
    All-same (IsTableSector version bytes fat) now items e (All-weaker (IsOnChain version bytes fat start) (IsTableSector version bytes fat) is items there)

pub directory-tables : (version : Version) (b bytes fat items now : List ℕ) → b ≡ bytes → now ≡ items → All (IsOnChain version b fat directory_start) items
    → All (IsTableSector version bytes fat) now
directory-tables version b bytes fat items now = chain-tables version bytes fat directory_start (λ s on. inr (inr (inl on))) b items now

pub minifat-tables : (version : Version) (b bytes fat items now : List ℕ) → b ≡ bytes → now ≡ items → All (IsOnChain version b fat minifat_start) items
    → All (IsTableSector version bytes fat) now
minifat-tables version b bytes fat items now = chain-tables version bytes fat minifat_start (λ s on. inr (inr (inr on))) b items now

-- a step over the same bytes, along sectors of tables
pub sectors-moved : (version : Version) (b b' fat now : List ℕ) (old new : List Patch) → b ≡ b'
    → (All (IsTableSector version b fat) now → AreInTables version b fat old → AreInTables version b fat new)
    → All (IsTableSector version b' fat) now → AreInTables version b' fat old → AreInTables version b' fat new
sectors-moved version b b' fat now old new same step =
    subst (λ (x : List ℕ). All (IsTableSector version x fat) now → AreInTables version x fat old → AreInTables version x fat new) same step

-- the same of the directory in a file of this length
pub directory-moved : (version : Version) (b b' fat now : List ℕ) (len : ℕ) (old new : List Patch) → b ≡ b'
    → (len ≡ length b → All (IsOnChain version b fat directory_start) now → AreInTables version b fat old → AreInTables version b fat new) → len ≡ length b'
    → All (IsOnChain version b' fat directory_start) now → AreInTables version b' fat old → AreInTables version b' fat new
directory-moved version b b' fat now len old new same step =
    subst (λ (x : List ℕ). len ≡ length x → All (IsOnChain version x fat directory_start) now → AreInTables version x fat old → AreInTables version x fat new) same step
