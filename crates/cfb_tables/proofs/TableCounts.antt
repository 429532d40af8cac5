-- How many FAT sectors and DIFAT sectors the tables come to.
use Rattle.std.proofs.Common.{◌≡◌, ℕ, ◌+◌, ◌-◌, ◌*◌, ◌<◌, ◌≤◌, inl, inr, max, List, length, sym, ap, subst, arith}
use Rattle.cfb_format.specs.declared.version.Version.{Version}
use Rattle.cfb_format.specs.declared.version.Version.TheVariants.{V3, V4}
use Rattle.cfb_format.specs.Bytes.{words_per_sector}
use Rattle.cfb_format.specs.Full.{rounded_up}
use Rattle.cfb_format.specs.Header.{header_difat_len}
use Rattle.cfb_tables.specs.declared.lists.Sizes.{Sizes}
use Rattle.cfb_tables.specs.Tables.{TableState, HasTaken, sizes_of, numbers_needed, grown_sizes}
use Rattle.cfb_tables.proofs.SizeLemmas.{needed-cases, one, two, three}

-- from these sizes to those there come FAT sectors until they cover the file, and DIFAT sectors until they have their places
pub record Counts (v w : Version) (s z : Sizes) : Type 0 where
  pub covered : s.sectors ≤ s.fats * words_per_sector v → z.sectors ≤ z.fats * words_per_sector w
  pub fats : s.sectors ≤ s.fats * words_per_sector v → z.fats ≡ max s.fats (rounded_up z.sectors (words_per_sector w))
  pub difats : z.difats ≡ max s.difats (rounded_up (z.fats - header_difat_len) (words_per_sector w - 1))

-- the DIFAT has a place for each FAT sector
abbrev pub HasPlaces : Version → Sizes → Type 0
HasPlaces v s = s.fats ≤ header_difat_len + s.difats * (words_per_sector v - 1)

-- ---- nothing grows

fats-suffice : (v : Version) (n f : ℕ) → n ≤ f * words_per_sector v → f ≡ max f (rounded_up n (words_per_sector v))
fats-suffice V3 n f h = omega (arith, h)
fats-suffice V4 n f h = omega (arith, h)

pub difats-suffice : (v : Version) (f d : ℕ) → f ≤ header_difat_len + d * (words_per_sector v - 1) → d ≡ max d (rounded_up (f - header_difat_len) (words_per_sector v - 1))
difats-suffice V3 f d h = omega (arith, h)
difats-suffice V4 f d h = omega (arith, h)

pub counts-same : (v : Version) (s z : Sizes) → z ≡ s → HasPlaces v s → Counts v v s z
counts-same v s z same places = subst (Counts v v s) (sym same) (record {
  covered = λ covers. covers;
  fats = fats-suffice v s.sectors s.fats;
  difats = difats-suffice v s.fats s.difats places;
})

-- ---- one growth

one-fat-more : (v : Version) (n f m : ℕ) → n ≤ f * words_per_sector v → f * words_per_sector v ≤ n → 0 < m → m < 4
    → f + 1 ≡ max f (rounded_up (n + m) (words_per_sector v))
one-fat-more V3 n f m h full some few = omega (arith, h, full, some, few)
one-fat-more V4 n f m h full some few = omega (arith, h, full, some, few)

more-covered : (v : Version) (n f m : ℕ) → n ≤ f * words_per_sector v → m < 4 → n + m ≤ (f + 1) * words_per_sector v
more-covered V3 n f m h few = omega (arith, h, few)
more-covered V4 n f m h few = omega (arith, h, few)

one-difat-more : (v : Version) (f d : ℕ) → f ≤ header_difat_len + d * (words_per_sector v - 1) → header_difat_len + d * (words_per_sector v - 1) ≤ f
    → d + 1 ≡ max d (rounded_up (f + 1 - header_difat_len) (words_per_sector v - 1))
one-difat-more V3 f d h full = omega (arith, h, full)
one-difat-more V4 f d h full = omega (arith, h, full)

pub counts-grown : (v : Version) (s : Sizes) → HasPlaces v s → Counts v v s (grown_sizes s (numbers_needed v s))
counts-grown v s places = elim (needed-cases v s) [
  | inl c ↦ subst (Counts v v s) (sym (one s (numbers_needed v s) c.0)) (record {
    covered = λ covers. omega (arith, c.1);
    fats = λ covers. fats-suffice v (s.sectors + 1) s.fats (omega (arith, c.1));
    difats = difats-suffice v s.fats s.difats places;
  })
  | inr q ↦ elim q [
    | inl c ↦ subst (Counts v v s) (sym (two s (numbers_needed v s) c.0)) (record {
      covered = λ covers. more-covered v s.sectors s.fats 2 covers (omega arith);
      fats = λ covers. one-fat-more v s.sectors s.fats 2 covers c.1 (omega arith) (omega arith);
      difats = difats-suffice v (s.fats + 1) s.difats (omega (arith, c.2));
    })
    | inr c ↦ subst (Counts v v s) (sym (three s (numbers_needed v s) c.0)) (record {
      covered = λ covers. more-covered v s.sectors s.fats 3 covers (omega arith);
      fats = λ covers. one-fat-more v s.sectors s.fats 3 covers c.1 (omega arith) (omega arith);
      difats = one-difat-more v s.fats s.difats places c.2;
    })
  ]
]

-- ---- one growth after another

pub fats-rise : (v : Version) (n m : ℕ) → n ≤ m → rounded_up n (words_per_sector v) ≤ rounded_up m (words_per_sector v)
fats-rise V3 n m h = omega (arith, h)
fats-rise V4 n m h = omega (arith, h)

difats-rise : (v : Version) (f g : ℕ) → f ≤ g → rounded_up (f - header_difat_len) (words_per_sector v - 1) ≤ rounded_up (g - header_difat_len) (words_per_sector v - 1)
difats-rise V3 f g h = omega (arith, h)
difats-rise V4 f g h = omega (arith, h)

greater-then : (a b c x y : ℕ) → b ≡ max a x → x ≤ y → c ≡ max b y → c ≡ max a y
greater-then a b c x y first rise second = omega (arith, first, rise, second)

pub counts-then : (v w u : Version) (s y z : Sizes) → u ≡ w → y.sectors ≤ z.sectors → y.fats ≤ z.fats → Counts v w s y → Counts w u y z → Counts v u s z
counts-then v w u s y z same sectors fats f g =
    let words = ap words_per_sector same in
    record {
      covered = λ covers. g.covered (f.covered covers);
      fats = λ covers.
          let up = fats-rise w y.sectors z.sectors sectors in
          let to : rounded_up z.sectors (words_per_sector w) ≡ rounded_up z.sectors (words_per_sector u) = ap (rounded_up z.sectors) (sym words) in
          greater-then s.fats y.fats z.fats (rounded_up y.sectors (words_per_sector w)) (rounded_up z.sectors (words_per_sector u))
          (f.fats covers) (subst (λ k. rounded_up y.sectors (words_per_sector w) ≤ k) to up) (g.fats (f.covered covers));
      difats =
          let up = difats-rise w y.fats z.fats fats in
          let to : rounded_up (z.fats - header_difat_len) (words_per_sector w - 1) ≡ rounded_up (z.fats - header_difat_len) (words_per_sector u - 1) =
          ap (λ k. rounded_up (z.fats - header_difat_len) (k - 1)) (sym words) in
          greater-then s.difats y.difats z.difats (rounded_up (y.fats - header_difat_len) (words_per_sector w - 1)) (rounded_up (z.fats - header_difat_len) (words_per_sector u - 1))
          f.difats (subst (λ k. rounded_up (y.fats - header_difat_len) (words_per_sector w - 1) ≤ k) to up) g.difats;
    }

-- ---- of the tables

pub counts-of : (old new : TableState) (touched more : List ℕ) → HasTaken old new touched more → Counts old.version new.version (sizes_of old) (sizes_of new)
counts-of old new touched more h = record { covered = h.covered; fats = h.fat_count; difats = h.difat_count }

-- what was counted has its places
counted-places : (v : Version) (f a d : ℕ) → d ≡ max a (rounded_up (f - header_difat_len) (words_per_sector v - 1)) → f ≤ header_difat_len + d * (words_per_sector v - 1)
counted-places V3 f a d e = omega (arith, e)
counted-places V4 f a d e = omega (arith, e)

pub taken-places : (old new : TableState) (touched more : List ℕ) → HasTaken old new touched more → HasPlaces new.version (sizes_of new)
taken-places old new touched more h = counted-places new.version (length new.fat_sectors) (length old.difat_sectors) (length new.difat_sectors) h.difat_count
