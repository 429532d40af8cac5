-- What stands along a lent chain, as it is read, written, grown and cut.
use Rattle.std.proofs.Common.{◌≡◌, ◌<◌, ◌≤◌, ◌+◌, ◌-◌, ◌*◌, ◌/◌, ◌%◌, ◌⊎◌, inl, inr, ℕ, zero, suc, min, List, ◌++◌, refl, sym, ◌∙◌, ap, subst, length, take, replicate, arith, length-take}
use Rattle.std.specs.Prelude.{Some, Contains, slice_index, Result, Ok, Err}
use Rattle.std.specs.Result.{OnOk}
use Rattle.std.proofs.lemmas.List.{append-nil, take-take, take_all, length-replicate}
use Rattle.std.proofs.lemmas.List.Elements.{Contains-append_cases}
use Rattle.cfb_format.specs.declared.validate.Validation.{Validation}
use Rattle.cfb_format.specs.declared.version.Version.{Version}
use Rattle.cfb_format.specs.declared.version.Version.TheVariants.{V3, V4}
use Rattle.cfb_format.specs.Bytes.{sector_len, fat_sector, difat_sector, max_regular_sector, end_of_chain}
use Rattle.cfb_format.specs.Chain.{value, chain_from}
use Rattle.cfb_format.specs.Content.{bytes_along}
use Rattle.cfb_format.specs.Full.{rounded_up}
use Rattle.cfb_format.specs.Medium.{written}
use Rattle.cfb_chains.specs.cfb_alloc.Agreement.{HasSectors, KeepsSectors}
use Rattle.cfb_chains.specs.cfb_alloc.Alloc.{AllocatorState, HoldsTables, ChangesSectors, OthersStay, IsAsFilled}
use Rattle.cfb_sectors.specs.Sectors.{copies, init_bytes}
use Rattle.cfb_sectors.specs.declared.sector.SectorInit.{SectorInit}
use Rattle.cfb_chains.proofs.ChainContent.{along_len, along_stays, sectors_stay, along_grown, grown_has, along_cut, cut_has, written_to_end}
use Rattle.cfb_chains.proofs.cfb_tables.ChainLemmas.{follows-values, members-busy}
use Rattle.cfb_chains.proofs.cfb_alloc.ChainView.{found_chain}
use Rattle.cfb_format.proofs.Members.{Contains-nil}
use Rattle.cfb_format.proofs.Walks.{value-at}

-- the chain has each of its sectors whole, and these are its bytes
abbrev pub HasContent : Version → List ℕ → List ℕ → List ℕ → Type 0
HasContent v bytes ids content = HasSectors v bytes ids × (bytes_along v bytes ids ≡ content)

pub content_same : (v v' : Version) (bytes bytes' ids ids' content : List ℕ) → v' ≡ v → bytes' ≡ bytes → ids' ≡ ids → HasContent v bytes ids content → HasContent v' bytes' ids' content
content_same v v' bytes bytes' ids ids' content version same listed h =
    subst (λ (w : Version). HasContent w bytes' ids' content) (sym version)
    (subst (λ (b : List ℕ). HasContent v b ids' content) (sym same)
    (subst (λ (l : List ℕ). HasContent v bytes l content) (sym listed) h))

-- no member of a chain is a table sector
module _ (validation : Validation) (a : AllocatorState) (s : ℕ) (ids : List ℕ) (e : chain_from a.tables.fat s ≡ Some ids) (h : HoldsTables validation a) (i : ℕ) (m : Contains ids i) where
  abbrev fat : List ℕ
  fat = a.tables.fat

  no_mark : (w : ℕ) → slice_index fat i ≡ w → max_regular_sector < w → w < end_of_chain → ⊥
  no_mark w is high low =
      let chain = found_chain fat s ids e in
      let marked : value fat i ≡ w = value-at fat i ((members-busy fat s ids chain i m).1) ∙ is in
      elim (follows-values fat s ids chain.follows i m) [ inl le ↦ omega (arith, le, marked, high) | inr end ↦ omega (arith, end, marked, low) ]

  no_fat_sector : Contains a.tables.fat_sectors i → ⊥
  no_fat_sector t = no_mark fat_sector (h.holds.agrees.fat_marks i t).1 (omega arith) (omega arith)

  no_difat_sector : Contains a.tables.difat_sectors i → ⊥
  no_difat_sector t = no_mark difat_sector (h.holds.agrees.difat_marks i t (λ f. h.holds.apart i f t)) (omega arith) (omega arith)

  pub no_table_sector : Contains (a.tables.fat_sectors ++ a.tables.difat_sectors) i → ⊥
  no_table_sector t = elim (Contains-append_cases a.tables.fat_sectors a.tables.difat_sectors i t) [ inl f ↦ no_fat_sector f | inr d ↦ no_difat_sector d ]

-- so they stay where those in use do, and where the FAT sectors alone change
pub keeps_own : (validation : Validation) (a b : AllocatorState) (s : ℕ) (ids : List ℕ) → chain_from a.tables.fat s ≡ Some ids → HoldsTables validation a → OthersStay a b
    → KeepsSectors a.tables.version ids a.file.bytes b.file.bytes
keeps_own validation a b s ids e h others i m =
    others.sectors i ((members-busy a.tables.fat s ids (found_chain a.tables.fat s ids e) i m).0) (no_table_sector validation a s ids e h i m) (Contains-nil i)

pub keeps_cut : (validation : Validation) (a b : AllocatorState) (s : ℕ) (ids : List ℕ) → chain_from a.tables.fat s ≡ Some ids → HoldsTables validation a
    → ChangesSectors a.tables.fat_sectors a.tables.version a.file.bytes b.file.bytes → KeepsSectors a.tables.version ids a.file.bytes b.file.bytes
keeps_cut validation a b s ids e h changes i m = changes.sectors i (no_fat_sector validation a s ids e h i m)

-- ---- growing and cutting

module _ (validation : Validation) (a b : AllocatorState) (s : ℕ) (ids ids' : List ℕ) (e : chain_from a.tables.fat s ≡ Some ids) (h : HoldsTables validation a)
    (has : HasSectors a.tables.version a.file.bytes ids) (version : b.tables.version ≡ a.tables.version) where
  abbrev v : Version
  v = a.tables.version

  abbrev content : List ℕ
  content = bytes_along v a.file.bytes ids

  pub content_grown : (count : ℕ) (init : SectorInit) (more : List ℕ) → ids' ≡ ids ++ more → length more ≡ count → OthersStay a b
      → ((i : ℕ) → Contains more i → IsAsFilled b.tables.version init b.file.bytes i)
      → HasContent b.tables.version b.file.bytes ids' (content ++ copies count (init_bytes v init))
  content_grown count init more listed counted others filled =
      let filled' : (i : ℕ) → Contains more i → IsAsFilled v init b.file.bytes i = λ i m. subst (λ (w : Version). IsAsFilled w init b.file.bytes i) version (filled i m) in
      let keeps = keeps_own validation a b s ids e h others in
      content_same v b.tables.version b.file.bytes b.file.bytes (ids ++ more) ids' (content ++ copies count (init_bytes v init)) version refl listed (
        grown_has v init a.file.bytes b.file.bytes ids more has others.no_shorter filled',
        along_grown v init a.file.bytes b.file.bytes ids more has keeps others.no_shorter filled' ∙ ap (λ n. content ++ copies n (init_bytes v init)) counted,
      )

  pub content_cut : (m : ℕ) → m ≤ length ids → ids' ≡ take m ids → ChangesSectors a.tables.fat_sectors v a.file.bytes b.file.bytes
      → HasContent b.tables.version b.file.bytes ids' (take (m * sector_len v) content)
  content_cut m few listed changes =
      let keeps = keeps_cut validation a b s ids e h changes in
      let whole = sectors_stay v a.file.bytes b.file.bytes ids has changes.no_shorter in
      content_same v b.tables.version b.file.bytes b.file.bytes (take m ids) ids' (take (m * sector_len v) content) version refl listed (
        cut_has v b.file.bytes ids m whole,
        along_cut v b.file.bytes ids m whole few ∙ ap (take (m * sector_len v)) (along_stays v a.file.bytes b.file.bytes ids has keeps changes.no_shorter),
      )

-- where nothing is cut
pub content_uncut : (v : Version) (bytes ids : List ℕ) (m : ℕ) → HasSectors v bytes ids → length ids ≤ m
    → HasContent v bytes ids (take (m * sector_len v) (bytes_along v bytes ids))
content_uncut v bytes ids m has few = (has, sym (take_all (m * sector_len v) (bytes_along v bytes ids) (long_enough v (length ids) m (length (bytes_along v bytes ids)) few (along_len v bytes ids has))))
  where
    long_enough : (v : Version) (n m l : ℕ) → n ≤ m → l ≡ n * sector_len v → l ≤ m * sector_len v
    long_enough V3 n m l le is = omega arith
    long_enough V4 n m l le is = omega arith

-- ---- a shorter length, in the same sectors or in fewer

pub none_left : (v : Version) (len : ℕ) → len % sector_len v ≡ 0 → rounded_up len (sector_len v) * sector_len v ≡ len
none_left V3 len is = omega arith
none_left V4 len is = omega arith

pub some_left : (v : Version) (len : ℕ) → 0 < len % sector_len v → rounded_up len (sector_len v) * sector_len v ≡ len + (sector_len v - len % sector_len v)
some_left V3 len is = omega arith
some_left V4 len is = omega arith

pub taken_len : (l : List ℕ) (n : ℕ) → n ≤ length l → length (take n l) ≡ n
taken_len l n le = let t = length-take n l in omega (arith, t, le)

-- of the content x the sectors for this length are left, which hold y; z is y with zeros behind the length
pub content_shortened : (v : Version) (x y z : List ℕ) (len : ℕ) → rounded_up len (sector_len v) * sector_len v ≤ length x
    → y ≡ take (rounded_up len (sector_len v) * sector_len v) x → (len % sector_len v ≡ 0 → z ≡ y)
    → (0 < len % sector_len v → z ≡ written y len (replicate (sector_len v - len % sector_len v) 0))
    → z ≡ take len x ++ replicate (rounded_up len (sector_len v) * sector_len v - len) 0
content_shortened v x y z len long cut same zeroed = elim (zero_or_more (len % sector_len v)) [ inl none ↦ whole none | inr some ↦ parted some ]
  where
    zero_or_more : (n : ℕ) → (n ≡ 0) ⊎ (0 < n)
    zero_or_more zero = inl refl
    zero_or_more (suc n) = inr (omega arith)

    whole : len % sector_len v ≡ 0 → z ≡ take len x ++ replicate (rounded_up len (sector_len v) * sector_len v - len) 0
    whole none =
        let end = none_left v len none in
        let no_zeros : rounded_up len (sector_len v) * sector_len v - len ≡ 0 = omega (arith, end) in
        same none ∙ cut ∙ ap (λ n. take n x) end ∙ sym (append-nil (take len x)) ∙ ap (λ n. take len x ++ replicate n 0) (sym no_zeros)

    parted : 0 < len % sector_len v → z ≡ take len x ++ replicate (rounded_up len (sector_len v) * sector_len v - len) 0
    parted some =
        let end = some_left v len some in
        let rest = sector_len v - len % sector_len v in
        let zeros : List ℕ = replicate rest 0 in
        let count : length zeros ≡ rest = length-replicate {A = ℕ} rest 0 in
        let size : length y ≡ rounded_up len (sector_len v) * sector_len v = ap (λ (l : List ℕ). length l) cut ∙ taken_len x (rounded_up len (sector_len v) * sector_len v) long in
        let behind : rest ≡ rounded_up len (sector_len v) * sector_len v - len = omega (arith, end) in
        zeroed some
        ∙ written_to_end y len zeros (omega (arith, count, size, end))
        ∙ ap (λ (l : List ℕ). take len l ++ zeros) cut
        ∙ ap (λ (l : List ℕ). l ++ zeros) (take-take len (rounded_up len (sector_len v) * sector_len v) x (omega (arith, end)))
        ∙ ap (λ n. take len x ++ replicate n 0) behind

wanted_by : (v : Version) (len : ℕ) → len / sector_len v + min 1 (len % sector_len v) ≡ rounded_up len (sector_len v)
wanted_by V3 len = omega arith
wanted_by V4 len = omega arith

-- the division that rounds up
pub wanted_is : (v : Version) (len r l : ℕ) → l ≡ sector_len v → r ≡ len / l + min 1 (len % l) → r ≡ rounded_up len (sector_len v)
wanted_is v len r l is eq = eq ∙ (λ j. len / is j + min 1 (len % is j)) ∙ wanted_by v len

sectors_long : (v : Version) (m n l : ℕ) → m ≤ n → l ≡ n * sector_len v → m * sector_len v ≤ l
sectors_long V3 m n l few is = omega arith
sectors_long V4 m n l few is = omega arith

pub content_long : (v : Version) (bytes ids : List ℕ) (m : ℕ) → HasSectors v bytes ids → m ≤ length ids → m * sector_len v ≤ length (bytes_along v bytes ids)
content_long v bytes ids m has few = sectors_long v m (length ids) (length (bytes_along v bytes ids)) few (along_len v bytes ids has)

-- the same, of an answer
pub shortened_of : {T E : Type 0} (r : Result T E) (w : Type 0) (v u : Version) (x y z : List ℕ) (len : ℕ) → u ≡ v → rounded_up len (sector_len v) * sector_len v ≤ length x
    → y ≡ take (rounded_up len (sector_len v) * sector_len v) x → OnOk r w → (len % sector_len u ≡ 0 → OnOk r (z ≡ y))
    → (0 < len % sector_len u → OnOk r (z ≡ written y len (replicate (sector_len u - len % sector_len u) 0)))
    → OnOk r (w × (z ≡ take len x ++ replicate (rounded_up len (sector_len v) * sector_len v - len) 0))
shortened_of (Err e) w v u x y z len version long cut whole same zeroed = tt
shortened_of (Ok a) w v u x y z len version long cut whole same zeroed = (
  whole,
  content_shortened v x y z len long cut
      (λ none. same ((λ j. len % sector_len (version j)) ∙ none))
      (λ some. zeroed (subst (λ (t : Version). 0 < len % sector_len t) (sym version) some) ∙ (λ j. written y len (replicate (sector_len (version j) - len % sector_len (version j)) 0))),
)
