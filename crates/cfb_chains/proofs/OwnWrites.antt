-- What a chain's own write leaves alone: every sector of others, and the header.
use Rattle.std.proofs.Common.{◌≡◌, ◌<◌, ◌≤◌, ◌+◌, ◌-◌, ◌*◌, ◌/◌, ◌%◌, ◌⊎◌, inl, inr, ℕ, zero, suc, List, [], ◌∷◌, ◌++◌, length, take, drop, refl, sym, subst, ◌∙◌, arith}
use Rattle.std.specs.Prelude.{Contains, Vec, slice_index}
use Rattle.std.proofs.lemmas.List.{take-append-drop}
use Rattle.std.proofs.lemmas.List.Elements.{Contains-append_left, Contains-append_cases}
use Rattle.cfb_format.specs.declared.version.Version.{Version}
use Rattle.cfb_format.specs.declared.version.Version.TheVariants.{V3, V4}
use Rattle.cfb_format.specs.Bytes.{sector_len, sector_start, free_sector}
use Rattle.cfb_format.specs.Chain.{value}
use Rattle.cfb_format.specs.Full.{rounded_up}
use Rattle.cfb_format.specs.Medium.{ChangesOnlyBytes}
use Rattle.cfb_format.specs.declared.medium.ReadMedium as medium
use Rattle.cfb_chains.specs.cfb_alloc.Alloc.{AllocatorState, ChangesSectors, IsOtherHeaderByte, OthersStay, OthersStayBut}
use Rattle.cfb_chains.specs.cfb_tables.Tables.{HasTaken}
use Rattle.cfb_chains.proofs.cfb_alloc.ChainView.{sector_member}
use Rattle.cfb_chains.specs.LentChain.{allocator_of, ids_of, version_of, file_bytes_of, HoldsWanted, ChangesOnlyWanted}
use Rattle.cfb_chains.specs.declared.chain.Chain.{Chain}
use Rattle.cfb_chains.specs.declared.chain.Numbers as numbers
use Rattle.cfb_sectors.specs.Sectors.{SectorStays}
use Rattle.cfb_chains.proofs.ChainWrites.{not_end}
use Rattle.cfb_chains.proofs.cfb_alloc.FrameLemmas.{changes_in_sector}
use Rattle.cfb_chains.proofs.cfb_tables.Members.{first_of_three}
use Rattle.cfb_sectors.proofs.SectorLemmas.{SectorStays_next, SectorStays_refl, SectorStays_trans}
use Rattle.cfb_chains.proofs.ChainContent.{rest_short}
use Rattle.cfb_format.proofs.Members.{Contains-nil, Contains-one}

-- a sector that is the chain's own, or was free
abbrev IsOwn : List ℕ → AllocatorState → ℕ → Type 0
IsOwn own old i = Contains own i ⊎ (value old.tables.fat i ≡ free_sector)

pub own_none : (own : List ℕ) (old : AllocatorState) → OthersStayBut own old old
own_none own old = record {
  no_shorter = omega arith;
  sectors = λ i busy out mine. SectorStays_refl old.tables.version i old.file.bytes;
  header = λ i lt other. refl;
}

pub own_taken : (own : List ℕ) (old new : AllocatorState) → OthersStay old new → OthersStayBut own old new
own_taken own old new others = record {
  no_shorter = others.no_shorter;
  sectors = λ i busy out mine. others.sectors i busy out (Contains-nil i);
  header = others.header;
}

pub own_freed : (own : List ℕ) (old new : AllocatorState) → ChangesSectors old.tables.fat_sectors old.tables.version old.file.bytes new.file.bytes → OthersStayBut own old new
own_freed own old new changes = record {
  no_shorter = changes.no_shorter;
  sectors = λ i busy out mine. changes.sectors i (λ m. out (Contains-append_left old.tables.fat_sectors old.tables.difat_sectors i m));
  header = changes.header;
}

module _ (own : List ℕ) (old mid new : AllocatorState) (first : OthersStayBut own old mid) (version : mid.tables.version ≡ old.tables.version) where
  own_next : (s : ℕ) → IsOwn own old s → ChangesSectors (s ∷ []) mid.tables.version mid.file.bytes new.file.bytes → OthersStayBut own old new
  own_next s is second =
      let step : ChangesSectors (s ∷ []) old.tables.version mid.file.bytes new.file.bytes
      = subst (λ (v : Version). ChangesSectors (s ∷ []) v mid.file.bytes new.file.bytes) version second in
      let longer = first.no_shorter in
      record {
        no_shorter = omega (arith, longer, step.no_shorter);
        sectors = λ i busy out mine. SectorStays_trans old.tables.version i old.file.bytes mid.file.bytes new.file.bytes (first.sectors i busy out mine)
            (step.sectors i (λ m. elim is [
              | inl among ↦ mine (subst (λ (k : ℕ). Contains own k) (Contains-one s i m) among)
              | inr free ↦ busy (subst (λ (k : ℕ). value old.tables.fat k ≡ free_sector) (Contains-one s i m) free)
            ]));
        header = λ i lt other. step.header i (omega (arith, lt, longer)) other ∙ first.header i lt other;
      }

  own_same : new ≡ mid → OthersStayBut own old new
  own_same same = subst (λ (a : AllocatorState). OthersStayBut own old a) (sym same) first

  -- zeros behind a place of the chain, as far as its sector goes
  pub own_zeroed : (ids : List ℕ) (len : ℕ) → ((i : ℕ) → Contains ids i → IsOwn own old i) → len ≤ length ids * sector_len mid.tables.version
      → (len % sector_len mid.tables.version ≡ 0 → new ≡ mid)
      → ChangesOnlyBytes (sector_start mid.tables.version (slice_index ids (len / sector_len mid.tables.version)) + len % sector_len mid.tables.version)
      (sector_len mid.tables.version - len % sector_len mid.tables.version) mid.file.bytes new.file.bytes
      → OthersStayBut own old new
  own_zeroed ids len owns within none change = elim (zero_or_more (len % l)) [ inl is ↦ own_same (none is) | inr some ↦ inside (not_end mid.tables.version len (length ids) within some) ]
    where
      l : ℕ
      l = sector_len mid.tables.version

      zero_or_more : (n : ℕ) → (n ≡ 0) ⊎ (n ≡ 0 → ⊥)
      zero_or_more zero = inl refl
      zero_or_more (suc n) = inr (λ e. omega (arith, e))

      inside : len < length ids * l → OthersStayBut own old new
      inside lt =
          let s = slice_index ids (len / l) in
          let short = rest_short mid.tables.version len in
          own_next s (owns s (sector_member mid.tables.version ids len lt))
          (changes_in_sector mid.tables.version s (len % l) (l - len % l) (sector_start mid.tables.version s + len % l) mid.file.bytes new.file.bytes refl
          (omega (arith, short)) change)

-- a byte of the header stands before all sectors
before_sectors : (v : Version) (sector offset i : ℕ) → IsOtherHeaderByte v i → sector_start v sector + offset ≡ i → ⊥
before_sectors V3 sector offset i (inl low) is = omega (arith, is, low)
before_sectors V3 sector offset i (inr (inl mid)) is = omega (arith, is, mid.1)
before_sectors V3 sector offset i (inr (inr high)) is = omega (arith, is, high.1)
before_sectors V4 sector offset i (inl low) is = omega (arith, is, low)
before_sectors V4 sector offset i (inr (inl mid)) is = omega (arith, is, mid.1)
before_sectors V4 sector offset i (inr (inr high)) is = omega (arith, is, high.1)

-- a write within the chain, once it is as it has to be
module _ {F A : Type 0} {g : medium.Ghosts F} {l : numbers.Ghosts (Vec ℕ A)} where
  pub own_wanted : (own : List ℕ) (old : AllocatorState) (mid new : Chain F A (Vec ℕ A) g l) (count : ℕ) → OthersStayBut own old (allocator_of mid).now → version_of mid ≡ old.tables.version
      → ((i : ℕ) → Contains (ids_of mid) i → IsOwn own old i)
      → ((i : ℕ) → (HoldsWanted count mid i → ⊥) → SectorStays (version_of mid) i (file_bytes_of mid) (file_bytes_of new))
      → ChangesOnlyWanted count mid new → OthersStayBut own old (allocator_of new).now
  own_wanted own old mid new count first version owns sectors changes =
      let longer = first.no_shorter in
      let no_less = changes.no_shorter in
      record {
        no_shorter = omega (arith, longer, no_less);
        sectors = λ i busy out mine.
            SectorStays_next old.tables.version (version_of mid) i old.file.bytes (file_bytes_of mid) (file_bytes_of new) version (first.sectors i busy out mine)
            (sectors i (λ holds.
            let member = subst (Contains (ids_of mid)) holds.here (sector_member (version_of mid) (ids_of mid) holds.byte holds.there) in
            elim (owns i member) [ inl among ↦ mine among | inr free ↦ busy free ]));
        header = λ i lt other.
            let here : IsOtherHeaderByte (version_of mid) i = subst (λ (v : Version). IsOtherHeaderByte v i) (sym version) other in
            changes.others i (omega (arith, lt, longer)) (λ k behind wanted there is. before_sectors (version_of mid) (slice_index (ids_of mid) (k / sector_len (version_of mid))) (k % sector_len (version_of mid)) i here is)
            ∙ first.header i lt other;
      }

-- whose sectors the members of a list are
pub own_kept : (ids : List ℕ) (old : AllocatorState) (ids' : List ℕ) (n : ℕ) → ids' ≡ take n ids → (i : ℕ) → Contains ids' i → IsOwn ids old i
own_kept ids old ids' n is i m =
    inl (subst (λ (xs : List ℕ). Contains xs i) (take-append-drop n ids) (Contains-append_left (take n ids) (drop n ids) i (subst (λ (xs : List ℕ). Contains xs i) is m)))

pub own_gained : (ids : List ℕ) (old new : AllocatorState) (touched ids' more : List ℕ) → ids' ≡ ids ++ more → HasTaken old.tables new.tables touched more
    → (i : ℕ) → Contains ids' i → IsOwn ids old i
own_gained ids old new touched ids' more is taken i m = elim (Contains-append_cases ids more i (subst (λ (xs : List ℕ). Contains xs i) is m)) [
  | inl among ↦ inl among
  | inr gained ↦ inr (taken.fresh i (first_of_three more taken.fats taken.difats i gained))
]

pub enough_by : (v : Version) (len : ℕ) → len ≤ rounded_up len (sector_len v) * sector_len v
enough_by V3 len = omega arith
enough_by V4 len = omega arith

pub enough_kept : (v w : Version) (len n m : ℕ) → w ≡ v → n ≡ rounded_up len (sector_len v) → m ≡ n → len ≤ m * sector_len w
enough_kept v w len n m version wanted is = subst (λ (u : Version). len ≤ m * sector_len u) (sym version) (subst (λ (k : ℕ). len ≤ k * sector_len v) (sym (is ∙ wanted)) (enough_by v len))
