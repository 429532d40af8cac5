-- What is spared by changes, and what that keeps: chains of other sectors, and their bytes.
use Rattle.std.proofs.Common.{◌≡◌, ◌≢◌, ◌<◌, ◌+◌, ◌/◌, ◌%◌, inl, inr, ℕ, List, Bool, true, false, Option, Some, None, nat_lt, slice_get, option_and_then, if◌then◌else◌, refl, sym, ◌∙◌, ap, subst, length, arith, lt-ltb, ltb-true}
use Rattle.std.specs.Prelude.{Contains}
use Rattle.std.proofs.lemmas.Option.{none-some, same_Some, slice_get_within, get_or_from_slice_get}
use Rattle.cfb_format.specs.declared.version.Version.{Version}
use Rattle.cfb_format.specs.declared.version.Version.TheVariants.{V3, V4}
use Rattle.cfb_format.specs.Bytes.{byte_at, sector_len, sector_start, free_sector}
use Rattle.cfb_format.specs.Chain.{value}
use Rattle.cfb_format.specs.Content.{in_file, place_in_chain}
use Rattle.cfb_tables.proofs.ChainLemmas.{chain-stays, members-busy}
use Rattle.cfb_alloc.specs.cfb_sectors.Sectors.{SectorStays}
use Rattle.cfb_alloc.proofs.cfb_sectors.SectorLemmas.{SectorStays_refl, SectorStays_trans}
use Rattle.cfb_alloc.specs.Frame.{IsForeign, IsFixedHeaderByte, NothingIsTouched, SparesLess, SparesInTurn, OtherChainsAreSpared, ForeignStays, BytesStayInPlace}

pub nothing-touched : NothingIsTouched
nothing-touched own old new version fat tables bytes = record {
  same_version = version;
  no_shorter = let same = ap (λ (b : List ℕ). length b) bytes in omega (arith, same);
  values = λ i busy out. ap (λ (t : List ℕ). value t i) fat;
  kept = λ i m. subst (λ (l : List ℕ). Contains l i) (sym tables) m;
  tables = λ i f m. f.no_table (subst (λ (l : List ℕ). Contains l i) tables m);
  sectors = λ i f. subst (λ (b : List ℕ). SectorStays old.tables.version i old.file.bytes b) (sym bytes) (SectorStays_refl old.tables.version i old.file.bytes);
  header = λ i lt fixed. ap (λ (b : List ℕ). byte_at b i) bytes;
}

pub spares-less : SparesLess
spares-less own more old new among s =
    let foreign : (i : ℕ) → IsForeign more old.tables i → IsForeign own old.tables i =
    λ i f. record { busy = f.busy; other = λ m. f.other (among i m); no_table = f.no_table } in
    record {
      same_version = s.same_version;
      no_shorter = s.no_shorter;
      values = λ i busy out. s.values i busy (λ m. out (among i m));
      kept = s.kept;
      tables = λ i f. s.tables i (foreign i f);
      sectors = λ i f. s.sectors i (foreign i f);
      header = s.header;
    }

pub spares-then : SparesInTurn
spares-then own more a b c inside first second =
    let busy_still : (i : ℕ) → value a.tables.fat i ≢ free_sector → (Contains own i → ⊥) → value b.tables.fat i ≢ free_sector =
    λ i busy out e. busy (sym (first.values i busy out) ∙ e) in
    let out_still : (i : ℕ) → value a.tables.fat i ≢ free_sector → (Contains own i → ⊥) → Contains more i → ⊥ =
    λ i busy out m. elim (inside i m) [ inl free ↦ busy free | inr o ↦ out o ] in
    let still : (i : ℕ) → IsForeign own a.tables i → IsForeign more b.tables i =
    λ i f. record { busy = busy_still i f.busy f.other; other = out_still i f.busy f.other; no_table = first.tables i f } in
    record {
      same_version = second.same_version ∙ first.same_version;
      no_shorter = let x = first.no_shorter in let y = second.no_shorter in omega (arith, x, y);
      values = λ i busy out. second.values i (busy_still i busy out) (out_still i busy out) ∙ first.values i busy out;
      kept = λ i m. second.kept i (first.kept i m);
      tables = λ i f. second.tables i (still i f);
      sectors = λ i f. SectorStays_trans a.tables.version i a.file.bytes b.file.bytes c.file.bytes (first.sectors i f)
          (subst (λ (v : Version). SectorStays v i b.file.bytes c.file.bytes) first.same_version (second.sectors i (still i f)));
      header = λ i lt fixed.
          let longer = first.no_shorter in
          second.header i (omega (arith, lt, longer)) (subst (λ (v : Version). IsFixedHeaderByte v i) (sym first.same_version) fixed) ∙ first.header i lt fixed;
    }

pub other-chains-spared : OtherChainsAreSpared
other-chains-spared own old new start list s chain apart no_tables =
    let busy : (i : ℕ) → Contains list i → value old.tables.fat i ≢ free_sector = λ i m. (members-busy old.tables.fat start list chain i m).0 in
    let foreign : (i : ℕ) → Contains list i → IsForeign own old.tables i = λ i m. record { busy = busy i m; other = apart i m; no_table = no_tables i m } in (
      chain-stays old.tables.fat new.tables.fat start list (λ i m. s.values i (busy i m) (apart i m)) chain,
      (λ i m. s.tables i (foreign i m)),
      (λ i m. s.sectors i (foreign i m)),
    )

pub foreign-stays : ForeignStays
foreign-stays own old new s i f = record {
  busy = λ e. f.busy (sym (s.values i f.busy f.other) ∙ e);
  other = f.other;
  no_table = s.tables i f;
}

-- ---- bytes by place

-- a byte of a sector that stays
byte_stays : (v : Version) (i k : ℕ) (old new : List ℕ) → SectorStays v i old new → sector_start v i + k % sector_len v < length old
    → (sector_start v i + k % sector_len v < length new) × (byte_at new (sector_start v i + k % sector_len v) ≡ byte_at old (sector_start v i + k % sector_len v))
unfolding SectorStays
byte_stays V3 i k old new stays lt = let l = stays.no_shorter in (omega (arith, l, lt), stays.each (sector_start V3 i + k % sector_len V3) lt (omega arith) (omega arith))
byte_stays V4 i k old new stays lt = let l = stays.no_shorter in (omega (arith, l, lt), stays.each (sector_start V4 i + k % sector_len V4) lt (omega arith) (omega arith))

place_stays : (p at : ℕ) (old new : List ℕ) → (p < length old → (p < length new) × (byte_at new p ≡ byte_at old p)) → in_file old p ≡ Some at
    → (in_file new p ≡ Some at) × (byte_at new at ≡ byte_at old at)
place_stays p at old new stays is = go (nat_lt p (length old)) refl is
  where
    go : (b : Bool) → nat_lt p (length old) ≡ b → (if b then Some p else None) ≡ Some at → (in_file new p ≡ Some at) × (byte_at new at ≡ byte_at old at)
    go false e is = absurd (none-some at is)
    go true e is =
        let here : p ≡ at = same_Some p at is in
        let s = stays (ltb-true p (length old) e) in (
          ap (λ (b : Bool). if b then Some p else None) (lt-ltb p (length new) s.0) ∙ ap Some here,
          subst (λ n. byte_at new n ≡ byte_at old n) here s.1,
        )

pub bytes-stay-in-place : BytesStayInPlace
bytes-stay-in-place version list old new keeps k at is = go (slice_get list (k / sector_len version)) refl is
  where
    go : (o : Option ℕ) → slice_get list (k / sector_len version) ≡ o → option_and_then (λ i. in_file old (sector_start version i + k % sector_len version)) o ≡ Some at
        → (place_in_chain version new list k ≡ Some at) × (byte_at new at ≡ byte_at old at)
    go None e is = absurd (none-some at is)
    go (Some i) e is =
        let q = k / sector_len version in
        let member : Contains list i = (q, slice_get_within list q i e, get_or_from_slice_get list q i i e) in
        let r = place_stays (sector_start version i + k % sector_len version) at old new (byte_stays version i k old new (keeps i member)) is in
        (ap (option_and_then (λ n. in_file new (sector_start version n + k % sector_len version))) e ∙ r.0, r.1)
