-- The slots of a fresh directory sector.
use Rattle.std.proofs.Common.{◌≡◌, ◌<◌, ◌+◌, ◌*◌, ℕ, zero, suc, List, ◌++◌, refl, sym, ◌∙◌, ap, length, take, drop, slice_index, arith, take_all, drop-drop}
use Rattle.std.proofs.Math.Seq.{drop-append_seam}
use Rattle.std.proofs.lemmas.List.{take-append-le}
use Rattle.std.proofs.lemmas.Grind.{same_number_lists}
use Rattle.cfb_format.specs.declared.version.Version.{Version}
use Rattle.cfb_format.specs.declared.version.Version.TheVariants.{V3, V4}
use Rattle.cfb_format.specs.Bytes.{sector_len, sector_start, entries_per_sector, unit_bytes, word_bytes}
use Rattle.cfb_format.specs.DirectoryEntry.{entry_bytes, unallocated_entry}
use Rattle.cfb_format.specs.Medium.{part}
use Rattle.cfb_format.proofs.ByteLemmas.{part_at, length-part}
use Rattle.cfb_alloc.specs.cfb_sectors.declared.sector.SectorInit.TheVariants.{Dir}
use Rattle.cfb_alloc.specs.cfb_sectors.Sectors.{copies, init_bytes}
use Rattle.cfb_alloc.specs.Fresh.{FreshSlotsAreUnallocated}

-- the k-th copy
pub copies_at : (xs : List ℕ) (m n k : ℕ) → m ≡ length xs → k < n → part (copies n xs) (k * m) m ≡ xs
copies_at xs m zero k len low = absurd (omega (arith, low))
copies_at xs m (suc n) zero len low =
    let none : zero * m ≡ 0 = omega arith in
    ap (λ at. part (xs ++ copies n xs) at m) none ∙ take-append-le m xs (copies n xs) (omega (arith, len)) ∙ take_all m xs (omega (arith, len))
copies_at xs m (suc n) (suc k) len low =
    let more : suc k * m ≡ m + k * m = omega arith in
    ap (λ at. part (xs ++ copies n xs) at m) more ∙ ap (take m) (sym (drop-drop (k * m) m (xs ++ copies n xs)))
    ∙ ap (λ (ys : List ℕ). part ys (k * m) m) (ap (λ j. drop j (xs ++ copies n xs)) len ∙ drop-append_seam xs (copies n xs)) ∙ copies_at xs m n k len (omega (arith, low))

slot_len : length (entry_bytes unallocated_entry) ≡ 128
unfolding entry_bytes unit_bytes word_bytes
slot_len = refl

slot_at : (v : Version) (k : ℕ) → k < entries_per_sector v → part (init_bytes v Dir) (k * 128) 128 ≡ entry_bytes unallocated_entry
unfolding init_bytes
slot_at v k low = copies_at (entry_bytes unallocated_entry) 128 (entries_per_sector v) k (sym slot_len) low

slot_inside : (v : Version) (k j : ℕ) → k < entries_per_sector v → j < 128 → k * 128 + j < sector_len v
slot_inside V3 k j low small = omega (arith, low, small)
slot_inside V4 k j low small = omega (arith, low, small)

pub fresh-slots : FreshSlotsAreUnallocated
fresh-slots version bytes i k f low =
    let s = sector_start version i in
    let len = sector_len version in
    let at = s + k * 128 in
    let whole = f.whole in
    let end = slot_inside version k 127 low (omega arith) in
    let long : length (part bytes at 128) ≡ 128 = let l = length-part bytes at 128 in omega (arith, l, whole, end) in
    same_number_lists (part bytes at 128) (entry_bytes unallocated_entry) (long ∙ sym slot_len) (λ j lt.
    let small : j < 128 = omega (arith, lt, long) in
    let there : s + k * 128 + j ≡ s + (k * 128 + j) = omega arith in
    part_at bytes at 128 j small ∙ ap (slice_index bytes) there ∙ sym (part_at bytes s len (k * 128 + j) (slot_inside version k j low small))
    ∙ ap (λ (b : List ℕ). slice_index b (k * 128 + j)) f.filled ∙ sym (part_at (init_bytes version Dir) (k * 128) 128 j small)
    ∙ ap (λ (b : List ℕ). slice_index b j) (slot_at version k low))
