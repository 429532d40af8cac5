-- Bytes of a new file's header that no reading names: zeros, the minor version, and the DIFAT's entries that list nothing.
use Rattle.std.proofs.Common.{◌≡◌, ◌+◌, ◌-◌, ◌<◌, ◌≤◌, ◌⊎◌, ◌∙◌, ℕ, List, ◌++◌, refl, ap, inl, inr, length, take, drop, replicate, arith}
use Rattle.std.proofs.lemmas.List.{get_or-append_right, get_or-replicate, get_or_append_left, length-replicate, length-take-le}
use Rattle.cfb_format.specs.declared.version.Version.{Version}
use Rattle.cfb_format.specs.declared.version.Version.TheVariants.{V3, V4}
use Rattle.cfb_format.specs.Bytes.{byte_at, sector_len, unit_bytes, word_bytes}
use Rattle.cfb_format.specs.Created.{created_bytes}
use Rattle.cfb_format.specs.DirectoryEntry.{entry_bytes}
use Rattle.cfb_format.specs.Header.{header_bytes}
use Rattle.cfb_format.proofs.CreatedFacts.{three_sectors}

-- so many times this value stands in the bytes from there on
abbrev IsFilled : List ℕ → (from count value : ℕ) → Type 0
IsFilled bytes from count value = bytes ≡ take from bytes ++ (replicate count value ++ drop (from + count) bytes)

in_filled : (bytes : List ℕ) (from count value i : ℕ) → IsFilled bytes from count value → from + count ≤ length bytes → from ≤ i → i < from + count → byte_at bytes i ≡ value
in_filled bytes from count value i is inside least less =
    let front : length (take from bytes) ≡ from = length-take-le from bytes (omega (arith, inside)) in
    let filled : length (replicate count value) ≡ count = length-replicate count value in
    ap (λ (b : List ℕ). byte_at b i) is
    ∙ get_or-append_right (take from bytes) (replicate count value ++ drop (from + count) bytes) from i 0 front least
    ∙ get_or_append_left (replicate count value) (drop (from + count) bytes) 0 (i - from) (omega (arith, filled, least, less))
    ∙ get_or-replicate count (i - from) value 0 (omega (arith, least, less))

-- the class ID, the reserved bytes, the transaction's number, the rest of the header's sector, and the DIFAT behind its first entry
class_id : (v : Version) → IsFilled (created_bytes v) 8 16 0
unfolding created_bytes header_bytes word_bytes entry_bytes unit_bytes
class_id V3 = refl
class_id V4 = refl

reserved : (v : Version) → IsFilled (created_bytes v) 34 6 0
unfolding created_bytes header_bytes word_bytes entry_bytes unit_bytes
reserved V3 = refl
reserved V4 = refl

transaction : (v : Version) → IsFilled (created_bytes v) 52 4 0
unfolding created_bytes header_bytes word_bytes entry_bytes unit_bytes
transaction V3 = refl
transaction V4 = refl

behind : (v : Version) → IsFilled (created_bytes v) 512 (sector_len v - 512) 0
unfolding created_bytes header_bytes word_bytes entry_bytes unit_bytes
behind V3 = refl
behind V4 = refl

no_sector : (v : Version) → IsFilled (created_bytes v) 80 432 0xFF
unfolding created_bytes header_bytes word_bytes entry_bytes unit_bytes
no_sector V3 = refl
no_sector V4 = refl

least_len : (v : Version) → (512 ≤ sector_len v) × (512 ≤ length (created_bytes v))
least_len V3 = (omega arith, (let three = three_sectors V3 in omega (arith, three)))
least_len V4 = (omega arith, (let three = three_sectors V4 in omega (arith, three)))

pub zeros_in_new : (v : Version) (i : ℕ) → ((8 ≤ i) × (i < 24)) ⊎ ((34 ≤ i) × (i < 40)) ⊎ ((52 ≤ i) × (i < 56)) ⊎ ((512 ≤ i) × (i < sector_len v)) → byte_at (created_bytes v) i ≡ 0
zeros_in_new v i (inl x) = in_filled (created_bytes v) 8 16 0 i (class_id v) (let most = (least_len v).1 in omega (arith, most)) x.0 x.1
zeros_in_new v i (inr (inl x)) = in_filled (created_bytes v) 34 6 0 i (reserved v) (let most = (least_len v).1 in omega (arith, most)) x.0 x.1
zeros_in_new v i (inr (inr (inl x))) = in_filled (created_bytes v) 52 4 0 i (transaction v) (let most = (least_len v).1 in omega (arith, most)) x.0 x.1
zeros_in_new v i (inr (inr (inr x))) =
    let most = (least_len v).0 in
    let less = x.1 in
    let three = three_sectors v in
    in_filled (created_bytes v) 512 (sector_len v - 512) 0 i (behind v) (omega (arith, three, most)) x.0 (omega (arith, less, most))

minor : (v : Version) → (byte_at (created_bytes v) 24 ≡ 0x3E) × (byte_at (created_bytes v) 25 ≡ 0)
unfolding created_bytes header_bytes word_bytes entry_bytes unit_bytes
minor V3 = (refl, refl)
minor V4 = (refl, refl)

pub others_in_new : (v : Version) → (byte_at (created_bytes v) 24 ≡ 0x3E) × (byte_at (created_bytes v) 25 ≡ 0) × ((i : ℕ) → 80 ≤ i → i < 512 → byte_at (created_bytes v) i ≡ 0xFF)
others_in_new v = ((minor v).0, (minor v).1, λ i least less. in_filled (created_bytes v) 80 432 0xFF i (no_sector v) (let most = (least_len v).1 in omega (arith, most)) least (omega (arith, less)))
