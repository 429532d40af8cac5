-- How many sectors a file has after a write.
use Rattle.std.proofs.Common.{◌≡◌, ℕ, ◌+◌, ◌≤◌, max, List, length, ◌∙◌, ap, arith}
use Rattle.cfb_format.specs.Bytes.{sector_len, sector_start, sector_count}
use Rattle.cfb_format.specs.Medium.{written}
use Rattle.cfb_format.specs.declared.version.Version.{Version}
use Rattle.cfb_format.specs.declared.version.Version.TheVariants.{V3, V4}
use Rattle.cfb_format.proofs.ByteLemmas.{length-written}
use Rattle.cfb_sectors.specs.Sectors.{sectors_in_file}

-- bytes that end inside the sectors bring none
pub count_kept : (v : Version) (len end num : ℕ) → sector_len v ≤ len → num ≡ sectors_in_file v len → end ≤ sector_start v num → sectors_in_file v (max len end) ≡ num
count_kept V3 len end num header count within = omega arith
count_kept V4 len end num header count within = omega arith

-- a whole sector of the file, or the one past its end
pub count_grown : (v : Version) (len sector num : ℕ) → sector_len v ≤ len → num ≡ sectors_in_file v len → sector ≤ num
    → sectors_in_file v (max len (sector_start v sector + sector_len v)) ≡ max num (sector + 1)
count_grown V3 len sector num header count next = omega arith
count_grown V4 len sector num header count next = omega arith

-- the same of the file's bytes
pub sector_count-written : (v : Version) (bytes from : List ℕ) (at num : ℕ) → sector_len v ≤ length bytes → num ≡ sector_count v bytes → at + length from ≤ sector_start v num
    → sector_count v (written bytes at from) ≡ num
sector_count-written v bytes from at num header count within =
    ap (sectors_in_file v) (length-written bytes at from) ∙ count_kept v (length bytes) (at + length from) num header count within

pub sector_count-grown : (v : Version) (bytes from : List ℕ) (sector num : ℕ) → sector_len v ≤ length bytes → num ≡ sector_count v bytes → sector ≤ num → length from ≡ sector_len v
    → sector_count v (written bytes (sector_start v sector) from) ≡ max num (sector + 1)
sector_count-grown v bytes from sector num header count next whole =
    ap (sectors_in_file v) (length-written bytes (sector_start v sector) from ∙ ap (λ n. max (length bytes) (sector_start v sector + n)) whole)
    ∙ count_grown v (length bytes) sector num header count next
