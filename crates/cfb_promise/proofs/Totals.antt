-- What a tree needs, by one sum.
use Rattle.std.proofs.Common.{◌≡◌, ◌+◌, ◌*◌, ◌<◌, ◌⊎◌, ℕ, refl, sym, subst, arith}
use Rattle.cfb_format.specs.declared.version.Version.{Version}
use Rattle.cfb_format.specs.Bytes.{entries_per_sector, sector_len, words_per_sector}
use Rattle.cfb_format.specs.Content.{mini_sector_len}
use Rattle.cfb_format.specs.Full.{HasRoom, IsTooLarge, directory_sectors_for, max_entries, max_mini_sectors, mini_sectors_for, mini_sectors_in, object_count, rounded_up, sectors_for, sectors_in}
use Rattle.cfb_format.specs.Tree.{Objects, Tree, nothing, storage, stream}
use Rattle.cfb_promise.specs.Given.{AreTooMany, total}

objects_counted : (objects : Objects) → total 1 (λ len. 1) objects ≡ object_count objects
objects_counted nothing = refl
objects_counted (storage name info inside rest) =
    let first = objects_counted inside in
    let later = objects_counted rest in
    omega (arith, first, later)
objects_counted (stream name info rest) = let later = objects_counted rest in omega (arith, later)

sectors_counted : (version : Version) (objects : Objects) → total 0 (sectors_for version) objects ≡ sectors_in version objects
sectors_counted version nothing = refl
sectors_counted version (storage name info inside rest) =
    let first = sectors_counted version inside in
    let later = sectors_counted version rest in
    omega (arith, first, later)
sectors_counted version (stream name info rest) = let later = sectors_counted version rest in omega (arith, later)

minis_counted : (objects : Objects) → total 0 mini_sectors_for objects ≡ mini_sectors_in objects
minis_counted nothing = refl
minis_counted (storage name info inside rest) =
    let first = minis_counted inside in
    let later = minis_counted rest in
    omega (arith, first, later)
minis_counted (stream name info rest) = let later = minis_counted rest in omega (arith, later)

abbrev Needs : Version → (limit : ℕ) → ℕ × ℕ × ℕ → Type 0
Needs version limit x = (HasRoom version limit 0 0 0 (x.0 + rounded_up (x.1 * mini_sector_len) (sector_len version)
    + rounded_up x.1 (words_per_sector version) + directory_sectors_for version x.2) → ⊥)
    ⊎ (max_mini_sectors version < x.1) ⊎ (max_entries < directory_sectors_for version x.2 * entries_per_sector version)

-- the same either way
pub too_many : (version : Version) (limit : ℕ) (tree : Tree) → IsTooLarge version limit tree → AreTooMany version limit tree.objects
too_many version limit tree h = subst (λ (x : ℕ × ℕ × ℕ). Needs version limit x)
    (λ j. (sym (sectors_counted version tree.objects) j, sym (minis_counted tree.objects) j, sym (objects_counted tree.objects) j)) h

pub too_large : (version : Version) (limit : ℕ) (tree : Tree) → AreTooMany version limit tree.objects → IsTooLarge version limit tree
too_large version limit tree h = subst (λ (x : ℕ × ℕ × ℕ). Needs version limit x)
    (λ j. (sectors_counted version tree.objects j, minis_counted tree.objects j, objects_counted tree.objects j)) h
