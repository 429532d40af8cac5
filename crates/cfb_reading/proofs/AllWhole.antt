-- Whether each sector of a list is whole.
use Rattle.std.proofs.Common.{◌≡◌, ◌<◌, ℕ, List, Bool, true, false, sym, ◌∙◌, length}
use Rattle.std.specs.Prelude.{slice_index}
use Rattle.std.specs.List.{list_all}
use Rattle.std.proofs.lemmas.List.Folds.{list_all_at}
use Rattle.cfb_format.specs.declared.version.Version.{Version}
use Rattle.cfb_format.specs.Bytes.{is_whole_sector}

pub whole-at : (v : Version) (bytes list : List ℕ) (i : ℕ) → i < length list → list_all (is_whole_sector v bytes) list ≡ true → is_whole_sector v bytes (slice_index list i) ≡ true
whole-at v bytes list i lt all = go (is_whole_sector v bytes (slice_index list i)) (λ f. list_all_at (is_whole_sector v bytes) list i 0 lt f)
  where
    go : (b : Bool) → (b ≡ false → list_all (is_whole_sector v bytes) list ≡ false) → b ≡ true
    go true cut = λ _. true
    go false cut = let bad : true ≡ false = sym all ∙ cut (λ _. false) in cc
