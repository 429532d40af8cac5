-- Entries with other fields in one of them.
use Rattle.std.proofs.Common.{◌≡◌, ◌≢◌, ◌<◌, inl, inr, ℕ, List, [], ◌∷◌, sym, ◌∙◌, ap, subst, length, arith, length-set, get_or-set_same, get_or-set_other}
use Rattle.std.specs.Prelude.{Contains}
use Rattle.std.proofs.lemmas.Bool.{cases_eq}
use Rattle.cfb_format.specs.declared.version.Version.{Version}
use Rattle.cfb_format.specs.DirectoryEntry.{Entry, EntryFits, IsValidEntry, unallocated_entry}
use Rattle.cfb_format.specs.Siblings.{entry_at}
use Rattle.cfb_entries.specs.declared.fields.Fields.{Fields}
use Rattle.cfb_entries.specs.Fields.{entry_with_fields, entries_with_fields}
use Rattle.cfb_directory.specs.State.{AreWritable}
use Rattle.cfb_format.proofs.Members.{Contains-here}

module _ (entries : List Entry) (n : ℕ) (f : Fields) where
  pub changed_here : n < length entries → entry_at (entries_with_fields entries n f) n ≡ entry_with_fields (entry_at entries n) f
  changed_here lt = get_or-set_same entries n (entry_with_fields (entry_at entries n) f) unallocated_entry lt

  pub changed_beside : (k : ℕ) → k ≢ n → entry_at (entries_with_fields entries n f) k ≡ entry_at entries k
  changed_beside k ne = get_or-set_other entries n k (entry_with_fields (entry_at entries n) f) unallocated_entry ne

  pub changed_length : length (entries_with_fields entries n f) ≡ length entries
  changed_length = length-set entries n (entry_with_fields (entry_at entries n) f)

  -- all but the slot of that entry are as before
  pub changed_told : (k : ℕ) → (Contains (n ∷ []) k → ⊥) → entry_at (entries_with_fields entries n f) k ≡ entry_at entries k
  changed_told k out = changed_beside k (λ e. out (subst (Contains (n ∷ [])) (sym e) (Contains-here n [])))

-- they can be written, if that one can
pub changed_writable : (v : Version) (entries new : List Entry) (n : ℕ) → AreWritable v entries → length new ≡ length entries
    → ((k : ℕ) → k ≢ n → entry_at new k ≡ entry_at entries k) → EntryFits (entry_at new n) → IsValidEntry v (entry_at new n) → AreWritable v new
changed_writable v entries new n w len beside fits valid k lt used = elim (cases_eq k n) [
  | inl e ↦ (subst (λ j. EntryFits (entry_at new j)) (sym e) fits, subst (λ j. IsValidEntry v (entry_at new j)) (sym e) valid)
  | inr ne ↦
      let same = beside k ne in
      let there = w k (omega (arith, lt, len)) (λ u. used (ap (λ (x : Entry). x.obj_type) same ∙ u)) in
      (subst EntryFits (sym same) there.0, subst (IsValidEntry v) (sym same) there.1)
]
