-- What changes spared that broke off.
use Rattle.std.proofs.Common.{◌≡◌, ℕ, List, ◌++◌, sym, subst}
use Rattle.cfb_format.specs.declared.error.Error.{Error}
use Rattle.cfb_format.specs.declared.error.Error.TheVariants.{NotFound, AlreadyExists, InvalidInput, InvalidData, Medium, Memory, Full, Unsound, Failed}
use Rattle.cfb_format.specs.Refused.{AfterMedium}
use Rattle.cfb_format.proofs.Unique.{IsChain-unique}
use Rattle.cfb_alloc.specs.Alloc.{AllocatorState}
use Rattle.cfb_alloc.specs.Frame.{Spares, BrokenTakingSpares, BrokenFreeingSpares}
use Rattle.cfb_alloc.proofs.Spared.{spares_refl, taken_spares, freed_spares}

-- what holds after the medium's error and after all others
pub after_any : (broken kept goal : Type 0) (e : Error) → AfterMedium broken kept e → (broken → goal) → (kept → goal) → goal
after_any broken kept goal (Medium f) r b k = b r
after_any broken kept goal (NotFound d) r b k = k r
after_any broken kept goal (AlreadyExists d) r b k = k r
after_any broken kept goal (InvalidInput d) r b k = k r
after_any broken kept goal (InvalidData d) r b k = k r
after_any broken kept goal Memory r b k = k r
after_any broken kept goal Full r b k = k r
after_any broken kept goal Unsound r b k = k r
after_any broken kept goal Failed r b k = k r

-- where nothing changed
spares_same : (own : List ℕ) (old new : AllocatorState) → new ≡ old → Spares own old new
spares_same own old new same = subst (λ (z : AllocatorState). Spares own old z) (sym same) (spares_refl own old)

pub broken_taking_spares : BrokenTakingSpares
broken_taking_spares old new touched e broke others =
    after_any _ _ (Spares touched old new) e broke (λ b. taken_spares old new touched b.1.0 b.1.1 others) (spares_same touched old new)

pub broken_freeing_spares : BrokenFreeingSpares
broken_freeing_spares old new ends list start e broke change chain =
    after_any _ _ (Spares (ends ++ list) old new) e broke
    (λ b. subst (λ (l : List ℕ). Spares (ends ++ l) old new) (IsChain-unique old.tables.fat start b.1.0 list b.1.1 chain)
    (freed_spares old new ends b.1.0 b.1.2 change))
    (spares_same (ends ++ list) old new)
