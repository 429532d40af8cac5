-- Which of two media gave a fault.
use Rattle.std.proofs.Common.{◌≡◌, inl, inr, ℕ, Bool, true, false, refl, sym, ◌∙◌, subst}
use Rattle.std.specs.Prelude.{IsTrue, ◌||◌}
use Rattle.cfb_format.specs.declared.error.Error.{Error}
use Rattle.cfb_format.specs.declared.error.Error.TheVariants.{AlreadyExists, Failed, Full, InvalidData, InvalidInput, Medium, Memory, NotFound, Unsound}
use Rattle.cfb_format.specs.declared.medium.MediumFault.{MediumFault}
use Rattle.cfb_format.specs.Refused.{CountsError, IsBreak, IsMediumAnd}
use Rattle.cfb_copies.specs.cfb_tables.Refused.{ChangeRefused}
use Rattle.cfb_copies.specs.cfb_agreement.Files.{FileState, is_failed}
use Rattle.cfb_copies.specs.Copies.{CopyRefused, IsKindOrMemory, IsNotPrepared}
use Rattle.cfb_copies.specs.Salvaged.{IsFullOrMemory, SalvageRefused}
use Rattle.cfb_copies.specs.Steps.{GivesFault, IsFaultOfEither, IsNoFault, IsNotFull}

-- a counted failure is by a fault that can be given
pub counted_gives : (gives : MediumFault → Bool) (m n : ℕ) (e : Error) → CountsError gives m n e → GivesFault gives e
counted_gives gives m n (NotFound d) h = tt
counted_gives gives m n (AlreadyExists d) h = tt
counted_gives gives m n (InvalidInput d) h = tt
counted_gives gives m n (InvalidData d) h = tt
counted_gives gives m n (Medium f) h = h.can
counted_gives gives m n Memory h = tt
counted_gives gives m n Full h = tt
counted_gives gives m n Unsound h = tt
counted_gives gives m n Failed h = tt

-- a fault that writing may give, reading or writing may give
pub writing_gives : (reads writes : MediumFault → Bool) (e : Error) → GivesFault writes e → GivesFault (λ f. reads f || writes f) e
writing_gives reads writes (NotFound d) h = tt
writing_gives reads writes (AlreadyExists d) h = tt
writing_gives reads writes (InvalidInput d) h = tt
writing_gives reads writes (InvalidData d) h = tt
writing_gives reads writes (Medium f) h = either (reads f) (writes f) h
  where
    either : (a b : Bool) → IsTrue b → IsTrue (a || b)
    either true b h = refl
    either false b h = h
writing_gives reads writes Memory h = tt
writing_gives reads writes Full h = tt
writing_gives reads writes Unsound h = tt
writing_gives reads writes Failed h = tt

module _ (gives : MediumFault → Bool) (tells : Bool) (can : MediumFault → Bool) (old new : ℕ) where
  -- it was the source
  pub source_failed : (e : Error) → CountsError gives old new e → IsFaultOfEither gives tells can old new e
  source_failed (NotFound d) h = h
  source_failed (AlreadyExists d) h = h
  source_failed (InvalidInput d) h = h
  source_failed (InvalidData d) h = h
  source_failed (Medium f) h = inl h
  source_failed Memory h = h
  source_failed Full h = h
  source_failed Unsound h = h
  source_failed Failed h = h

  -- it was the target
  pub target_failed : new ≡ old → (e : Error) → (IsTrue tells → GivesFault can e) → IsFaultOfEither gives tells can old new e
  target_failed same (NotFound d) h = same
  target_failed same (AlreadyExists d) h = same
  target_failed same (InvalidInput d) h = same
  target_failed same (InvalidData d) h = same
  target_failed same (Medium f) h = inr (same, h)
  target_failed same Memory h = same
  target_failed same Full h = same
  target_failed same Unsound h = same
  target_failed same Failed h = same

-- a step after others that counted none
pub fault_later : (gives : MediumFault → Bool) (tells : Bool) (can : MediumFault → Bool) (old mid new : ℕ) (e : Error) → mid ≡ old
    → IsFaultOfEither gives tells can mid new e → IsFaultOfEither gives tells can old new e
fault_later gives tells can old mid new e same h = subst (λ (n : ℕ). IsFaultOfEither gives tells can n new e) same h

-- whatever lacked, it is one of these three
pub break_at_all : (P : Type 0) (e : Error) → IsBreak P e → IsBreak (Unit {0}) e
break_at_all P (NotFound d) h = h
break_at_all P (AlreadyExists d) h = h
break_at_all P (InvalidInput d) h = h
break_at_all P (InvalidData d) h = h
break_at_all P (Medium f) h = h
break_at_all P Memory h = h
break_at_all P Full h = tt
break_at_all P Unsound h = h
break_at_all P Failed h = h

-- where no medium failed the counts stay
pub no_fault_counts : (gives : MediumFault → Bool) (tells : Bool) (can : MediumFault → Bool) (n : ℕ) (e : Error) → IsNoFault e → IsFaultOfEither gives tells can n n e
no_fault_counts gives tells can n (NotFound d) h = refl
no_fault_counts gives tells can n (AlreadyExists d) h = refl
no_fault_counts gives tells can n (InvalidInput d) h = refl
no_fault_counts gives tells can n (InvalidData d) h = refl
no_fault_counts gives tells can n (Medium f) h = absurd h
no_fault_counts gives tells can n Memory h = refl
no_fault_counts gives tells can n Full h = refl
no_fault_counts gives tells can n Unsound h = refl
no_fault_counts gives tells can n Failed h = refl

pub memory_no_fault : (e : Error) → e ≡ Memory → IsNoFault e
memory_no_fault e is = subst (λ (x : Error). IsNoFault x) (sym is) tt

-- want of memory breaks off
pub memory_breaks : (e : Error) → e ≡ Memory → IsBreak (Unit {0}) e
memory_breaks e is = subst (λ (x : Error). IsBreak (Unit {0}) x) (sym is) tt

-- a fault of the medium breaks off
pub medium_breaks : (P : MediumFault → Type 0) (e : Error) → IsMediumAnd P e → IsBreak (Unit {0}) e
medium_breaks P (NotFound d) h = h
medium_breaks P (AlreadyExists d) h = h
medium_breaks P (InvalidInput d) h = h
medium_breaks P (InvalidData d) h = h
medium_breaks P (Medium f) h = tt
medium_breaks P Memory h = absurd h
medium_breaks P Full h = absurd h
medium_breaks P Unsound h = h
medium_breaks P Failed h = h

-- reading refuses for want of memory or by the medium where the byte can be read
pub read_breaks : (P : Type 0) → (P → ⊥) → (e : Error) → ChangeRefused P (Unit {0}) ⊥ (Unit {0}) e → IsBreak ⊥ e
read_breaks P none (NotFound d) h = h
read_breaks P none (AlreadyExists d) h = h
read_breaks P none (InvalidInput d) h = h
read_breaks P none (InvalidData d) h = none h
read_breaks P none (Medium f) h = tt
read_breaks P none Memory h = tt
read_breaks P none Full h = h
read_breaks P none Unsound h = h
read_breaks P none Failed h = h

-- ---- numbers are not what lacked

pub no_full_break : (e : Error) → IsBreak ⊥ e → IsNotFull e
no_full_break e h full = subst (λ (x : Error). IsBreak ⊥ x) full h

pub memory_not_full : (e : Error) → e ≡ Memory → IsNotFull e
memory_not_full e is full = let w : Memory ≡ Full = sym is ∙ full in cc

pub medium_not_full : (P : MediumFault → Type 0) (e : Error) → IsMediumAnd P e → IsNotFull e
medium_not_full P e h full = subst (λ (x : Error). IsMediumAnd P x) full h

-- why `Full` came
pub full_why : (invalid memory full medium : Type 0) (e : Error) → ChangeRefused invalid memory full medium e → e ≡ Full → full
full_why invalid memory full medium e h is = subst (λ (x : Error). ChangeRefused invalid memory full medium x) is h

-- ---- the answer of the copy

pub break_refused : (file : FileState) (e : Error) → is_failed file ≡ false → IsBreak (Unit {0}) e → IsNotFull e → CopyRefused file e
break_refused file (NotFound d) calm h enough = absurd h
break_refused file (AlreadyExists d) calm h enough = absurd h
break_refused file (InvalidInput d) calm h enough = absurd h
break_refused file (InvalidData d) calm h enough = absurd h
break_refused file (Medium f) calm h enough = calm
break_refused file Memory calm h enough = calm
break_refused file Full calm h enough = absurd (enough refl)
break_refused file Unsound calm h enough = absurd h
break_refused file Failed calm h enough = absurd h

-- what was not prepared is refused so
pub unprepared_refused : (file : FileState) (e : Error) → is_failed file ≡ false → IsNotPrepared file e → CopyRefused file e
unprepared_refused file (NotFound d) calm h = absurd h
unprepared_refused file (AlreadyExists d) calm h = absurd h
unprepared_refused file (InvalidInput d) calm h = absurd h
unprepared_refused file (InvalidData d) calm h = (calm, h)
unprepared_refused file (Medium f) calm h = absurd h
unprepared_refused file Memory calm h = calm
unprepared_refused file Full calm h = (calm, h)
unprepared_refused file Unsound calm h = absurd h
unprepared_refused file Failed calm h = absurd h

-- ---- the answer of salvaging

-- want of memory is a reason before anything is made
pub memory_unprepared : (file : FileState) (e : Error) → e ≡ Memory → IsFullOrMemory file e
memory_unprepared file e is = subst (λ (x : Error). IsFullOrMemory file x) (sym is) tt

-- what was not prepared is refused so
pub unprepared_cut : (file : FileState) (e : Error) → is_failed file ≡ false → IsFullOrMemory file e → SalvageRefused file e
unprepared_cut file (NotFound d) calm h = absurd h
unprepared_cut file (AlreadyExists d) calm h = absurd h
unprepared_cut file (InvalidInput d) calm h = absurd h
unprepared_cut file (InvalidData d) calm h = absurd h
unprepared_cut file (Medium f) calm h = absurd h
unprepared_cut file Memory calm h = calm
unprepared_cut file Full calm h = (calm, h)
unprepared_cut file Unsound calm h = absurd h
unprepared_cut file Failed calm h = absurd h

-- by the kind of what is too large, or by memory
pub refused_cut : (file : FileState) (e : Error) → IsFullOrMemory file e → IsKindOrMemory 7 e
refused_cut file (NotFound d) h = absurd h
refused_cut file (AlreadyExists d) h = absurd h
refused_cut file (InvalidInput d) h = absurd h
refused_cut file (InvalidData d) h = absurd h
refused_cut file (Medium f) h = absurd h
refused_cut file Memory h = inr refl
refused_cut file Full h = inl refl
refused_cut file Unsound h = absurd h
refused_cut file Failed h = absurd h

pub break_cut : (file : FileState) (e : Error) → is_failed file ≡ false → IsBreak (Unit {0}) e → IsNotFull e → SalvageRefused file e
break_cut file (NotFound d) calm h enough = absurd h
break_cut file (AlreadyExists d) calm h enough = absurd h
break_cut file (InvalidInput d) calm h enough = absurd h
break_cut file (InvalidData d) calm h enough = absurd h
break_cut file (Medium f) calm h enough = calm
break_cut file Memory calm h enough = calm
break_cut file Full calm h enough = absurd (enough refl)
break_cut file Unsound calm h enough = absurd h
break_cut file Failed calm h enough = absurd h
