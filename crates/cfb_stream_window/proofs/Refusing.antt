-- What a refused call leaves, beside what the rules say of it.
use Rattle.std.proofs.Common.{refl, ℕ, ◌≡◌, ◌⊎◌, Bool, false, true, inl, inr}
use Rattle.cfb_format.specs.Refused.{CountsError, IsInvalidData, IsInvalidOrMemory, IsMemory}
use Rattle.cfb_format.specs.declared.medium.MediumFault.{MediumFault}
use Rattle.cfb_format.specs.declared.error.Error.{Error}
use Rattle.cfb_format.specs.declared.error.Error.TheVariants.{NotFound, AlreadyExists, InvalidInput, InvalidData, Medium, Memory, Full, Unsound, Failed}
use Rattle.cfb_stream_window.specs.cfb_rules.StreamCalls.{StreamCall}
use Rattle.cfb_stream_window.specs.cfb_rules.Runs.{Causes, is_never_refused}
use Rattle.cfb_stream_window.specs.declared.content.ReadContents as reading
use Rattle.cfb_stream_window.specs.Windows.{Window, BrokeOff, ReadBrokeOff, IsLost, Unreadable, IsCallRefused}
use Rattle.cfb_stream_window.specs.Answers.{AtRefusal, IsRefusedFor}
use Rattle.cfb_stream_window.proofs.Breaking.{break_untouched, broke_stops}
use Rattle.cfb_stream_window.proofs.Reading.{failed_refused}

-- bytes that can't be read touch nothing that is written
pub invalid_untouched : (Q R : Type 0) (e : Error) → IsInvalidData e → R → AtRefusal Q R e
invalid_untouched Q R (InvalidData d) b k = k
invalid_untouched Q R (Medium fault) b k = tt
invalid_untouched Q R Memory b k = tt
invalid_untouched Q R Full b k = tt
invalid_untouched Q R (NotFound d) b k = tt
invalid_untouched Q R (AlreadyExists d) b k = tt
invalid_untouched Q R (InvalidInput d) b k = absurd (let h : 3 ≡ 4 = b in cc)
invalid_untouched Q R Unsound b k = absurd (let h : 8 ≡ 4 = b in cc)
invalid_untouched Q R Failed b k = absurd (let h : 9 ≡ 4 = b in cc)

-- nor do they, or a refusal of memory, count as a failure
pub counts_none : (can : MediumFault → Bool) (n : ℕ) (P : Type 0) (e : Error) → IsInvalidOrMemory P e → CountsError can n n e
counts_none can n P (InvalidData d) b = refl
counts_none can n P Memory b = refl
counts_none can n P (Medium fault) b = absurd b
counts_none can n P Full b = absurd b
counts_none can n P (NotFound d) b = absurd b
counts_none can n P (AlreadyExists d) b = absurd b
counts_none can n P (InvalidInput d) b = absurd b
counts_none can n P Unsound b = absurd b
counts_none can n P Failed b = absurd b

module _ {C : Type 0} (r : reading.Ghosts C) (causes : Causes) (old : C) (id : ℕ) (w : Window) (call : StreamCall) where
  pub failed_for : (r.stored old id).failed ≡ true → is_never_refused call ≡ false → IsRefusedFor r causes old id w call old w Failed
  failed_for f n = record { rules = failed_refused causes (r.stored old id) w (r.stored old id) w call f f n; stops = inl refl; untouched = (refl, refl) }

  module _ (new : C) (w' : Window) (e : Error) (rules : IsCallRefused causes (r.stored old id) w call (r.stored new id) w' e) where
    pub broke_for : (may full : Type 0) (spares : Error → Type 0) → BrokeOff may full spares (r.stored old id) w (r.stored new id) w' e → IsRefusedFor r causes old id w call new w' e
    broke_for may full spares b = record { rules = rules; stops = broke_stops may full spares (r.stored old id) w (r.stored new id) w' e b; untouched = break_untouched full ((new ≡ old) × (w' ≡ w)) (r.kept new ≡ r.kept old) e b.0 }

    pub lost_for : (full : Type 0) → IsLost full (r.stored old id) w (r.stored new id) e → IsRefusedFor r causes old id w call new w' e
    lost_for full b = record { rules = rules; stops = inr b.2; untouched = break_untouched full ((new ≡ old) × (w' ≡ w)) (r.kept new ≡ r.kept old) e b.0 }

    pub read_for : (full : Type 0) → (w.pending ≡ false → r.kept new ≡ r.kept old) → ReadBrokeOff full (r.stored old id) w (r.stored new id) w' e ⊎ Unreadable (r.stored old id) w (r.stored new id) w' e → IsRefusedFor r causes old id w call new w' e
    read_for full calm h = elim h [
      | inl b ↦ broke_for (w.pending ≡ true) ((w.pending ≡ true) × full) IsMemory b
      | inr u ↦ record { rules = rules; stops = inl u.same; untouched = invalid_untouched ((new ≡ old) × (w' ≡ w)) (r.kept new ≡ r.kept old) e u.is (calm u.clean) }
    ]
