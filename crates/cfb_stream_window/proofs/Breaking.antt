-- Breaking off: what the rules say of a refusal by the medium, for memory or fullness.
use Rattle.std.proofs.Common.{refl, ℕ, ◌+◌, ◌<◌, ◌≤◌, ◌≡◌, ◌⊎◌, ◌==◌, Bool, true, false, IsTrue, sym, ap, subst, inl, inr, arith}
use Rattle.std.specs.Bool.{MatchBool}
use Rattle.std.specs.Prelude.{⊤, Some}
use Rattle.cfb_format.specs.Medium.{Rises}
use Rattle.cfb_format.specs.Refused.{CountsError, IsMemory, number_of, IsBreak}
use Rattle.cfb_format.specs.declared.medium.MediumFault.{MediumFault}
use Rattle.cfb_format.specs.declared.error.Error.{Error}
use Rattle.cfb_format.specs.declared.error.Error.TheVariants.{NotFound, AlreadyExists, InvalidInput, InvalidData, Medium, Memory, Full, Unsound, Failed}
use Rattle.cfb_stream_window.specs.cfb_rules.Refusal.{Refusal, IsRefusal, not_found, already_exists, invalid_input, invalid_data, medium_failed, out_of_memory, file_full, not_sound, failed_earlier}
use Rattle.cfb_stream_window.specs.cfb_rules.StreamCalls.{StreamCall}
use Rattle.cfb_stream_window.specs.cfb_rules.Runs.{Causes, Work, reading, moving, writing_out, overwriting, appending, resizing, work_of, WorkMayBreak, BlamesOneOf, StaysUnfailed, may_leave_failed, StreamBreaksOff, IsAllowed, Closes}
use Rattle.cfb_stream_window.specs.Contents.{Stored, IsMediumFault, KeptOrFailed, stream_setting_of}
use Rattle.cfb_stream_window.specs.Windows.{Window, Stays, BrokeOff, CalmBrokeOff, ReadBrokeOff, WriteBrokeOff, LengthBrokeOff, IsMemoryOrFull, IsLost, Runs, IsCallRefused, state_of, run_of}
use Rattle.cfb_stream_window.specs.Answers.{AtRefusal}
use Rattle.cfb_stream_window.proofs.Breaks.{not_full}

pub match_true : (b : Bool) (P Q : Type 0) → b ≡ true → P → MatchBool b P Q
match_true true P Q is p = p
match_true false P Q is p = absurd (cc)

pub match_false : (b : Bool) (P Q : Type 0) → b ≡ false → Q → MatchBool b P Q
match_false true P Q is q = absurd (cc)
match_false false P Q is q = q

-- ---- errors

-- a break stays one where the file has become full or fuller
pub break_more : (P Q : Type 0) → (P → Q) → (e : Error) → IsBreak P e → IsBreak Q e
break_more P Q f (Medium fault) b = tt
break_more P Q f Memory b = tt
break_more P Q f Full b = f b
break_more P Q f (NotFound d) b = absurd b
break_more P Q f (AlreadyExists d) b = absurd b
break_more P Q f (InvalidInput d) b = absurd b
break_more P Q f (InvalidData d) b = absurd b
break_more P Q f Unsound b = absurd b
break_more P Q f Failed b = absurd b

-- nor where it is another
pub break_but : (P Q : Type 0) (e : Error) → (e ≡ Full → ⊥) → IsBreak P e → IsBreak Q e
break_but P Q (Medium fault) never b = tt
break_but P Q Memory never b = tt
break_but P Q Full never b = absurd (never refl)
break_but P Q (NotFound d) never b = absurd b
break_but P Q (AlreadyExists d) never b = absurd b
break_but P Q (InvalidInput d) never b = absurd b
break_but P Q (InvalidData d) never b = absurd b
break_but P Q Unsound never b = absurd b
break_but P Q Failed never b = absurd b

-- the rules refuse by none of these
pub break_untouched : (P Q R : Type 0) (e : Error) → IsBreak P e → AtRefusal Q R e
break_untouched P Q R (Medium fault) b = tt
break_untouched P Q R Memory b = tt
break_untouched P Q R Full b = tt
break_untouched P Q R (NotFound d) b = absurd b
break_untouched P Q R (AlreadyExists d) b = absurd b
break_untouched P Q R (InvalidInput d) b = absurd b
break_untouched P Q R (InvalidData d) b = absurd b
break_untouched P Q R Unsound b = absurd b
break_untouched P Q R Failed b = absurd b

pub memory_break : (P : Type 0) (e : Error) → IsMemory e → IsBreak P e
memory_break P e h = subst (λ (z : Error). IsBreak P z) (sym h) tt

-- what is refused for the numbers, or for memory, and not by the medium
pub not_fault : (P : Type 0) (e : Error) → IsBreak P e → (number_of e == 5) ≡ false → IsMemoryOrFull e
not_fault P (Medium fault) b h = absurd (let k : (5 == 5) ≡ false = h in cc)
not_fault P Memory b h = tt
not_fault P Full b h = tt
not_fault P (NotFound d) b h = absurd b
not_fault P (AlreadyExists d) b h = absurd b
not_fault P (InvalidInput d) b h = absurd b
not_fault P (InvalidData d) b h = absurd b
not_fault P Unsound b h = absurd b
not_fault P Failed b h = absurd b

-- the kind of an error
abbrev kind : Error → Refusal
kind (NotFound d) = not_found
kind (AlreadyExists d) = already_exists
kind (InvalidInput d) = invalid_input
kind (InvalidData d) = invalid_data
kind (Medium fault) = medium_failed
kind Memory = out_of_memory
kind Full = file_full
kind Unsound = not_sound
kind Failed = failed_earlier

kind_is : (P : Type 0) (e : Error) → IsBreak P e → IsRefusal (kind e) e
kind_is P (Medium fault) b = refl
kind_is P Memory b = refl
kind_is P Full b = refl
kind_is P (NotFound d) b = absurd b
kind_is P (AlreadyExists d) b = absurd b
kind_is P (InvalidInput d) b = absurd b
kind_is P (InvalidData d) b = absurd b
kind_is P Unsound b = absurd b
kind_is P Failed b = absurd b

-- memory and fullness are the kinds that spare a file with bytes pending
spared_kind : (e : Error) → IsMemoryOrFull e → (kind e ≡ out_of_memory) ⊎ (kind e ≡ file_full)
spared_kind Memory b = inl refl
spared_kind Full b = inr refl
spared_kind (Medium fault) b = absurd b
spared_kind (NotFound d) b = absurd b
spared_kind (AlreadyExists d) b = absurd b
spared_kind (InvalidInput d) b = absurd b
spared_kind (InvalidData d) b = absurd b
spared_kind Unsound b = absurd b
spared_kind Failed b = absurd b

-- it blames what refused
blames : (P : Type 0) (can : MediumFault → Bool) (m n : ℕ) (e : Error) → IsBreak P e → CountsError can m n e → BlamesOneOf (Rises m n) ⊤ P (kind e)
blames P can m n (Medium fault) b k = k.rises
blames P can m n Memory b k = tt
blames P can m n Full b k = b
blames P can m n (NotFound d) b k = absurd b
blames P can m n (AlreadyExists d) b k = absurd b
blames P can m n (InvalidInput d) b k = absurd b
blames P can m n (InvalidData d) b k = absurd b
blames P can m n Unsound b k = absurd b
blames P can m n Failed b k = absurd b

blames_more : (M P Q : Type 0) (r : Refusal) → (P → Q) → BlamesOneOf M ⊤ P r → BlamesOneOf M ⊤ Q r
blames_more M P Q medium_failed f b = b
blames_more M P Q out_of_memory f b = b
blames_more M P Q file_full f b = f b
blames_more M P Q not_found f b = absurd b
blames_more M P Q already_exists f b = absurd b
blames_more M P Q invalid_input f b = absurd b
blames_more M P Q invalid_data f b = absurd b
blames_more M P Q not_sound f b = absurd b
blames_more M P Q failed_earlier f b = absurd b

-- a fault of the medium alone
pub fault_is : (e : Error) → IsMediumFault e → IsBreak ⊥ e
fault_is (Medium fault) b = tt
fault_is Memory b = absurd b
fault_is Full b = absurd b
fault_is (NotFound d) b = absurd b
fault_is (AlreadyExists d) b = absurd b
fault_is (InvalidInput d) b = absurd b
fault_is (InvalidData d) b = absurd b
fault_is Unsound b = absurd b
fault_is Failed b = absurd b

faults : (can : MediumFault → Bool) (m n : ℕ) (e : Error) → IsMediumFault e → CountsError can m n e → BlamesOneOf (Rises m n) ⊥ ⊥ (kind e)
faults can m n (Medium fault) b k = k.rises
faults can m n Memory b k = absurd b
faults can m n Full b k = absurd b
faults can m n (NotFound d) b k = absurd b
faults can m n (AlreadyExists d) b k = absurd b
faults can m n (InvalidInput d) b k = absurd b
faults can m n (InvalidData d) b k = absurd b
faults can m n Unsound b k = absurd b
faults can m n Failed b k = absurd b

module _ (full : Type 0) (can : MediumFault → Bool) (m n : ℕ) (s : Stored) (w : Window) (s' : Stored) (w' : Window) (call : StreamCall) (e : Error) where
  abbrev causes : Causes
  causes = record { medium = Rises m n; full = full }

  -- the rules have no refusal of their own
  abbrev Allowed : Type 0
  Allowed = IsAllowed (stream_setting_of s) (state_of s w) call

  -- what the rules ask of a refusal of this work
  broken : (work : Work) (P : Type 0) → work_of (state_of s w) call ≡ work → s.failed ≡ false → Allowed → IsBreak P e
      → WorkMayBreak causes w.pending work (kind e) × StreamBreaksOff (state_of s w) work (kind e) (run_of s' w') → IsCallRefused causes s w call s' w' e
  unfolding Runs
  broken work P is f ok b h = (kind e, kind_is P e b, match_false s.failed _ _ f (inr (kind e, there.0, refl, there.1, ok)))
    where
      there : WorkMayBreak causes w.pending (work_of (state_of s w) call) (kind e) × StreamBreaksOff (state_of s w) (work_of (state_of s w) call) (kind e) (run_of s' w')
      there = subst (λ (k : Work). WorkMayBreak causes w.pending k (kind e) × StreamBreaksOff (state_of s w) k (kind e) (run_of s' w')) (sym is) h

  stays_new : Stays s w s' w' → run_of s' w' ≡ record { stream = record (state_of s w) { ahead = 0 }; failed = false }
  stays_new k =
      let len = k.carries.same_size in
      let list = k.carries.list in
      let at = k.carries.place in
      let unlent = k.ahead in
      let pending = k.pending in
      let calm = k.carries.agrees.unfailed in
      cc

  pub read_broken : work_of (state_of s w) call ≡ reading → s.failed ≡ false → Allowed → CountsError can m n e → ReadBrokeOff full s w s' w' e → IsCallRefused causes s w call s' w' e
  read_broken is f ok counts b = broken reading _ is f ok b.0 (go w.pending refl)
    where
      go : (p : Bool) → w.pending ≡ p → WorkMayBreak causes p reading (kind e)
          × ((StaysUnfailed p reading (kind e) × (run_of s' w' ≡ record { stream = record (state_of s w) { ahead = 0 }; failed = false }))
          ⊎ (IsTrue (may_leave_failed p reading) × (s'.failed ≡ true)))
      go true eq = (
        blames_more _ _ full (kind e) (λ (h : (w.pending ≡ true) × full). h.1) (blames _ can m n e b.0 counts),
        elim b.1 [ inl k ↦ inl (ap kind (k.1 eq), stays_new k.0) | inr k ↦ inr (refl, k.0.is_failed) ],
      )
      go false eq = (
        blames_more _ _ ⊥ (kind e) (λ (h : (w.pending ≡ true) × full). let t = h.0 in absurd (cc)) (blames _ can m n e b.0 counts),
        elim b.1 [ inl k ↦ inl (tt, stays_new k.0) | inr k ↦ absurd (let t = k.1 in cc) ],
      )

  -- bytes that are taken over others, and bytes at the end
  pub overwritten_broken : work_of (state_of s w) call ≡ overwriting → w.base + w.cursor < w.size → s.failed ≡ false → Allowed → CountsError can m n e → WriteBrokeOff full s w s' w' e → IsCallRefused causes s w call s' w' e
  overwritten_broken is before f ok counts b = broken overwriting _ is f ok b.0 (go w.pending refl)
    where
      go : (p : Bool) → w.pending ≡ p → WorkMayBreak causes p overwriting (kind e)
          × ((StaysUnfailed p overwriting (kind e) × (run_of s' w' ≡ record { stream = record (state_of s w) { ahead = 0 }; failed = false }))
          ⊎ (IsTrue (may_leave_failed p overwriting) × (s'.failed ≡ true)))
      go true eq = (
        blames_more _ _ full (kind e) (λ (h : (w.pending ≡ false → w.size ≤ w.base + w.cursor) × full). h.1) (blames _ can m n e b.0 counts),
        elim b.1 [ inl k ↦ inl (ap kind (k.1 eq), stays_new k.0) | inr k ↦ inr (refl, k.0.is_failed) ],
      )
      go false eq = (
        blames_more _ _ ⊥ (kind e) (λ (h : (w.pending ≡ false → w.size ≤ w.base + w.cursor) × full). absurd (omega (arith, before, h.0 eq))) (blames _ can m n e b.0 counts),
        elim b.1 [ inl k ↦ inl (tt, stays_new k.0) | inr k ↦ inr (refl, k.0.is_failed) ],
      )

  pub appended_broken : work_of (state_of s w) call ≡ appending → s.failed ≡ false → Allowed → CountsError can m n e → WriteBrokeOff full s w s' w' e → IsCallRefused causes s w call s' w' e
  appended_broken is f ok counts b = broken appending _ is f ok b.0 (go w.pending refl)
    where
      all : BlamesOneOf (Rises m n) ⊤ full (kind e)
      all = blames_more _ _ full (kind e) (λ (h : (w.pending ≡ false → w.size ≤ w.base + w.cursor) × full). h.1) (blames _ can m n e b.0 counts)

      go : (p : Bool) → w.pending ≡ p → WorkMayBreak causes p appending (kind e)
          × ((StaysUnfailed p appending (kind e) × (run_of s' w' ≡ record { stream = record (state_of s w) { ahead = 0 }; failed = false }))
          ⊎ (IsTrue (may_leave_failed p appending) × (s'.failed ≡ true)))
      go true eq = (all, elim b.1 [ inl k ↦ inl (ap kind (k.1 eq), stays_new k.0) | inr k ↦ inr (refl, k.0.is_failed) ])
      go false eq = (all, elim b.1 [ inl k ↦ inl (tt, stays_new k.0) | inr k ↦ inr (refl, k.0.is_failed) ])

  pub length_broken : work_of (state_of s w) call ≡ resizing → s.failed ≡ false → Allowed → CountsError can m n e → LengthBrokeOff full s w s' w' e → IsCallRefused causes s w call s' w' e
  length_broken is f ok counts b = broken resizing _ is f ok b.0 (go w.pending refl)
    where
      go : (p : Bool) → w.pending ≡ p → WorkMayBreak causes p resizing (kind e)
          × ((StaysUnfailed p resizing (kind e) × (run_of s' w' ≡ record { stream = record (state_of s w) { ahead = 0 }; failed = false }))
          ⊎ (IsTrue (may_leave_failed p resizing) × (s'.failed ≡ true)))
      go true eq = (blames _ can m n e b.0 counts, elim b.1 [ inl k ↦ inl (spared_kind e (k.1 eq), stays_new k.0) | inr k ↦ inr (refl, k.0.is_failed) ])
      go false eq = (blames _ can m n e b.0 counts, elim b.1 [ inl k ↦ inl (tt, stays_new k.0) | inr k ↦ inr (refl, k.0.is_failed) ])

  pub lost_moving : work_of (state_of s w) call ≡ moving → s.failed ≡ false → Allowed → CountsError can m n e → IsLost full s w s' e → IsCallRefused causes s w call s' w' e
  lost_moving is f ok counts b = broken moving full is f ok b.0 (go w.pending refl)
    where
      go : (p : Bool) → w.pending ≡ p → WorkMayBreak causes p moving (kind e)
          × ((StaysUnfailed p moving (kind e) × (run_of s' w' ≡ record { stream = record (state_of s w) { ahead = 0 }; failed = false }))
          ⊎ (IsTrue (may_leave_failed p moving) × (s'.failed ≡ true)))
      go true eq = (blames _ can m n e b.0 counts, inr (refl, b.2.is_failed))
      go false eq = absurd (let t = b.1 in cc)

  pub lost_flushing : work_of (state_of s w) call ≡ writing_out → s.failed ≡ false → Allowed → CountsError can m n e → IsLost full s w s' e → IsCallRefused causes s w call s' w' e
  lost_flushing is f ok counts b = broken writing_out full is f ok b.0 (go w.pending refl)
    where
      go : (p : Bool) → w.pending ≡ p → WorkMayBreak causes p writing_out (kind e)
          × ((StaysUnfailed p writing_out (kind e) × (run_of s' w' ≡ record { stream = record (state_of s w) { ahead = 0 }; failed = false }))
          ⊎ (IsTrue (may_leave_failed p writing_out) × (s'.failed ≡ true)))
      go true eq = (blames _ can m n e b.0 counts, inr (refl, b.2.is_failed))
      go false eq = absurd (let t = b.1 in cc)

  pub flush_broken : work_of (state_of s w) call ≡ writing_out → s.failed ≡ false → Allowed → CountsError can m n e → IsMediumFault e → s'.failed ≡ true → IsCallRefused causes s w call s' w' e
  flush_broken is f ok counts b failed = broken writing_out ⊥ is f ok (fault_is e b) (go w.pending refl)
    where
      go : (p : Bool) → w.pending ≡ p → WorkMayBreak causes p writing_out (kind e)
          × ((StaysUnfailed p writing_out (kind e) × (run_of s' w' ≡ record { stream = record (state_of s w) { ahead = 0 }; failed = false }))
          ⊎ (IsTrue (may_leave_failed p writing_out) × (s'.failed ≡ true)))
      go true eq = (blames_more _ ⊥ full (kind e) (λ (h : ⊥). absurd h) (blames ⊥ can m n e (fault_is e b) counts), inr (refl, failed))
      go false eq = (faults can m n e b counts, inr (refl, failed))

-- what is stored is as before, or the file has failed
pub broke_stops : (may full : Type 0) (spares : Error → Type 0) (s : Stored) (w : Window) (s' : Stored) (w' : Window) (e : Error) → BrokeOff may full spares s w s' w' e → KeptOrFailed s s'
broke_stops may full spares s w s' w' e b = elim b.1 [ inl k ↦ inl k.0.same | inr k ↦ inr k.0 ]

-- a calm read breaks off as any does
pub calm_reads : (full : Type 0) (s : Stored) (w : Window) (s' : Stored) (w' : Window) (e : Error) → w.pending ≡ false → CalmBrokeOff s w s' w' e → ReadBrokeOff full s w s' w' e
calm_reads full s w s' w' e calm b = (not_full _ e b.0, inl (b.1, λ (h : w.pending ≡ true). absurd (cc)))

-- closing lost bytes
pub lost_closing : (full : Type 0) (can : MediumFault → Bool) (m n : ℕ) (s : Stored) (w : Window) (s' : Stored) (e : Error) → s.failed ≡ false → CountsError can m n e → IsLost full s w s' e
    → (refusal : Refusal) × IsRefusal refusal e × Closes (record { medium = Rises m n; full = full }) (run_of s w) (Some refusal) s'.failed
lost_closing full can m n s w s' e f counts b = (kind e, kind_is full e b.0, match_false s.failed _ _ f (b.1, blames full can m n e b.0 counts, b.2.is_failed))

pub failed_closing : (why : Causes) (s : Stored) (w : Window) → s.failed ≡ true → (refusal : Refusal) × IsRefusal refusal Failed × Closes why (run_of s w) (Some refusal) s.failed
failed_closing why s w f = (failed_earlier, refl, match_true s.failed _ _ f (refl, f))
