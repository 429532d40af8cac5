-- One change, or two in turn.
use Rattle.std.proofs.Common.{refl, ℕ, Bool, true, false, inl, inr, ◌≡◌}
use Rattle.std.specs.Prelude.{Result}
use Rattle.cfb_format.specs.declared.error.Error.{Error}
use Rattle.cfb_stream_window.specs.Contents.{Stored}
use Rattle.cfb_stream_window.specs.declared.content.ReadContents as reading
use Rattle.cfb_stream_window.specs.declared.content.Contents as writing
use Rattle.cfb_stream_window.specs.Touched.{IsWritten}
use Rattle.cfb_stream_window.specs.Answers.{InTurn}
use Rattle.cfb_stream_window.specs.Windows.{IsSettled, Window, settled}

module _ {C : Type 0} (r : reading.Ghosts C) (g : writing.Ghosts C) (still : (s : C) → g.tight s s) where
  -- one change is two of which the first is none
  pub once_between : {T : Type 0} (old : C) (id : ℕ) (w : Window) (new : C) (result : Result T Error) → r.tells old → IsWritten r g old new id result → InTurn r g old id w new
  once_between old id w new result told k =
      (old, record { told = told; calm = λ _. refl; settles = λ _. inl refl; before = λ first h. h; after = k.others; first = still old; second = k.tight })

  -- and so is none
  pub none_between : (old : C) (id : ℕ) (w : Window) → r.tells old → InTurn r g old id w old
  none_between old id w told =
      (old, record { told = told; calm = λ _. refl; settles = λ _. inl refl; before = λ first h. h; after = λ first h. h; first = still old; second = still old })

-- all that was pending is written out, or nothing was pending
pub settled_if : (s t : Stored) (w : Window) → (w.pending ≡ false → t ≡ s) → t ≡ settled s w → IsSettled s w t
settled_if s t w calm is = go w.pending refl
  where
    go : (p : Bool) → w.pending ≡ p → IsSettled s w t
    go true pending = inr (pending, is)
    go false none = inl (calm none)
