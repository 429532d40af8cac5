-- Bytes that were lent are consumed.
use Rattle.std.proofs.Common.{refl, ℕ, ◌+◌, ◌-◌, ◌≡◌, min, sym, subst, arith, IsTrue}
use Rattle.cfb_stream_window.specs.cfb_rules.StreamCalls.{StreamStep, consume, ready, Moves}
use Rattle.cfb_stream_window.specs.Contents.{Stored, stream_setting_of}
use Rattle.cfb_stream_window.specs.Windows.{Window, LiesOver, state_of}

-- the window fits on where only the cursor moved, or other bytes are lent
pub agrees_moved : (s : Stored) (w x : Window) (c a : ℕ) → LiesOver s w → x ≡ record w { cursor = c; ahead = a } → LiesOver s x
agrees_moved s w x c a k is = subst (λ (z : Window). LiesOver s z) (sym is) (record {
  unfailed = k.unfailed;
  begins = k.begins;
  total = k.total;
  within = k.within;
  readable = k.readable;
  whole = k.whole;
  placed = k.placed;
  clean = k.clean;
  clean_size = k.clean_size;
  trusted = k.trusted;
})

pub consumed_step : (s : Stored) (w x : Window) (m : ℕ) → x ≡ record w { cursor = w.cursor + min m w.ahead; ahead = w.ahead - min m w.ahead }
    → StreamStep (stream_setting_of s) (state_of s w) (consume m) ready (state_of s x)
consumed_step s w x m is = (
  refl,
  subst (λ (z : Window). Moves (state_of s w) (state_of s z) (w.base + w.cursor + min m w.ahead) (w.ahead - min m w.ahead)) (sym is)
      (record { len = refl; content = refl; position = omega arith; ahead = refl; pending = λ (h : IsTrue w.pending). h }),
)

pub consumed_agrees : (s : Stored) (w x : Window) (m : ℕ) → x ≡ record w { cursor = w.cursor + min m w.ahead; ahead = w.ahead - min m w.ahead } → LiesOver s w → LiesOver s x
consumed_agrees s w x m is a = agrees_moved s w x (w.cursor + min m w.ahead) (w.ahead - min m w.ahead) a is
