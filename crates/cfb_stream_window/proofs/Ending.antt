-- What the rules say of reading to the end, from what the windows say.
use Rattle.std.proofs.Common.{refl, ℕ, ◌+◌, ◌-◌, ◌≡◌, ◌≢◌, ◌<◌, ◌≤◌, ◌==◌, ◌⊎◌, Bool, true, false, ◌&&◌, IsTrue, List, [], ◌∷◌, ◌++◌, length, take, drop, sym, ◌∙◌, ap, subst, arith, inl, inr, length-drop, nat_lt}
use Rattle.std.proofs.lemmas.Bool.{cases_lt}
use Rattle.std.proofs.lemmas.Bool.Decides.{nat_tests}
use Rattle.std.proofs.lemmas.List.{take_all, take-append-drop, drop_all, drop_at}
use Rattle.cfb_format.specs.Refused.{CountsError, IsMemory}
use Rattle.cfb_format.specs.declared.medium.MediumFault.{MediumFault}
use Rattle.cfb_format.specs.declared.error.Error.{Error}
use Rattle.cfb_stream_window.specs.cfb_rules.Refusal.{invalid_data}
use Rattle.cfb_stream_window.specs.cfb_rules.StreamCalls.{read_to_end, StreamReply, got, Moves}
use Rattle.cfb_stream_window.specs.cfb_rules.Runs.{Causes}
use Rattle.cfb_stream_window.specs.Contents.{Stored, laid}
use Rattle.cfb_stream_window.specs.Windows.{Window, LiesOver, Carries, ReadBrokeOff, Runs, IsCallRefused, state_of, window_at, WentTo, IsReadable, IsUnreadable, Appended}
use Rattle.cfb_stream_window.proofs.Lists.{rest-laid}
use Rattle.cfb_stream_window.proofs.Carrying.{settled_whole, length-over}
use Rattle.cfb_stream_window.proofs.Breaking.{match_true, match_false, memory_break}
use Rattle.cfb_stream_window.proofs.Reading.{step_runs, went, went_moves}
use Rattle.cfb_stream_window.proofs.Writing.{unlent}

-- the rest of bytes that are pending can be read
pub pending_readable : (s : Stored) (w : Window) → LiesOver s w → w.pending ≡ true → IsReadable s w
pending_readable s w a is = λ (h : w.base + w.cursor < w.size). settled_whole s w a (a.trusted is)

both_false : (a b : Bool) → (a ≡ false) ⊎ (b ≡ false) → a && b ≡ false
both_false false b h = refl
both_false true b h = elim h [ inl e ↦ absurd (cc) | inr e ↦ e ]

both_true : (a b : Bool) → a ≡ true → b ≡ true → a && b ≡ true
both_true true b h e = e
both_true false b h e = absurd (cc)

no_rest : (p z n : ℕ) → (p < z → n ≡ z) → nat_lt p z && nat_lt n z ≡ false
no_rest p z n h = elim (cases_lt p z) [
  | inl before ↦ let same : n ≡ z = h before in both_false (nat_lt p z) (nat_lt n z) (inr (grind (arith, nat_tests)))
  | inr at ↦ both_false (nat_lt p z) (nat_lt n z) (inl (grind (arith, nat_tests)))
]

lt_test : (a b : ℕ) → a < b → nat_lt a b ≡ true
lt_test a b h = grind (arith, nat_tests)

ends : (causes : Causes) (s t : Stored) (w x : Window) (reply : StreamReply) → s.failed ≡ false → t.failed ≡ false → IsReadable s w → reply ≡ got (drop (w.base + w.cursor) (laid w.base w.filled s.content))
    → Moves (state_of s w) (state_of t x) w.size 0 → Runs causes s w read_to_end reply t x
ends causes s t w x reply f f' whole is moves = step_runs causes s w t x read_to_end reply f f'
    (match_false (nat_lt (w.base + w.cursor) w.size && nat_lt (length (laid w.base w.filled s.content)) w.size) _ _ (no_rest (w.base + w.cursor) w.size (length (laid w.base w.filled s.content)) whole) (is, moves))

pub unreadable_refused : (causes : Causes) (s : Stored) (w x : Window) (e : Error) → s.failed ≡ false → IsUnreadable s w x e → IsCallRefused causes s w read_to_end s x e
unreadable_refused causes s w x e f u = (
  invalid_data,
  u.is,
  step_runs causes s w s x read_to_end _ f f
      (match_true (nat_lt (w.base + w.cursor) w.size && nat_lt (length (laid w.base w.filled s.content)) w.size) _ _
      (both_true (nat_lt (w.base + w.cursor) w.size) (nat_lt (length (laid w.base w.filled s.content)) w.size) (lt_test _ _ u.before) (lt_test _ _ u.short))
      (refl, ap (λ (z : Window). state_of s z) u.same)),
)

-- what is held reaches to the end
held_rest : (s : Stored) (w : Window) (f : List ℕ) → w.filled ≡ f → LiesOver s w → w.cursor ≤ length f → w.base + length f ≡ w.size → length (laid w.base w.filled s.content) ≤ w.size
    → drop (w.base + w.cursor) (laid w.base w.filled s.content) ≡ drop w.cursor w.filled
held_rest s w [] is a behind end whole =
    drop_all (w.base + w.cursor) (laid w.base w.filled s.content) (omega arith) ∙ sym (drop_all w.cursor w.filled (omega (arith, ap length is)))
held_rest s w (y ∷ ys) is a behind end whole =
    rest-laid w.base w.cursor w.filled s.content (a.placed (omega (arith, ap length is))) (omega (arith, ap length is))

appended_drop : (old new more : List ℕ) → new ≡ old ++ more → drop (length old) new ≡ more
appended_drop old new more is = ap (λ (xs : List ℕ). drop (length old) xs) is ∙ drop_at old more (length old) refl

held_end : (causes : Causes) (s : Stored) (w x : Window) (old new : List ℕ) → LiesOver s w → IsReadable s w → w.cursor ≤ length w.filled → w.base + length w.filled ≡ w.size
    → new ≡ old ++ drop w.cursor w.filled → x ≡ record w { cursor = length w.filled; ahead = 0 } → Runs causes s w read_to_end (got (drop (length old) new)) s x
held_end causes s w x old new a whole behind end is at =
    ends causes s s w x _ a.unfailed a.unfailed whole
    (ap got (appended_drop old new (drop w.cursor w.filled) is ∙ sym (held_rest s w w.filled refl a behind end (omega (arith, length-over w.base w.filled s.content a.placed, a.total, a.readable)))))
    (subst (λ (z : Window). Moves (state_of s w) (state_of s z) w.size 0) (sym at) (record { len = refl; content = refl; position = end; ahead = refl; pending = λ (h : IsTrue w.pending). h }))

pub held_end_runs : (causes : Causes) (s : Stored) (w v x : Window) (old new : List ℕ) → LiesOver s w → IsReadable s w → v ≡ w → v.cursor ≤ length v.filled → v.base + length v.filled ≡ v.size
    → new ≡ old ++ drop v.cursor v.filled → x ≡ record v { cursor = length v.filled; ahead = 0 } → Runs causes s w read_to_end (got (drop (length old) new)) s x
held_end_runs causes s w v x old new a whole is = subst (λ (u : Window). u.cursor ≤ length u.filled → u.base + length u.filled ≡ u.size → new ≡ old ++ drop u.cursor u.filled
    → x ≡ record u { cursor = length u.filled; ahead = 0 } → Runs causes s w read_to_end (got (drop (length old) new)) s x) (sym is) (held_end causes s w x old new a whole)

pub appended_runs : (causes : Causes) (s t : Stored) (w x : Window) (old new : List ℕ) → s.failed ≡ false → IsReadable s w → Appended old new s w t x → Runs causes s w read_to_end (got (drop (length old) new)) t x
appended_runs causes s t w x old new f whole k =
    ends causes s t w x _ f k.went.agrees.unfailed whole (ap got (appended_drop old new _ k.bytes)) (went_moves s t w x w.size k.went)

-- what was there before stands before what was appended
pub stands_before : (old made new : List ℕ) (start left : ℕ) → start ≡ length old → length made ≡ length old + left → take (length old) made ≡ old → length new ≡ length made → take start new ≡ take start made
    → new ≡ old ++ drop (length old) new
stands_before old made new start left is more before same first =
    sym (take-append-drop (length old) new)
    ∙ ap (λ (xs : List ℕ). xs ++ drop (length old) new) (ap (λ (n : ℕ). take n new) (sym is) ∙ first ∙ ap (λ (n : ℕ). take n made) is ∙ before)

-- all of the rest was read
pub rest_read : (front new l : List ℕ) (m p z : ℕ) → m ≡ z - p → length l ≡ z → new ≡ front ++ take m (drop p l) → new ≡ front ++ drop p l
rest_read front new l m p z amount whole at = at ∙ ap (λ (xs : List ℕ). front ++ xs) (take_all m (drop p l) (omega (arith, length-drop p l)))

pub appended_to : (s u : Stored) (w v x : Window) (old new : List ℕ) → Carries s w s v → v ≡ window_at (w.base + w.cursor) w → u ≡ s → x ≡ record v { base = v.size }
    → new ≡ old ++ drop (w.base + w.cursor) (laid w.base w.filled s.content) → Appended old new s w u x
appended_to s u w v x old new k left same is bytes = record {
  bytes = bytes;
  went = subst (λ (z : Stored). WentTo w.size s w z x) (sym same)
      (went s s w v x w.size k (ap (λ (z : Window). z.filled) left) (ap (λ (z : Window). z.pending) left) (omega arith)
      (is ∙ ap (λ (z : Window). record z { base = z.size }) left ∙ sym (ap (λ (z : Window). window_at w.size z) left)));
}

pub test_eq : (a b : ℕ) → (a == b) ≡ true → a ≡ b
test_eq a b h = grind (arith, nat_tests)

pub readable_same : (s : Stored) (w v : Window) → v ≡ w → IsReadable s w → IsReadable s v
readable_same s w v h r = subst (λ (z : Window). IsReadable s z) (sym h) r

-- there was no memory to look, or for what is held
pub memory_broke : (full : Type 0) (s : Stored) (w x : Window) (e : Error) → LiesOver s w → IsMemory e → x ≡ record w { ahead = 0 } → ReadBrokeOff full s w s x e
memory_broke full s w x e a memory is = (memory_break ((w.pending ≡ true) × full) e memory, inl (unlent s s w x a refl is, λ (p : w.pending ≡ true). memory))

pub memory_counts : (can : MediumFault → Bool) (n : ℕ) (e : Error) → IsMemory e → CountsError can n n e
memory_counts can n e h = subst (λ (z : Error). CountsError can n n z) (sym h) refl

-- the rest is more than what is held
pub more_left : (v w : Window) → v ≡ w → (v.base + length v.filled == v.size) ≡ false → w.base + length w.filled ≤ w.size → w.cursor ≤ length w.filled → v.base + v.cursor < v.size
more_left v w is test inside behind =
    let other : v.base + length v.filled ≢ v.size = grind (arith, nat_tests) in
    omega (arith, other, ap (λ (z : Window). z.base) is, ap (λ (z : Window). z.size) is, ap (λ (z : Window). z.cursor) is, ap (λ (z : Window). length z.filled) is)

-- the same, from the window as it was before
pub appended_from : (s u : Stored) (w v x : Window) (old new : List ℕ) → v ≡ w → Appended old new s v u x → Appended old new s w u x
appended_from s u w v x old new is k = subst (λ (z : Window). Appended old new s z u x) is k

pub broken_from : (full : Type 0) (s u : Stored) (w v x : Window) (e : Error) → v ≡ w → ReadBrokeOff full s v u x e → ReadBrokeOff full s w u x e
broken_from full s u w v x e is k = subst (λ (z : Window). ReadBrokeOff full s z u x e) is k

pub agrees_same : (s : Stored) (w v : Window) → v ≡ w → LiesOver s w → LiesOver s v
agrees_same s w v is a = subst (λ (z : Window). LiesOver s z) (sym is) a
