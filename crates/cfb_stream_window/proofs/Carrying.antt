-- The same stream in another window.
use Rattle.std.proofs.Common.{refl, ℕ, ◌+◌, ◌≡◌, ◌<◌, ◌≤◌, max, true, false, List, [], ◌∷◌, length, take, drop, sym, ◌∙◌, ◌⊎◌, ap, subst, arith, inl, inr}
use Rattle.cfb_format.specs.declared.error.Error.{Error}
use Rattle.cfb_stream_window.specs.Contents.{Stored, laid, IsFitting, IsRefusedRead}
use Rattle.cfb_stream_window.specs.cfb_rules.StreamCalls.{opened}
use Rattle.cfb_stream_window.specs.Windows.{Window, LiesOver, Suits, Carries, Stays, CalmBrokeOff, Unreadable, state_of, settled, window_settled, window_at, IsLoaded, window_over}
use Rattle.cfb_stream_window.specs.Buffers.{Buffered}
use Rattle.cfb_stream_window.proofs.Lists.{length-laid, laid-nothing, laid-own, laid-twice}

-- the same, where nothing may be held
pub length-over : (at : ℕ) (f c : List ℕ) → (0 < length f → at ≤ length c) → length (laid at f c) ≤ max (length c) (at + length f)
length-over at [] c within = rw (laid-nothing at c) (omega arith)
length-over at (x ∷ xs) c within = let h : at ≤ length c = within (omega arith) in omega (arith, length-laid at (x ∷ xs) c h)

pub settled-list : (at : ℕ) (f c : List ℕ) → (0 < length f → at ≤ length c) → laid at f (laid at f c) ≡ laid at f c
settled-list at [] c within = laid-nothing at (laid at [] c)
settled-list at (x ∷ xs) c within = laid-twice at (x ∷ xs) c (within (omega arith))

module _ (s : Stored) (w : Window) (a : LiesOver s w) where
  settled_readable : length (laid w.base w.filled s.content) ≤ w.size
  settled_readable = omega (arith, length-over w.base w.filled s.content a.placed, a.total, a.readable)

  pub settled_whole : s.sound ≡ true → length (laid w.base w.filled s.content) ≡ w.size
  settled_whole sound = omega (arith, length-laid w.base w.filled s.content (omega (arith, a.whole sound, a.begins)), a.total, a.whole sound)

  left_agrees : w.base + w.cursor ≤ w.size → LiesOver (settled s w) (window_at (w.base + w.cursor) w)
  left_agrees inside = record {
    unfailed = a.unfailed;
    begins = inside;
    total = omega arith;
    within = a.within;
    readable = settled_readable;
    whole = settled_whole;
    placed = λ (h : 0 < 0). absurd (omega arith);
    clean = λ (h : false ≡ false). laid-nothing (w.base + w.cursor) (laid w.base w.filled s.content);
    clean_size = λ (h : false ≡ false). refl;
    trusted = λ (h : false ≡ true). cc;
  }

  -- written out, and nothing held
  pub left : w.base + w.cursor ≤ w.size → Carries s w (settled s w) (window_at (w.base + w.cursor) w)
  left inside = record {
    list = laid-nothing (w.base + w.cursor) (laid w.base w.filled s.content);
    place = omega arith;
    same_size = refl;
    limit = refl;
    sound = refl;
    calm = λ (h : w.pending ≡ false). refl;
    bound = refl;
    agrees = left_agrees inside;
  }

  -- written out
  pub flushed : w.base + length w.filled ≤ w.size → Carries s w (settled s w) (window_settled w)
  flushed inside = record {
    list = settled-list w.base w.filled s.content a.placed;
    place = refl;
    same_size = refl;
    limit = refl;
    sound = refl;
    calm = λ (h : w.pending ≡ false). refl;
    bound = refl;
    agrees = record {
      unfailed = a.unfailed;
      begins = omega arith;
      total = omega arith;
      within = a.within;
      readable = settled_readable;
      whole = settled_whole;
      placed = λ (h : 0 < length w.filled). omega (arith, length-laid w.base w.filled s.content (a.placed h), a.placed h);
      clean = λ (h : false ≡ false). settled-list w.base w.filled s.content a.placed;
      clean_size = λ (h : false ≡ false). refl;
      trusted = λ (h : false ≡ true). cc;
    };
  }

pub left_to : (s s' : Stored) (w w' : Window) → LiesOver s w → w.base + w.cursor ≤ w.size → s' ≡ settled s w → w' ≡ window_at (w.base + w.cursor) w → Carries s w s' w'
left_to s s' w w' a inside is at = subst (λ (t : Stored). Carries s w t w') (sym is) (subst (λ (v : Window). Carries s w (settled s w) v) (sym at) (left s w a inside))

pub flushed_to : (s s' : Stored) (w w' : Window) → LiesOver s w → w.base + length w.filled ≤ w.size → s' ≡ settled s w → w' ≡ window_settled w → Carries s w s' w'
flushed_to s s' w w' a inside is at = subst (λ (t : Stored). Carries s w t w') (sym is) (subst (λ (v : Window). Carries s w (settled s w) v) (sym at) (flushed s w a inside))

pub carries_trans : (s t u : Stored) (w x y : Window) → Carries s w t x → Carries t x u y → Carries s w u y
carries_trans s t u w x y a b = record {
  list = b.list ∙ a.list;
  place = b.place ∙ a.place;
  same_size = b.same_size ∙ a.same_size;
  limit = b.limit ∙ a.limit;
  sound = b.sound ∙ a.sound;
  calm = λ (h : w.pending ≡ false). b.calm (a.calm h);
  bound = b.bound ∙ a.bound;
  agrees = b.agrees;
}

-- bytes read into the empty window
module _ (s : Stored) (w : Window) (a : LiesOver s w) (none : w.filled ≡ []) (at : w.cursor ≡ 0) (calm : w.pending ≡ false) where
  loaded_is : (f : List ℕ) → f ≡ take (length f) (drop w.base s.content) → laid w.base f s.content ≡ s.content
  loaded_is f is = ap (λ (xs : List ℕ). laid w.base xs s.content) is ∙ laid-own w.base (length f) s.content

  loaded_in : (f : List ℕ) → f ≡ take (length f) (drop w.base s.content) → w.base + length f ≤ length s.content → Carries s w s (record w { filled = f; cursor = 0; ahead = 0 })
  loaded_in f is inside = record {
    list = loaded_is f is ∙ sym (a.clean calm);
    place = omega arith;
    same_size = refl;
    limit = refl;
    sound = refl;
    calm = λ (h : w.pending ≡ false). h;
    bound = refl;
    agrees = record {
      unfailed = a.unfailed;
      begins = a.begins;
      total = omega (arith, a.clean_size calm, a.readable);
      within = a.within;
      readable = a.readable;
      whole = a.whole;
      placed = λ (h : 0 < length f). omega arith;
      clean = λ (h : w.pending ≡ false). loaded_is f is;
      clean_size = a.clean_size;
      trusted = a.trusted;
    };
  }

  pub loaded : (t : Stored) (v : Window) → t ≡ s → v ≡ record w { filled = v.filled; cursor = 0; ahead = 0 } → IsLoaded s.content w v → Carries s w t v
  loaded t v same is l = subst (λ (z : Stored). Carries s w z v) (sym same) (subst (λ (u : Window). Carries s w s u) (sym is) (loaded_in v.filled l.gives l.inside))

-- what is stored after everything was written out fits the old window too
pub settled_agrees : (s t : Stored) (w : Window) → LiesOver s w → t ≡ settled s w → LiesOver t w
settled_agrees s t w a is = subst (λ (z : Stored). LiesOver z w) (sym is) (record {
  unfailed = a.unfailed;
  begins = omega (arith, a.total, a.begins);
  total = omega (arith, a.total);
  within = a.within;
  readable = settled_readable s w a;
  whole = settled_whole s w a;
  placed = λ (h : 0 < length w.filled). omega (arith, length-laid w.base w.filled s.content (a.placed h), a.placed h);
  clean = λ (h : w.pending ≡ false). settled-list w.base w.filled s.content a.placed;
  clean_size = λ (h : w.pending ≡ false). refl;
  trusted = a.trusted;
})

pub opened_agrees : (s : Stored) (buffer : Buffered) → s.failed ≡ false → IsFitting s → LiesOver s (window_over s.size buffer)
opened_agrees s buffer f k = record {
  unfailed = f;
  begins = omega arith;
  total = omega arith;
  within = k.within;
  readable = k.readable;
  whole = k.whole;
  placed = λ (h : 0 < 0). absurd (omega arith);
  clean = λ (h : false ≡ false). laid-nothing 0 s.content;
  clean_size = λ (h : false ≡ false). refl;
  trusted = λ (h : false ≡ true). absurd (cc);
}

-- as it is opened it is the rules' stream at its start
pub opened_state : (s : Stored) (buffer : Buffered) (w : Window) → w ≡ window_over s.size buffer → state_of s w ≡ opened s.size s.content
opened_state s buffer w is = subst (λ (z : Window). state_of s z ≡ opened s.size s.content) (sym is)
    (ap (λ (c : List ℕ). record { len = s.size; content = c; position = 0; ahead = 0; pending = false }) (laid-nothing 0 s.content))

-- and it is open, failed or not
pub opened_suits : (s : Stored) (buffer : Buffered) (w : Window) → IsFitting s → w ≡ window_over s.size buffer → Suits s w
opened_suits s buffer w k is = λ (f : s.failed ≡ false). subst (λ (z : Window). LiesOver s z) (sym is) (opened_agrees s buffer f k)

-- ---- the window let go where nothing is pending

-- all is written out then
pub settled_calm : (s : Stored) (w : Window) → LiesOver s w → w.pending ≡ false → settled s w ≡ s
settled_calm s w a calm =
    ap (λ (n : ℕ). record s { size = n; content = laid w.base w.filled s.content }) (a.clean_size calm)
    ∙ ap (λ (xs : List ℕ). record s { content = xs }) (a.clean calm)

let_go_in : (s : Stored) (w : Window) → LiesOver s w → w.pending ≡ false → w.base + w.cursor ≤ w.size → Carries s w s (window_at (w.base + w.cursor) w)
let_go_in s w a calm inside = subst (λ (z : Stored). Carries s w z (window_at (w.base + w.cursor) w)) (settled_calm s w a calm) (left s w a inside)

-- however much room there is
roomier : (s t : Stored) (w v : Window) (n : ℕ) → Carries s w t v → Carries s w t (record v { room = n })
roomier s t w v n k = record {
  list = k.list;
  place = k.place;
  same_size = k.same_size;
  limit = k.limit;
  sound = k.sound;
  calm = k.calm;
  bound = k.bound;
  agrees = record {
    unfailed = k.agrees.unfailed;
    begins = k.agrees.begins;
    total = k.agrees.total;
    within = k.agrees.within;
    readable = k.agrees.readable;
    whole = k.agrees.whole;
    placed = k.agrees.placed;
    clean = k.agrees.clean;
    clean_size = k.agrees.clean_size;
    trusted = k.agrees.trusted;
  };
}

pub let_go : (s : Stored) (w u v : Window) (n : ℕ) → LiesOver s w → w.pending ≡ false → w.base + w.cursor ≤ w.size → u ≡ record w { room = n } → v ≡ window_at (u.base + u.cursor) u → Carries s w s v
let_go s w u v n a calm inside grown is =
    subst (λ (z : Window). Carries s w s z) (sym (is ∙ ap (λ (z : Window). window_at (z.base + z.cursor) z) grown))
    (roomier s s w (window_at (w.base + w.cursor) w) n (let_go_in s w a calm inside))

-- nothing was read into it
pub emptied_still : (v x : Window) → v.filled ≡ [] → v.cursor ≡ 0 → v.ahead ≡ 0 → x ≡ record v { filled = x.filled; cursor = 0; ahead = 0 } → x.filled ≡ [] → x ≡ v
emptied_still v x none at unlent is empty =
    is ∙ ap (λ (xs : List ℕ). record v { filled = xs; cursor = 0; ahead = 0 }) (empty ∙ sym none)
    ∙ ap (λ (n : ℕ). record v { cursor = n; ahead = 0 }) (sym at) ∙ ap (λ (n : ℕ). record v { ahead = n }) (sym unlent)

-- all stays but what was lent
pub let_go_stays : (s t : Stored) (w v x : Window) → Carries s w s v → v.ahead ≡ 0 → w.pending ≡ false → t ≡ s → x ≡ v → Stays s w t x
let_go_stays s t w v x k unlent calm same is = subst (λ (z : Stored). Stays s w z x) (sym same) (subst (λ (z : Window). Stays s w s z) (sym is) (record {
  same = refl;
  carries = k;
  ahead = unlent;
  pending = k.calm calm ∙ sym calm;
}))

pub refill_refused : (s t : Stored) (w v x : Window) (e : Error) → Carries s w s v → v.base ≡ w.base + w.cursor → v.ahead ≡ 0 → w.pending ≡ false → w.ahead ≡ 0 → t ≡ s → x ≡ v → IsRefusedRead s v.base e
    → CalmBrokeOff s w t x e ⊎ Unreadable s w t x e
refill_refused s t w v x e k base unlent calm unread same is h =
    let stays = let_go_stays s t w v x k unlent calm same is in
    elim h [
      | inl b ↦ inl (b, stays)
      | inr u ↦ inr (record {
        is = u.0;
        past = omega (arith, u.1, base);
        clean = calm;
        same = same;
        carries = stays.carries;
        ahead = stays.ahead ∙ sym unread;
      })
    ]
