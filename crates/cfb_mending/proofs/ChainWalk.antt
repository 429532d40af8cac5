-- The walk along a chain, up to the first sector that is missing.
use Rattle.std.proofs.Common.{◌≡◌, ◌<◌, ℕ, zero, suc, ◌+◌, ◌-◌, List, [], ◌∷◌, ◌++◌, Bool, true, false, length, refl, sym, ◌∙◌, ap, arith, append_assoc, append-nil}
use Rattle.std.specs.Prelude.{◌&&◌, ◌||◌, not, nat_le, nat_lt, Option, Some, None, if◌then◌else◌}
use Rattle.cfb_format.specs.declared.version.Version.{Version}
use Rattle.cfb_format.specs.Bytes.{word_at, is_regular, points_below, end_of_chain}
use Rattle.cfb_mending.specs.declared.patches.Patch.{Patch}
use Rattle.cfb_mending.specs.Missing.{chain_from, chain_patches, has_word, leads_below, leads_past, mark_at}
use Rattle.cfb_mending.specs.Tables.{fat_place}

-- ---- chains

not-known : (r l : Bool) → r ≡ true → not (not r || l) ≡ false → l ≡ true
not-known true true e f = refl
not-known true false e f = absurd (let w : true ≡ false = f in cc)
not-known false l e f = absurd (let w : false ≡ true = e in cc)

unknown : (r l : Bool) → not (not r || l) ≡ true → (r && l) ≡ false
unknown true true f = absurd (let w : false ≡ true = f in cc)
unknown true false f = refl
unknown false l f = refl

and-true : (a b c : Bool) → a ≡ true → b ≡ true → c ≡ true → (a && (b && c)) ≡ true
and-true a b c e f g = λ j. e j && (f j && g j)

module _ (n : ℕ) (bytes : List ℕ) (at : ℕ) where
  abbrev word : ℕ
  word = word_at bytes at

  pub goes-on : has_word bytes at ≡ true → is_regular word ≡ true → not (points_below n word) ≡ false → leads_below n bytes at ≡ true
  goes-on has regular known = and-true (has_word bytes at) (is_regular word) (nat_lt word n) has regular (not-known (is_regular word) (nat_lt word n) regular known)

  pub missing-below : has_word bytes at ≡ false → leads_below n bytes at ≡ false
  missing-below e = λ j. e j && (is_regular word && nat_lt word n)

  pub missing-past : has_word bytes at ≡ false → leads_past n bytes at ≡ false
  missing-past e = λ j. e j && not (points_below n word)

  pub mark-below : has_word bytes at ≡ true → is_regular word ≡ false → leads_below n bytes at ≡ false
  mark-below has e = λ j. has j && (e j && nat_lt word n)

  pub mark-past : has_word bytes at ≡ true → is_regular word ≡ false → leads_past n bytes at ≡ false
  mark-past has e = λ j. has j && not (not (e j) || nat_lt word n)

  pub past-below : has_word bytes at ≡ true → not (points_below n word) ≡ true → leads_below n bytes at ≡ false
  past-below has e = λ j. has j && unknown (is_regular word) (nat_lt word n) e j

  pub past-past : has_word bytes at ≡ true → not (points_below n word) ≡ true → leads_past n bytes at ≡ true
  past-past has e = λ j. has j && e j

module _ (version : Version) (bytes fat : List ℕ) (n : ℕ) where
  pub chain-goes : (k at : ℕ) → leads_below n bytes at ≡ true
      → chain_from version bytes fat n (suc k) (Some at) ≡ word_at bytes at ∷ chain_from version bytes fat n k (fat_place version fat (word_at bytes at))
  unfolding chain_from
  chain-goes k at e = λ j. if e j then word_at bytes at ∷ chain_from version bytes fat n k (fat_place version fat (word_at bytes at)) else []

  pub chain-ends : (k at : ℕ) → leads_below n bytes at ≡ false → chain_from version bytes fat n k (Some at) ≡ []
  unfolding chain_from
  chain-ends zero at e = refl
  chain-ends (suc k) at e = λ j. if e j then word_at bytes at ∷ chain_from version bytes fat n k (fat_place version fat (word_at bytes at)) else []

  pub chain-nowhere : (k : ℕ) → chain_from version bytes fat n k None ≡ []
  unfolding chain_from
  chain-nowhere zero = refl
  chain-nowhere (suc k) = refl

  pub chain-spent : (k : ℕ) (at : Option ℕ) → k ≡ 0 → chain_from version bytes fat n k at ≡ []
  unfolding chain_from
  chain-spent k at e = ap (λ (i : ℕ). chain_from version bytes fat n i at) e

  abbrev behind : ℕ → ℕ → List Patch
  behind k at = chain_patches version bytes fat n k (fat_place version fat (word_at bytes at))

  abbrev here : ℕ → List Patch
  here at = if leads_past n bytes at then mark_at at (Some end_of_chain) else []

  pub marks-go : (k at : ℕ) → leads_below n bytes at ≡ true → chain_patches version bytes fat n (suc k) (Some at) ≡ behind k at
  unfolding chain_patches
  marks-go k at e = λ j. if e j then behind k at else here at

  pub marks-end : (k at : ℕ) → leads_below n bytes at ≡ false → leads_past n bytes at ≡ false → chain_patches version bytes fat n k (Some at) ≡ []
  unfolding chain_patches
  marks-end zero at e f = refl
  marks-end (suc k) at e f = (λ j. if e j then behind k at else here at) ∙ (λ j. if f j then mark_at at (Some end_of_chain) else [])

  pub mark-here : (k at : ℕ) → leads_below n bytes at ≡ false → leads_past n bytes at ≡ true → chain_patches version bytes fat n (suc k) (Some at) ≡ mark_at at (Some end_of_chain)
  unfolding chain_patches
  mark-here k at e f = (λ j. if e j then behind k at else here at) ∙ (λ j. if f j then mark_at at (Some end_of_chain) else [])

  pub marks-nowhere : (k : ℕ) → chain_patches version bytes fat n k None ≡ []
  unfolding chain_patches
  marks-nowhere zero = refl
  marks-nowhere (suc k) = refl

  pub marks-spent : (k : ℕ) (at : Option ℕ) → k ≡ 0 → chain_patches version bytes fat n k at ≡ []
  unfolding chain_patches
  marks-spent k at e = ap (λ (i : ℕ). chain_patches version bytes fat n i at) e

-- a loop that has come to the end of a list
pub list-ends : {X : Type 0} (now rest all : List X) → rest ≡ [] → now ++ rest ≡ all → now ≡ all
list-ends {X} now rest all e is = sym (append-nil now) ∙ sym (ap (λ (l : List X). now ++ l) e) ∙ is

-- one that goes on past one more
pub list-goes : {X : Type 0} (now new rest rest' all : List X) (x : X) → rest ≡ x ∷ rest' → new ≡ now ++ x ∷ [] → now ++ rest ≡ all → new ++ rest' ≡ all
list-goes {X} now new rest rest' all x e new-is is =
    ap (λ (l : List X). l ++ rest') new-is ∙ append_assoc now (x ∷ []) rest' ∙ sym (ap (λ (l : List X). now ++ l) e) ∙ is

pub list-same : {X : Type 0} (now rest rest' all : List X) → rest ≡ rest' → now ++ rest ≡ all → now ++ rest' ≡ all
list-same {X} now rest rest' all e is = sym (ap (λ (l : List X). now ++ l) e) ∙ is

-- whether the file has a word, by its length
pub file-has : (at n : ℕ) (bytes : List ℕ) (r b : Bool) → r ≡ nat_le (at + 4) n → r ≡ b → n ≡ length bytes → has_word bytes at ≡ b
file-has at n bytes r b is e len = ap (λ (k : ℕ). nat_le (at + 4) k) (sym len) ∙ sym is ∙ e

-- one turn of the walk along a chain, at a word that the file has
module _ (version : Version) (bytes fat : List ℕ) (n m turn at word : ℕ) (below : turn < m) (has : has_word bytes at ≡ true) (named : word_at bytes at ≡ word) where
  one-more : m - turn ≡ suc (m - (turn + 1))
  one-more = omega (arith, below)

  on : is_regular word ≡ true → not (points_below n word) ≡ false → leads_below n bytes at ≡ true
  on r k = goes-on n bytes at has (ap is_regular named ∙ r) (ap (λ (w : ℕ). not (points_below n w)) named ∙ k)

  pub sector-more : (now new all : List ℕ) (next : Option ℕ) → is_regular word ≡ true → not (points_below n word) ≡ false → fat_place version fat word ≡ next → new ≡ now ++ word ∷ []
      → now ++ chain_from version bytes fat n (m - turn) (Some at) ≡ all → new ++ chain_from version bytes fat n (m - (turn + 1)) next ≡ all
  sector-more now new all next r k goes new-is is =
      list-goes now new (chain_from version bytes fat n (m - turn) (Some at)) (chain_from version bytes fat n (m - (turn + 1)) next) all word
      (ap (λ (i : ℕ). chain_from version bytes fat n i (Some at)) one-more ∙ chain-goes version bytes fat n (m - (turn + 1)) at (on r k)
      ∙ (λ j. named j ∷ chain_from version bytes fat n (m - (turn + 1)) (fat_place version fat (named j)))
      ∙ ap (λ (o : Option ℕ). word ∷ chain_from version bytes fat n (m - (turn + 1)) o) goes) new-is is

  pub link-more : (now all : List Patch) (next : Option ℕ) → is_regular word ≡ true → not (points_below n word) ≡ false → fat_place version fat word ≡ next
      → now ++ chain_patches version bytes fat n (m - turn) (Some at) ≡ all → now ++ chain_patches version bytes fat n (m - (turn + 1)) next ≡ all
  link-more now all next r k goes is =
      list-same now (chain_patches version bytes fat n (m - turn) (Some at)) (chain_patches version bytes fat n (m - (turn + 1)) next) all
      (ap (λ (i : ℕ). chain_patches version bytes fat n i (Some at)) one-more ∙ marks-go version bytes fat n (m - (turn + 1)) at (on r k)
      ∙ (λ j. chain_patches version bytes fat n (m - (turn + 1)) (fat_place version fat (named j)))
      ∙ ap (λ (o : Option ℕ). chain_patches version bytes fat n (m - (turn + 1)) o) goes) is

  -- it is a mark
  pub sector-mark : (now all : List ℕ) → is_regular word ≡ false → now ++ chain_from version bytes fat n (m - turn) (Some at) ≡ all → now ≡ all
  sector-mark now all e is = list-ends now _ all (chain-ends version bytes fat n (m - turn) at (mark-below n bytes at has (ap is_regular named ∙ e))) is

  pub link-mark : (now all : List Patch) → is_regular word ≡ false → now ++ chain_patches version bytes fat n (m - turn) (Some at) ≡ all → now ≡ all
  link-mark now all e is =
      list-ends now _ all (marks-end version bytes fat n (m - turn) at (mark-below n bytes at has (ap is_regular named ∙ e)) (mark-past n bytes at has (ap is_regular named ∙ e))) is

  -- it names a missing sector
  pub sector-past : (now all : List ℕ) → not (points_below n word) ≡ true → now ++ chain_from version bytes fat n (m - turn) (Some at) ≡ all → now ≡ all
  sector-past now all e is =
      list-ends now _ all (chain-ends version bytes fat n (m - turn) at (past-below n bytes at has (ap (λ (w : ℕ). not (points_below n w)) named ∙ e))) is

  pub link-past : (now new all : List Patch) → not (points_below n word) ≡ true → new ≡ now ++ mark_at at (Some end_of_chain)
      → now ++ chain_patches version bytes fat n (m - turn) (Some at) ≡ all → new ≡ all
  link-past now new all e new-is is =
      let f = ap (λ (w : ℕ). not (points_below n w)) named ∙ e in
      new-is ∙ ap (λ (l : List Patch). now ++ l)
      (sym (ap (λ (i : ℕ). chain_patches version bytes fat n i (Some at)) one-more ∙ mark-here version bytes fat n (m - (turn + 1)) at (past-below n bytes at has f) (past-past n bytes at has f))) ∙ is
