-- What is in use of both tables, owner by owner, while one owner's list goes on or is cut.
use Rattle.std.proofs.Common.{◌≡◌, ◌+◌, ◌-◌, ℕ, List, [], ◌∷◌, ◌++◌, Bool, true, false, refl, sym, ◌∙◌, ap, subst, length, take, drop, arith}
use Rattle.std.specs.Prelude.{Contains, if◌then◌else◌, ◌==◌}
use Rattle.std.proofs.lemmas.List.{take-append-drop}
use Rattle.std.proofs.lemmas.List.Elements.{Contains-append_left, Contains-append_right, Contains-get_or}
use Rattle.cfb_format.specs.Bytes.{end_of_chain}
use Rattle.cfb_tables.specs.Listed.{ends_of, gained, last_or_end}
use Rattle.cfb_tables.specs.Owners.{UseChanges, Uses, tally}
use Rattle.cfb_tables.specs.Tables.{HasTaken, TableState}
use Rattle.cfb_tables.proofs.Counts.{distinct-tally, freeing-by-count, in-tally, taking-by-count, tally-append, tally-distinct, tally-in}
use Rattle.cfb_tables.proofs.UseLemmas.{given-back-frees, taken-takes}
use Rattle.cfb_content.specs.cfb_alloc.Frame.{table_sectors}
use Rattle.cfb_content.specs.cfb_alloc.ListedChain.{Lengthens, Shortens}
use Rattle.cfb_content.specs.cfb_mini_table.MiniTable.{MiniGivesBack, TakesMini}
use Rattle.cfb_content.proofs.cfb_mini_table.LawLemmas.{mini-freeing, mini-taking}
use Rattle.cfb_format.proofs.Members.{Contains-nil, Contains-one}

-- ---- by counts

-- where each number stands as often, it has the same use
pub use-by-count : (old u w new u' w' : List ℕ) → ((n : ℕ) → tally n u ≡ tally n w) → ((n : ℕ) → tally n u' ≡ tally n w') → UseChanges old u new u' → UseChanges old w new w'
use-by-count old u w new u' w' same same' c = record {
  distinct = λ d. tally-distinct w' (λ n. omega (
    arith,
    same' n,
    distinct-tally n u' (c.distinct (tally-distinct u (λ k. omega (arith, same k, distinct-tally k w d)))),
  ));
  there = λ h n m. c.there (λ k in_u. h k (forth k in_u)) n (back' n m);
  taken = λ n m out. c.taken n (back' n m) (λ in_u. out (forth n in_u));
  given_back = λ n m out. c.given_back n (back n m) (λ in_u. out (forth' n in_u));
  stays = λ n out out'. c.stays n (λ in_u. out (forth n in_u)) (λ in_u. out' (forth' n in_u));
}
  where
    back : (n : ℕ) → Contains w n → Contains u n
    back n m = in-tally n u (omega (arith, same n, tally-in n w m))

    forth : (n : ℕ) → Contains u n → Contains w n
    forth n m = in-tally n w (omega (arith, same n, tally-in n u m))

    back' : (n : ℕ) → Contains w' n → Contains u' n
    back' n m = in-tally n u' (omega (arith, same' n, tally-in n w' m))

    forth' : (n : ℕ) → Contains u' n → Contains w' n
    forth' n m = in-tally n w' (omega (arith, same' n, tally-in n u' m))

pub same-use : (old u new : List ℕ) → new ≡ old → UseChanges old u new u
same-use old u new e = subst (λ (t : List ℕ). UseChanges old u t u) (sym e) (record {
  distinct = λ d. d;
  there = λ h. h;
  taken = λ n m out. absurd (out m);
  given_back = λ n m out. absurd (out m);
  stays = λ n out out'. refl;
})

-- where a chain ends is among it
ends-in : (list : List ℕ) (n : ℕ) → Contains (ends_of list) n → Contains list n
ends-in [] n m = absurd (Contains-nil n m)
ends-in (x ∷ list) n m = go (last_or_end (x ∷ list) == end_of_chain) m
  where
    there : Contains (x ∷ list) (last_or_end (x ∷ list))
    there = Contains-get_or (x ∷ list) (length (x ∷ list) - 1) end_of_chain (omega arith)

    go : (b : Bool) → Contains (if b then [] else last_or_end (x ∷ list) ∷ []) n → Contains (x ∷ list) n
    go true c = absurd (Contains-nil n c)
    go false c = subst (λ (z : ℕ). Contains (x ∷ list) z) (Contains-one (last_or_end (x ∷ list)) n c) there

listed-tally : (n : ℕ) (xs ys : List ℕ) → ys ≡ xs ++ gained xs ys → tally n ys ≡ tally n xs + tally n (gained xs ys)
listed-tally n xs ys e = ap (tally n) e ∙ tally-append n xs (gained xs ys)

cut-tally : (n left : ℕ) (xs ys : List ℕ) → ys ≡ take left xs → tally n xs ≡ tally n ys + tally n (drop left xs)
cut-tally n left xs ys e =
    sym (ap (tally n) (take-append-drop left xs)) ∙ tally-append n (take left xs) (drop left xs) ∙ ap (λ (l : List ℕ). tally n l + tally n (drop left xs)) (sym e)

-- ---- the FAT

-- the sectors in use: those of the tables, of the directory, of the MiniFAT and of the mini stream, of one stream, and of the others
abbrev pub in_use : TableState → List ℕ → List ℕ → List ℕ → List ℕ → List ℕ → List ℕ
in_use t d f m x y = table_sectors t ++ (d ++ f ++ m) ++ x ++ y

in-use-tally : (n : ℕ) (a b d f m x y : List ℕ) → tally n ((a ++ b) ++ (d ++ f ++ m) ++ x ++ y)
    ≡ tally n a + tally n b + (tally n d + tally n f + tally n m) + tally n x + tally n y
in-use-tally n a b d f m x y = omega (
  arith,
  tally-append n ((a ++ b) ++ (d ++ f ++ m) ++ x) y,
  tally-append n ((a ++ b) ++ (d ++ f ++ m)) x,
  tally-append n (a ++ b) (d ++ f ++ m),
  tally-append n (d ++ f) m,
  tally-append n d f,
  tally-append n a b,
)

module _ (t t' : TableState) (touched more : List ℕ) (taken : HasTaken t t' touched more) where
  -- the lists of the owners grow by what was taken, and the tables' by their own
  grown-use : (d f m x y f' m' x' : List ℕ) → ((n : ℕ) → Contains touched n → Contains (in_use t d f m x y) n) → Uses t.fat (in_use t d f m x y)
      → ((n : ℕ) → tally n f' + tally n m' + tally n x' ≡ tally n f + tally n m + tally n x + tally n more)
      → UseChanges t.fat (in_use t d f m x y) t'.fat (in_use t' d f' m' x' y)
  grown-use d f m x y f' m' x' inside uses counts =
      taking-by-count t.fat t'.fat touched (more ++ taken.fats ++ taken.difats) (in_use t d f m x y) (in_use t' d f' m' x' y) (taken-takes t t' touched more taken) inside uses.there
      (λ n. omega (
        arith,
        counts n,
        in-use-tally n t.fat_sectors t.difat_sectors d f m x y,
        in-use-tally n t'.fat_sectors t'.difat_sectors d f' m' x' y,
        ap (tally n) taken.fat_sectors,
        ap (tally n) taken.difat_sectors,
        tally-append n t.fat_sectors taken.fats,
        tally-append n t.difat_sectors taken.difats,
        tally-append n (more ++ taken.fats) taken.difats,
        tally-append n more taken.fats,
      ))

module _ (t t' : TableState) (d y : List ℕ) (count : ℕ) where
  -- the one stream's chain goes on
  pub own-goes-on : (f m xs ys : List ℕ) → Lengthens count xs ys t t' → Uses t.fat (in_use t d f m xs y) → UseChanges t.fat (in_use t d f m xs y) t'.fat (in_use t' d f m ys y)
  own-goes-on f m xs ys l uses = grown-use t t' (ends_of xs) (gained xs ys) l.taken d f m xs y f m ys
      (λ n c. Contains-append_left (table_sectors t ++ (d ++ f ++ m) ++ xs) y n (Contains-append_right (table_sectors t ++ (d ++ f ++ m)) xs n (ends-in xs n c))) uses
      (λ n. omega (arith, listed-tally n xs ys l.listed))

  -- the mini stream's does
  pub stream-goes-on : (f xs ys x : List ℕ) → Lengthens count xs ys t t' → Uses t.fat (in_use t d f xs x y) → UseChanges t.fat (in_use t d f xs x y) t'.fat (in_use t' d f ys x y)
  stream-goes-on f xs ys x l uses = grown-use t t' (ends_of xs) (gained xs ys) l.taken d f xs x y f ys x
      (λ n c. Contains-append_left (table_sectors t ++ (d ++ f ++ xs) ++ x) y n (Contains-append_left (table_sectors t ++ (d ++ f ++ xs)) x n
      (Contains-append_right (table_sectors t) (d ++ f ++ xs) n (Contains-append_right (d ++ f) xs n (ends-in xs n c))))) uses
      (λ n. omega (arith, listed-tally n xs ys l.listed))

  -- the MiniFAT's does
  pub minifat-goes-on : (xs ys m x : List ℕ) → Lengthens count xs ys t t' → Uses t.fat (in_use t d xs m x y) → UseChanges t.fat (in_use t d xs m x y) t'.fat (in_use t' d ys m x y)
  minifat-goes-on xs ys m x l uses = grown-use t t' (ends_of xs) (gained xs ys) l.taken d xs m x y ys m x
      (λ n c. Contains-append_left (table_sectors t ++ (d ++ xs ++ m) ++ x) y n (Contains-append_left (table_sectors t ++ (d ++ xs ++ m)) x n
      (Contains-append_right (table_sectors t) (d ++ xs ++ m) n (Contains-append_left (d ++ xs) m n (Contains-append_right d xs n (ends-in xs n c)))))) uses
      (λ n. omega (arith, listed-tally n xs ys l.listed))

module _ (t t' : TableState) (d y : List ℕ) (left : ℕ) where
  -- an owner's list is cut, or all of it is given back
  cut-use : (xs ys f m x f' m' x' : List ℕ) → Shortens left xs ys t t' → ((n : ℕ) → Contains ys n → Contains (in_use t' d f' m' x' y) n) → Uses t.fat (in_use t d f m x y)
      → ((n : ℕ) → tally n f + tally n m + tally n x ≡ tally n f' + tally n m' + tally n x' + tally n (drop left xs))
      → UseChanges t.fat (in_use t d f m x y) t'.fat (in_use t' d f' m' x' y)
  cut-use xs ys f m x f' m' x' s inside uses counts =
      freeing-by-count t.fat t'.fat (ends_of (take left xs)) (drop left xs) (in_use t d f m x y) (in_use t' d f' m' x' y)
      (given-back-frees t.fat t'.fat (ends_of (take left xs)) (drop left xs) s.given_back.given)
      (λ n c. inside n (subst (λ (l : List ℕ). Contains l n) (sym s.listed) (ends-in (take left xs) n c)))
      uses.distinct
      (λ n. omega (
        arith,
        counts n,
        in-use-tally n t.fat_sectors t.difat_sectors d f m x y,
        in-use-tally n t'.fat_sectors t'.difat_sectors d f' m' x' y,
        ap (λ (u : TableState). tally n u.fat_sectors) s.given_back.rest,
        ap (λ (u : TableState). tally n u.difat_sectors) s.given_back.rest,
      ))

  -- that of the one stream
  pub own-is-cut : (f m xs ys : List ℕ) → Shortens left xs ys t t' → Uses t.fat (in_use t d f m xs y) → UseChanges t.fat (in_use t d f m xs y) t'.fat (in_use t' d f m ys y)
  own-is-cut f m xs ys s uses = cut-use xs ys f m xs f m ys s
      (λ n c. Contains-append_left (table_sectors t' ++ (d ++ f ++ m) ++ ys) y n (Contains-append_right (table_sectors t' ++ (d ++ f ++ m)) ys n c)) uses
      (λ n. omega (arith, cut-tally n left xs ys s.listed))

  -- that of the mini stream
  pub stream-is-cut : (f xs ys x : List ℕ) → Shortens left xs ys t t' → Uses t.fat (in_use t d f xs x y) → UseChanges t.fat (in_use t d f xs x y) t'.fat (in_use t' d f ys x y)
  stream-is-cut f xs ys x s uses = cut-use xs ys f xs x f ys x s
      (λ n c. Contains-append_left (table_sectors t' ++ (d ++ f ++ ys) ++ x) y n (Contains-append_left (table_sectors t' ++ (d ++ f ++ ys)) x n
      (Contains-append_right (table_sectors t') (d ++ f ++ ys) n (Contains-append_right (d ++ f) ys n c)))) uses
      (λ n. omega (arith, cut-tally n left xs ys s.listed))

  -- that of the MiniFAT
  pub minifat-is-cut : (xs ys m x : List ℕ) → Shortens left xs ys t t' → Uses t.fat (in_use t d xs m x y) → UseChanges t.fat (in_use t d xs m x y) t'.fat (in_use t' d ys m x y)
  minifat-is-cut xs ys m x s uses = cut-use xs ys xs m x ys m x s
      (λ n c. Contains-append_left (table_sectors t' ++ (d ++ ys ++ m) ++ x) y n (Contains-append_left (table_sectors t' ++ (d ++ ys ++ m)) x n
      (Contains-append_right (table_sectors t') (d ++ ys ++ m) n (Contains-append_left (d ++ ys) m n (Contains-append_right d ys n c))))) uses
      (λ n. omega (arith, cut-tally n left xs ys s.listed))

-- ---- the MiniFAT

pub mini-goes-on : (limit : ℕ) (old new ms ns y : List ℕ) → TakesMini limit old new (ends_of ms) (gained ms ns) → ns ≡ ms ++ gained ms ns → Uses old (ms ++ y)
    → UseChanges old (ms ++ y) new (ns ++ y)
mini-goes-on limit old new ms ns y takes listed uses =
    taking-by-count old new (ends_of ms) (gained ms ns) (ms ++ y) (ns ++ y) (mini-taking limit old new (ends_of ms) (gained ms ns) takes)
    (λ n c. Contains-append_left ms y n (ends-in ms n c)) uses.there
    (λ n. omega (arith, listed-tally n ms ns listed, tally-append n ms y, tally-append n ns y))

pub mini-is-cut : (old new ms ns y : List ℕ) (left : ℕ) → MiniGivesBack (ends_of (take left ms)) (drop left ms) old new → ns ≡ take left ms → Uses old (ms ++ y)
    → UseChanges old (ms ++ y) new (ns ++ y)
mini-is-cut old new ms ns y left gives listed uses =
    freeing-by-count old new (ends_of (take left ms)) (drop left ms) (ms ++ y) (ns ++ y) (mini-freeing (ends_of (take left ms)) (drop left ms) old new gives)
    (λ n c. Contains-append_left ns y n (subst (λ (l : List ℕ). Contains l n) (sym listed) (ends-in (take left ms) n c))) uses.distinct
    (λ n. omega (arith, cut-tally n left ms ns listed, tally-append n ms y, tally-append n ns y))
