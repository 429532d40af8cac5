-- Numbers that were taken are linked to a chain.
use Rattle.std.proofs.Common.{◌≡◌, ◌≢◌, ℕ, ◌+◌, ◌-◌, ◌<◌, ◌≤◌, inl, inr, List, [], ◌∷◌, ◌++◌, length, set, take, drop, get_or, refl, sym, ◌∙◌, ap, subst, arith, length-set, length-append, append_assoc, take-append-drop}
use Rattle.std.specs.Prelude.{Contains, nat_eq}
use Rattle.std.specs.List.{IsDistinct}
use Rattle.std.proofs.lemmas.List.{take_more}
use Rattle.std.proofs.lemmas.List.Elements.{Contains-append_left, Contains-push}
use Rattle.cfb_format.specs.Bytes.{end_of_chain, free_sector, max_regular_sector}
use Rattle.cfb_format.specs.Chain.{value, IsChain}
use Rattle.cfb_format.specs.Full.{free_count}
use Rattle.std.proofs.lemmas.Bool.{cases_eq, cases_lt}
use Rattle.cfb_tables.proofs.Members.{value-set, value-set_other}
use Rattle.cfb_tables.proofs.ChainLemmas.{members-busy, chain-turn, chain-rest, follows-values}
use Rattle.cfb_tables.proofs.FreeLemmas.{count-busy}
use Rattle.cfb_mini_table.specs.MiniTable.{TakesMini, EndsBusy, TakesEndFirst}
use Rattle.cfb_mini_table.proofs.MiniFreeLemmas.{mini-link}
use Rattle.cfb_mini_table.specs.Steps.{Taking, CanLink, Links}
use Rattle.cfb_mini_table.proofs.TakenLemmas.{none-left, taking-stays}
use Rattle.cfb_format.proofs.Members.{Contains-nil, Contains-here, Contains-there, Contains-cases, Contains-one, one_distinct, distinct-join, distinct-left, distinct-apart}
use Rattle.cfb_format.proofs.Walks.{value-below}
use Rattle.cfb_tables.proofs.PreparedLemmas.{chain-one}
use Rattle.cfb_tables.proofs.ListedLemmas.{rest-is}

-- and this is the last of them
pub record Linking (old new : List ℕ) (last : ℕ) (list : List ℕ) (end : ℕ) : Type 0 where
  pub links : Links old new last list
  pub front : List ℕ
  pub end_is : last ∷ list ≡ front ++ end ∷ []

pub linking-none : (table : List ℕ) (last : ℕ) → value table last ≡ end_of_chain → last ≤ max_regular_sector → Linking table table last [] last
linking-none table last ended regular = record {
  links = record {
    chain = chain-one table last ended regular;
    only = λ i out. refl;
    same_length = refl;
    left = refl;
    busy = λ i ne. ne;
    listed = λ free f. f;
    none = λ e. refl;
  };
  front = [];
  end_is = refl;
}

-- the last of them is a number of the table
pub linking-end : (old now : List ℕ) (last : ℕ) (list : List ℕ) (end : ℕ) → Linking old now last list end → end < length now
linking-end old now last list end l =
    (members-busy now last (last ∷ list) l.links.chain end (subst (λ z. Contains z end) (sym l.end_is) (Contains-push l.front end))).1

module _ (old mid : List ℕ) (last : ℕ) (done : List ℕ) (end x : ℕ) (so_far : Linking old mid last done end)
    (ended : value old x ≡ end_of_chain) (regular : x ≤ max_regular_sector) (out : Contains (last ∷ done) x → ⊥) where
  abbrev front : List ℕ
  front = so_far.front

  abbrev new : List ℕ
  new = set mid end x

  whole : IsChain mid last (front ++ end ∷ [])
  whole = subst (IsChain mid last) so_far.end_is so_far.links.chain

  end_in : Contains (last ∷ done) end
  end_in = subst (λ z. Contains z end) (sym so_far.end_is) (Contains-push front end)

  end_ends : value mid end ≡ end_of_chain
  end_ends = (chain-rest mid last front end [] whole).follows

  not_end : x ≢ end
  not_end e = out (subst (Contains (last ∷ done)) (sym e) end_in)

  x_ends : value new x ≡ end_of_chain
  x_ends = value-set_other mid end x x not_end ∙ (so_far.links.only x out ∙ ended)

  end_busy : value mid end ≢ free_sector
  end_busy e = let is = end_ends in omega (arith, e, is)

  x_busy : x ≢ free_sector
  x_busy e = omega (arith, e, regular)

  pub linking-more : Linking old new last (done ++ x ∷ []) x
  linking-more =
      let below = value-below mid end end_busy in
      let len = length-set mid end x in
      let at_end : value new end ≡ x = value-set mid end x below in
      let tail : IsChain new (value new end) (x ∷ []) = subst (λ k. IsChain new k (x ∷ [])) (sym at_end) (chain-one new x x_ends regular) in
      let turned : IsChain new last (front ++ end ∷ x ∷ []) = chain-turn mid new last front end [] (x ∷ [])
      (λ i m. value-set_other mid end i x (λ e. distinct-apart front (end ∷ []) whole.distinct i m (subst (Contains (end ∷ [])) (sym e) (Contains-here end []))))
      (omega (arith, below, len)) whole tail in
      let same : front ++ end ∷ x ∷ [] ≡ (last ∷ done) ++ x ∷ [] = sym (append_assoc front (end ∷ []) (x ∷ [])) ∙ ap (λ (z : List ℕ). z ++ x ∷ []) (sym so_far.end_is) in
      record {
        links = record {
          chain = subst (IsChain new last) same turned;
          only = λ i no.
              value-set_other mid end i x (λ e. no (Contains-append_left (last ∷ done) (x ∷ []) i (subst (Contains (last ∷ done)) (sym e) end_in)))
              ∙ so_far.links.only i (λ m. no (Contains-append_left (last ∷ done) (x ∷ []) i m));
          same_length = len ∙ so_far.links.same_length;
          left = count-busy mid end x end_busy x_busy ∙ so_far.links.left;
          busy = λ i ne. go i (so_far.links.busy i ne);
          listed = λ free f. mini-link free mid end x end_busy x_busy (so_far.links.listed free f);
          none = λ e. let len = length-append done (x ∷ []) in absurd (omega (arith, e, len));
        };
        front = last ∷ done;
        end_is = refl;
      }
    where
      go : (i : ℕ) → value mid i ≢ free_sector → value new i ≢ free_sector
      go i ne e = elim (cases_eq i end) [
        | inl at ↦ x_busy (sym (value-set mid end x (value-below mid end end_busy)) ∙ (ap (value new) (sym at) ∙ e))
        | inr other ↦ ne (sym (value-set_other mid end i x other) ∙ e)
      ]

-- the numbers of a list, one after another
module _ (table : List ℕ) (last : ℕ) (list : List ℕ) (can : CanLink table last list) (i : ℕ) (lt : i < length list) where
  abbrev this : ℕ
  this = get_or list i 0

  abbrev done : List ℕ
  done = take i list

  split : (done ++ this ∷ []) ++ drop (i + 1) list ≡ list
  split = ap (λ (z : List ℕ). z ++ drop (i + 1) list) (sym (take_more list i 0 lt)) ∙ take-append-drop (i + 1) list

  this_in : Contains (last ∷ list) this
  this_in = Contains-there last list this (subst (λ z. Contains z this) split (Contains-append_left (done ++ this ∷ []) (drop (i + 1) list) this (Contains-push done this)))

  apart : Contains (last ∷ done) this → ⊥
  apart m =
      let all : IsDistinct nat_eq ((last ∷ (done ++ this ∷ [])) ++ drop (i + 1) list) = subst (λ z. IsDistinct nat_eq (last ∷ z)) (sym split) can.once in
      let some : IsDistinct nat_eq ((last ∷ done) ++ this ∷ []) = distinct-left (last ∷ (done ++ this ∷ [])) (drop (i + 1) list) all in
      distinct-apart (last ∷ done) (this ∷ []) some this m (Contains-here this [])

  pub linking-step : (mid : List ℕ) (end : ℕ) → Linking table mid last done end → Linking table (set mid end this) last (take (i + 1) list) this
  linking-step mid end so_far =
      subst (λ z. Linking table (set mid end this) last z this) (sym (take_more list i 0 lt))
      (linking-more table mid last done end this so_far (can.ends this this_in) (can.regular this this_in) apart)

-- ---- what was taken is linked

pub linked-trimmed : (mid new list : List ℕ) (last : ℕ) → EndsBusy mid → Links mid new last list → EndsBusy new
linked-trimmed mid new list last busy l some e =
    let same = l.same_length in
    let at : length new - 1 ≡ length mid - 1 = omega (arith, same) in
    l.busy (length mid - 1) (busy (omega (arith, some, same))) (ap (value new) (sym at) ∙ e)

-- which number is next stays
pub linked-next : (free mid new list : List ℕ) (last : ℕ) → Links mid new last list → TakesEndFirst free mid → TakesEndFirst free new
linked-next free mid new list last l next = elim next [
  | inl busy ↦ inl (linked-trimmed mid new list last busy l)
  | inr q ↦ inr (q.0, q.1 ∙ ap (λ (n : ℕ). q.0 ++ (n - 1) ∷ []) (sym l.same_length))
]

module _ (limit : ℕ) (old mid : List ℕ) (limited : limit ≤ max_regular_sector) (short : length old ≤ limit) where
  -- each number that was taken is one of a mini sector
  taken-regular : (more : List ℕ) → Taking limit old mid more → (i : ℕ) → Contains more i → i ≤ max_regular_sector
  taken-regular more t i m =
      let b = t.below i m in
      elim (cases_lt (length old) (length mid)) [
        | inl grew ↦ let l = t.limited grew in omega (arith, b, l, limited)
        | inr not ↦ omega (arith, b, not, short, limited)
      ]

  -- behind the last one of a chain
  pub can-link-behind : (last : ℕ) (more : List ℕ) → Taking limit old mid more → value old last ≡ end_of_chain → last ≤ max_regular_sector → CanLink mid last more
  can-link-behind last more t ended regular =
      let apart : Contains more last → ⊥ = λ m. let f = t.fresh last m in omega (arith, f, ended) in
      record {
        ends = λ i m. elim (Contains-cases last more i m) [ inl e ↦ ap (value mid) (sym e) ∙ (t.only last apart ∙ ended) | inr r ↦ t.ends i r ];
        regular = λ i m. elim (Contains-cases last more i m) [ inl e ↦ omega (arith, e, regular) | inr r ↦ taken-regular more t i r ];
        once = distinct-join (last ∷ []) more (one_distinct last) t.once
            (λ i m n. apart (subst (Contains more) (sym (Contains-one last i m)) n));
      }

  -- or as a chain of their own
  pub can-link-own : (x : ℕ) (more : List ℕ) → Taking limit old mid (x ∷ more) → CanLink mid x more
  can-link-own x more t = record { ends = t.ends; regular = taken-regular (x ∷ more) t; once = t.once }

  pub takes-behind : (new : List ℕ) (last : ℕ) (more : List ℕ) → Taking limit old mid more → value old last ≡ end_of_chain → Links mid new last more → TakesMini limit old new (last ∷ []) more
  takes-behind new last more t ended l =
      let same = l.same_length in
      let left : free_count new ≡ free_count old - length more = l.left ∙ t.left in
      let len : length new ≡ length old + (length more - free_count old) = same ∙ t.len in
      record {
        once = t.once;
        fresh = t.fresh;
        below = λ i m. let b = t.below i m in omega (arith, b, same);
        ended = λ i m. ap (value old) (sym (Contains-one last i m)) ∙ ended;
        busy = follows-values new last (last ∷ more) l.chain.follows;
        only = λ i out. l.only i out ∙ t.only i (λ m. out (Contains-there last more i m));
        left = left;
        len = len;
        none_free = none-left old new more left len;
        limited = λ lt. let b = t.limited (omega (arith, lt, same)) in omega (arith, b, same);
        trimmed = λ some. linked-trimmed mid new more last (t.trimmed some) l;
        stays_trimmed = λ busy. linked-trimmed mid new more last (taking-stays limit old mid more t busy) l;
        none = λ e. l.none e ∙ t.none e;
      }

  pub takes-own : (new : List ℕ) (x : ℕ) (more : List ℕ) → Taking limit old mid (x ∷ more) → Links mid new x more → TakesMini limit old new [] (x ∷ more)
  takes-own new x more t l =
      let same = l.same_length in
      let left : free_count new ≡ free_count old - length (x ∷ more) = l.left ∙ t.left in
      let len : length new ≡ length old + (length (x ∷ more) - free_count old) = same ∙ t.len in
      record {
        once = t.once;
        fresh = t.fresh;
        below = λ i m. let b = t.below i m in omega (arith, b, same);
        ended = λ i m. absurd (Contains-nil i m);
        busy = follows-values new x (x ∷ more) l.chain.follows;
        only = λ i out. l.only i out ∙ t.only i out;
        left = left;
        len = len;
        none_free = none-left old new (x ∷ more) left len;
        limited = λ lt. let b = t.limited (omega (arith, lt, same)) in omega (arith, b, same);
        trimmed = λ some. linked-trimmed mid new more x (t.trimmed some) l;
        stays_trimmed = λ busy. linked-trimmed mid new more x (taking-stays limit old mid (x ∷ more) t busy) l;
        none = λ e. absurd (omega (arith, e));
      }

  -- the first of them and the rest
  pub can-link-first : (items : List ℕ) (first : ℕ) → 0 < length items → first ≡ get_or items 0 first → Taking limit old mid items
      → CanLink mid first (take (length items - 1) (drop 1 items))
  can-link-first [] first some is t = absurd (omega (arith, some))
  can-link-first (x ∷ more) first some is t = subst (λ z. CanLink mid first z) (sym (rest-is (x ∷ more) 1)) (subst (λ z. CanLink mid z more) (sym is) (can-link-own x more t))

  pub takes-first : (items : List ℕ) (first : ℕ) (new : List ℕ) → 0 < length items → first ≡ get_or items 0 first → Taking limit old mid items
      → Links mid new first (take (length items - 1) (drop 1 items)) → TakesMini limit old new [] items
  takes-first [] first new some is t l = absurd (omega (arith, some))
  takes-first (x ∷ more) first new some is t l =
      takes-own new x more t (subst (λ z. Links mid new z more) is (subst (λ z. Links mid new first z) (rest-is (x ∷ more) 1) l))
