-- Sectors at the end of a chain, and sectors that are freed.
use Rattle.std.proofs.Common.{◌≡◌, ◌≢◌, ℕ, ◌+◌, ◌<◌, ◌≤◌, inl, inr, List, [], ◌∷◌, ◌++◌, length, set, take, drop, get_or, refl, sym, ◌∙◌, ap, subst, arith, length-set, append-nil, append_assoc}
use Rattle.std.specs.Prelude.{Contains, nat_eq}
use Rattle.std.specs.List.{IsDistinct}
use Rattle.std.proofs.lemmas.List.{take_more, take-append-drop}
use Rattle.std.proofs.lemmas.List.Elements.{Contains-append_left, Contains-push}
use Rattle.cfb_format.specs.Bytes.{free_sector, end_of_chain, max_regular_sector}
use Rattle.cfb_format.specs.Chain.{value, IsChain}
use Rattle.cfb_tables.specs.Changes.{GivesBack}
use Rattle.cfb_tables.specs.Tables.{TableState, Kept, HasTaken, Added, Extended, sizes_of, first_or_end, wiped}
use Rattle.cfb_tables.proofs.Members.{in_three, first_of_three, second_of_three, third_of_three, value-set, value-set_other}
use Rattle.cfb_tables.proofs.ChainLemmas.{chain-stays, chain-turn, chain-rest, chain-apart, members-busy}
use Rattle.cfb_tables.proofs.TableCounts.{HasPlaces, taken-places}
use Rattle.cfb_tables.proofs.TakenLemmas.{taken-link, taken-then, taken-none, taken-keeps}
use Rattle.cfb_tables.proofs.PreparedLemmas.{chain-one}
use Rattle.cfb_format.proofs.Members.{Contains-nil, Contains-here, Contains-there, Contains-cases, Contains-one, Contains-or, distinct-apart, distinct-left}
use Rattle.cfb_format.proofs.Walks.{value-below, regular-le, le-regular}

-- ---- a chain goes on

-- `more` were added behind `first`, and `last` is the last of them
pub record Attached (old now : TableState) (first last : ℕ) (more : List ℕ) : Type 0 where
  pub taken : HasTaken old now (first ∷ []) more
  pub chain : IsChain now.fat first (first ∷ more)
  pub last_is : (front : List ℕ) × (first ∷ more ≡ front ++ last ∷ [])

pub attached-none : (t : TableState) (first : ℕ) → HasPlaces t.version (sizes_of t) → value t.fat first ≡ end_of_chain → first ≤ max_regular_sector → Attached t t first first []
attached-none t first places ended regular = record { taken = taken-none t first places ended; chain = chain-one t.fat first ended regular; last_is = ([], refl) }

module _ (old mid b : TableState) (first last x : ℕ) (more : List ℕ) (at : Attached old mid first last more) (next : HasTaken mid b [] (x ∷ []))
    (x_ended : value b.fat x ≡ end_of_chain) (regular : x ≤ max_regular_sector) where
  abbrev front : List ℕ
  front = at.last_is.0

  whole : IsChain mid.fat first (front ++ last ∷ [])
  whole = subst (IsChain mid.fat first) at.last_is.1 at.chain

  last_in : Contains (front ++ last ∷ []) last
  last_in = Contains-push front last

  last_busy : value mid.fat last ≢ free_sector
  last_busy = (members-busy mid.fat first (front ++ last ∷ []) whole last last_in).0

  pub last-ended : value b.fat last ≡ end_of_chain
  last-ended = taken-keeps mid b (x ∷ []) next last last_busy ∙ (chain-rest mid.fat first front last [] whole).follows

  x_not_last : x ≢ last
  x_not_last e = last_busy (ap (value mid.fat) (sym e) ∙ next.fresh x (first_of_three (x ∷ []) next.fats next.difats x (Contains-here x [])))

  abbrev linked : TableState
  linked = record b { fat = set b.fat last x }

  pub attached-more : Attached old linked first x (more ++ x ∷ [])
  attached-more =
      let below = value-below b.fat last (λ e. let is = last-ended in omega (arith, e, is)) in
      let len = length-set b.fat last x in
      let stays : IsChain b.fat first (front ++ last ∷ []) = chain-stays mid.fat b.fat first (front ++ last ∷ [])
      (λ i m. taken-keeps mid b (x ∷ []) next i (members-busy mid.fat first (front ++ last ∷ []) whole i m).0) whole in
      let at_last : value linked.fat last ≡ x = value-set b.fat last x below in
      let at_x : value linked.fat x ≡ end_of_chain = value-set_other b.fat last x x x_not_last ∙ x_ended in
      let tail : IsChain linked.fat (value linked.fat last) (x ∷ []) = subst (λ k. IsChain linked.fat k (x ∷ [])) (sym at_last) (chain-one linked.fat x at_x regular) in
      let turned : IsChain linked.fat first (front ++ last ∷ x ∷ []) = chain-turn b.fat linked.fat first front last [] (x ∷ [])
      (λ i m. value-set_other b.fat last i x (λ e. distinct-apart front (last ∷ []) whole.distinct i m (subst (Contains (last ∷ [])) (sym e) (Contains-here last []))))
      (omega (arith, below, len)) stays tail in
      let same : front ++ last ∷ x ∷ [] ≡ (first ∷ more) ++ x ∷ [] = sym (append_assoc front (last ∷ []) (x ∷ [])) ∙ ap (λ (z : List ℕ). z ++ x ∷ []) (sym at.last_is.1) in
      let two : HasTaken old b (first ∷ []) (more ++ x ∷ []) = taken-then old mid b (first ∷ []) more [] (x ∷ []) at.taken next (λ i m. absurd (Contains-nil i m)) in
      let link = taken-link b last x (taken-places mid b [] (x ∷ []) next) last-ended regular in
      let within : (i : ℕ) → Contains (last ∷ []) i → Contains ((first ∷ []) ++ (more ++ x ∷ [])) i = λ i m.
      Contains-append_left (first ∷ more) (x ∷ []) i (subst (λ z. Contains z i) (sym at.last_is.1) (subst (Contains (front ++ last ∷ [])) (Contains-one last i m) last_in)) in
      let three : HasTaken old linked (first ∷ []) ((more ++ x ∷ []) ++ []) = taken-then old b linked (first ∷ []) (more ++ x ∷ []) (last ∷ []) [] two link within in
      record {
        taken = subst (HasTaken old linked (first ∷ [])) (append-nil (more ++ x ∷ [])) three;
        chain = subst (IsChain linked.fat first) same turned;
        last_is = (first ∷ more, refl);
      }

-- ---- freeing

pub wiped-freed : (list table : List ℕ) → ((i : ℕ) → Contains list i → i < length table) → GivesBack [] list table (wiped table list)
wiped-freed [] table below = record { same_length = refl; ended = λ i m. absurd (Contains-nil i m); free = λ i m. absurd (Contains-nil i m); only = λ i out. refl }
wiped-freed (x ∷ list) table below =
    let next = set table x free_sector in
    let len = length-set table x free_sector in
    let rest = wiped-freed list next (λ i m. let b = below i (Contains-there x list i m) in omega (arith, b, len)) in
    let lx = below x (Contains-here x list) in
    record {
      same_length = rest.same_length ∙ len;
      ended = λ i m. absurd (Contains-nil i m);
      free = λ i m. elim (Contains-or list i) [
        | inl r ↦ rest.free i r
        | inr out ↦ elim (Contains-cases x list i m) [
          | inl e ↦ rest.only i out ∙ (ap (value next) (sym e) ∙ value-set table x free_sector lx)
          | inr r ↦ absurd (out r)
        ]
      ];
      only = λ i out. rest.only i (λ m. out (Contains-there x list i m)) ∙ value-set_other table x i free_sector (λ e. out (0, omega arith, sym e));
    }

pub wiped-push : (table list : List ℕ) (x : ℕ) → wiped table (list ++ x ∷ []) ≡ set (wiped table list) x free_sector
wiped-push table [] x = refl
wiped-push table (y ∷ list) x = wiped-push (set table y free_sector) list x

-- the next one is still in use while the ones before it are freed
pub wiped-busy : (table done : List ℕ) (x : ℕ) → ((i : ℕ) → Contains (done ++ x ∷ []) i → value table i ≢ free_sector) → IsDistinct nat_eq (done ++ x ∷ []) → value (wiped table done) x ≢ free_sector
wiped-busy table done x busy once e =
    let f = wiped-freed done table (λ i m. value-below table i (busy i (Contains-append_left done (x ∷ []) i m))) in
    let out : Contains done x → ⊥ = λ m. distinct-apart done (x ∷ []) once x m (Contains-here x []) in
    busy x (Contains-push done x) (sym (f.only x out) ∙ e)

-- the numbers of a list, one after another
module _ (table list : List ℕ) (i : ℕ) (lt : i < length list) (busy : (j : ℕ) → Contains list j → value table j ≢ free_sector) (once : IsDistinct nat_eq list) where
  abbrev this : ℕ
  this = get_or list i 0

  split : (take i list ++ this ∷ []) ++ drop (i + 1) list ≡ list
  split = ap (λ (z : List ℕ). z ++ drop (i + 1) list) (sym (take_more list i 0 lt)) ∙ take-append-drop (i + 1) list

  pub next-busy : value (wiped table (take i list)) this ≢ free_sector
  next-busy = wiped-busy table (take i list) this
      (λ j m. busy j (subst (λ z. Contains z j) split (Contains-append_left (take i list ++ this ∷ []) (drop (i + 1) list) j m)))
      (distinct-left (take i list ++ this ∷ []) (drop (i + 1) list) (subst (IsDistinct nat_eq) (sym split) once))

-- what was freed so far, in the lists in memory
abbrev pub freed_so_far : Kept → List ℕ → Kept
freed_so_far k list = record k { free = k.free ++ list; state = record k.state { fat = wiped k.state.fat list } }

pub freed-step : (old now new : Kept) (list : List ℕ) (i : ℕ) → i < length list → now ≡ freed_so_far old (take i list)
    → new ≡ record now { free = now.free ++ get_or list i 0 ∷ []; state = record now.state { fat = set now.state.fat (get_or list i 0) free_sector } }
    → new ≡ freed_so_far old (take (i + 1) list)
freed-step old now new list i lt was is =
    let x = get_or list i 0 in
    let more = take_more list i 0 lt in
    let free : (old.free ++ take i list) ++ x ∷ [] ≡ old.free ++ take (i + 1) list = append_assoc old.free (take i list) (x ∷ []) ∙ ap (λ (z : List ℕ). old.free ++ z) (sym more) in
    let fat : set (wiped old.state.fat (take i list)) x free_sector ≡ wiped old.state.fat (take (i + 1) list) =
    sym (wiped-push old.state.fat (take i list) x) ∙ ap (wiped old.state.fat) (sym more) in
    is
    ∙ ap (λ (z : Kept). record z { free = z.free ++ x ∷ []; state = record z.state { fat = set z.state.fat x free_sector } }) was
    ∙ (λ k. record old { free = free k; state = record old.state { fat = fat k } })

-- ---- the whole chain goes on

pub extended : (old new : TableState) (start : ℕ) (front : List ℕ) (last : ℕ) (more : List ℕ) → IsChain old.fat start (front ++ last ∷ [])
    → HasTaken old new (last ∷ []) more → IsChain new.fat last (last ∷ more) → Extended old new start more
extended old new start front last more was taken chain =
    let stays : (i : ℕ) → Contains front i → value new.fat i ≡ value old.fat i = λ i m.
    let busy = (members-busy old.fat start (front ++ last ∷ []) was i (Contains-append_left front (last ∷ []) i m)).0 in
    taken.only i (λ mem. elim (in_three ((last ∷ []) ++ more) taken.fats taken.difats i mem) [
      | inl l ↦ elim (Contains-cases last more i l) [
        | inl e ↦ distinct-apart front (last ∷ []) was.distinct i m (0, omega arith, e)
        | inr r ↦ busy (taken.fresh i (first_of_three more taken.fats taken.difats i r))
      ]
      | inr r ↦ elim r [
        | inl x ↦ busy (taken.fresh i (second_of_three more taken.fats taken.difats i x))
        | inr x ↦ busy (taken.fresh i (third_of_three more taken.fats taken.difats i x))
      ]
    ]) in
    let below = (members-busy new.fat last (last ∷ more) chain last (Contains-here last more)).1 in
    record {
      front = front;
      last = last;
      was = was;
      chain = chain-turn old.fat new.fat start front last [] more stays below was (chain-rest new.fat last [] last more chain);
      taken = taken;
    }

-- what is known of the last sector of a chain
pub last-known : (table : List ℕ) (start : ℕ) (front : List ℕ) (last : ℕ) → IsChain table start (front ++ last ∷ []) → (value table last ≡ end_of_chain) × (last ≤ max_regular_sector)
last-known table start front last c =
    let m = members-busy table start (front ++ last ∷ []) c last (Contains-push front last) in
    ((chain-rest table start front last [] c).follows, regular-le last m.2)

-- a chain is cut behind x
pub cut-freed : (table list : List ℕ) (x : ℕ) → x < length table → x ≤ max_regular_sector → IsChain table (value table x) list
    → GivesBack (x ∷ []) list table (wiped (set table x end_of_chain) list)
cut-freed table list x lt regular c =
    let next = set table x end_of_chain in
    let len = length-set table x end_of_chain in
    let out = chain-apart table x list lt (le-regular x regular) c in
    let f = wiped-freed list next (λ i m. let b = (members-busy table (value table x) list c i m).1 in omega (arith, b, len)) in
    record {
      same_length = f.same_length ∙ len;
      ended = λ i m. ap (value (wiped next list)) (sym (Contains-one x i m)) ∙ f.only x out ∙ value-set table x end_of_chain lt;
      free = f.free;
      only = λ i no_member. f.only i (λ m. no_member (Contains-there x list i m)) ∙ value-set_other table x i end_of_chain (λ e. no_member (0, omega arith, sym e));
    }

-- and what is behind it is still in use when x has become the end
pub behind-busy : (table list : List ℕ) (x : ℕ) → x < length table → x ≤ max_regular_sector → IsChain table (value table x) list
    → (i : ℕ) → Contains list i → value (set table x end_of_chain) i ≢ free_sector
behind-busy table list x lt regular c i m e =
    let out = chain-apart table x list lt (le-regular x regular) c in
    let ne : i ≢ x = λ is. out (subst (Contains list) is m) in
    (members-busy table (value table x) list c i m).0 (sym (value-set_other table x i end_of_chain ne) ∙ e)

-- what starts a chain is not FREE
pub start-busy : (table : List ℕ) (s : ℕ) (list : List ℕ) → IsChain table s list → s ≢ free_sector
start-busy table s [] c e = let f = c.follows in omega (arith, f, e)
start-busy table s (x ∷ list) c e =
    let le = regular-le x c.follows.4 in
    let f = c.follows.0 in
    omega (arith, f, le, e)

-- one sector more behind the last one of a chain
pub attached-one : (old mid : TableState) (last x : ℕ) → HasPlaces old.version (sizes_of old) → value old.fat last ≡ end_of_chain → last ≤ max_regular_sector → HasTaken old mid [] (x ∷ [])
    → IsChain mid.fat x (x ∷ []) → Attached old (record mid { fat = set mid.fat last x }) last x (x ∷ [])
attached-one old mid last x places ended regular taken chain =
    let known = last-known mid.fat x [] x chain in
    attached-more old old mid last last x [] (attached-none old last places ended regular) taken known.0 known.1

pub attached-ended : (old mid : TableState) (last x : ℕ) → value old.fat last ≡ end_of_chain → HasTaken old mid [] (x ∷ []) → value mid.fat last ≡ end_of_chain
attached-ended old mid last x ended taken = taken-keeps old mid (x ∷ []) taken last (λ e. omega (arith, e, ended)) ∙ ended

-- ---- sectors that were appended to a list

-- the list had none before
module _ (old new : TableState) (last : ℕ) (before after : List ℕ) (none : before ≡ []) (added : Added old new last before after) where
  alone : added.more ≡ after
  alone = sym (added.listed ∙ ap (λ (z : List ℕ). z ++ added.more) none)

  pub added-taken : HasTaken old new (last ∷ []) after
  added-taken = subst (HasTaken old new (last ∷ [])) alone added.taken

  pub added-chain : IsChain new.fat last (last ∷ after)
  added-chain = subst (λ (z : List ℕ). IsChain new.fat last (last ∷ z)) alone added.chain

-- the list had the first sector of a new chain
module _ (old mid new : TableState) (first : ℕ) (before after : List ℕ) (one : before ≡ first ∷ []) (taken : HasTaken old mid [] (first ∷ [])) (added : Added mid new first before after) where
  whole_list : first ∷ added.more ≡ after
  whole_list = sym (added.listed ∙ ap (λ (z : List ℕ). z ++ added.more) one)

  pub begun-taken : HasTaken old new [] after
  begun-taken = subst (HasTaken old new []) whole_list (taken-then old mid new [] (first ∷ []) (first ∷ []) added.more taken added.taken (λ i m. m))

  pub begun-chain : IsChain new.fat (first_or_end after) after
  begun-chain = subst (λ (z : List ℕ). IsChain new.fat (first_or_end z) z) whole_list added.chain
