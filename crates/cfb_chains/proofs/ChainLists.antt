-- The list of a chain's sectors, as the chain grows, is cut, or breaks off.
use Rattle.std.proofs.Common.{◌≡◌, ◌<◌, ◌≤◌, ◌+◌, ◌-◌, ◌*◌, ◌⊎◌, min, inl, inr, ℕ, true, List, [], ◌∷◌, ◌++◌, sym, ◌∙◌, ap, subst, length, take, arith}
use Rattle.std.specs.Prelude.{Some, Result, Ok, Err, OnOk, OnErr, IfErr, Contains}
use Rattle.std.proofs.lemmas.Bool.{cases_eq}
use Rattle.std.proofs.lemmas.List.{take_more, take_all}
use Rattle.std.proofs.lemmas.List.Elements.{Contains-append_right}
use Rattle.cfb_format.specs.declared.error.Error.{Error}
use Rattle.cfb_format.specs.declared.error.Error.TheVariants.{NotFound, AlreadyExists, InvalidInput, InvalidData, Medium, Memory, Full, Unsound, Failed}
use Rattle.cfb_format.specs.declared.version.Version.{Version}
use Rattle.cfb_format.specs.Bytes.{end_of_chain, sector_len}
use Rattle.cfb_format.specs.Chain.{IsChain, chain_from}
use Rattle.cfb_format.specs.Refused.{AfterMedium}
use Rattle.cfb_chains.specs.cfb_alloc.Alloc.{AllocatorState}
use Rattle.cfb_chains.specs.cfb_alloc.ListedChain.{ListBreaksOff}
use Rattle.cfb_chains.specs.cfb_tables.Listed.{ends_of, last_or_end}
use Rattle.cfb_chains.specs.cfb_tables.Tables.{TableState, GivesBackChain, TablesGiveBack, ending, first_or_end}
use Rattle.cfb_chains.proofs.cfb_alloc.Answering.{on_ok, all_ok}
use Rattle.cfb_chains.proofs.cfb_alloc.ChainView.{found_chain, chain_found}
use Rattle.cfb_chains.proofs.cfb_alloc.EmptyChain.{none_freed}
use Rattle.cfb_chains.proofs.cfb_tables.ListedLemmas.{ending_other}
use Rattle.cfb_format.proofs.Members.{Contains-nil, Contains-here, Contains-one}

pub on_err : {T E : Type 0} (P Q : E → Type 0) (r : Result T E) → ((e : E) → P e → Q e) → IfErr r P → IfErr r Q
on_err P Q (Ok x) f p = tt
on_err P Q (Err e) f p = f e p

pub after_map : (broken kept broken' kept' : Type 0) → (broken → broken') → (kept → kept') → (e : Error) → AfterMedium broken kept e → AfterMedium broken' kept' e
after_map broken kept broken' kept' f g (Medium m) r = f r
after_map broken kept broken' kept' f g (InvalidData d) r = g r
after_map broken kept broken' kept' f g (NotFound d) r = g r
after_map broken kept broken' kept' f g (AlreadyExists d) r = g r
after_map broken kept broken' kept' f g (InvalidInput d) r = g r
after_map broken kept broken' kept' f g Memory r = g r
after_map broken kept broken' kept' f g Full r = g r
after_map broken kept broken' kept' f g Unsound r = g r
after_map broken kept broken' kept' f g Failed r = g r

after_either : (broken kept : Type 0) (e : Error) → AfterMedium broken kept e → broken ⊎ kept
after_either broken kept (Medium m) r = inl r
after_either broken kept (InvalidData d) r = inr r
after_either broken kept (NotFound d) r = inr r
after_either broken kept (AlreadyExists d) r = inr r
after_either broken kept (InvalidInput d) r = inr r
after_either broken kept Memory r = inr r
after_either broken kept Full r = inr r
after_either broken kept Unsound r = inr r
after_either broken kept Failed r = inr r

-- a change of a listed chain was made, or nothing has changed
pub made_or_not : {T : Type 0} (r : Result T Error) (made : List ℕ → List ℕ → TableState → TableState → Type 0) (ids ids' : List ℕ) (old new : AllocatorState)
    → OnOk r (made ids ids' old.tables new.tables) → IfErr r (ListBreaksOff made ids ids' old new)
    → made ids ids' old.tables new.tables ⊎ ((new ≡ old) × (ids' ≡ ids))
made_or_not (Ok x) made ids ids' old new ok err = inl ok
made_or_not (Err e) made ids ids' old new ok err =
    elim (after_either ((new.file.begun ≡ true) × made ids ids' old.tables new.tables) ((new ≡ old) × (ids' ≡ ids)) e err) [ inl b ↦ inl b.1 | inr k ↦ inr k ]

-- ---- where a list starts and ends

pub start_is : (table : List ℕ) (s : ℕ) (ids : List ℕ) → chain_from table s ≡ Some ids → s ≡ first_or_end ids
start_is table s [] e = (found_chain table s [] e).follows
start_is table s (x ∷ ids) e = (found_chain table s (x ∷ ids) e).follows.0

pub listed_chain : (table : List ℕ) (s : ℕ) (ids : List ℕ) → chain_from table s ≡ Some ids → IsChain table (first_or_end ids) ids
listed_chain table s ids e = subst (λ k. IsChain table k ids) (start_is table s ids e) (found_chain table s ids e)

pub listed_found : (table : List ℕ) (s : ℕ) (ids : List ℕ) → s ≡ first_or_end ids → IsChain table (first_or_end ids) ids → chain_from table s ≡ Some ids
listed_found table s ids first c = chain_found table s ids (subst (λ k. IsChain table k ids) (sym first) c)

last_among : (xs : List ℕ) → 0 < length xs → Contains xs (last_or_end xs)
last_among xs some =
    let n : length xs ≡ length xs - 1 + 1 = omega (arith, some) in
    let split : xs ≡ take (length xs - 1) xs ++ last_or_end xs ∷ []
    = sym (take_all (length xs) xs (omega arith)) ∙ ap (λ (k : ℕ). take k xs) n ∙ take_more xs (length xs - 1) end_of_chain (omega (arith, some)) in
    subst (λ (z : List ℕ). Contains z (last_or_end xs)) (sym split)
    (Contains-append_right (take (length xs - 1) xs) (last_or_end xs ∷ []) (last_or_end xs) (Contains-here (last_or_end xs) []))

-- where a chain ends is one of its members
pub ends_among : (xs : List ℕ) (i : ℕ) → Contains (ends_of xs) i → Contains xs i
ends_among [] i m = m
ends_among (x ∷ xs) i m =
    let last = last_or_end (x ∷ xs) in
    elim (cases_eq last end_of_chain) [
      | inl e ↦ absurd (Contains-nil i (subst (λ (k : ℕ). Contains (ending k) i) e m))
      | inr ne ↦ subst (Contains (x ∷ xs)) (Contains-one last i (subst (λ (z : List ℕ). Contains z i) (ending_other last ne) m)) (last_among (x ∷ xs) (omega arith))
    ]

-- ---- cuts

-- a chain is freed as it is cut behind nothing
pub shortened_frees : (old new : TableState) (s : ℕ) (ids : List ℕ) → chain_from old.fat s ≡ Some ids → TablesGiveBack [] ids old new → GivesBackChain [] s old new
shortened_frees old new s ids e cut = (ids, found_chain old.fat s ids e, cut)

pub freed_of : {T : Type 0} (r : Result T Error) (old new : AllocatorState) (s : ℕ) (ids : List ℕ) → chain_from old.tables.fat s ≡ Some ids
    → (length ids ≤ 0 → OnErr r ⊥ × (new ≡ old)) → (0 < length ids → OnOk r (TablesGiveBack [] ids old.tables new.tables)) → OnOk r (GivesBackChain [] s old.tables new.tables)
freed_of r old new s [] e none some =
    all_ok r (subst (λ (a : AllocatorState). GivesBackChain [] s old.tables a.tables) (sym (none (omega arith)).1) (none_freed old.tables s e))
freed_of r old new s (x ∷ list) e none some =
    on_ok (TablesGiveBack [] (x ∷ list) old.tables new.tables) (GivesBackChain [] s old.tables new.tables) r (shortened_frees old.tables new.tables s (x ∷ list) e) (some (omega arith))

-- ---- where the position is then

pub placed_nowhere : (pos pos' l : ℕ) (ids : List ℕ) → pos' ≡ min pos (length ids * l) → ids ≡ [] → pos' ≡ 0
placed_nowhere pos pos' l ids at none =
    let start : min pos (0 * l) ≡ 0 = omega arith in
    at ∙ ap (λ (xs : List ℕ). min pos (length xs * l)) none ∙ start

pub placed_same : (v v' : Version) (pos pos' : ℕ) (ids ids' : List ℕ) → pos' ≡ min pos (length ids' * sector_len v') → ids' ≡ ids → v' ≡ v
    → pos ≤ length ids * sector_len v → pos' ≡ pos
placed_same v v' pos pos' ids ids' at same version within =
    let all : min pos (length ids * sector_len v) ≡ pos = omega (arith, within) in
    at ∙ (λ j. min pos (length (same j) * sector_len (version j))) ∙ all
