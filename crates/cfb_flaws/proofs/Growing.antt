-- Passes that tell of other clauses, and all passes together.
use Rattle.std.proofs.Common.{◌≡◌, ◌≢◌, ◌<◌, inl, inr, ℕ, List, [], ◌∷◌, ◌++◌, Bool, true, false, length, refl, sym, ◌∙◌, ap, subst, arith}
use Rattle.std.specs.Prelude.{All, IsSome, nat_le, Some, if◌then◌else◌, ◌==◌}
use Rattle.std.proofs.lemmas.Bool.{cases_eq}
use Rattle.std.proofs.lemmas.List.Elements.{All-nil}
use Rattle.cfb_format.specs.Chain.{chain_from}
use Rattle.cfb_format.specs.Content.{content_chain, is_large, mini_chain, placed_from, place_in_stream, readable, sector_chain}
use Rattle.cfb_format.specs.DirectoryEntry.{Entry}
use Rattle.cfb_format.specs.Reading.{Reading}
use Rattle.cfb_format.specs.Siblings.{entry_at}
use Rattle.cfb_format.specs.Soundness.{IsSound, PointsIntoFile, streams}
use Rattle.cfb_flaws.specs.declared.flaw.Flaw.{Flaw}
use Rattle.cfb_flaws.specs.declared.owner.Table.{Table}
use Rattle.cfb_flaws.specs.declared.owner.Table.TheVariants.{Fat, Minifat}
use Rattle.cfb_flaws.specs.Claims.{LiesIn}
use Rattle.cfb_flaws.specs.Each.{AnswersEach, AnswersMost, AreWhole, HaveChains}
use Rattle.cfb_flaws.specs.Flaws.{AreWholeIn, Clause, clause_of, HaveChainsIn, Holds, NoneOn, PointsPast, on_chains, on_covers, on_loose, on_mini_loose, on_mini_room, on_mini_sectors, on_mini_stream, on_sectors, on_whole}
use Rattle.cfb_flaws.specs.Telling.{Told}
use Rattle.cfb_flaws.proofs.Tellings.{none-push}

-- what is told now is as true as what was, and nothing is taken back
pub record Grows (bytes : List ℕ) (r : Reading) (old new : List Flaw) : Type 0 where
  pub truth : All (Holds bytes r) old → All (Holds bytes r) new
  pub kept : (d : Clause) → NoneOn d new → NoneOn d old

module _ (bytes : List ℕ) (r : Reading) where
  pub grows : (c : Clause) (C : Type 0) (xs ys : List Flaw) → Told c C bytes r xs ys → Grows bytes r xs ys
  grows c C xs ys t = record { truth = t.truth; kept = t.kept }

  pub grows-on : (xs ys zs : List Flaw) → Grows bytes r xs ys → Grows bytes r ys zs → Grows bytes r xs zs
  grows-on xs ys zs t u = record { truth = λ h. u.truth (t.truth h); kept = λ d n. t.kept d (u.kept d n) }

  pub then-grows : (c : Clause) (C : Type 0) (xs ys zs : List Flaw) → Told c C bytes r xs ys → Grows bytes r ys zs → Told c C bytes r xs zs
  then-grows c C xs ys zs t u = record { truth = λ h. u.truth (t.truth h); kept = λ d n. t.kept d (u.kept d n); answers = λ n. t.answers (u.kept c n) }

  pub grows-then : (c : Clause) (C : Type 0) (xs ys zs : List Flaw) → Grows bytes r xs ys → Told c C bytes r ys zs → Told c C bytes r xs zs
  grows-then c C xs ys zs t u = record { truth = λ h. u.truth (t.truth h); kept = λ d n. t.kept d (u.kept d n); answers = u.answers }

  -- two answers of one pass
  pub told-both : (c : Clause) (C D E : Type 0) (xs ys : List Flaw) → (C → D → E) → Told c C bytes r xs ys → Told c D bytes r xs ys → Told c E bytes r xs ys
  told-both c C D E xs ys f t u = record { truth = t.truth; kept = t.kept; answers = λ n. f (t.answers n) (u.answers n) }

-- ---- streams of both tables

module _ (P : Type 0) (e : Entry) (fat : LiesIn Fat e → P) (mini : LiesIn Minifat e → P) (none : e.stream_len ≡ 0 → P) where
  pub by-table : P
  by-table = elim (cases_eq e.stream_len 0) [
    | inl empty ↦ none empty
    | inr some ↦ go (is_large e) refl (omega (arith, some))
  ]
    where
      go : (b : Bool) → is_large e ≡ b → 0 < e.stream_len → P
      go true large some = fat record { table = ap (λ (b : Bool). if b then Fat else Minifat) (sym large); some = some }
      go false small some = mini record { table = ap (λ (b : Bool). if b then Fat else Minifat) (sym small); some = some }

-- an empty stream has the empty chain, and nothing to be read
empty-small : (e : Entry) → e.stream_len ≡ 0 → is_large e ≡ false
empty-small e z = ap (λ (n : ℕ). nat_le 4096 n) z

empty-chain : (r : Reading) (e : Entry) → e.stream_len ≡ 0 → IsSome (content_chain r e)
empty-chain r e z = subst IsSome (sym (ap (λ (b : Bool). if b then sector_chain r e else mini_chain r e) (empty-small e z)
    ∙ ap (λ (n : ℕ). if n == 0 then Some [] else chain_from r.minifat e.start_sector) z)) refl

empty-whole : (bytes : List ℕ) (r : Reading) (e : Entry) → e.stream_len ≡ 0 → length (readable bytes r e) ≡ e.stream_len
unfolding placed_from
empty-whole bytes r e z = ap (λ (n : ℕ). length (placed_from bytes (place_in_stream bytes r e) 0 n)) z ∙ sym z

pub both-chains : (r : Reading) → HaveChainsIn Fat r (streams r) → HaveChainsIn Minifat r (streams r) → HaveChains r
both-chains r fat mini k m =
    let e = entry_at r.entries k in
    by-table (IsSome (content_chain r e)) e (fat k m) (mini k m) (empty-chain r e)

pub both-whole : (bytes : List ℕ) (r : Reading) → AreWholeIn Fat bytes r (streams r) → AreWholeIn Minifat bytes r (streams r) → AreWhole bytes r
both-whole bytes r fat mini k m =
    let e = entry_at r.entries k in
    by-table (length (readable bytes r e) ≡ e.stream_len) e (fat k m) (mini k m) (empty-whole bytes r e)

-- ---- all clauses

pub none-told : (bytes : List ℕ) (r : Reading) → All (Holds bytes r) []
none-told bytes r = All-nil (Holds bytes r)

pub none-on : (c : Clause) → NoneOn c []
none-on c = All-nil (λ f. clause_of f ≢ c)

-- of a sound file each clause holds
pub sound-each : (bytes : List ℕ) (r : Reading) (found : List Flaw) → IsSound bytes r → ((i next : ℕ) → PointsPast bytes r i next → ⊥) → AnswersEach bytes r found
sound-each bytes r found s none = record {
  most = record {
    covers = λ n. s.covers;
    mini_stream = λ n. s.mini_stream;
    chains = λ n. s.chains;
    sectors = λ n. s.sectors;
    mini_sectors = λ n. s.mini_sectors;
    mini_room = λ n. s.mini_room;
    loose = λ n. s.loose;
    mini_loose = λ n. s.mini_loose;
    whole = λ n. s.whole;
  };
  pointers = λ i next p. absurd (none i next p);
}

-- and where all do, it is sound
pub most-sound : (bytes : List ℕ) (r : Reading) → AnswersMost bytes r [] → PointsIntoFile bytes r → IsSound bytes r
most-sound bytes r a p = record {
  covers = a.covers (none-on on_covers);
  mini_stream = a.mini_stream (none-on on_mini_stream);
  chains = a.chains (none-on on_chains);
  sectors = a.sectors (none-on on_sectors);
  mini_sectors = a.mini_sectors (none-on on_mini_sectors);
  mini_room = a.mini_room (none-on on_mini_room);
  loose = a.loose (none-on on_loose);
  mini_loose = a.mini_loose (none-on on_mini_loose);
  pointers = p;
  whole = a.whole (none-on on_whole);
}
