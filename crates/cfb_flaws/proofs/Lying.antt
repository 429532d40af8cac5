-- In which table a stream lies.
use Rattle.std.proofs.Common.{◌≡◌, ◌<◌, ℕ, List, [], Bool, true, false, refl, sym, ◌∙◌, ap, arith, ne_eqb}
use Rattle.std.specs.Prelude.{Option, Some, unwrap_or, if◌then◌else◌, ◌==◌}
use Rattle.cfb_format.specs.Chain.{chain_from}
use Rattle.cfb_format.specs.Content.{is_large, mini_chain, sector_chain}
use Rattle.cfb_format.specs.DirectoryEntry.{Entry}
use Rattle.cfb_format.specs.Reading.{Reading}
use Rattle.cfb_flaws.specs.declared.owner.Table.{Table}
use Rattle.cfb_flaws.specs.declared.owner.Table.TheVariants.{Fat, Minifat}
use Rattle.cfb_flaws.specs.Claims.{LiesIn, chain_of, members_in, words_of}

pub lies-large : (e : Entry) → LiesIn Fat e → is_large e ≡ true
lies-large e l = go (is_large e) refl l.table
  where
    go : (b : Bool) → is_large e ≡ b → Fat ≡ (if b then Fat else Minifat) → b ≡ true
    go true h t = refl
    go false h t = let f : Fat ≡ Minifat = t in cc

pub lies-small : (e : Entry) → LiesIn Minifat e → is_large e ≡ false
lies-small e l = go (is_large e) refl l.table
  where
    go : (b : Bool) → is_large e ≡ b → Minifat ≡ (if b then Fat else Minifat) → b ≡ false
    go true h t = let f : Minifat ≡ Fat = t in cc
    go false h t = refl

pub small-chain : (r : Reading) (e : Entry) → 0 < e.stream_len → mini_chain r e ≡ chain_from r.minifat e.start_sector
small-chain r e some = ap (λ (b : Bool). if b then Some [] else chain_from r.minifat e.start_sector) (ne_eqb e.stream_len 0 (λ z. omega (arith, z, some)))

pub lies-members : (t : Table) (r : Reading) (e : Entry) → LiesIn t e → members_in t r e ≡ chain_of (words_of t r) e.start_sector
lies-members Fat r e l = ap (λ (b : Bool). if b then unwrap_or (sector_chain r e) [] else []) (lies-large e l)
lies-members Minifat r e l = ap (λ (b : Bool). if b then [] else unwrap_or (mini_chain r e) []) (lies-small e l)
    ∙ ap (λ (o : Option (List ℕ)). unwrap_or o []) (small-chain r e l.some)
