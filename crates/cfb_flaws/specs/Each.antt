-- A reason for each clause of soundness that is broken.
use Rattle.std.specs.Prelude.{ℕ, ◌≡◌, List, length, nat_eq, IsSome, Contains}
use Rattle.std.specs.List.{IsDistinct}
use Rattle.cfb_format.specs.Content.{content_chain, mini_stream_chain, readable}
use Rattle.cfb_format.specs.Reading.{Reading}
use Rattle.cfb_format.specs.Siblings.{entry_at}
use Rattle.cfb_format.specs.Soundness.{streams, used_sectors, used_mini_sectors}
use Rattle.cfb_flaws.specs.declared.flaw.Flaw.{Flaw}
use Rattle.cfb_flaws.specs.declared.flaw.Flaw.TheVariants.{PastFile}
use Rattle.cfb_flaws.specs.declared.owner.Table.TheVariants.{Fat, Minifat}
use Rattle.cfb_flaws.specs.Flaws.{Covers, HasRoom, KeepsLooseIn, NoneOn, PointsPast, on_chains, on_covers, on_loose, on_mini_loose, on_mini_room, on_mini_sectors, on_mini_stream, on_sectors, on_whole}

-- every stream has a chain
abbrev pub HaveChains : Reading → Type 0
HaveChains r = (k : ℕ) → Contains (streams r) k → IsSome (content_chain r (entry_at r.entries k))

-- every stream can be read to its end
abbrev pub AreWhole : List ℕ → Reading → Type 0
AreWhole bytes r = (k : ℕ) → Contains (streams r) k → length (readable bytes r (entry_at r.entries k)) ≡ (entry_at r.entries k).stream_len

-- a clause holds where no reason breaks it
pub record AnswersMost (bytes : List ℕ) (r : Reading) (found : List Flaw) : Type 0 where
  pub covers : NoneOn on_covers found → Covers bytes r
  pub mini_stream : NoneOn on_mini_stream found → IsSome (mini_stream_chain r)
  pub chains : NoneOn on_chains found → HaveChains r
  pub sectors : NoneOn on_sectors found → IsDistinct nat_eq (used_sectors r)
  pub mini_sectors : NoneOn on_mini_sectors found → IsDistinct nat_eq (used_mini_sectors r)
  pub mini_room : NoneOn on_mini_room found → HasRoom r
  pub loose : NoneOn on_loose found → KeepsLooseIn Fat r
  pub mini_loose : NoneOn on_mini_loose found → KeepsLooseIn Minifat r
  pub whole : NoneOn on_whole found → AreWhole bytes r

-- and each sector that goes on past the last one has a reason of its own
pub record AnswersEach (bytes : List ℕ) (r : Reading) (found : List Flaw) : Type 0 where
  pub most : AnswersMost bytes r found
  pub pointers : (i : ℕ) (next : ℕ) → PointsPast bytes r i next → Contains found (PastFile i next)
