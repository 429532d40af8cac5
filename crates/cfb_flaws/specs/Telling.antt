-- What searches for flaws know, and what they tell.
use Rattle.std.specs.Prelude.{ℕ, ◌≡◌, ◌<◌, ◌≤◌, List, Contains, All}
use Rattle.cfb_format.specs.Names.{Cases}
use Rattle.cfb_format.specs.Reading.{Reading, Reads}
use Rattle.cfb_format.specs.Soundness.{owner, mini_owner, mini_stream_sectors}
use Rattle.cfb_flaws.specs.declared.flaw.Flaw.{Flaw}
use Rattle.cfb_flaws.specs.declared.flaw.Flaw.TheVariants.{PastFile}
use Rattle.cfb_flaws.specs.declared.known.Known.{Known}
use Rattle.cfb_flaws.specs.declared.owner.Owner.{Owner}
use Rattle.cfb_flaws.specs.declared.owner.Table.{Table}
use Rattle.cfb_flaws.specs.declared.owner.Table.TheVariants.{Fat, Minifat}
use Rattle.cfb_flaws.specs.Flaws.{Clause, Holds, NoneOn, PointsPast}
use Rattle.cfb_flaws.specs.Owners.{AreKept, AreOwners}

-- what is known is so in the file with these bytes
pub record KnowsFile {A : Type 0} (known : Known A) (bytes : List ℕ) (r : Reading) : Type 0 where
  pub parts : AreKept known.parts.now bytes r
  pub sectors : AreOwners r.fat (owner r) known.sectors.items
  pub mini_sectors : AreOwners r.minifat (mini_owner r) known.mini_sectors.items
  pub root : known.root.items ≡ mini_stream_sectors r

-- what is told now is as true as what was, and if nothing of it breaks this clause, so much holds
pub record Told (c : Clause) (C : Type 0) (bytes : List ℕ) (r : Reading) (old new : List Flaw) : Type 0 where
  pub truth : All (Holds bytes r) old → All (Holds bytes r) new
  pub kept : (d : Clause) → NoneOn d new → NoneOn d old
  pub answers : NoneOn c new → C

-- the same in each file where so much is known
abbrev pub Tells : {A : Type 0} → Known A → Clause → (List ℕ → Reading → Type 0) → List Flaw → List Flaw → Type 0
Tells known c holds old new = (cases : Cases) (bytes : List ℕ) (r : Reading) → Reads cases bytes r → KnowsFile known bytes r
    → Told c (holds bytes r) bytes r old new

-- the owners of the numbers of that table
abbrev pub owners_of : {A : Type 0} → Table → Known A → List Owner
owners_of Fat known = known.sectors.items
owners_of Minifat known = known.mini_sectors.items

-- what is told now is as true as what was, nothing is taken back, and of these sectors each that goes on past the last one is told
pub record ToldPast (bytes : List ℕ) (r : Reading) (first end : ℕ) (old new : List Flaw) : Type 0 where
  pub truth : All (Holds bytes r) old → All (Holds bytes r) new
  pub kept : (d : Clause) → NoneOn d new → NoneOn d old
  pub more : (f : Flaw) → Contains old f → Contains new f
  pub told : (i : ℕ) (next : ℕ) → first ≤ i → i < end → PointsPast bytes r i next → Contains new (PastFile i next)
