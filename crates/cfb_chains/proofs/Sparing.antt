-- What the calls on a chain spare: every sector in use that is none of the chain's.
use Rattle.std.proofs.Common.{◌≡◌, inl, inr, ℕ, List, ◌++◌, take}
use Rattle.cfb_chains.specs.cfb_alloc.Alloc.{AllocatorState}
use Rattle.cfb_chains.specs.cfb_alloc.Frame.{Spares}
use Rattle.cfb_chains.proofs.cfb_alloc.Frames.{spares-then}
use Rattle.cfb_chains.specs.cfb_tables.Tables.{HasTaken}
use Rattle.cfb_chains.proofs.OwnWrites.{own_gained, own_kept}

-- sectors are gained, and then the chain is written
pub gained_spared : (ids ids' more touched : List ℕ) (old mid new : AllocatorState) → ids' ≡ ids ++ more → HasTaken old.tables mid.tables touched more
    → Spares ids old mid → Spares ids' mid new → Spares ids old new
gained_spared ids ids' more touched old mid new is taken first second =
    spares-then ids ids' old mid new (λ i m. elim (own_gained ids old mid touched ids' more is taken i m) [ inl own ↦ inr own | inr free ↦ inl free ]) first second

-- sectors are given back, and then the chain is written
pub kept_spared : (ids ids' : List ℕ) (n : ℕ) (old mid new : AllocatorState) → ids' ≡ take n ids → Spares ids old mid → Spares ids' mid new → Spares ids old new
kept_spared ids ids' n old mid new is first second =
    spares-then ids ids' old mid new (λ i m. elim (own_kept ids old ids' n is i m) [ inl own ↦ inr own | inr free ↦ inl free ]) first second
