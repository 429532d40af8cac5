-- What is told into room of the caller.
use Rattle.std.specs.Prelude.{ℕ, ◌≡◌, ◌<◌, ◌-◌, List, MatchResult, Result, drop, length, min, take}
use Rattle.cfb_c.specs.declared.refusal.Refusal.{Refusal}
use Rattle.cfb_c.specs.declared.refusal.Refusal.TheVariants.{TooSmall}

-- How many bytes there are was told. They stand at the beginning of the room, whose rest stays; or there is too little, and all of it stays
pub record IsGiven {T : Type 0} (bytes room : List ℕ) (outcome : Result T Refusal) (filled : List ℕ) (len : ℕ) : Type 0 where
  pub told : len ≡ length bytes
  pub put : MatchResult outcome (λ _. (take (length bytes) filled ≡ bytes) × (drop (length bytes) filled ≡ drop (length bytes) room))
      (λ refusal. (refusal ≡ TooSmall) × (length room < length bytes) × (filled ≡ room))

-- so many of the bytes from this place on stand at the beginning of the room, all that there is room for, and its rest stays
pub record IsPartOf (bytes : List ℕ) (at : ℕ) (room filled : List ℕ) (count : ℕ) : Type 0 where
  pub most : count ≡ min (length room) (length bytes - at)
  pub part : take count filled ≡ take count (drop at bytes)
  pub rest : drop count filled ≡ drop count room
