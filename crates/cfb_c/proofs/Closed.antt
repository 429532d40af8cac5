-- What a call comes to through a handle that holds nothing, and through one that holds what was made.
use Rattle.std.proofs.Common.{◌≡◌, refl, sym, subst}
use Rattle.std.specs.Prelude.{ℕ, MatchResult, Option, None, Result, Err}
use Rattle.cfb_c.specs.declared.held.Held.{Held}
use Rattle.cfb_c.specs.declared.held.Kept.{Kept}
use Rattle.cfb_c.specs.declared.refusal.Refusal.{Refusal}
use Rattle.cfb_c.specs.declared.refusal.Refusal.TheVariants.{NotOpen}
use Rattle.cfb_c.specs.Calls.{Calls, IsHeld, Makes}

pub not_open : (on : Kept → Result (Unit {0}) Refusal → Kept → Type 0) (old new : Option Held) → old ≡ None → new ≡ None → Calls on old 11 new
not_open on old new was is = subst (λ (o : Option Held). Calls on o 11 new) (sym was)
    (record { outcome = Err NotOpen; told = refl; through = record { refused = refl; same = is } })

pub held : (good : Kept → Type 0) (bad : Refusal → Type 0) (made : Result Kept Refusal) (number : ℕ) (new : Option Held) → MatchResult made good bad → IsHeld made number new
    → Makes good bad number new
held good bad made number new answer is = record { made = made; answer = answer; held = is }
