-- The kinds of errors.
use Rattle.std.proofs.Common.{◌≡◌, ◌∙◌, ℕ, ap, arith, refl, sym}
use Rattle.std.specs.Prelude.{Some}
use Rattle.std.proofs.lemmas.Option.{same_Some}
use Rattle.cfb_format.specs.declared.error.Error.{Error}
use Rattle.cfb_format.specs.declared.error.Error.TheVariants.{NotFound, AlreadyExists, InvalidInput, InvalidData, Medium, Memory, Full, Unsound, Failed}
use Rattle.cfb_commands.specs.cfb_rules.Refusal.{IsRefusal, Refusal, failed_earlier, file_full, out_of_memory, refusal_number}
use Rattle.cfb_commands.specs.cfb_rules.StreamCalls.{StreamReply, not_done, offset}
use Rattle.cfb_commands.proofs.CallSteps.{same_refusal}
use Rattle.cfb_commands.specs.Commands.{refusal_of_error}

pub refusal_is : (e : Error) → IsRefusal (refusal_of_error e) e
refusal_is (NotFound d) = refl
refusal_is (AlreadyExists d) = refl
refusal_is (InvalidInput d) = refl
refusal_is (InvalidData d) = refl
refusal_is (Medium f) = refl
refusal_is Memory = refl
refusal_is Full = refl
refusal_is Unsound = refl
refusal_is Failed = refl

pub known : (r : Refusal) (e : Error) → IsRefusal r e → r ≡ refusal_of_error e
known r e is = same_refusal r (refusal_of_error e) (sym is ∙ refusal_is e)

-- ---- where numbers are blamed

full_error : (e : Error) → refusal_of_error e ≡ file_full → e ≡ Full
full_error (NotFound d) is = absurd (let w : 1 ≡ 7 = ap refusal_number is in omega (arith, w))
full_error (AlreadyExists d) is = absurd (let w : 2 ≡ 7 = ap refusal_number is in omega (arith, w))
full_error (InvalidInput d) is = absurd (let w : 3 ≡ 7 = ap refusal_number is in omega (arith, w))
full_error (InvalidData d) is = absurd (let w : 4 ≡ 7 = ap refusal_number is in omega (arith, w))
full_error (Medium f) is = absurd (let w : 5 ≡ 7 = ap refusal_number is in omega (arith, w))
full_error Memory is = absurd (let w : 6 ≡ 7 = ap refusal_number is in omega (arith, w))
full_error Full is = refl
full_error Unsound is = absurd (let w : 8 ≡ 7 = ap refusal_number is in omega (arith, w))
full_error Failed is = absurd (let w : 9 ≡ 7 = ap refusal_number is in omega (arith, w))

abbrev refusal_in : StreamReply → Refusal
refusal_in (not_done refusal) = refusal
refusal_in reply = failed_earlier

pub reply_full : (e : Error) → not_done (refusal_of_error e) ≡ not_done file_full → e ≡ Full
reply_full e is = full_error e (ap refusal_in is)

pub closing_full : (e : Error) → Some (refusal_of_error e) ≡ Some file_full → e ≡ Full
closing_full e is = full_error e (same_Some (refusal_of_error e) file_full is)

-- a place does not blame them, nor does a file that failed earlier, nor want of memory
pub place_never_full : (n : ℕ) → offset n ≡ not_done file_full → ⊥
place_never_full n is = let w : 9 ≡ 7 = ap (λ (r : StreamReply). refusal_number (refusal_in r)) is in omega (arith, w)

pub failed_never_full : not_done failed_earlier ≡ not_done file_full → ⊥
failed_never_full is = let w : 9 ≡ 7 = ap (λ (r : StreamReply). refusal_number (refusal_in r)) is in omega (arith, w)

pub memory_never_full : not_done out_of_memory ≡ not_done file_full → ⊥
memory_never_full is = let w : 6 ≡ 7 = ap (λ (r : StreamReply). refusal_number (refusal_in r)) is in omega (arith, w)
