-- Operations that are cloned.
use Rattle.std.proofs.Common.{◌≡◌, ℕ, List, [], ◌∷◌, ap₂, map, refl}
use Rattle.std.specs.List.{AllZip, each_same}
use Rattle.cfb_commands.specs.cfb_rules.StreamCalls.{StreamCall}
use Rattle.cfb_commands.specs.declared.command.StreamOp.{StreamOp}
use Rattle.cfb_commands.specs.Commands.{stream_call_of}

-- the same bytes
pub same_bytes : (xs ys : List ℕ) → AllZip (λ x y. y ≡ x) xs ys → ys ≡ xs
same_bytes = each_same

-- the same calls
pub same_calls : {A : Type 0} (xs ys : List (StreamOp A)) → AllZip (λ x y. stream_call_of y ≡ stream_call_of x) xs ys → map stream_call_of ys ≡ map stream_call_of xs
same_calls [] [] z = refl
same_calls [] (y ∷ ys) z = absurd z
same_calls (x ∷ xs) [] z = absurd z
same_calls (x ∷ xs) (y ∷ ys) z = ap₂ (λ (c : StreamCall) (cs : List StreamCall). c ∷ cs) z.0 (same_calls xs ys z.1)
