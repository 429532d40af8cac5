-- What replies tell.
use Rattle.std.proofs.Common.{◌≡◌, ◌∙◌, ◌<◌, ◌+◌, ℕ, Bool, true, false, List, [], ◌∷◌, ◌++◌, ap, drop, get_or, is_some, length, map, refl, subst, sym}
use Rattle.std.proofs.lemmas.List.{drop_more, map-append}
use Rattle.std.specs.Option.{option_map}
use Rattle.std.specs.Prelude.{Result, Ok, Err, Option, None, Some}
use Rattle.cfb_format.specs.declared.error.Error.{Error}
use Rattle.cfb_rules.specs.Calls.{Reply}
use Rattle.cfb_rules.specs.Refusal.{Refusal}
use Rattle.cfb_rules.specs.StreamCalls.{StreamCall, StreamReply}
use Rattle.cfb_commands.specs.Commands.{call_answer, refusal_of_result, refusal_of_error, stream_answer}
use Rattle.cfb_tool.specs.Playing.{bytes_of_work, last_count, last_write}
use Rattle.cfb_whole_streams.specs.Told.{first_of, first_refusal, refusal_of_call, refusal_of_work, taken_by_work}

-- a call by path
pub told_by_call : {T : Type 0} (answer : T → Reply) (result : Result T Error) → ((x : T) → refusal_of_call (answer x) ≡ None)
    → refusal_of_result result ≡ refusal_of_call (call_answer answer result)
told_by_call answer (Ok x) quiet = sym (quiet x)
told_by_call answer (Err e) quiet = refl

-- an operation on a stream
pub told_by_work : {T : Type 0} (answer : T → StreamReply) (result : Result T Error) → ((x : T) → refusal_of_work (answer x) ≡ None)
    → refusal_of_result result ≡ refusal_of_work (stream_answer answer result)
told_by_work answer (Ok x) quiet = sym (quiet x)
told_by_work answer (Err e) quiet = refl

pub takes_nothing : {T : Type 0} (answer : T → StreamReply) (result : Result T Error) → ((x : T) → taken_by_work (answer x) ≡ 0)
    → 0 ≡ taken_by_work (stream_answer answer result)
takes_nothing answer (Ok x) none = sym (none x)
takes_nothing answer (Err e) none = refl

-- the last one
pub last_behind : (replies : List StreamReply) (reply : StreamReply) → last_count (replies ++ reply ∷ []) ≡ taken_by_work reply
last_behind [] reply = refl
last_behind (r ∷ []) reply = refl
last_behind (r ∷ s ∷ replies) reply = last_behind (s ∷ replies) reply

pub last_of : {X : Type 0} (f : X → StreamReply) (xs front : List X) (x : X) → xs ≡ front ++ x ∷ [] → last_count (map f xs) ≡ taken_by_work (f x)
last_of f xs front x e = subst (λ ys. last_count (map f ys) ≡ taken_by_work (f x)) (sym e)
    (subst (λ (rs : List StreamReply). last_count rs ≡ taken_by_work (f x)) (sym (map-append f front (x ∷ []))) (last_behind (map f front) (f x)))

pub written_behind : (calls : List StreamCall) (call : StreamCall) → last_write (calls ++ call ∷ []) ≡ bytes_of_work call
written_behind [] call = refl
written_behind (c ∷ []) call = refl
written_behind (c ∷ d ∷ calls) call = written_behind (d ∷ calls) call

pub written_last : {X : Type 0} (f : X → StreamCall) (xs front : List X) (x : X) → xs ≡ front ++ x ∷ [] → last_write (map f xs) ≡ bytes_of_work (f x)
written_last f xs front x e = subst (λ ys. last_write (map f ys) ≡ bytes_of_work (f x)) (sym e)
    (subst (λ (cs : List StreamCall). last_write cs ≡ bytes_of_work (f x)) (sym (map-append f front (x ∷ []))) (written_behind (map f front) (f x)))

-- one that was not refused is passed, and the first that was is told
module _ {X : Type 0} (f : X → StreamReply) (xs : List X) (i : ℕ) (x : X) (closing : Option Refusal) (error : Option Error) (less : i < length xs) (is : x ≡ get_or xs i x)
    (told : option_map refusal_of_error error ≡ refusal_of_work (f x)) where
  here : first_refusal (map f (drop i xs)) closing ≡ first_of (refusal_of_work (f x)) (first_refusal (map f (drop (i + 1) xs)) closing)
  here = ap (λ ys. first_refusal (map f ys) closing) (drop_more xs i x less)
      ∙ ap (λ y. first_of (refusal_of_work (f y)) (first_refusal (map f (drop (i + 1) xs)) closing)) (sym is)

  pub passed_at : is_some error ≡ false → first_refusal (map f (drop i xs)) closing ≡ first_refusal (map f (drop (i + 1) xs)) closing
  passed_at none = here ∙ ap (λ (o : Option Refusal). first_of o (first_refusal (map f (drop (i + 1) xs)) closing)) (sym told ∙ go error none)
    where
      go : (o : Option Error) → is_some o ≡ false → option_map refusal_of_error o ≡ None
      go None e = refl
      go (Some x) e = absurd (let w : true ≡ false = e in cc)

  pub caught_at : is_some error ≡ true → option_map refusal_of_error error ≡ first_refusal (map f (drop i xs)) closing
  caught_at some = go error some (first_refusal (map f (drop (i + 1) xs)) closing) ∙ ap (λ (o : Option Refusal). first_of o (first_refusal (map f (drop (i + 1) xs)) closing)) told ∙ sym here
    where
      go : (o : Option Error) → is_some o ≡ true → (rest : Option Refusal) → option_map refusal_of_error o ≡ first_of (option_map refusal_of_error o) rest
      go None e rest = absurd (let w : false ≡ true = e in cc)
      go (Some x) e rest = refl
