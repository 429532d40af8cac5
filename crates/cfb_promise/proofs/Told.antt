-- Which errors the replies tell.
use Rattle.std.proofs.Common.{◌≡◌, ◌∙◌, List, [], ◌∷◌, Bool, true, false, refl, sym, ap, arith}
use Rattle.std.specs.Prelude.{◌&&◌, ◌||◌, All, Result, Ok, Err, IfErr, flat_map, map}
use Rattle.std.specs.List.{list_all, list_any}
use Rattle.std.proofs.lemmas.List.Concat.{flat_map-cons}
use Rattle.std.proofs.lemmas.List.Elements.{All-head, All-tail}
use Rattle.std.proofs.lemmas.List.Folds.{list_all-append, list_any-append}
use Rattle.cfb_format.specs.declared.error.Error.{Error}
use Rattle.cfb_format.specs.declared.error.Error.TheVariants.{InvalidInput, NotFound, Medium, Memory, Full}
use Rattle.cfb_format.specs.declared.medium.MediumFault.TheVariants as fault
use Rattle.cfb_format.specs.Memory.{is_refused_growth}
use Rattle.cfb_rules.specs.Lists.{blame_in, blame_of, closing_blame, command_blame, stream_replies_blame, stream_reply_blame}
use Rattle.cfb_rules.specs.Refusal.{Refusal, file_full, medium_failed, out_of_memory}
use Rattle.cfb_compound_file.specs.Asking.{IsOfAsking}
use Rattle.cfb_commands.specs.Commands.{command_reply_of, refusal_of_error, refusal_of_result, stream_reply_of}
use Rattle.cfb_commands.specs.Failing.{IsAsked}
use Rattle.cfb_commands.specs.Faults.{CanBeGiven, IsAnswerGiven}
use Rattle.cfb_commands.specs.Faults as faults
use Rattle.cfb_commands.specs.declared.command.Reply.{Reply}
use Rattle.cfb_commands.specs.declared.command.Reply.TheVariants as reply
use Rattle.cfb_commands.specs.declared.command.StreamReply.{StreamReply}
use Rattle.cfb_commands.specs.declared.command.StreamReply.TheVariants as answer
use Rattle.cfb_promise.specs.Errors.{AreTold, IsGiven, error_in, errors_in, errors_of_answer, is_of_asking, is_of_memory, tells_lack}
use Rattle.cfb_promise.specs.Promise.{IsTold}

left_false : (a b : Bool) → (a || b) ≡ false → a ≡ false
left_false true b h = absurd (cc)
left_false false b h = refl

right_false : (a b : Bool) → (a || b) ≡ false → b ≡ false
right_false true b h = absurd (cc)
right_false false b h = h

both_true : (a b : Bool) → a ≡ true → b ≡ true → (a && b) ≡ true
both_true true b e f = f
both_true false b e f = absurd (cc)

-- ---- where no error tells a lack, nothing is blamed for one

module _ (b : Refusal) (zero : (e : Error) → tells_lack e ≡ false → blame_of b (refusal_of_error e) ≡ 0) where
  closing_zero : {T : Type 0} (result : Result T Error) → list_any tells_lack (error_in result) ≡ false → closing_blame b (refusal_of_result result) ≡ 0
  closing_zero (Ok x) h = refl
  closing_zero (Err e) h = zero e (left_false (tells_lack e) false h)

  module _ {A : Type 0} where
    answer_zero : (a : StreamReply A) → list_any tells_lack (errors_of_answer a) ≡ false → stream_reply_blame b (stream_reply_of a) ≡ 0
    answer_zero (answer.Bytes (Ok x)) h = refl
    answer_zero (answer.Bytes (Err e)) h = zero e (left_false (tells_lack e) false h)
    answer_zero (answer.Count (Ok x)) h = refl
    answer_zero (answer.Count (Err e)) h = zero e (left_false (tells_lack e) false h)
    answer_zero (answer.Place (Ok x)) h = refl
    answer_zero (answer.Place (Err e)) h = zero e (left_false (tells_lack e) false h)
    answer_zero (answer.Done (Ok x)) h = refl
    answer_zero (answer.Done (Err e)) h = zero e (left_false (tells_lack e) false h)

    answers_zero : (xs : List (StreamReply A)) → list_any tells_lack (flat_map errors_of_answer xs) ≡ false → stream_replies_blame b (map stream_reply_of xs) ≡ 0
    answers_zero [] h = refl
    answers_zero (a ∷ xs) h =
        let both = sym (ap (list_any tells_lack) (flat_map-cons errors_of_answer a xs) ∙ list_any-append tells_lack (errors_of_answer a) (flat_map errors_of_answer xs)) ∙ h in
        let first = answer_zero a (left_false (list_any tells_lack (errors_of_answer a)) (list_any tells_lack (flat_map errors_of_answer xs)) both) in
        let rest = answers_zero xs (right_false (list_any tells_lack (errors_of_answer a)) (list_any tells_lack (flat_map errors_of_answer xs)) both) in
        omega (arith, first, rest)

    reply_zero : (r : Reply A) → list_any tells_lack (errors_in r) ≡ false → command_blame b (command_reply_of r) ≡ 0
    reply_zero (reply.Done (Ok x)) h = refl
    reply_zero (reply.Done (Err e)) h = zero e (left_false (tells_lack e) false h)
    reply_zero (reply.Flag x) h = refl
    reply_zero (reply.Entry (Ok x)) h = refl
    reply_zero (reply.Entry (Err e)) h = zero e (left_false (tells_lack e) false h)
    reply_zero (reply.Entries (Ok x)) h = refl
    reply_zero (reply.Entries (Err e)) h = zero e (left_false (tells_lack e) false h)
    reply_zero (reply.Stream (Err e)) h = zero e (left_false (tells_lack e) false h)
    reply_zero (reply.Stream (Ok works)) h =
        let both = sym (list_any-append tells_lack (flat_map errors_of_answer works.0.items) (error_in works.1)) ∙ h in
        let first = answers_zero works.0.items (left_false (list_any tells_lack (flat_map errors_of_answer works.0.items)) (list_any tells_lack (error_in works.1)) both) in
        let last = closing_zero works.1 (right_false (list_any tells_lack (flat_map errors_of_answer works.0.items)) (list_any tells_lack (error_in works.1)) both) in
        omega (arith, first, last)

    replies_zero : (rs : List (Reply A)) → list_any tells_lack (flat_map errors_in rs) ≡ false → blame_in b (map command_reply_of rs) ≡ 0
    replies_zero [] h = refl
    replies_zero (r ∷ rs) h =
        let both = sym (ap (list_any tells_lack) (flat_map-cons errors_in r rs) ∙ list_any-append tells_lack (errors_in r) (flat_map errors_in rs)) ∙ h in
        let first = reply_zero r (left_false (list_any tells_lack (errors_in r)) (list_any tells_lack (flat_map errors_in rs)) both) in
        let rest = replies_zero rs (right_false (list_any tells_lack (errors_in r)) (list_any tells_lack (flat_map errors_in rs)) both) in
        omega (arith, first, rest)

medium_zero : (e : Error) → tells_lack e ≡ false → blame_of medium_failed (refusal_of_error e) ≡ 0
medium_zero (Medium f) h = absurd (cc)
medium_zero e h = refl

memory_zero : (e : Error) → tells_lack e ≡ false → blame_of out_of_memory (refusal_of_error e) ≡ 0
memory_zero Memory h = absurd (cc)
memory_zero e h = refl

full_zero : (e : Error) → tells_lack e ≡ false → blame_of file_full (refusal_of_error e) ≡ 0
full_zero Full h = absurd (cc)
full_zero e h = refl

-- what is blamed is told by an error
pub told_here : {A : Type 0} (rs : List (Reply A)) → IsTold (map command_reply_of rs) → AreTold rs
told_here rs told = go (list_any tells_lack (flat_map errors_in rs)) refl
  where
    go : (b : Bool) → list_any tells_lack (flat_map errors_in rs) ≡ b → b ≡ true
    go true e = refl
    go false e =
        let m = replies_zero medium_failed medium_zero rs e in
        let o = replies_zero out_of_memory memory_zero rs e in
        let f = replies_zero file_full full_zero rs e in
        absurd (omega (arith, told, m, o, f))

-- ---- faults, and what only looks

memory_alone : (e : Error) → CanBeGiven is_refused_growth e → is_of_memory e ≡ true
memory_alone (Medium fault.Memory) h = refl
memory_alone (Medium f) h = absurd (let w : false ≡ true = h in cc)
memory_alone e h = refl

asked_alone : (e : Error) → IsOfAsking e → is_of_asking e ≡ true
asked_alone (InvalidInput d) h = refl
asked_alone (NotFound d) h = refl
asked_alone Memory h = refl
asked_alone e h = absurd h

result_given : {T : Type 0} (result : Result T Error) → IfErr result (CanBeGiven is_refused_growth) → list_all is_of_memory (error_in result) ≡ true
result_given (Ok x) h = refl
result_given (Err e) h = both_true (is_of_memory e) true (memory_alone e h) refl

result_asked : {T : Type 0} (result : Result T Error) → IfErr result IsOfAsking → list_all is_of_asking (error_in result) ≡ true
result_asked (Ok x) h = refl
result_asked (Err e) h = both_true (is_of_asking e) true (asked_alone e h) refl

module _ {A : Type 0} where
  answer_given : (a : StreamReply A) → IsAnswerGiven is_refused_growth a → list_all is_of_memory (errors_of_answer a) ≡ true
  answer_given (answer.Bytes result) h = result_given result h
  answer_given (answer.Count result) h = result_given result h
  answer_given (answer.Place result) h = result_given result h
  answer_given (answer.Done result) h = result_given result h

  answers_given : (xs : List (StreamReply A)) → All (IsAnswerGiven is_refused_growth) xs → list_all is_of_memory (flat_map errors_of_answer xs) ≡ true
  answers_given [] h = refl
  answers_given (a ∷ xs) h =
      ap (list_all is_of_memory) (flat_map-cons errors_of_answer a xs) ∙ list_all-append is_of_memory (errors_of_answer a) (flat_map errors_of_answer xs)
      ∙ both_true (list_all is_of_memory (errors_of_answer a)) (list_all is_of_memory (flat_map errors_of_answer xs))
      (answer_given a (All-head (IsAnswerGiven is_refused_growth) a xs h)) (answers_given xs (All-tail (IsAnswerGiven is_refused_growth) a xs h))

  pub given_here : (r : Reply A) → faults.IsGiven is_refused_growth r → IsAsked r → IsGiven r
  given_here (reply.Done result) g a = result_given result g
  given_here (reply.Flag x) g a = refl
  given_here (reply.Entry result) g a = result_asked result a
  given_here (reply.Entries result) g a = result_asked result a
  given_here (reply.Stream (Err e)) g a = both_true (is_of_memory e) true (memory_alone e g) refl
  given_here (reply.Stream (Ok works)) g a =
      list_all-append is_of_memory (flat_map errors_of_answer works.0.items) (error_in works.1)
      ∙ both_true (list_all is_of_memory (flat_map errors_of_answer works.0.items)) (list_all is_of_memory (error_in works.1)) (answers_given works.0.items g.0) (result_given works.1 g.1)

  -- of each reply
  pub all_given : (rs : List (Reply A)) → All (faults.IsGiven is_refused_growth) rs → All IsAsked rs → All IsGiven rs
  all_given rs g a k d lt = given_here _ (g k d lt) (a k d lt)
