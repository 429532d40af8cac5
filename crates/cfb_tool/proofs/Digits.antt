-- The bytes of a stream, read in pieces and sent as digits.
use Rattle.std.proofs.Common.{◌≡◌, ◌∙◌, ◌+◌, ◌<◌, ◌≤◌, ◌==◌, ℕ, Bool, true, false, List, [], ◌∷◌, ◌++◌, ap, append-nil, append_assoc, arith, drop, flat_map, inl, inr, length, refl, subst, sym, take}
use Rattle.std.proofs.lemmas.Bool.{eqb-true, ltb-false}
use Rattle.std.proofs.lemmas.Grind.{flat_map-append}
use Rattle.std.proofs.lemmas.List.{length-append, length-drop, length-take-le, take_all}
use Rattle.std.proofs.Math.Seq.{take-add}
use Rattle.std.specs.Io.KnownBytes.{Appends}
use Rattle.std.specs.List.{AllByRecursion}
use Rattle.std.specs.Prelude.{◌⊎◌, ◌||◌, MatchBool, Option, Some, None, nat_lt, ⊤}
use Rattle.cfb_format.specs.Medium.{part}
use Rattle.cfb_format.specs.Refused.{IsBreak, IsInvalidData, number_of}
use Rattle.cfb_format.specs.declared.error.Error.{Error}
use Rattle.cfb_format.specs.declared.medium.MediumFault.{MediumFault}
use Rattle.cfb_format.specs.declared.error.Error.TheVariants.{NotFound, AlreadyExists, InvalidInput, InvalidData, Medium, Memory, Full, Unsound, Failed}
use Rattle.cfb_rules.specs.Refusal.{IsRefusal, Refusal, failed_earlier, file_full, invalid_data, medium_failed, out_of_memory, not_found, already_exists, invalid_input, not_sound, refusal_number}
use Rattle.cfb_rules.specs.Runs.{BlamesOneOf, Causes, IsStreamBroken, StreamCallRuns, StreamOnFailed, StreamRun}
use Rattle.cfb_rules.specs.StreamCalls.{Moves, Refuses, Serves, StreamReply, StreamSetting, StreamState, StreamStep, got, not_done, read}
use Rattle.cfb_commands.specs.Faults.{CanBeGiven}
use Rattle.cfb_lines.specs.Fields.{AddsHex, hex_pair}
use Rattle.cfb_tool.specs.Sending.{BreaksOff, IsNotReadOn, IsSent, SendsDigits, SendsPart}

-- ---- text on its way

pub appends_none : (start : Option (List ℕ)) → Appends start start []
appends_none None = tt
appends_none (Some xs) = sym (append-nil xs)

pub appends_then : (a b c : Option (List ℕ)) (xs ys : List ℕ) → Appends a b xs → Appends b c ys → Appends a c (xs ++ ys)
appends_then None b c xs ys h k = tt
appends_then (Some x) None c xs ys h k = absurd h
appends_then (Some x) (Some y) None xs ys h k = absurd k
appends_then (Some x) (Some y) (Some z) xs ys h k = k ∙ ap (λ (bs : List ℕ). bs ++ ys) h ∙ append_assoc x xs ys

pub nothing_sent : (start : Option (List ℕ)) (text : List ℕ) → IsSent start start text text
nothing_sent start text = record { front = []; written = appends_none start; rest = refl }

-- more was put behind what was left, and then a front of that was sent
pub sent_on : (a b c : Option (List ℕ)) (text left more new : List ℕ) → IsSent a b text left → IsSent b c (left ++ more) new → IsSent a c (text ++ more) new
sent_on a b c text left more new x y = record {
  front = x.front ++ y.front;
  written = appends_then a b c x.front y.front x.written y.written;
  rest = ap (λ (bs : List ℕ). bs ++ more) x.rest ∙ append_assoc x.front left more ∙ ap (λ (bs : List ℕ). x.front ++ bs) y.rest ∙ sym (append_assoc x.front y.front new);
}

-- ---- digits behind digits

bytes_joined : (xs ys : List ℕ) → AllByRecursion (λ b. b < 256) xs → AllByRecursion (λ b. b < 256) ys → AllByRecursion (λ b. b < 256) (xs ++ ys)
bytes_joined [] ys h k = k
bytes_joined (x ∷ xs) ys h k = (h.0, bytes_joined xs ys h.1 k)

pub no_digits : (text : List ℕ) → AddsHex text text []
no_digits text = ([], sym (append-nil text), (refl, tt))

pub digits_then : (old middle new xs ys : List ℕ) → AddsHex old middle xs → AddsHex middle new ys → AddsHex old new (xs ++ ys)
digits_then old middle new xs ys h k = (
  h.0 ++ k.0,
  k.1 ∙ ap (λ (bs : List ℕ). bs ++ k.0) h.1 ∙ append_assoc old h.0 k.0,
  (
    ap (λ (bs : List ℕ). bs ++ k.0) h.2.0 ∙ ap (λ (bs : List ℕ). flat_map hex_pair xs ++ bs) k.2.0 ∙ sym (flat_map-append hex_pair xs ys),
    bytes_joined xs ys h.2.1 k.2.1,
  ),
)

-- ---- one read, by the rules

got_not_done : (bytes : List ℕ) (r : Refusal) → got bytes ≡ not_done r → ⊥
got_not_done bytes r e = cc

abbrev bytes_in : StreamReply → List ℕ
bytes_in (got bytes) = bytes
bytes_in reply = []

-- bytes were served from the position on
pub record IsServed (old new : StreamState) (bytes : List ℕ) : Type 0 where
  pub inside : old.position + length bytes ≤ length old.content
  pub gives : bytes ≡ part old.content old.position (length bytes)
  pub len : new.len ≡ old.len
  pub content : new.content ≡ old.content
  pub position : new.position ≡ old.position + length bytes

part_length : (content : List ℕ) (at n : ℕ) → at + n ≤ length content → length (part content at n) ≡ n
part_length content at n inside = length-take-le n (drop at content) (omega (arith, inside, length-drop at content))

module _ (causes : Causes) (setting : StreamSetting) (old new : StreamRun) (wanted : ℕ) where
  -- a read that gives bytes
  pub served : (bytes : List ℕ) → 0 < length bytes → old.failed ≡ false → StreamCallRuns causes setting old (read wanted) (got bytes) new
      → IsServed old.stream new.stream bytes × (new.failed ≡ false)
  served bytes some = go old.failed
    where
      none : got bytes ≡ got [] → ⊥
      none is = let e : bytes ≡ [] = ap bytes_in is in omega (arith, some, ap (length {A = ℕ}) e)

      step : (a b : Bool) → MatchBool a ((got bytes ≡ got []) × Moves old.stream new.stream old.stream.position 0)
          (MatchBool b (Serves (λ n. old.stream.position + n) (λ n. 0) wanted old.stream (got bytes) new.stream) (Refuses invalid_data old.stream (got bytes) new.stream))
          → IsServed old.stream new.stream bytes
      step true b h = absurd (none h.0)
      step false true (n, least, most, inside, is, moves) =
          let gives : bytes ≡ part old.stream.content old.stream.position n = ap bytes_in is in
          let count : length bytes ≡ n = ap (length {A = ℕ}) gives ∙ part_length old.stream.content old.stream.position n inside in
          record {
            inside = omega (arith, inside, count);
            gives = gives ∙ ap (part old.stream.content old.stream.position) (sym count);
            len = moves.len;
            content = moves.content;
            position = moves.position ∙ ap (λ (m : ℕ). old.stream.position + m) (sym count);
          }
      step false false h = absurd (got_not_done bytes invalid_data h.0)

      go : (b : Bool) → b ≡ false → MatchBool b (StreamOnFailed (read wanted) (got bytes) new)
          ((StreamStep setting old.stream (read wanted) (got bytes) new.stream × (new.failed ≡ false)) ⊎ IsStreamBroken causes setting old.stream (read wanted) (got bytes) new)
          → IsServed old.stream new.stream bytes × (new.failed ≡ false)
      go true not h = cc
      go false not (inl h) = (step (wanted == 0 || old.stream.position == old.stream.len) (nat_lt old.stream.position (length old.stream.content)) h.0, h.1)
      go false not (inr (r, may, is, off, allowed)) = absurd (got_not_done bytes r is)

  -- a read before the end, with room, gives some
  pub gives_some : (bytes : List ℕ) → 0 < wanted → old.stream.position < old.stream.len → old.failed ≡ false → StreamCallRuns causes setting old (read wanted) (got bytes) new
      → 0 < length bytes
  gives_some bytes room before = go old.failed
    where
      not_yet : (x y : Bool) → (wanted == 0) ≡ x → (old.stream.position == old.stream.len) ≡ y → (x || y) ≡ true → ⊥
      not_yet true y e f h = let none = eqb-true wanted 0 e in omega (arith, none, room)
      not_yet false true e f h = let ends = eqb-true old.stream.position old.stream.len f in omega (arith, ends, before)
      not_yet false false e f h = cc

      step : (a b : Bool) → (wanted == 0 || old.stream.position == old.stream.len) ≡ a
          → MatchBool a ((got bytes ≡ got []) × Moves old.stream new.stream old.stream.position 0)
          (MatchBool b (Serves (λ n. old.stream.position + n) (λ n. 0) wanted old.stream (got bytes) new.stream) (Refuses invalid_data old.stream (got bytes) new.stream))
          → 0 < length bytes
      step true b e h = absurd (not_yet (wanted == 0) (old.stream.position == old.stream.len) refl refl e)
      step false true e (n, least, most, inside, is, moves) =
          let gives : bytes ≡ part old.stream.content old.stream.position n = ap bytes_in is in
          let count : length bytes ≡ n = ap (length {A = ℕ}) gives ∙ part_length old.stream.content old.stream.position n inside in
          omega (arith, least, count)
      step false false e h = absurd (got_not_done bytes invalid_data h.0)

      go : (b : Bool) → b ≡ false → MatchBool b (StreamOnFailed (read wanted) (got bytes) new)
          ((StreamStep setting old.stream (read wanted) (got bytes) new.stream × (new.failed ≡ false)) ⊎ IsStreamBroken causes setting old.stream (read wanted) (got bytes) new)
          → 0 < length bytes
      go true not h = cc
      go false not (inl h) = step (wanted == 0 || old.stream.position == old.stream.len) (nat_lt old.stream.position (length old.stream.content)) refl h.0
      go false not (inr (r, may, is, off, allowed)) = absurd (got_not_done bytes r is)

  -- a read that is refused before the end: the rest can't be read, or it broke off
  abbrev IsCutOrBroken : Refusal → Type 0
  IsCutOrBroken r = ((r ≡ invalid_data) × (length old.stream.content ≤ old.stream.position)) ⊎ BlamesOneOf ⊤ ⊤ causes.full r

  refused_so : (r : Refusal) → old.failed ≡ false → StreamCallRuns causes setting old (read wanted) (not_done r) new → IsCutOrBroken r
  refused_so r = go old.failed
    where
      same : (s : Refusal) → not_done r ≡ not_done s → r ≡ s
      same s e = cc

      step : (a b : Bool) → nat_lt old.stream.position (length old.stream.content) ≡ b
          → MatchBool a ((not_done r ≡ got []) × Moves old.stream new.stream old.stream.position 0)
          (MatchBool b (Serves (λ n. old.stream.position + n) (λ n. 0) wanted old.stream (not_done r) new.stream) (Refuses invalid_data old.stream (not_done r) new.stream))
          → IsCutOrBroken r
      step true b e h = absurd (got_not_done [] r (sym h.0))
      step false true e (n, least, most, inside, is, moves) = absurd (got_not_done _ r (sym is))
      step false false e h = inl (same invalid_data h.0, ltb-false old.stream.position (length old.stream.content) e)

      any_medium : (medium full full' : Type 0) → (full → full') → (s : Refusal) → BlamesOneOf medium ⊤ full s → BlamesOneOf ⊤ ⊤ full' s
      any_medium medium full full' f medium_failed h = tt
      any_medium medium full full' f out_of_memory h = tt
      any_medium medium full full' f file_full h = f h
      any_medium medium full full' f not_found h = absurd h
      any_medium medium full full' f already_exists h = absurd h
      any_medium medium full full' f invalid_input h = absurd h
      any_medium medium full full' f invalid_data h = absurd h
      any_medium medium full full' f not_sound h = absurd h
      any_medium medium full full' f failed_earlier h = absurd h

      blamed : (pending : Bool) (s : Refusal) → MatchBool pending (BlamesOneOf causes.medium ⊤ causes.full s) (BlamesOneOf causes.medium ⊤ ⊥ s) → BlamesOneOf ⊤ ⊤ causes.full s
      blamed true s h = any_medium causes.medium causes.full causes.full (λ x. x) s h
      blamed false s h = any_medium causes.medium ⊥ causes.full (λ x. absurd x) s h

      go : (b : Bool) → b ≡ false → MatchBool b (StreamOnFailed (read wanted) (not_done r) new)
          ((StreamStep setting old.stream (read wanted) (not_done r) new.stream × (new.failed ≡ false)) ⊎ IsStreamBroken causes setting old.stream (read wanted) (not_done r) new)
          → IsCutOrBroken r
      go true not h = cc
      go false not (inl h) = step (wanted == 0 || old.stream.position == old.stream.len) (nat_lt old.stream.position (length old.stream.content)) refl h.0
      go false not (inr (s, may, is, off, allowed)) = inr (subst (λ (q : Refusal). BlamesOneOf ⊤ ⊤ causes.full q) (sym (same s is)) (blamed old.stream.pending s may))

medium_error : (e : Error) → number_of e ≡ 5 → IsBreak ⊥ e
medium_error (Medium f) is = tt
medium_error Memory is = tt
medium_error (NotFound d) is = absurd (omega (arith, is))
medium_error (AlreadyExists d) is = absurd (omega (arith, is))
medium_error (InvalidInput d) is = absurd (omega (arith, is))
medium_error (InvalidData d) is = absurd (omega (arith, is))
medium_error Full is = absurd (omega (arith, is))
medium_error Unsound is = absurd (omega (arith, is))
medium_error Failed is = absurd (omega (arith, is))

memory_error : (e : Error) → number_of e ≡ 6 → IsBreak ⊥ e
memory_error (Medium f) is = tt
memory_error Memory is = tt
memory_error (NotFound d) is = absurd (omega (arith, is))
memory_error (AlreadyExists d) is = absurd (omega (arith, is))
memory_error (InvalidInput d) is = absurd (omega (arith, is))
memory_error (InvalidData d) is = absurd (omega (arith, is))
memory_error Full is = absurd (omega (arith, is))
memory_error Unsound is = absurd (omega (arith, is))
memory_error Failed is = absurd (omega (arith, is))

-- where no number is blamed the medium or memory is
breaks : (r : Refusal) (e : Error) → IsRefusal r e → BlamesOneOf ⊤ ⊤ ⊥ r → IsBreak ⊥ e
breaks medium_failed e is h = medium_error e is
breaks out_of_memory e is h = memory_error e is
breaks file_full e is h = absurd h
breaks not_found e is h = absurd h
breaks already_exists e is h = absurd h
breaks invalid_input e is h = absurd h
breaks invalid_data e is h = absurd h
breaks not_sound e is h = absurd h
breaks failed_earlier e is h = absurd h

-- a read that was refused before the end, where no number is blamed
pub cut_or_broken : (medium : Type 0) (setting : StreamSetting) (old new : StreamRun) (wanted : ℕ) (r : Refusal) (e : Error) → old.failed ≡ false → IsRefusal r e
    → StreamCallRuns (record { medium = medium; full = ⊥ }) setting old (read wanted) (not_done r) new
    → (IsInvalidData e × (length old.stream.content ≤ old.stream.position)) ⊎ IsBreak ⊥ e
cut_or_broken medium setting old new wanted r e unfailed is runs = go (refused_so (record { medium = medium; full = ⊥ }) setting old new wanted r unfailed runs)
  where
    go : ((r ≡ invalid_data) × (length old.stream.content ≤ old.stream.position)) ⊎ BlamesOneOf ⊤ ⊤ ⊥ r
        → (IsInvalidData e × (length old.stream.content ≤ old.stream.position)) ⊎ IsBreak ⊥ e
    go (inl (x, y)) = inl (is ∙ ap refusal_number x, y)
    go (inr h) = inr (breaks r e is h)

-- what broke off did so by a fault that the medium can give, or for memory
pub broken_so : (can_give : MediumFault → Bool) (e : Error) → CanBeGiven can_give e → IsBreak ⊥ e → BreaksOff can_give e
broken_so can_give (Medium f) given h = given
broken_so can_give Memory given h = tt
broken_so can_give (NotFound d) given h = absurd h
broken_so can_give (AlreadyExists d) given h = absurd h
broken_so can_give (InvalidInput d) given h = absurd h
broken_so can_give (InvalidData d) given h = absurd h
broken_so can_give Full given h = absurd h
broken_so can_give Unsound given h = absurd h
broken_so can_give Failed given h = absurd h

-- ---- along a stream

-- so many bytes are left; those before were sent
pub record SendsAlong (first : StreamState) (run : StreamRun) (left : ℕ) (start now : Option (List ℕ)) (old new : List ℕ) : Type 0 where
  pub done : List ℕ
  pub unfailed : run.failed ≡ false
  pub len : run.stream.len ≡ first.len
  pub content : run.stream.content ≡ first.content
  pub position : run.stream.position ≡ length done
  pub inside : length done ≤ length first.content
  pub taken : done ≡ take (length done) first.content
  pub rest : length done + left ≡ first.len
  pub text : List ℕ
  pub digits : AddsHex old text done
  pub sent : IsSent start now text new

pub begins_along : (run : StreamRun) (start : Option (List ℕ)) (old : List ℕ) → run.failed ≡ false → run.stream.position ≡ 0
    → SendsAlong run.stream run run.stream.len start start old old
begins_along run start old unfailed begins = record {
  done = [];
  unfailed = unfailed;
  len = refl;
  content = refl;
  position = begins;
  inside = omega arith;
  taken = refl;
  rest = omega arith;
  text = old;
  digits = no_digits old;
  sent = nothing_sent start old;
}

module _ (first : StreamState) (run next : StreamRun) (left count : ℕ) (start now later : Option (List ℕ)) (old text middle new bytes : List ℕ)
    (along : SendsAlong first run left start now old text) (counted : length bytes ≡ count) (served_so : IsServed run.stream next.stream bytes × (next.failed ≡ false)) where
  abbrev all_done : List ℕ
  all_done = along.done ++ bytes

  done_length : length all_done ≡ length along.done + count
  done_length = length-append along.done bytes ∙ ap (λ (n : ℕ). length along.done + n) counted

  lies_inside : length along.done + count ≤ length first.content
  lies_inside = omega (arith, served_so.0.inside, along.position, ap (length {A = ℕ}) along.content, counted)

  pub piece_fits : length first.content ≤ first.len → count ≤ left
  piece_fits readable = omega (arith, lies_inside, readable, along.rest)

  piece_taken : bytes ≡ take count (drop (length along.done) first.content)
  piece_taken =
      served_so.0.gives
      ∙ ap (part run.stream.content run.stream.position) counted
      ∙ ap (λ (bs : List ℕ). part bs run.stream.position count) along.content
      ∙ ap (λ (at : ℕ). part first.content at count) along.position

  pub goes_along : (rest : ℕ) → rest + count ≡ left → AddsHex text middle bytes → IsSent now later middle new → SendsAlong first next rest start later old new
  goes_along rest is hex sent = record {
    done = all_done;
    unfailed = served_so.1;
    len = served_so.0.len ∙ along.len;
    content = served_so.0.content ∙ along.content;
    position = omega (arith, served_so.0.position, along.position, done_length, counted);
    inside = omega (arith, lies_inside, done_length);
    taken = ap (λ (bs : List ℕ). bs ++ bytes) along.taken
        ∙ ap (λ (bs : List ℕ). take (length along.done) first.content ++ bs) piece_taken
        ∙ sym (take-add (length along.done) count first.content)
        ∙ ap (λ (n : ℕ). take n first.content) (sym done_length);
    rest = omega (arith, done_length, along.rest, is);
    text = along.text ++ hex.0;
    digits = digits_then old along.text (along.text ++ hex.0) along.done bytes along.digits (hex.0, refl, hex.2);
    sent = sent_on start now later along.text text hex.0 new along.sent (subst (λ (bs : List ℕ). IsSent now later bs new) hex.1 sent);
  }

pub ends_along : (first : StreamState) (run : StreamRun) (start now : Option (List ℕ)) (old new : List ℕ) → length first.content ≤ first.len → (left : ℕ) → left ≡ 0
    → SendsAlong first run left start now old new → SendsDigits first start now old new
ends_along first run start now old new readable left none along =
    let count : length along.done ≡ first.len = omega (arith, along.rest, none) in
    let all : length first.content ≤ length along.done = omega (arith, readable, count) in
    let is : along.done ≡ first.content = along.taken ∙ take_all (length along.done) first.content all in
    record {
      whole = sym count ∙ ap (length {A = ℕ}) is;
      text = along.text;
      digits = subst (AddsHex old along.text) is along.digits;
      sent = along.sent;
    }

-- a read on the way, with room, gives some bytes, and no more than are left
pub piece_between : (causes : Causes) (setting : StreamSetting) (first : StreamState) (run next : StreamRun) (left wanted count : ℕ) (start now : Option (List ℕ)) (old text bytes : List ℕ)
    → SendsAlong first run left start now old text → length first.content ≤ first.len → 0 < wanted → 0 < left → length bytes ≡ count
    → StreamCallRuns causes setting run (read wanted) (got bytes) next → (0 < count) × (count ≤ left)
piece_between causes setting first run next left wanted count start now old text bytes along readable room some counted runs =
    let before : run.stream.position < run.stream.len = omega (arith, along.position, along.len, along.rest, some) in
    let gives : 0 < length bytes = gives_some causes setting run next wanted bytes room before along.unfailed runs in
    let so = served causes setting run next wanted bytes gives along.unfailed runs in (
      omega (arith, gives, counted),
      piece_fits first run next left count start now start old text text text bytes along counted so readable,
    )

-- what was sent on the way
pub part_along : (first : StreamState) (run : StreamRun) (left : ℕ) (start now : Option (List ℕ)) (old new : List ℕ) → SendsAlong first run left start now old new
    → SendsPart first start now old
part_along first run left start now old new along = record {
  count = length along.done;
  text = along.text;
  digits = subst (AddsHex old along.text) along.taken along.digits;
  sent = (new, along.sent);
}

pub part_of_all : (z : StreamState) (start now : Option (List ℕ)) (old new : List ℕ) → SendsDigits z start now old new → SendsPart z start now old
part_of_all z start now old new sends = record {
  count = length z.content;
  text = sends.text;
  digits = subst (AddsHex old sends.text) (sym (take_all (length z.content) z.content (omega arith))) sends.digits;
  sent = (new, sends.sent);
}

-- a refusal on the way
pub refused_along : (can_give : MediumFault → Bool) (first : StreamState) (run : StreamRun) (left : ℕ) (start now : Option (List ℕ)) (old new : List ℕ) (e : Error) → 0 < left
    → SendsAlong first run left start now old new → CanBeGiven can_give e
    → (IsInvalidData e × (length run.stream.content ≤ run.stream.position)) ⊎ IsBreak ⊥ e → IsNotReadOn can_give first e
refused_along can_give first run left start now old new e some along given (inr h) = inr (broken_so can_give e given h)
refused_along can_give first run left start now old new e some along given (inl (x, y)) =
    inl (x, omega (arith, y, some, along.position, ap (length {A = ℕ}) along.content, along.rest))
