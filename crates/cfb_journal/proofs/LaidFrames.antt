-- Frames that are laid over what was read.
use Rattle.std.proofs.Common.{◌≡◌, ◌≢◌, ◌⊎◌, inl, inr, ℕ, zero, suc, ◌+◌, ◌-◌, ◌<◌, ◌≤◌, IsTrue, List, [], ◌∷◌, length, take, drop, slice_index, max, min, refl, sym, ◌∙◌, ap, subst, arith, Some, length-take, get_or-take, Bool}
use Rattle.std.proofs.lemmas.Bool.{cases_lt}
use Rattle.std.proofs.lemmas.List.{ext_get_or, take_all}
use Rattle.cfb_format.specs.Bytes.{long_at}
use Rattle.cfb_format.specs.Medium.{part, written, ReadsAt}
use Rattle.cfb_format.specs.declared.medium.MediumFault.{MediumFault}
use Rattle.cfb_format.proofs.ByteLemmas.{length-written, written_below, written_at, written_above, part_at, length-part, part-written_apart}
use Rattle.cfb_journal.specs.Journal.{applied, frames_of, are_whole, is_whole, body_of, recovered, stamped, LieWithin, BeginsWith}
use Rattle.cfb_journal.specs.Seen.{frames_behind, looked, IsPartAt, ShowsFrames}
use Rattle.cfb_journal.proofs.Applying.{whole_parts}
use Rattle.cfb_journal.proofs.Files.{restores_shut, recovered_changing, recovered_committed}
use Rattle.cfb_journal.proofs.Tables.{applied-length}

-- ---- what the two files stand for

pub looked_shut : (file journal : List ℕ) (len : ℕ) → len ≡ length file → slice_index journal 17 ≢ 1 → recovered (record { file = file; journal = journal }) ≡ Some (looked journal 0 len file)
looked_shut file journal len is shut =
    restores_shut (record { file = file; journal = journal }) shut
    ∙ ap Some (sym (take_all len file (let past : length file ≤ len = omega (arith, is) in past)))

pub looked_committed : (file journal : List ℕ) (len : ℕ) → len ≡ length file → slice_index journal 17 ≡ 1 → slice_index journal 16 ≡ 1 → IsTrue (is_whole (body_of journal)) → long_at (body_of journal) 0 ≡ len
    → recovered (record { file = file; journal = journal }) ≡ stamped (long_at (body_of journal) 8) (looked journal (long_at (body_of journal) 16) len file)
looked_committed file journal len is change commit whole sized =
    recovered_committed (record { file = file; journal = journal }) change commit whole (sized ∙ is)
    ∙ ap (λ (f : List ℕ). stamped (long_at (body_of journal) 8) (applied (frames_of (long_at (body_of journal) 16) (frames_behind journal)) f)) (sym (take_all len file (let past : length file ≤ len = omega (arith, is) in past)))

pub looked_changing : (file journal : List ℕ) (len base : ℕ) → len ≡ length file → slice_index journal 17 ≡ 1 → slice_index journal 16 ≢ 1 → base ≡ long_at journal 0 → base ≤ len
    → recovered (record { file = file; journal = journal }) ≡ stamped (long_at journal 8) (looked journal 0 base file)
looked_changing file journal len base is change commit base_is within =
    recovered_changing (record { file = file; journal = journal }) base change commit (sym base_is) (omega (arith, is, within))

-- ---- one frame

module _ (file : List ℕ) (place : ℕ) (framed : List ℕ) (at n : ℕ) (inside : at + n ≤ length file) (within : place + length framed ≤ length file) where
  -- a frame that meets what was read
  pub part_laid : (first last : ℕ) → first ≡ max place at → last ≡ min (at + n) (place + length framed) → first ≤ last
      → part (written file place framed) at n ≡ written (part file at n) (first - at) (part framed (first - place) (last - first))
  part_laid first last first_is last_is some =
      let size = length-written file place framed in
      let was : length (part file at n) ≡ n = omega (arith, length-part file at n, inside) in
      let piece : length (part framed (first - place) (last - first)) ≡ last - first = omega (arith, length-part framed (first - place) (last - first), first_is, last_is) in
      let put = length-written (part file at n) (first - at) (part framed (first - place) (last - first)) in
      let now : length (part (written file place framed) at n) ≡ n = omega (arith, length-part (written file place framed) at n, size, inside) in
      ext_get_or 0 _ _ (omega (arith, now, put, was, piece, first_is, last_is, some))
      (λ i less. let low : i < n = omega (arith, now) in
      part_at (written file place framed) at n i low
      ∙ elim (cases_lt (at + i) place) [
        | inl before ↦
            written_below file place framed (at + i) before
            ∙ sym (written_below (part file at n) (first - at) (part framed (first - place) (last - first)) i (omega (arith, first_is, before)) ∙ part_at file at n i low)
        | inr from ↦
            elim (cases_lt (at + i) (place + length framed)) [
              | inr behind ↦
                  written_above file place framed (at + i) behind
                  ∙ sym (written_above (part file at n) (first - at) (part framed (first - place) (last - first)) i (omega (arith, piece, first_is, last_is, some, behind)) ∙ part_at file at n i low)
              | inl middle ↦
                  let j = at + i - first in
                  let here : place + (first - place + j) ≡ at + i = omega (arith, first_is, from) in
                  let there : first - at + j ≡ i = omega (arith, first_is, from) in
                  let short : j < last - first = omega (arith, first_is, last_is, from, middle, low) in
                  ap (slice_index (written file place framed)) (sym here) ∙ written_at file place framed (first - place + j) (omega (arith, here, middle))
                  ∙ sym (ap (slice_index (written (part file at n) (first - at) (part framed (first - place) (last - first)))) (sym there)
                  ∙ written_at (part file at n) (first - at) (part framed (first - place) (last - first)) j (omega (arith, piece, short))
                  ∙ part_at framed (first - place) (last - first) j short)
            ]
      ])

pub shows_laid : (at : ℕ) (old new : List ℕ) (place : ℕ) (framed : List ℕ) (first last : ℕ) → first ≡ max place at → last ≡ min (at + length old) (place + length framed) → first ≤ last
    → new ≡ written old (first - at) (part framed (first - place) (last - first)) → ShowsFrames ((place, framed) ∷ []) at old new
shows_laid at old new place framed first last first_is last_is some is =
    let piece : length (part framed (first - place) (last - first)) ≡ last - first = omega (arith, length-part framed (first - place) (last - first), first_is, last_is) in
    let same : length new ≡ length old = omega (arith, ap length is, length-written old (first - at) (part framed (first - place) (last - first)), piece, first_is, last_is, some) in
    record {
      same_length = same;
      shows = λ file lie inside shown.
          is ∙ ap (λ (b : List ℕ). written b (first - at) (part framed (first - place) (last - first))) shown
          ∙ sym (part_laid file place framed at (length old) inside lie.0 first last first_is last_is some)
          ∙ ap (part (written file place framed) at) (sym same);
    }

pub shows_apart : (at : ℕ) (old : List ℕ) (place : ℕ) (framed : List ℕ) → (at + length old ≤ place) ⊎ (place + length framed ≤ at) → ShowsFrames ((place, framed) ∷ []) at old old
shows_apart at old place framed apart =
    record {
      same_length = refl;
      shows = λ file lie inside shown.
          shown ∙ sym (part-written_apart file place framed at (length old) inside (λ less. elim apart [ inl before ↦ absurd (omega (arith, before, less)) | inr behind ↦ behind ]));
    }

-- ---- frames one after the other

-- how far they were laid: `left` of them are still in `rest`
pub record Laid (limit count : ℕ) (bytes : List ℕ) (left : ℕ) (rest : List ℕ) (at : ℕ) (old now : List ℕ) : Type 0 where
  pub whole : IsTrue (are_whole limit left rest)
  pub same_length : length now ≡ length old
  pub shows : (file : List ℕ) → LieWithin (length file) (frames_of count bytes) → at + length old ≤ length file → IsPartAt at old file
      → (later : List ℕ) × (length later ≡ length file) × IsPartAt at now later × LieWithin (length later) (frames_of left rest) × (applied (frames_of left rest) later ≡ applied (frames_of count bytes) file)

pub laid_none : (limit count : ℕ) (bytes : List ℕ) (at : ℕ) (old : List ℕ) → IsTrue (are_whole limit count bytes) → Laid limit count bytes count bytes at old old
laid_none limit count bytes at old whole =
    record { whole = whole; same_length = refl; shows = λ file lie inside shown. (file, refl, shown, lie, refl) }

laid_step : (limit count : ℕ) (bytes : List ℕ) (n : ℕ) (rest after : List ℕ) (at : ℕ) (old now next : List ℕ) → after ≡ drop (16 + long_at rest 8) rest
    → Laid limit count bytes (suc n) rest at old now → ShowsFrames ((long_at rest 0, part rest 16 (long_at rest 8)) ∷ []) at now next → Laid limit count bytes n after at old next
laid_step limit count bytes n rest after at old now next after_is laid shows =
    subst (λ (r : List ℕ). Laid limit count bytes n r at old next) (sym after_is)
    (record {
      whole = (whole_parts limit n rest laid.whole).2;
      same_length = shows.same_length ∙ laid.same_length;
      shows = λ file lie inside shown.
          let was = laid.shows file lie inside shown in
          let p = long_at rest 0 in
          let f = part rest 16 (long_at rest 8) in
          let size : length (written was.0 p f) ≡ length was.0 = omega (arith, length-written was.0 p f, was.3.0) in (
            written was.0 p f,
            size ∙ was.1,
            shows.shows was.0 (was.3.0, tt) (omega (arith, laid.same_length, was.1, inside)) was.2,
            subst (λ k. LieWithin k (frames_of n (drop (16 + long_at rest 8) rest))) (sym size) was.3.1,
            was.4,
          );
    })

pub laid_next : (limit count : ℕ) (bytes : List ℕ) (left : ℕ) (rest after : List ℕ) (place : ℕ) (framed : List ℕ) (at : ℕ) (old now next : List ℕ) → 0 < left → BeginsWith rest place framed after
    → Laid limit count bytes left rest at old now → ShowsFrames ((place, framed) ∷ []) at now next → Laid limit count bytes (left - 1) after at old next
laid_next limit count bytes zero rest after place framed at old now next some begins laid shows = absurd (omega arith)
laid_next limit count bytes (suc n) rest after place framed at old now next some begins laid shows =
    let less : suc n - 1 ≡ n = omega arith in
    subst (λ k. Laid limit count bytes k after at old next) (sym less)
    (laid_step limit count bytes n rest after at old now next begins.rest_is laid
    (subst (λ (f : List ℕ). ShowsFrames ((long_at rest 0, f) ∷ []) at now next) begins.framed_is (subst (λ p. ShowsFrames ((p, framed) ∷ []) at now next) begins.place_is shows)))

pub laid_all : (limit count : ℕ) (bytes : List ℕ) (left : ℕ) (rest : List ℕ) (at : ℕ) (old now : List ℕ) → left ≡ 0 → Laid limit count bytes left rest at old now → ShowsFrames (frames_of count bytes) at old now
laid_all limit count bytes zero rest at old now none laid =
    record {
      same_length = laid.same_length;
      shows = λ file lie inside shown. let was = laid.shows file lie inside shown in was.2 ∙ ap (λ (f : List ℕ). part f at (length now)) was.4;
    }
laid_all limit count bytes (suc n) rest at old now none laid = absurd (omega arith)

-- the next frame of those that are whole is there
pub next_there : (limit left : ℕ) (rest : List ℕ) → 0 < left → IsTrue (are_whole limit left rest) → (16 + long_at rest 8 ≤ length rest) × (long_at rest 0 + long_at rest 8 ≤ limit)
next_there limit zero rest some whole = absurd (omega arith)
next_there limit (suc n) rest some whole = let parts = whole_parts limit n rest whole in (parts.0, parts.1)

-- ---- what is read

pub whole_lies : (limit n : ℕ) (bytes : List ℕ) → IsTrue (are_whole limit n bytes) → LieWithin limit (frames_of n bytes)
whole_lies limit zero bytes whole = tt
whole_lies limit (suc n) bytes whole =
    let parts = whole_parts limit n bytes whole in
    (omega (arith, parts.1, length-part bytes 16 (long_at bytes 8)), whole_lies limit n (drop (16 + long_at bytes 8) bytes) parts.2)

module _ (journal : List ℕ) (count len : ℕ) (file : List ℕ) (within : len ≤ length file) (whole : IsTrue (are_whole len count (frames_behind journal))) where
  first-length : length (take len file) ≡ len
  first-length = omega (arith, length-take len file, within)

  lies : LieWithin (length (take len file)) (frames_of count (frames_behind journal))
  lies = subst (λ n. LieWithin n (frames_of count (frames_behind journal))) (sym first-length) (whole_lies len count (frames_behind journal) whole)

  pub looked-length : length (looked journal count len file) ≡ len
  looked-length = applied-length (frames_of count (frames_behind journal)) (take len file) lies ∙ first-length

pub part_first : (file : List ℕ) (len at n : ℕ) → at + n ≤ len → len ≤ length file → part (take len file) at n ≡ part file at n
part_first file len at n inside within =
    let short : length (take len file) ≡ len = omega (arith, length-take len file, within) in
    let a : length (part (take len file) at n) ≡ n = omega (arith, length-part (take len file) at n, short, inside) in
    let b : length (part file at n) ≡ n = omega (arith, length-part file at n, within, inside) in
    ext_get_or 0 _ _ (a ∙ sym b)
    (λ i less. let low : i < n = omega (arith, a) in
    part_at (take len file) at n i low ∙ get_or-take len file (at + i) 0 (omega (arith, low, inside)) ∙ sym (part_at file at n i low))

part_none : (file : List ℕ) (at n : ℕ) → n ≡ 0 → part file at n ≡ []
part_none file at zero none = refl
part_none file at (suc n) none = absurd (omega arith)

take_none : (n : ℕ) (xs : List ℕ) → n ≡ 0 → take n xs ≡ []
take_none zero xs none = refl
take_none (suc n) xs none = absurd (omega arith)

-- what was read of the file, with frames laid over it, was read of the file that the two stand for
module _ (can_give : MediumFault → Bool) (journal : List ℕ) (count len : ℕ) (file : List ℕ) (within : len ≤ length file) (whole : IsTrue (are_whole len count (frames_behind journal))) where
  pub looked_reads : (old new at room n : ℕ) (into got front laid now : List ℕ) → ReadsAt can_give file old new at got n → length got ≡ room → n ≤ room → room ≤ length into
      → (0 < room → at + room ≤ len) → (0 < length into → at < len → 0 < room) → front ≡ take n got → ShowsFrames (frames_of count (frames_behind journal)) at front laid
      → take n now ≡ laid → length now ≡ length into → ReadsAt can_give (looked journal count len file) old new at now n
  looked_reads old new at room n into got front laid now reads got_length few fits inside some front_is shows laid_is same =
      let size = looked-length journal count len file within whole in
      let piece : length front ≡ n = omega (arith, ap length front_is, length-take n got, got_length, few) in
      let gives : (n ≡ 0) ⊎ (0 < n) → take n now ≡ part (looked journal count len file) at n =
      λ (e : (n ≡ 0) ⊎ (0 < n)). elim e [
        | inl none ↦ take_none n now none ∙ sym (part_none (looked journal count len file) at n none)
        | inr more ↦
            let low : at + n ≤ len = omega (arith, inside (omega (arith, more, few)), few) in
            let read = front_is ∙ reads.gives ∙ sym (part_first file len at n low within) ∙ ap (part (take len file) at) (sym piece) in
            laid_is
            ∙ shows.shows (take len file) (lies journal count len file within whole) (omega (arith, piece, low, first-length journal count len file within whole)) read
            ∙ ap (part (looked journal count len file) at) (shows.same_length ∙ piece)
      ] in
      record {
        gives = gives (elim (cases_lt 0 n) [ inl more ↦ inr more | inr none ↦ inl (omega (arith, none)) ]);
        within = λ more. omega (arith, size, inside (omega (arith, more, few)), few);
        calm = reads.calm;
        unasked = λ none. reads.unasked (omega (arith, none, same, fits, got_length));
        past_end = λ none past. elim (cases_lt 0 room) [
          | inl more ↦ absurd (omega (arith, inside more, more, past, size))
          | inr no_room ↦ reads.unasked (omega (arith, got_length, no_room))
        ];
        stuck = λ none asked low.
            let more = some (omega (arith, asked, same)) (omega (arith, low, size)) in
            reads.stuck none (omega (arith, got_length, more)) (omega (arith, low, size, within));
      }
