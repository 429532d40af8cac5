use Rattle.std.proofs.lemmas.Grind.{common_steps}
use Rattle.std.proofs.Common.{◌≡◌, ◌∙◌, ap, arith, false, sym, true, rules}
use Rattle.cfb_format.specs.Bytes.{max_stream_len}
use Rattle.cfb_agreement.specs.Files.{IsFullFile}
use Rattle.cfb_compound_file.specs.Flags.{still_is_tight}
use Rattle.cfb_compound_file.proofs.Fitting.{fitting}
use Rattle.cfb_compound_file.proofs.StoredStreams.{append_done, broken_kept, change_refused, changes_in_turn, changes_tight, stream_inside, stream_there}
use Rattle.cfb_compound_file.proofs.Heeding.{change_keeps_flags}
use Rattle.cfb_compound_file.proofs.contents.CompoundFileContents.append.Goals as goal

pub len-len-requires : goal.len-len-requires
len-len-requires g c = record { inside = stream_inside _ _ (rw (← c.self.view_is) at c.requires.there) }

pub append-requires-clause-can_append : goal.append-requires-clause-can_append
append-requires-clause-can_append g c = record {
  stream = stream_there _ _ c.entries-entries.ensures.in_order (rw (← c.self.view_is) at c.requires.there);
  fits = omega (arith, (c.is_inside.ensures.0 c.if-not-is_inside.false).1, c.len-len.ensures, c.stream_len_mask-limit.ensures, ap max_stream_len c.version.ensures);
}

pub invariant_of-self : goal.invariant_of-self
invariant_of-self g c = λ told. c.append.ensures.ends.agrees told (c.self.invariant told (sym c.is_failed.ensures ∙ c.if-is_failed.false))

pub returns-clause-others : goal.returns-clause-others
returns-clause-others g c =
    let unfailed = sym c.is_failed.ensures ∙ c.if-is_failed.false in
    let sound = sym c.is_sound.ensures ∙ c.if-not-is_sound.false in
    rw (← c.self.view_is) (λ told first k. changes_in_turn _ first _ _ sound unfailed (c.append.ensures.only.changes told (c.self.invariant told unfailed)) k)

pub returns-then-is_failed-clause-tight : goal.returns-then-is_failed-clause-tight
returns-then-is_failed-clause-tight g c = rw (← c.self.view_is) (λ _. still_is_tight c.self.inside.volume)

pub returns-then-not-is_sound-clause-tight : goal.returns-then-not-is_sound-clause-tight
returns-then-not-is_sound-clause-tight g c = rw (← c.self.view_is) (λ _. still_is_tight c.self.inside.volume)

pub returns-then-not-is_inside-clause-tight : goal.returns-then-not-is_inside-clause-tight
returns-then-not-is_inside-clause-tight g c = rw (← c.self.view_is) (λ _. still_is_tight c.self.inside.volume)

pub returns-clause-tight : goal.returns-clause-tight
returns-clause-tight g c =
    let unfailed = sym c.is_failed.ensures ∙ c.if-is_failed.false in
    rw (← c.self.view_is) (λ told.
    let held = c.self.invariant told unfailed in
    changes_tight c.args.id c.self.inside.volume c.append.new.self (c.append.ensures.only.changes told held) (c.append.ensures.ends.agrees told held))

pub returns-clause-len : goal.returns-clause-len
returns-clause-len g c = rw (← c.self.view_is) c.append.ensures.appended.len

pub returns-clause-counts : goal.returns-clause-counts
returns-clause-counts g c = rw (← c.self.view_is) (λ told. c.append.ensures.ends.counts told)

pub returns-clause-ok : goal.returns-clause-ok
returns-clause-ok g c =
    let unfailed = sym c.is_failed.ensures ∙ c.if-is_failed.false in
    let sound = sym c.is_sound.ensures ∙ c.if-not-is_sound.false in
    let e = c.append.ensures in
    let stream = stream_there _ _ c.entries-entries.ensures.in_order (rw (← c.self.view_is) at c.requires.there) in
    rw (← c.self.view_is) (λ told takes.
    let held = c.self.invariant told unfailed in
    append_done _ _ _ _ c.append.result e.ends.setting held sound stream unfailed e.appended.len (e.appended.content told held) e.ends.ended)

pub returns-clause-refused : goal.returns-clause-refused
returns-clause-refused g c =
    let unfailed = sym c.is_failed.ensures ∙ c.if-is_failed.false in
    let e = c.append.ensures in
    let full = IsFullFile c.append.new.self in
    rw (← c.self.view_is) (λ told takes.
    let held = c.self.invariant told unfailed in
    change_refused full full _ _ _ c.append.result (λ why. why) e.ends.setting (e.error.err told held) (e.ends.refused told held))

pub returns-then-not-is_inside-clause-refused : goal.returns-then-not-is_inside-clause-refused
returns-then-not-is_inside-clause-refused g c = rw (← c.self.view_is) (λ told takes.
    let inside = c.is_inside.ensures.1 (omega (arith, c.len-len.ensures), omega (arith, takes.fits, c.len-len.ensures, c.stream_len_mask-limit.ensures, ap max_stream_len c.version.ensures)) in
    absurd (let w : false ≡ true = sym c.if-not-is_inside.true ∙ inside in cc))

pub returns-clause-stays : goal.returns-clause-stays
returns-clause-stays g c =
    let unfailed = sym c.is_failed.ensures ∙ c.if-is_failed.false in
    rw (← c.self.view_is) (λ told. broken_kept _ _ c.append.result (c.append.ensures.ends.refused told (c.self.invariant told unfailed)))

pub returns-clause-foreseen : goal.returns-clause-foreseen
returns-clause-foreseen g c =
    let unfailed = sym c.is_failed.ensures ∙ c.if-is_failed.false in
    rw (← c.self.view_is) (λ told takes. c.append.ensures.error.full_only told (c.self.invariant told unfailed))

pub returns-clause-none : goal.returns-clause-none
returns-clause-none g c = rw (← c.self.view_is) (λ none. (c.append.ensures.appended.none none).1)

pub returns-clause-sure : goal.returns-clause-sure
returns-clause-sure g c = λ told unfailed sound none. (c.append.ensures.appended.none none).0

pub returns-then-not-is_inside-clause-sure : goal.returns-then-not-is_inside-clause-sure
returns-then-not-is_inside-clause-sure g c =
    let unfailed = sym c.is_failed.ensures ∙ c.if-is_failed.false in
    let stream = stream_there _ _ c.entries-entries.ensures.in_order (rw (← c.self.view_is) at c.requires.there) in
    λ told calm sound none.
    let short = (fitting c.self.inside.volume c.args.id unfailed (c.self.invariant told unfailed) stream).within in
    let inside = c.is_inside.ensures.1 (omega (arith, c.len-len.ensures), omega (arith, none, short, c.len-len.ensures, c.stream_len_mask-limit.ensures, ap max_stream_len c.version.ensures)) in
    absurd (let w : false ≡ true = sym c.if-not-is_inside.true ∙ inside in cc)

pub returns-clause-any : goal.returns-clause-any
returns-clause-any g c =
    let unfailed = sym c.is_failed.ensures ∙ c.if-is_failed.false in
    rw (← c.self.view_is) (change_keeps_flags _ _ _ c.append.result c.append.ensures.ends.setting unfailed c.append.ensures.ends.ended c.append.ensures.ends.in_memory)

pub append-requires-clause-can_change : goal.append-requires-clause-can_change
append-requires-clause-can_change g c = record {
  sound = first_of (search rules, grind (arith, common_steps));
  unfailed = first_of (search rules, grind (arith, common_steps));
}
