use Rattle.std.proofs.lemmas.Grind.{common_steps}
use Rattle.std.proofs.Common.{◌≡◌, ◌∙◌, sym, subst, rules, arith}
use Rattle.cfb_compound_file.specs.cfb_content.Contents.{IsTooLongFor}
use Rattle.cfb_agreement.specs.Files.{FileState}
use Rattle.cfb_compound_file.specs.Flags.{still_is_tight}
use Rattle.cfb_compound_file.proofs.StoredStreams.{broken_kept, change_refused, changes_in_turn, changes_tight, full_then, resized_done, stream_there}
use Rattle.cfb_compound_file.proofs.Heeding.{change_keeps_flags}
use Rattle.cfb_compound_file.proofs.contents.CompoundFileContents.resize.Goals as goal

pub returns-then-is_failed-clause-tight : goal.returns-then-is_failed-clause-tight
returns-then-is_failed-clause-tight g c = rw (← c.self.view_is) (λ _. still_is_tight c.self.inside.volume)

pub returns-then-not-is_sound-clause-tight : goal.returns-then-not-is_sound-clause-tight
returns-then-not-is_sound-clause-tight g c = rw (← c.self.view_is) (λ _. still_is_tight c.self.inside.volume)

pub returns-then-stream_len_mask-len-clause-tight : goal.returns-then-stream_len_mask-len-clause-tight
returns-then-stream_len_mask-len-clause-tight g c = rw (← c.self.view_is) (λ _. still_is_tight c.self.inside.volume)

pub resize-requires-clause-can_resize : goal.resize-requires-clause-can_resize
resize-requires-clause-can_resize g c = record {
  stream = stream_there _ _ c.entries-entries.ensures.in_order (rw (← c.self.view_is) at c.requires.there);
  limit = first_of (search rules, grind (arith, common_steps));
}

pub invariant_of-self : goal.invariant_of-self
invariant_of-self g c = λ told. c.resize.ensures.ends.agrees told (c.self.invariant told (sym c.is_failed.ensures ∙ c.if-is_failed.false))

pub returns-clause-others : goal.returns-clause-others
returns-clause-others g c =
    let unfailed = sym c.is_failed.ensures ∙ c.if-is_failed.false in
    let sound = sym c.is_sound.ensures ∙ c.if-not-is_sound.false in
    rw (← c.self.view_is) (λ told first k. changes_in_turn _ first _ _ sound unfailed (c.resize.ensures.only.changes told (c.self.invariant told unfailed)) k)

pub returns-clause-tight : goal.returns-clause-tight
returns-clause-tight g c =
    let unfailed = sym c.is_failed.ensures ∙ c.if-is_failed.false in
    rw (← c.self.view_is) (λ told.
    let held = c.self.invariant told unfailed in
    changes_tight c.args.id c.self.inside.volume c.resize.new.self (c.resize.ensures.only.changes told held) (c.resize.ensures.ends.agrees told held))

pub returns-clause-counts : goal.returns-clause-counts
returns-clause-counts g c = rw (← c.self.view_is) (λ told. c.resize.ensures.ends.counts told)

pub returns-clause-ok : goal.returns-clause-ok
returns-clause-ok g c =
    let unfailed = sym c.is_failed.ensures ∙ c.if-is_failed.false in
    let e = c.resize.ensures in
    rw (← c.self.view_is) (λ told takes. resized_done _ _ _ _ c.resize.result e.ends.setting unfailed e.resized.len (e.resized.content told (c.self.invariant told unfailed)) e.ends.ended)

pub returns-clause-refused : goal.returns-clause-refused
returns-clause-refused g c =
    let unfailed = sym c.is_failed.ensures ∙ c.if-is_failed.false in
    let e = c.resize.ensures in
    let old = c.self.inside.volume in
    let new = c.resize.new.self in
    rw (← c.self.view_is) (λ told takes. change_refused (IsTooLongFor old.base c.args.id c.args.len × (new ≡ old)) (IsTooLongFor new.base c.args.id c.args.len) _ _ _ c.resize.result
    (λ why. subst (λ (z : FileState). IsTooLongFor z.base c.args.id c.args.len) (sym why.1) why.0) e.ends.setting
    (e.error.err told (c.self.invariant told unfailed)) (e.ends.refused told (c.self.invariant told unfailed)))

pub returns-clause-stays : goal.returns-clause-stays
returns-clause-stays g c =
    let unfailed = sym c.is_failed.ensures ∙ c.if-is_failed.false in
    rw (← c.self.view_is) (λ told. broken_kept _ _ c.resize.result (c.resize.ensures.ends.refused told (c.self.invariant told unfailed)))

pub returns-clause-foreseen : goal.returns-clause-foreseen
returns-clause-foreseen g c =
    let unfailed = sym c.is_failed.ensures ∙ c.if-is_failed.false in
    let old = c.self.inside.volume in
    let new = c.resize.new.self in
    rw (← c.self.view_is) (λ told takes. full_then (IsTooLongFor old.base c.args.id c.args.len × (new ≡ old)) (new ≡ old) c.resize.result (λ why. why.1)
    (c.resize.ensures.error.err told (c.self.invariant told unfailed)))

pub returns-clause-any : goal.returns-clause-any
returns-clause-any g c =
    let unfailed = sym c.is_failed.ensures ∙ c.if-is_failed.false in
    rw (← c.self.view_is) (change_keeps_flags _ _ _ c.resize.result c.resize.ensures.ends.setting unfailed c.resize.ensures.ends.ended c.resize.ensures.ends.in_memory)

pub returns-clause-leaves_room : goal.returns-clause-leaves_room
returns-clause-leaves_room g c =
    let unfailed = sym c.is_failed.ensures ∙ c.if-is_failed.false in
    rw (← c.self.view_is) (λ told takes longer. c.resize.ensures.room.leaves_room told (c.self.invariant told unfailed) longer)

pub resize-requires-clause-can_change : goal.resize-requires-clause-can_change
resize-requires-clause-can_change g c = record {
  sound = first_of (search rules, grind (arith, common_steps));
  unfailed = first_of (search rules, grind (arith, common_steps));
}
