use Rattle.std.proofs.lemmas.Grind.{common_steps}
use Rattle.std.proofs.Common.{◌≡◌, ◌∙◌, ap, arith, false, sym, true, rules}
use Rattle.cfb_format.specs.Bytes.{max_stream_len}
use Rattle.cfb_compound_file.specs.cfb_content.Contents.{IsTooLongFor}
use Rattle.cfb_compound_file.specs.Stored.{stored_of}
use Rattle.cfb_compound_file.proofs.StoredStreams.{can_have, stream_there}
use Rattle.cfb_compound_file.proofs.contents.CompoundFileContents.can_resize.Goals as goal

pub can_resize-requires-clause-can_resize : goal.can_resize-requires-clause-can_resize
can_resize-requires-clause-can_resize g c = record {
  stream = stream_there _ _ c.entries-entries.ensures.in_order (rw (← c.self.view_is) at c.requires.there);
  limit = first_of (search rules, grind (arith, common_steps));
}

pub returns-then-is_failed-clause-ok : goal.returns-then-is_failed-clause-ok
returns-then-is_failed-clause-ok g c = rw (← c.self.view_is) (λ told. (λ no. cc, λ has. absurd (let w : true ≡ false = sym c.if-is_failed.true ∙ c.is_failed.ensures ∙ has.takes.unfailed in cc)))

pub returns-then-not-is_sound-clause-ok : goal.returns-then-not-is_sound-clause-ok
returns-then-not-is_sound-clause-ok g c = rw (← c.self.view_is) (λ told. (λ no. cc, λ has. absurd (let w : false ≡ true = sym c.if-not-is_sound.true ∙ c.is_sound.ensures ∙ has.takes.sound in cc)))

pub returns-then-stream_len_mask-len-clause-ok : goal.returns-then-stream_len_mask-len-clause-ok
returns-then-stream_len_mask-len-clause-ok g c = rw (← c.self.view_is) (λ told. (
  λ no. cc,
  λ has.
      absurd (omega (arith, has.takes.fits, c.if-stream_len_mask-len.true, c.stream_len_mask.ensures, ap max_stream_len c.version.ensures)),
))

pub returns-clause-ok : goal.returns-clause-ok
returns-clause-ok g c =
    let unfailed = sym c.is_failed.ensures ∙ c.if-is_failed.false in
    let sound = sym c.is_sound.ensures ∙ c.if-not-is_sound.false in
    let file = c.self.inside.volume in
    rw (← c.self.view_is) (λ told. can_have (stored_of file c.args.id) (IsTooLongFor file.base c.args.id) c.args.len c.can_resize.result
    (record { unfailed = unfailed; sound = sound; fits = omega (arith, c.if-stream_len_mask-len.false, c.stream_len_mask.ensures, ap max_stream_len c.version.ensures) })
    (λ other. c.can_resize.ensures.can (c.self.invariant told unfailed) other) (λ same. (c.can_resize.ensures.same same).1))

pub returns-clause-sure : goal.returns-clause-sure
returns-clause-sure g c = rw (← c.self.view_is) (λ same. (c.can_resize.ensures.same same).0)

pub returns-clause-refused : goal.returns-clause-refused
returns-clause-refused g c =
    let unfailed = sym c.is_failed.ensures ∙ c.if-is_failed.false in
    λ told. c.can_resize.ensures.err (c.self.invariant told unfailed)
