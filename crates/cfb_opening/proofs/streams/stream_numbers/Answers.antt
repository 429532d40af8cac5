use Rattle.std.proofs.Common.{◌∙◌, ap, sym, arith}
use Rattle.std.specs.List.{filter}
use Rattle.std.proofs.lemmas.List.{take_all}
use Rattle.cfb_codecs.specs.EntryModel.{entries_of}
use Rattle.cfb_opening.specs.Streams.{is_stream_at}
use Rattle.cfb_opening.proofs.StreamNumbers.{none-more, one-more, streams-among}
use Rattle.cfb_opening.proofs.streams.stream_numbers.Goals.{then-is_stream+in_ok-push, else-is_stream}
use Rattle.cfb_opening.proofs.streams.stream_numbers.Goals as goal

pub loop-number-preserved : goal.loop-number-preserved
loop-number-preserved g c =
    let p = is_stream_at (entries_of c.args.entries.now) in
    let xs = c.deref-number-items.result.now in
    let i = c.loop-number.number-index in
    elim c.if-is_stream.branch [
      | then-is_stream+in_ok-push w ↦
          ap (λ v. v.items) w.streams-is ∙ w.in_ok-push.ensures.items
          ∙ one-more p xs i c.loop-number.streams.items (omega arith) c.loop-number.invariant (sym c.is_stream.ensures ∙ w.if-is_stream.true)
      | else-is_stream w ↦
          ap (λ v. v.items) w.streams-is
          ∙ none-more p xs i c.loop-number.streams.items (omega arith) c.loop-number.invariant (sym c.is_stream.ensures ∙ w.if-is_stream.false)
    ]

pub returns-clause-ok : goal.returns-clause-ok
returns-clause-ok g c cases o is =
    let entries = entries_of c.args.entries.now in
    let p = is_stream_at entries in
    let xs = c.deref-number-items.result.now in
    let i = c.loop-number.number-index in
    c.loop-number.invariant ∙ ap (filter p) (take_all i xs (omega arith) ∙ c.deref-number-items.ensures.value
    ∙ c.in_ok-reached.ensures.ok cases o (record { children = is.children; contents = is.contents }))
    ∙ streams-among cases entries o is.contents
