use Rattle.std.proofs.Common.{ℕ, List, ◌++◌, ◌≤◌, sym, ◌∙◌, ap, arith, length, take, replicate}
use Rattle.std.proofs.lemmas.List.{take_all}
use Rattle.cfb_format.specs.Bytes.{word_bytes, unit_bytes}
use Rattle.cfb_format.specs.Header.{header_bytes, header_words, header_units}
use Rattle.cfb_format.proofs.header.Header.write_to.Goals as goal

-- each piece stands behind the ones before it, and the last one ends where the bytes end
pub returns : goal.returns
unfolding header_bytes
returns c =
    let behind = λ (piece : List ℕ) (xs : List ℕ). xs ++ piece in
    let header = c.args.self.now in
    let whole : length c.put_words.new.into ≤ c.put_words.result = omega arith in
    sym (take_all c.put_words.result c.put_words.new.into whole)
    ∙ c.put_words.ensures.before
    ∙ ap (behind (word_bytes header.initial_difat_entries))
    (c.put_words-end.ensures.before ∙ ap (λ words. take c.put-end-3.result c.put-end-3.new.into ++ word_bytes words) c.words.ensures
    ∙ ap (behind (word_bytes (header_words header)))
    (c.put-end-3.ensures.before
    ∙ ap (behind (replicate 6 0))
    (c.put_units-end.ensures.before ∙ ap (λ units. take c.put-end-2.result c.put-end-2.new.into ++ unit_bytes units) c.version_units.ensures
    ∙ ap (behind (unit_bytes (header_units header.version)))
    (c.put-end-2.ensures.before ∙ ap (behind (replicate 16 0)) c.put-end.ensures.before))))
