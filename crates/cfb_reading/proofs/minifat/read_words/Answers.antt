use Rattle.std.proofs.Common.{◌+◌, ◌++◌, ◌/◌, length, sym, ◌∙◌, ap, length-append}
use Rattle.std.proofs.lemmas.Result.{on_ok_weaker}
use Rattle.cfb_format.specs.Bytes.{words, words_per_sector}
use Rattle.cfb_reading.proofs.WordReading.{sector-words-count, sector-words-read}
use Rattle.cfb_reading.proofs.minifat.read_words.Goals as goal

pub returns-clause-appended : goal.returns-clause-appended
returns-clause-appended g c tells =
    let a = c.args.allocator.now in
    let e = c.in_ok-read_whole.ensures in
    on_ok_weaker c.append_words.result
    (λ is. is ∙ ap (λ xs. c.args.into.now.items ++ xs) (sector-words-read a.tables.version a.file.bytes c.args.sector c.read_whole.new.into e.len (e.ok tells)))
    c.append_words.ensures.appended

pub returns-clause-count : goal.returns-clause-count
returns-clause-count g c =
    let bytes = c.read_whole.new.into in
    let old = c.args.into.now.items in
    on_ok_weaker c.append_words.result
    (λ is. c.append_words.new.into.ok.0 ∙ ap length is ∙ length-append old (words (length bytes / 4) bytes)
    ∙ ap (λ n. length old + n) (sector-words-count c.args.allocator.now.tables.version bytes c.in_ok-read_whole.ensures.len)
    ∙ ap (λ n. n + words_per_sector c.args.allocator.now.tables.version) (sym c.args.into.now.ok.0))
    c.append_words.ensures.appended
