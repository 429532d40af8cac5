use Rattle.std.proofs.Common.{◌++◌, ℕ, List, [], ap, sym}
use Rattle.std.proofs.lemmas.List.{append-nil}
use Rattle.cfb_mini.proofs.cfb_directory.LeastAbove.{least-kept, least-of-none}
use Rattle.cfb_mini.proofs.opening.above_all.Goals as goal

pub returns-in-Some : goal.returns-in-Some
returns-in-Some g c =
    let words = c.args.minifat_sectors.now in
    let first = c.least_above-above.ensures [] least-of-none in
    rw c.in-Some.is (least-kept (words ++ c.deref.result.now) (words ++ c.in-Some.sectors.items) c.least_above.result (ap (λ (l : List ℕ). words ++ l) (sym c.deref.ensures.value))
    (c.least_above.ensures words first))

pub returns-in-None : goal.returns-in-None
returns-in-None g c =
    let words = c.args.minifat_sectors.now in
    rw c.in-None.is (least-kept words (words ++ []) c.least_above-above.result (append-nil words) (c.least_above-above.ensures [] least-of-none))
