use Rattle.std.proofs.Common.{◌≡◌, true, false, sym, ◌∙◌, ap, subst}
use Rattle.std.specs.List.{list_all}
use Rattle.cfb_format.specs.Header.{IfStrict}
use Rattle.cfb_format.specs.Reading.{numbers}
use Rattle.cfb_format.specs.Siblings.{is_red_apart}
use Rattle.cfb_format.proofs.Unique.{IsOutline-unique}
use Rattle.cfb_codecs.specs.EntryModel.{entries_of}
use Rattle.cfb_outline.proofs.outline.reached_entries.Goals as goal

pub returns-else-are_red_apart-clause-refused : goal.returns-else-are_red_apart-clause-refused
returns-else-are_red_apart-clause-refused g c = λ o accepts.
    let es = entries_of c.args.entries.now in
    let (p, is, found) = c.in_ok-order.ensures.ok in
    let same : list_all (is_red_apart es) c.in_ok-order.order.items ≡ true =
    ap (list_all (is_red_apart es)) (found ∙ ap numbers (IsOutline-unique c.args.cases.now es p o is accepts.outline)) ∙ subst (λ v. IfStrict v (list_all (is_red_apart es) (numbers o) ≡ true)) c.in-Strict.is accepts.strict in
    let bad : false ≡ true = sym c.if-are_red_apart.false ∙ c.are_red_apart.ensures ∙ ap (list_all (is_red_apart es)) c.as_slice.ensures.value ∙ same in cc
