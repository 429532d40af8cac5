use Rattle.std.proofs.Common.{◌≡◌, ◌++◌, List, ℕ, true, false, refl, reverse, sym, ◌∙◌, ap, subst}
use Rattle.cfb_format.specs.Siblings.{Below}
use Rattle.cfb_codecs.specs.EntryModel.{entries_of}
use Rattle.cfb_entries.proofs.indexing.children_of.Goals as goal

pub returns-then-is_stream-clause-ok : goal.returns-then-is_stream-clause-ok
returns-then-is_stream-clause-ok g c = record {
  stream = λ t. c.new-children.ensures.items;
  storage = λ ne. absurd (ne (c.if-is_stream.ensures.0 refl));
}

pub push_siblings-requires-clause-listed : goal.push_siblings-requires-clause-listed
push_siblings-requires-clause-listed g c =
    let (cases, (list, h)) = c.requires.listed (λ e. let q : false ≡ true = c.if-is_stream.ensures.1 e in cc) in
    (cases, list, subst (λ (t : ℕ). Below cases (entries_of c.args.list.now) t list) (sym c.child_link-first.ensures) h.below)

pub returns-clause-ok : goal.returns-clause-ok
returns-clause-ok g c = record {
  stream = λ t. absurd (let q : false ≡ true = c.if-is_stream.ensures.1 t in cc);
  storage = λ ne cases children b.
      c.in_ok-push_siblings.ensures.ok cases children (subst (λ (t : ℕ). Below cases (entries_of c.args.list.now) t children) (sym c.child_link-first.ensures) b)
      ∙ ap (λ (l : List ℕ). l ++ reverse children) c.new-children.ensures.items;
}
