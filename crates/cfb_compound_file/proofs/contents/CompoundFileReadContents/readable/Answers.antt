use Rattle.std.proofs.Common.{◌≡◌, ◌∙◌, List, ℕ, length, subst, sym}
use Rattle.std.specs.Prelude.{IfOk}
use Rattle.cfb_compound_file.proofs.StoredStreams.{stream_inside, unfailed_content}
use Rattle.cfb_compound_file.proofs.contents.CompoundFileReadContents.readable.Goals as goal

pub readable-requires : goal.readable-requires
readable-requires g c = record { inside = stream_inside _ _ (rw (← c.self.view_is) at c.requires.there) }

pub returns-clause-ok : goal.returns-clause-ok
returns-clause-ok g c =
    let unfailed = sym c.is_failed.ensures ∙ c.if-is_failed.false in
    rw (← c.self.view_is) (λ told. subst (λ (xs : List ℕ). IfOk c.readable.result (λ n. n ≡ length xs))
    (sym (unfailed_content c.self.inside.volume c.args.id unfailed)) (c.readable.ensures.ok told (c.self.invariant told unfailed)))
