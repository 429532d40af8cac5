use Rattle.std.proofs.Common.{◌≡◌, ◌<◌, ◌≤◌, ◌-◌, List, ℕ, length, take, drop, vec_len, sym, ap, subst, arith}
use Rattle.cfb_mini_table.specs.Steps.{Taking, CanLink, Links}
use Rattle.cfb_mini_table.proofs.LinkLemmas.{can-link-first, takes-first, linked-next}
use Rattle.cfb_mini_table.proofs.words.begin.Goals as goal

pub link_behind-requires : goal.link_behind-requires
link_behind-requires g c =
    let t = c.take_all in
    let limit = c.args.limit in
    let old = c.args.minifat.now.items in
    let mid = t.new.minifat.items in
    let items = t.new.list.items in
    let none : vec_len c.args.list.now ≡ 0 = omega (arith, c.args.list.now.ok.0, ap (λ (z : List ℕ). length z) c.requires.empty) in
    let taken : Taking limit old mid items = subst (λ k. Taking limit old mid (drop k items)) none t.ensures.taken in
    let some : 0 < length items = omega (arith, t.ensures.count, t.new.list.ok.0, c.if-count-gt0.true) in
    let short : length old ≤ limit = omega (arith, c.requires.enough, c.args.minifat.now.ok.0) in
    let can = can-link-first limit old mid c.requires.limited short items c.index.result.now some c.index.ensures taken in
    record { can = subst (λ (z : List ℕ). CanLink mid c.index.result.now (take (length z - 1) (drop 1 z))) (sym c.deref.ensures.value) can }

pub returns-then-count-gt0-clause-taken : goal.returns-then-count-gt0-clause-taken
returns-then-count-gt0-clause-taken g c =
    let t = c.take_all in
    let limit = c.args.limit in
    let old = c.args.minifat.now.items in
    let mid = t.new.minifat.items in
    let new = c.link_behind.new.minifat.items in
    let items = t.new.list.items in
    let none : vec_len c.args.list.now ≡ 0 = omega (arith, c.args.list.now.ok.0, ap (λ (z : List ℕ). length z) c.requires.empty) in
    let taken : Taking limit old mid items = subst (λ k. Taking limit old mid (drop k items)) none t.ensures.taken in
    let some : 0 < length items = omega (arith, t.ensures.count, t.new.list.ok.0, c.if-count-gt0.true) in
    let short : length old ≤ limit = omega (arith, c.requires.enough, c.args.minifat.now.ok.0) in
    let links = subst (λ (z : List ℕ). Links mid new c.index.result.now (take (length z - 1) (drop 1 z))) c.deref.ensures.value c.link_behind.ensures.links in
    takes-first limit old mid c.requires.limited short items c.index.result.now new some c.index.ensures taken links

pub returns-then-count-gt0-clause-listed : goal.returns-then-count-gt0-clause-listed
returns-then-count-gt0-clause-listed g c = c.link_behind.ensures.links.listed _ c.take_all.ensures.listed

pub returns-then-count-gt0-clause-next : goal.returns-then-count-gt0-clause-next
returns-then-count-gt0-clause-next g c = linked-next _ _ _ _ _ c.link_behind.ensures.links c.take_all.ensures.next
