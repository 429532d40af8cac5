use Rattle.std.proofs.Common.{◌≡◌, ℕ, List, [], refl, sym, ◌∙◌, ap, subst}
use Rattle.std.specs.Prelude.{Contains, Option, unwrap_or}
use Rattle.cfb_format.specs.Content.{mini_stream_chain}
use Rattle.cfb_format.specs.Reading.{Reading}
use Rattle.cfb_format.specs.Soundness.{mini_stream_sectors}
use Rattle.cfb_flaws.specs.declared.owner.Owner.TheVariants.{Minifat as MinifatOwner, MiniStream}
use Rattle.cfb_flaws.specs.declared.owner.Table.TheVariants.{Fat}
use Rattle.cfb_flaws.specs.Claims.{chain_of}
use Rattle.cfb_flaws.specs.Flaws.{OwnsIn, on_sectors}
use Rattle.cfb_flaws.specs.Telling.{Told}
use Rattle.cfb_flaws.proofs.Assembling.{minifat-chain}
use Rattle.cfb_flaws.proofs.Counting.{root-from}
use Rattle.cfb_flaws.proofs.Tellings.{told-after, told-before}
use Rattle.cfb_flaws.proofs.tables.tell_roots.Goals as goal

pub returns-clause-minifat : goal.returns-clause-minifat
returns-clause-minifat g c = λ cases bytes r reads knows.
    let known = c.args.known.now in
    let start = c.start_of_list-minifat.result in
    let list : chain_of r.fat start ≡ r.minifat_sectors =
    ap (λ (z : List ℕ). chain_of z start) (sym knows.parts.fat)
    ∙ c.start_of_list-minifat.ensures known.parts.now.fat.now r.header.first_minifat_sector (minifat-chain known.parts.now cases bytes r reads knows.parts) ∙ knows.parts.minifat_sectors in
    let root = c.start_of_mini_stream-root.result in
    let chain : chain_of r.fat root ≡ mini_stream_sectors r =
    ap (λ (o : Option (List ℕ)). unwrap_or o []) (sym (root-from known.parts.now cases bytes r reads knows.parts root c.start_of_mini_stream-root.ensures.chain)) in
    told-after bytes r on_sectors on_sectors (OwnsIn Fat r MinifatOwner r.minifat_sectors) (OwnsIn Fat r MiniStream (chain_of r.fat root))
    c.args.found.now.items c.tell_shared_chain.new.found.items c.tell_shared_chain-2.new.found.items
    (subst (λ (z : List ℕ). Told on_sectors (OwnsIn Fat r MinifatOwner z) bytes r c.args.found.now.items c.tell_shared_chain.new.found.items) list
    (c.in_ok-tell_shared_chain.ensures.told cases bytes r reads knows (λ i m. subst (λ (z : List ℕ). Contains z i) list m)))
    (c.in_ok-tell_shared_chain-2.ensures.told cases bytes r reads knows (λ i m. subst (λ (z : List ℕ). Contains z i) chain m))

pub returns-clause-mini_stream : goal.returns-clause-mini_stream
returns-clause-mini_stream g c = λ cases bytes r reads knows.
    let known = c.args.known.now in
    let start = c.start_of_list-minifat.result in
    let list : chain_of r.fat start ≡ r.minifat_sectors =
    ap (λ (z : List ℕ). chain_of z start) (sym knows.parts.fat)
    ∙ c.start_of_list-minifat.ensures known.parts.now.fat.now r.header.first_minifat_sector (minifat-chain known.parts.now cases bytes r reads knows.parts) ∙ knows.parts.minifat_sectors in
    let root = c.start_of_mini_stream-root.result in
    let chain : chain_of r.fat root ≡ mini_stream_sectors r =
    ap (λ (o : Option (List ℕ)). unwrap_or o []) (sym (root-from known.parts.now cases bytes r reads knows.parts root c.start_of_mini_stream-root.ensures.chain)) in
    told-before bytes r on_sectors on_sectors (OwnsIn Fat r MiniStream (mini_stream_sectors r)) (OwnsIn Fat r MinifatOwner (chain_of r.fat start))
    c.args.found.now.items c.tell_shared_chain.new.found.items c.tell_shared_chain-2.new.found.items
    (c.in_ok-tell_shared_chain.ensures.told cases bytes r reads knows (λ i m. subst (λ (z : List ℕ). Contains z i) list m))
    (subst (λ (z : List ℕ). Told on_sectors (OwnsIn Fat r MiniStream z) bytes r c.tell_shared_chain.new.found.items c.tell_shared_chain-2.new.found.items) chain
    (c.in_ok-tell_shared_chain-2.ensures.told cases bytes r reads knows (λ i m. subst (λ (z : List ℕ). Contains z i) chain m)))
