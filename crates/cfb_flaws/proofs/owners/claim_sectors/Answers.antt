use Rattle.std.proofs.Common.{◌≡◌, List, [], ℕ, length, refl, sym, ◌∙◌, ap, subst}
use Rattle.std.specs.Prelude.{Option, unwrap_or}
use Rattle.cfb_format.specs.Soundness.{mini_stream_sectors}
use Rattle.cfb_soundness.specs.Parts.{parts_reading}
use Rattle.cfb_flaws.specs.declared.owner.Owner.TheVariants.{Directory, Minifat, MiniStream}
use Rattle.cfb_flaws.specs.Claims.{Claimed, IsKnown, chain_of}
use Rattle.cfb_flaws.proofs.Assembling.{known-none, fat-begins-none, difat-begins-none, directory-chain, minifat-chain, some-entry, sector-owners}
use Rattle.cfb_flaws.proofs.owners.claim_sectors.Goals as goal

pub returns-clause-exact : goal.returns-clause-exact
returns-clause-exact g c = λ cases bytes r reads are new.
    let p = c.args.parts.now in
    let fat : List ℕ = p.fat.now in
    let k0 = known-none fat c.args.owners.now c.args.seen.now new in
    let k1 = c.claim_list.ensures.known fat k0 (fat-begins-none p cases bytes r reads are) refl refl in
    let k2 = c.claim_list-2.ensures.known fat k1 (difat-begins-none p cases bytes r reads are) refl refl in
    let k3 = c.in_ok-claim_chain.ensures.known k2 in
    let k4 = c.in_ok-claim_chain-2.ensures.known k3 in
    let k5 = c.in_ok-claim_chain-3.ensures.known k4 in
    let d : chain_of fat c.start_of_list-directory.result ≡ p.directory.now = c.start_of_list-directory.ensures fat r.header.first_dir_sector (directory-chain p cases bytes r reads are) in
    let m : chain_of fat c.start_of_list-minifat.result ≡ p.minifat_sectors.now = c.start_of_list-minifat.ensures fat r.header.first_minifat_sector (minifat-chain p cases bytes r reads are) in
    let s : chain_of fat c.start_of_mini_stream-root.result ≡ mini_stream_sectors (parts_reading p) =
    ap (λ (o : Option (List ℕ)). unwrap_or o []) (sym (c.start_of_mini_stream-root.ensures.chain (some-entry p cases bytes r reads are))) in
    sector-owners p cases bytes r reads are c.args.owners.now c.tell_free.new.owners record {
      one = c.claim_list.new.owners;
      two = c.claim_list-2.new.owners;
      three = c.claim_chain.new.owners;
      four = c.claim_chain-2.new.owners;
      five = c.claim_chain-3.new.owners;
      six = c.claim_streams.new.owners;
      len = c.requires.owners;
      none = new.unowned;
      claim_fat = c.claim_list.ensures.claimed;
      claim_difat = c.claim_list-2.ensures.claimed;
      claim_directory = subst (λ (z : List ℕ). Claimed c.claim_list-2.new.owners z Directory c.claim_chain.new.owners) d (c.in_ok-claim_chain.ensures.claimed k2);
      claim_minifat = subst (λ (z : List ℕ). Claimed c.claim_chain.new.owners z Minifat c.claim_chain-2.new.owners) m (c.in_ok-claim_chain-2.ensures.claimed k3);
      claim_root = subst (λ (z : List ℕ). Claimed c.claim_chain-2.new.owners z MiniStream c.claim_chain-3.new.owners) s (c.in_ok-claim_chain-3.ensures.claimed k4);
      in_turn = c.in_ok-claim_streams.ensures.claimed k5;
      freed_at_last = c.tell_free.ensures;
    }
