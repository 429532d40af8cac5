-- Lists whose members have different owners share nothing.
use Rattle.std.proofs.Common.{◌≡◌, ◌≢◌, ◌+◌, ◌<◌, ◌≤◌, inl, inr, ℕ, List, [], ◌∷◌, ◌++◌, Bool, true, false, length, refl, sym, ◌∙◌, ap, subst, arith}
use Rattle.std.specs.Prelude.{Contains, flat_map, nat_eq, Option, Some, None, unwrap_or, if◌then◌else◌, slice_index, ◌==◌, ◌&&◌, not}
use Rattle.std.specs.List.{IsDistinct}
use Rattle.std.proofs.lemmas.List.Elements.{Contains-append_left, Contains-append_right, Contains-append_cases}
use Rattle.cfb_format.specs.Bytes.{free_sector, is_regular}
use Rattle.cfb_format.specs.Chain.{chain_from}
use Rattle.cfb_format.specs.Content.{is_large, mini_chain, sector_chain}
use Rattle.cfb_format.specs.DirectoryEntry.{Entry}
use Rattle.cfb_format.specs.Fat.{is_among}
use Rattle.cfb_format.specs.Names.{Cases}
use Rattle.cfb_format.specs.Reading.{Outline, no_more, storage_at, stream_at, numbers, stream_numbers, Reading, Reads, root_entry}
use Rattle.cfb_format.specs.Siblings.{entry_at}
use Rattle.cfb_format.specs.Soundness.{Owner as OwnerOf, fat_table, difat_table, directory_of_file, minifat_table, mini_stream, one_stream, is_free, no_owner, first_owner, owner, streams, sectors_of, large_streams, mini_stream_sectors, used_sectors, used_mini_sectors}
use Rattle.cfb_format.proofs.Chains.{chain_from-IsChain}
use Rattle.cfb_format.proofs.Members.{AreApart, Contains-here, Contains-there, Contains-nil, Contains-among, among-Contains, distinct-apart, distinct-join, distinct-left, distinct-right, flat-Contains, none_distinct, one_distinct}
use Rattle.cfb_format.proofs.Walks.{follows-member}
use Rattle.cfb_soundness.proofs.Decision.{used-by-streams}
use Rattle.cfb_soundness.proofs.MarkLemmas.{true_false}
use Rattle.cfb_flaws.specs.declared.owner.Owner.TheVariants.{Difat, Minifat as MinifatOwner, MiniStream}
use Rattle.cfb_flaws.specs.declared.owner.Table.{Table}
use Rattle.cfb_flaws.specs.declared.owner.Table.TheVariants.{Fat, Minifat}
use Rattle.cfb_flaws.specs.Claims.{members_in}
use Rattle.cfb_flaws.specs.Flaws.{OwnsIn, OwnTheirMembers, owner_in}
use Rattle.cfb_flaws.proofs.Claiming.{tables-begin-none}
use Rattle.cfb_flaws.proofs.Truths.{from-member}

-- ---- streams stand once

in-numbers : (o : Outline) (i : ℕ) → Contains (stream_numbers o) i → Contains (numbers o) i
in-numbers no_more i m = m
in-numbers (storage_at k inside rest) i m =
    Contains-there k (numbers inside ++ numbers rest) i (elim (Contains-append_cases (stream_numbers inside) (stream_numbers rest) i m) [
      | inl l ↦ Contains-append_left (numbers inside) (numbers rest) i (in-numbers inside i l)
      | inr r ↦ Contains-append_right (numbers inside) (numbers rest) i (in-numbers rest i r)
    ])
in-numbers (stream_at k rest) i m = elim (Contains-append_cases (k ∷ []) (stream_numbers rest) i m) [
  | inl l ↦ Contains-append_left (k ∷ []) (numbers rest) i l
  | inr r ↦ Contains-append_right (k ∷ []) (numbers rest) i (in-numbers rest i r)
]

once-streams : (o : Outline) → IsDistinct nat_eq (numbers o) → IsDistinct nat_eq (stream_numbers o)
once-streams no_more d = d
once-streams (storage_at k inside rest) d =
    let both = distinct-right (k ∷ []) (numbers inside ++ numbers rest) d in
    distinct-join (stream_numbers inside) (stream_numbers rest)
    (once-streams inside (distinct-left (numbers inside) (numbers rest) both)) (once-streams rest (distinct-right (numbers inside) (numbers rest) both))
    (λ i m n. distinct-apart (numbers inside) (numbers rest) both i (in-numbers inside i m) (in-numbers rest i n))
once-streams (stream_at k rest) d =
    distinct-join (k ∷ []) (stream_numbers rest) (one_distinct k) (once-streams rest (distinct-right (k ∷ []) (numbers rest) d))
    (λ i m n. distinct-apart (k ∷ []) (numbers rest) d i m (in-numbers rest i n))

streams-once : (cases : Cases) (bytes : List ℕ) (r : Reading) → Reads cases bytes r → IsDistinct nat_eq (streams r)
streams-once cases bytes r reads = once-streams r.outline (distinct-right (0 ∷ []) (numbers r.outline) reads.outline.distinct)

-- ---- owners by rank

rank : OwnerOf → ℕ
rank fat_table = 0
rank difat_table = 1
rank directory_of_file = 2
rank minifat_table = 3
rank mini_stream = 4
rank (one_stream k) = 5
rank is_free = 6
rank no_owner = 6

stream-of : OwnerOf → ℕ
stream-of fat_table = 0
stream-of difat_table = 0
stream-of directory_of_file = 0
stream-of minifat_table = 0
stream-of mini_stream = 0
stream-of (one_stream k) = k
stream-of is_free = 0
stream-of no_owner = 0

-- lists of streams that are the first to have what is theirs
flat-once : (own : ℕ → OwnerOf) (f : ℕ → List ℕ) (xs : List ℕ) → IsDistinct nat_eq xs → ((k : ℕ) → IsDistinct nat_eq (f k))
    → ((k : ℕ) → Contains xs k → (i : ℕ) → Contains (f k) i → own i ≡ one_stream k) → IsDistinct nat_eq (flat_map f xs)
unfolding stream-of
flat-once own f [] d each owned = none_distinct
flat-once own f (x ∷ xs) d each owned =
    distinct-join (f x) (flat_map f xs) (each x)
    (flat-once own f xs (distinct-right (x ∷ []) xs d) each (λ k m i c. owned k (Contains-there x xs k m) i c))
    (λ i m n.
    let s = flat-Contains f xs i n in
    let a = owned x (Contains-here x xs) i m in
    let b = owned s.0 (Contains-there x xs s.0 s.1) i s.2 in
    let same : x ≡ s.0 = ap stream-of (sym a ∙ b) in
    distinct-apart (x ∷ []) xs d x (Contains-here x []) (subst (λ (k : ℕ). Contains xs k) (sym same) s.1))

-- the list has these ranks
Below : Reading → ℕ → List ℕ → Type 0
Below r n list = (i : ℕ) → Contains list i → rank (owner r i) < n

join-below : (r : Reading) (n : ℕ) (xs ys : List ℕ) → Below r n xs → ((i : ℕ) → Contains ys i → rank (owner r i) ≡ n) → Below r (n + 1) (xs ++ ys)
unfolding Below
join-below r n xs ys b is i m = elim (Contains-append_cases xs ys i m) [
  | inl l ↦ let h = b i l in omega (arith, h)
  | inr k ↦ let h = is i k in omega (arith, h)
]

join-once : (r : Reading) (n : ℕ) (xs ys : List ℕ) → IsDistinct nat_eq xs → IsDistinct nat_eq ys → Below r n xs → ((i : ℕ) → Contains ys i → rank (owner r i) ≡ n)
    → IsDistinct nat_eq (xs ++ ys)
unfolding Below
join-once r n xs ys d e b is = distinct-join xs ys d e (λ i m k. let h = b i m in let g = is i k in omega (arith, h, g))

chain-once : (table : List ℕ) (s : ℕ) → IsDistinct nat_eq (unwrap_or (chain_from table s) [])
chain-once table s = go (chain_from table s) refl
  where
    go : (o : Option (List ℕ)) → chain_from table s ≡ o → IsDistinct nat_eq (unwrap_or o [])
    go None e = none_distinct
    go (Some list) e = ((chain_from-IsChain table s list).0 e).distinct

mini-stream-once : (r : Reading) → IsDistinct nat_eq (mini_stream_sectors r)
mini-stream-once r = go ((root_entry r).stream_len == 0 && not (is_regular (root_entry r).start_sector))
  where
    go : (b : Bool) → IsDistinct nat_eq (unwrap_or (if b then Some [] else chain_from r.fat (root_entry r).start_sector) [])
    go true = none_distinct
    go false = chain-once r.fat (root_entry r).start_sector

members-once : (t : Table) (r : Reading) (e : Entry) → IsDistinct nat_eq (members_in t r e)
members-once Fat r e = go (is_large e)
  where
    go : (b : Bool) → IsDistinct nat_eq (if b then unwrap_or (sector_chain r e) [] else [])
    go true = chain-once r.fat e.start_sector
    go false = none_distinct
members-once Minifat r e = go (is_large e) (e.stream_len == 0)
  where
    go : (b c : Bool) → IsDistinct nat_eq (if b then [] else unwrap_or (if c then Some [] else chain_from r.minifat e.start_sector) [])
    go true c = none_distinct
    go false true = none_distinct
    go false false = chain-once r.minifat e.start_sector

module _ (cases : Cases) (bytes : List ℕ) (r : Reading) (reads : Reads cases bytes r) where
  fat-rank : (i : ℕ) → Contains r.fat_sectors i → rank (owner r i) ≡ 0
  unfolding rank
  fat-rank i m = ap (λ (a : Bool). rank (if a then fat_table else if is_among r.difat_sectors i then difat_table else if is_among r.directory i then directory_of_file
      else if is_among r.minifat_sectors i then minifat_table else if is_among (mini_stream_sectors r) i then mini_stream
      else first_owner (sectors_of r) i (if slice_index r.fat i == free_sector then is_free else no_owner) (large_streams r))) (Contains-among r.fat_sectors i m)

  directory-rank : (i : ℕ) → Contains r.directory i → rank (owner r i) ≡ 2
  unfolding rank
  directory-rank i m = go (is_among r.fat_sectors i) refl (is_among r.difat_sectors i) refl (is_among r.directory i) (Contains-among r.directory i m)
    where
      none : Contains (r.fat_sectors ++ r.difat_sectors) i → ⊥
      none c =
          let f = from-member r.fat r.header.first_dir_sector r.directory i reads.directory.chain.follows m in
          tables-begin-none cases bytes r reads i c f.0 f.1

      go : (a : Bool) → is_among r.fat_sectors i ≡ a → (b : Bool) → is_among r.difat_sectors i ≡ b → (c : Bool) → c ≡ true
          → rank (if a then fat_table else if b then difat_table else if c then directory_of_file
          else if is_among r.minifat_sectors i then minifat_table else if is_among (mini_stream_sectors r) i then mini_stream
          else first_owner (sectors_of r) i (if slice_index r.fat i == free_sector then is_free else no_owner) (large_streams r)) ≡ 2
      go true ea b eb c ec = absurd (none (Contains-append_left r.fat_sectors r.difat_sectors i (among-Contains r.fat_sectors i ea)))
      go false ea true eb c ec = absurd (none (Contains-append_right r.fat_sectors r.difat_sectors i (among-Contains r.difat_sectors i eb)))
      go false ea false eb true ec = refl
      go false ea false eb false ec = absurd (true_false false ec refl)

  pub sectors-once : IsDistinct nat_eq r.fat_sectors → OwnsIn Fat r Difat r.difat_sectors → OwnsIn Fat r MinifatOwner r.minifat_sectors
      → OwnsIn Fat r MiniStream (mini_stream_sectors r) → OwnTheirMembers Fat r (streams r) → IsDistinct nat_eq (used_sectors r)
  unfolding rank Below
  sectors-once fat difat minifat root each =
      let l1 : List ℕ = r.fat_sectors ++ r.difat_sectors in
      let l2 : List ℕ = l1 ++ r.directory in
      let l3 : List ℕ = l2 ++ r.minifat_sectors in
      let l4 : List ℕ = l3 ++ mini_stream_sectors r in
      let own : List ℕ = flat_map (λ k. members_in Fat r (entry_at r.entries k)) (streams r) in
      let r1 = λ (i : ℕ) (m : Contains r.difat_sectors i). ap rank (difat i m) in
      let r3 = λ (i : ℕ) (m : Contains r.minifat_sectors i). ap rank (minifat i m) in
      let r4 = λ (i : ℕ) (m : Contains (mini_stream_sectors r) i). ap rank (root i m) in
      let r5 = λ (i : ℕ) (m : Contains own i). let s = flat-Contains (λ k. members_in Fat r (entry_at r.entries k)) (streams r) i m in ap rank (each s.0 s.1 i s.2) in
      let b0 : Below r 1 r.fat_sectors = λ i m. let e = fat-rank i m in omega (arith, e) in
      let b1 = join-below r 1 r.fat_sectors r.difat_sectors b0 r1 in
      let b2 = join-below r 2 l1 r.directory b1 directory-rank in
      let b3 = join-below r 3 l2 r.minifat_sectors b2 r3 in
      let b4 = join-below r 4 l3 (mini_stream_sectors r) b3 r4 in
      let d1 = join-once r 1 r.fat_sectors r.difat_sectors fat reads.difat.distinct b0 r1 in
      let d2 = join-once r 2 l1 r.directory d1 reads.directory.chain.distinct b1 directory-rank in
      let d3 = join-once r 3 l2 r.minifat_sectors d2 reads.minifat.chain.distinct b2 r3 in
      let d4 = join-once r 4 l3 (mini_stream_sectors r) d3 (mini-stream-once r) b3 r4 in
      let d5 = flat-once (owner r) (λ k. members_in Fat r (entry_at r.entries k)) (streams r) (streams-once cases bytes r reads) (λ k. members-once Fat r (entry_at r.entries k))
      (λ k m i c. each k m i c) in
      subst (IsDistinct nat_eq) (sym (used-by-streams r).0) (join-once r 5 l4 own d4 d5 b4 r5)

  pub mini-sectors-once : OwnTheirMembers Minifat r (streams r) → IsDistinct nat_eq (used_mini_sectors r)
  mini-sectors-once each =
      subst (IsDistinct nat_eq) (sym (used-by-streams r).1)
      (flat-once (owner_in Minifat r) (λ k. members_in Minifat r (entry_at r.entries k)) (streams r) (streams-once cases bytes r reads) (λ k. members-once Minifat r (entry_at r.entries k))
      (λ k m i c. each k m i c))
