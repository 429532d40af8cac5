-- The paths that end in one text, when it goes on behind one of them.
use Rattle.std.proofs.Common.{◌≡◌, ◌⊎◌, inl, inr, ℕ, suc, ◌+◌, ◌<◌, ◌≤◌, List, [], ◌∷◌, ◌++◌, length, map, refl, sym, ◌∙◌, ap, subst, take, arith, append_assoc, get_or, get_or-take, chars}
use Rattle.std.specs.Str.{IsUtf8, encode_utf8_all}
use Rattle.std.proofs.lemmas.List.{get_or_append_left, get_or-map, length-append, length-map, length-take, length-take-le, map-append, take-append-le, take-map, take-take}
use Rattle.std.proofs.lemmas.Str.{chars-append, encodes-append, encodes-chars}
use Rattle.std.proofs.Math.Nat.{eq-or-lt_of_le}
use Rattle.std.proofs.Math.Seq.{get_or-append_seam, take-length}
use Rattle.cfb_format.specs.Path.{child_path}
use Rattle.cfb_shown.specs.Along.{path_below, paths_to}
use Rattle.cfb_shown.specs.Trails.{AreEnds, paths_in}

map-same : {A B : Type 0} (f h : A → B) (xs : List A) (d : A) → ((k : ℕ) → k < length xs → f (get_or xs k d) ≡ h (get_or xs k d)) → map f xs ≡ map h xs
map-same f h [] d same = refl
map-same f h (x ∷ xs) d same =
    let first = same 0 (omega arith) in
    let rest = map-same f h xs d (λ k l. same (suc k) (omega (arith, l))) in
    λ i. first i ∷ rest i

-- ---- one path alone

pub first-end : (bytes : List ℕ) (end : ℕ) → end ≡ length bytes → IsUtf8 bytes → AreEnds bytes (end ∷ [])
first-end bytes end is good = record {
  rise = λ j k le less.
      let a = alone j (omega (arith, le, less)) in
      let b = alone k less in
      omega (arith, a, b);
  most = λ k less. let a = alone k less in omega (arith, a, is);
  texts = λ k less. subst (λ (n : ℕ). IsUtf8 (take n bytes)) (sym (alone k less ∙ is)) (subst IsUtf8 (sym (take-length bytes)) good);
}
  where
    alone : (k : ℕ) → k < 1 → get_or (end ∷ []) k 0 ≡ end
    alone k less = let z : k ≡ 0 = omega (arith, less) in ap (λ (n : ℕ). get_or (end ∷ []) n 0) z

pub first-path : (bytes path : List ℕ) (end : ℕ) → end ≡ length bytes → bytes ≡ path → paths_in bytes (end ∷ []) ≡ chars path ∷ []
first-path bytes path end is same = ap (λ (n : ℕ). chars (take n bytes) ∷ []) is ∙ ap (λ (bs : List ℕ). chars bs ∷ []) (take-length bytes ∙ same)

-- ---- fewer of them

pub cut-ends : (bytes ends : List ℕ) (n : ℕ) → AreEnds bytes ends → AreEnds bytes (take n ends)
cut-ends bytes ends n t = record {
  rise = λ j k le less. let l = low k less in let a = same j (omega (arith, le, less)) (omega (arith, le, l.0)) in let b = same k less l.0 in let r = t.rise j k le l.1 in omega (arith, a, b, r);
  most = λ k less. let l = low k less in let b = same k less l.0 in let m = t.most k l.1 in omega (arith, b, m);
  texts = λ k less. let l = low k less in subst (λ (m : ℕ). IsUtf8 (take m bytes)) (sym (same k less l.0)) (t.texts k l.1);
}
  where
    low : (k : ℕ) → k < length (take n ends) → (k < n) × (k < length ends)
    low k less = (omega (arith, less, length-take n ends), omega (arith, less, length-take n ends))

    same : (k : ℕ) → k < length (take n ends) → k < n → get_or (take n ends) k 0 ≡ get_or ends k 0
    same k less l = get_or-take n ends k 0 l

pub cut-paths : (bytes ends : List ℕ) (n : ℕ) → paths_in bytes (take n ends) ≡ take n (paths_in bytes ends)
cut-paths bytes ends n = sym (take-map (λ (end : ℕ). chars (take end bytes)) n ends)

-- ---- on behind one of them

module _ (bytes ends : List ℕ) (t : AreEnds bytes ends) (d : ℕ) (less : d < length ends) where
  abbrev end : ℕ
  end = get_or ends d 0

  abbrev cut : List ℕ
  cut = take end bytes

  module _ (more : List ℕ) (good : IsUtf8 (cut ++ more)) where
    abbrev new : List ℕ
    new = cut ++ more

    abbrev next : List ℕ
    next = take (d + 1) ends ++ length new ∷ []

    few : length (take (d + 1) ends) ≡ d + 1
    few = length-take-le (d + 1) ends (omega (arith, less))

    pub next-count : length next ≡ d + 2
    next-count = omega (arith, few, length-append (take (d + 1) ends) (length new ∷ []))

    longer : end ≤ length new
    longer = omega (arith, length-append cut more, length-take-le end bytes (t.most d less))

    old-end : (k : ℕ) → k ≤ d → get_or next k 0 ≡ get_or ends k 0
    old-end k le =
        get_or_append_left (take (d + 1) ends) (length new ∷ []) 0 k (omega (arith, le, few)) ∙ get_or-take (d + 1) ends k 0 (omega (arith, le))

    last-end : (k : ℕ) → k ≡ d + 1 → get_or next k 0 ≡ length new
    last-end k is = ap (λ (n : ℕ). get_or next n 0) (is ∙ sym few) ∙ get_or-append_seam (take (d + 1) ends) (length new) [] 0

    -- in front of the old ends stands what stood there
    kept : (k : ℕ) → k ≤ d → take (get_or ends k 0) new ≡ take (get_or ends k 0) bytes
    kept k le =
        let low = t.rise k d le less in
        take-append-le (get_or ends k 0) cut more (omega (arith, low, length-take-le end bytes (t.most d less))) ∙ take-take (get_or ends k 0) end bytes low

    where-is : (k : ℕ) → k < length next → (k ≡ d + 1) ⊎ (k < d + 1)
    where-is k l = eq-or-lt_of_le (omega (arith, l, next-count))

    rises : (j k : ℕ) → j ≤ k → k < length next → get_or next j 0 ≤ get_or next k 0
    rises j k le l = elim (where-is k l) [
      | inl is ↦ elim (where-is j (omega (arith, le, l))) [
        | inl too ↦ let a = last-end k is in let b = last-end j too in omega (arith, a, b)
        | inr low ↦
            let a = last-end k is in
            let b = old-end j (omega (arith, low)) in
            let r = t.rise j d (omega (arith, low)) less in
            omega (arith, a, b, r, longer)
      ]
      | inr low ↦
          let a = old-end k (omega (arith, low)) in
          let b = old-end j (omega (arith, low, le)) in
          let r = t.rise j k le (omega (arith, low, less)) in
          omega (arith, a, b, r)
    ]

    within : (k : ℕ) → k < length next → get_or next k 0 ≤ length new
    within k l = elim (where-is k l) [
      | inl is ↦ let a = last-end k is in omega (arith, a)
      | inr low ↦
          let a = old-end k (omega (arith, low)) in
          let r = t.rise k d (omega (arith, low)) less in
          omega (arith, a, r, longer)
    ]

    texts : (k : ℕ) → k < length next → IsUtf8 (take (get_or next k 0) new)
    texts k l = elim (where-is k l) [
      | inl is ↦ subst (λ (n : ℕ). IsUtf8 (take n new)) (sym (last-end k is)) (subst IsUtf8 (sym (take-length new)) good)
      | inr low ↦
          subst (λ (n : ℕ). IsUtf8 (take n new)) (sym (old-end k (omega (arith, low))))
          (subst IsUtf8 (sym (kept k (omega (arith, low)))) (t.texts k (omega (arith, low, less))))
    ]

    pub next-ends : AreEnds new next
    next-ends = record { rise = rises; most = within; texts = texts }

    -- the paths stay, and the own one comes behind them
    pub next-paths : paths_in new next ≡ take (d + 1) (paths_in bytes ends) ++ chars new ∷ []
    next-paths =
        map-append (λ (e : ℕ). chars (take e new)) (take (d + 1) ends) (length new ∷ [])
        ∙ ap (λ (bs : List ℕ). map (λ (e : ℕ). chars (take e new)) (take (d + 1) ends) ++ chars bs ∷ []) (take-length new)
        ∙ ap (λ (ps : List (List ℕ)). ps ++ chars new ∷ [])
        (map-same (λ (e : ℕ). chars (take e new)) (λ (e : ℕ). chars (take e bytes)) (take (d + 1) ends) 0 here ∙ cut-paths bytes ends (d + 1))
      where
        here : (k : ℕ) → k < length (take (d + 1) ends) → chars (take (get_or (take (d + 1) ends) k 0) new) ≡ chars (take (get_or (take (d + 1) ends) k 0) bytes)
        here k l =
            let low : k ≤ d = omega (arith, l, few) in
            let e : get_or (take (d + 1) ends) k 0 ≡ get_or ends k 0 = get_or-take (d + 1) ends k 0 (omega (arith, low)) in
            ap (λ (n : ℕ). chars (take n new)) e ∙ ap chars (kept k low) ∙ ap (λ (n : ℕ). chars (take n bytes)) (sym e)

  -- the path of the storage
  pub path-at : get_or (paths_in bytes ends) d [] ≡ chars cut
  path-at = get_or-map (λ (e : ℕ). chars (take e bytes)) ends d 0 [] less

-- a name behind a path
pub own-path : (cut between name joined new : List ℕ) (wanted : List ℕ) → IsUtf8 cut → IsUtf8 joined → joined ≡ cut ++ between → new ≡ joined ++ name
    → ((n : List ℕ) → child_path (chars cut) n ≡ (chars cut ++ chars between) ++ n) → wanted ≡ child_path (chars cut) (chars name) → chars new ≡ wanted
own-path cut between name joined new wanted good good-too first then separated is =
    ap chars then ∙ chars-append joined name good-too ∙ ap (λ (cs : List ℕ). cs ++ chars name) (ap chars first ∙ chars-append cut between good)
    ∙ sym (separated (chars name)) ∙ sym is

-- ---- lists of paths

pub first-stays : (paths next : List (List ℕ)) (d : ℕ) (name : List ℕ) → d < length paths → next ≡ paths_to paths d name → take 1 next ≡ take 1 paths
first-stays paths next d name less went =
    ap (take 1) went
    ∙ take-append-le 1 (take (d + 1) paths) (path_below paths d name ∷ []) (omega (arith, less, length-take-le (d + 1) paths (omega (arith, less))))
    ∙ take-take 1 (d + 1) paths (omega arith)

pub one-path : (bytes ends : List ℕ) (path : List ℕ) → paths_in bytes ends ≡ path ∷ [] → length ends ≡ 1
one-path bytes ends path is = sym (length-map ends (λ (end : ℕ). chars (take end bytes))) ∙ ap (λ (ps : List (List ℕ)). length ps) is

pub path-counts : (bytes ends : List ℕ) → length (paths_in bytes ends) ≡ length ends
path-counts bytes ends = length-map ends (λ (end : ℕ). chars (take end bytes))

-- the bytes of a path behind which a name was put
pub wanted-bytes : (cut between name wanted : List ℕ) → IsUtf8 cut → IsUtf8 between → IsUtf8 name
    → ((n : List ℕ) → child_path (chars cut) n ≡ (chars cut ++ chars between) ++ n) → wanted ≡ child_path (chars cut) (chars name)
    → encode_utf8_all wanted ≡ cut ++ (between ++ name)
wanted-bytes cut between name wanted one two three separated is =
    ap encode_utf8_all (is ∙ separated (chars name) ∙ append_assoc (chars cut) (chars between) (chars name)) ∙ encodes-append (chars cut) (chars between ++ chars name)
    ∙ ap (λ (bs : List ℕ). bs ++ encode_utf8_all (chars between ++ chars name)) (encodes-chars cut one)
    ∙ ap (λ (bs : List ℕ). cut ++ bs) (encodes-append (chars between) (chars name) ∙ (λ i. encodes-chars between two i ++ encodes-chars name three i))

pub wanted-length : (cut between name wanted : List ℕ) → encode_utf8_all wanted ≡ cut ++ (between ++ name) → length (encode_utf8_all wanted) ≡ length cut + (length between + length name)
wanted-length cut between name wanted is =
    let e = ap (λ (bs : List ℕ). length bs) is in
    omega (arith, e, length-append cut (between ++ name), length-append between name)
