-- What is used of a table, and how that changes.
use Rattle.std.proofs.Common.{◌≢◌, ℕ, ◌⊎◌, inl, inr, List, ◌++◌, sym, ◌∙◌, subst, arith}
use Rattle.std.specs.Prelude.{Contains, nat_eq, IsTrue}
use Rattle.std.specs.List.{IsDistinct}
use Rattle.std.proofs.lemmas.List.Elements.{Contains-append_left, Contains-append_right, Contains-append_cases}
use Rattle.cfb_format.specs.Bytes.{is_regular, free_sector}
use Rattle.cfb_format.specs.Chain.{value}
use Rattle.cfb_format.specs.Soundness.{IsLoose}
use Rattle.cfb_tables.specs.Tables.{TableState, HasTaken}
use Rattle.cfb_tables.specs.Owners.{Uses, AllUsed, UseChanges, Takes, Frees, GivenBackIsFreeing}
use Rattle.cfb_tables.proofs.Members.{in_three, first_of_three, second_of_three, third_of_three}
use Rattle.cfb_tables.proofs.TakenLemmas.{taken-busy, three-distinct}
use Rattle.cfb_format.proofs.Members.{Contains-or, distinct-left, distinct-right, distinct-apart, distinct-join}

-- ---- members of three lists one after the other

module _ (front xs back : List ℕ) where
  in_front : (x : ℕ) → Contains front x → Contains (front ++ xs ++ back) x
  in_front x m = Contains-append_left (front ++ xs) back x (Contains-append_left front xs x m)

  in_middle : (x : ℕ) → Contains xs x → Contains (front ++ xs ++ back) x
  in_middle x m = Contains-append_left (front ++ xs) back x (Contains-append_right front xs x m)

  in_back : (x : ℕ) → Contains back x → Contains (front ++ xs ++ back) x
  in_back x m = Contains-append_right (front ++ xs) back x m

  in_parts : (x : ℕ) → Contains (front ++ xs ++ back) x → Contains xs x ⊎ (Contains front x ⊎ Contains back x)
  in_parts x m = elim (Contains-append_cases (front ++ xs) back x m) [
    | inl l ↦ elim (Contains-append_cases front xs x l) [ inl f ↦ inr (inl f) | inr r ↦ inl r ]
    | inr b ↦ inr (inr b)
  ]

-- ---- the laws

pub uses-kept : (old used new used' : List ℕ) → UseChanges old used new used' → Uses old used → Uses new used'
uses-kept old used new used' c u = record {
  distinct = c.distinct u.distinct;
  there = c.there u.there;
  loose = λ i l regular.
      let out : Contains used i → ⊥ = λ m. l.0 (c.given_back i m l.1) in
      let same = c.stays i out l.1 in
      let was = u.loose i ((λ f. l.0 (same ∙ f)), out) (subst (λ w. IsTrue (is_regular w)) same regular) in
      let out' : Contains used' (value old i) → ⊥ = λ m. was.0 (c.taken (value old i) m was.1) in
      let kept = c.stays (value old i) was.1 out' in
      subst (IsLoose new used') (sym same) ((λ f. was.0 (sym kept ∙ f)), out');
}

pub nothing-loose : (old used new used' : List ℕ) → UseChanges old used new used' → AllUsed old used → AllUsed new used'
nothing-loose old used new used' c all i busy = elim (Contains-or used' i) [
  | inl m ↦ m
  | inr out' ↦ elim (Contains-or used i) [
    | inl m ↦ absurd (busy (c.given_back i m out'))
    | inr out ↦ absurd (out (all i (λ f. busy (c.stays i out out' ∙ f))))
  ]
]

pub use-changes-follow : (old used mid used' new used'' : List ℕ) → UseChanges old used mid used' → UseChanges mid used' new used'' → UseChanges old used new used''
use-changes-follow old used mid used' new used'' a b = record {
  distinct = λ d. b.distinct (a.distinct d);
  there = λ t. b.there (a.there t);
  taken = λ i m out. elim (Contains-or used' i) [
    | inl m' ↦ a.taken i m' out
    | inr out' ↦ sym (a.stays i out out') ∙ b.taken i m out'
  ];
  given_back = λ i m out. elim (Contains-or used' i) [
    | inl m' ↦ b.given_back i m' out
    | inr out' ↦ b.stays i out' out ∙ a.given_back i m out'
  ];
  stays = λ i out out''. elim (Contains-or used' i) [
    | inl m' ↦ b.given_back i m' out'' ∙ sym (a.taken i m' out)
    | inr out' ↦ b.stays i out' out'' ∙ a.stays i out out'
  ];
}

pub taking-changes : (old new front xs more back : List ℕ) → Takes old new xs more → ((i : ℕ) → Contains (front ++ xs ++ back) i → value old i ≢ free_sector)
    → UseChanges old (front ++ xs ++ back) new (front ++ (xs ++ more) ++ back)
taking-changes old new front xs more back t there =
    let fresh_out : (i : ℕ) → Contains more i → Contains (front ++ xs ++ back) i → ⊥ = λ i m n. there i n (t.fresh i m) in
    record {
      distinct = λ d.
          let dl = distinct-left (front ++ xs) back d in
          let xm : IsDistinct nat_eq (xs ++ more) = distinct-join xs more (distinct-right front xs dl) t.once (λ x m n. fresh_out x n (in_middle front xs back x m)) in
          let fxm : IsDistinct nat_eq (front ++ (xs ++ more)) = distinct-join front (xs ++ more) (distinct-left front xs dl) xm
          (λ x m n. elim (Contains-append_cases xs more x n) [ inl r ↦ distinct-apart front xs dl x m r | inr r ↦ fresh_out x r (in_front front xs back x m) ]) in
          distinct-join (front ++ (xs ++ more)) back fxm (distinct-right (front ++ xs) back d)
          (λ x m n. elim (Contains-append_cases front (xs ++ more) x m) [
            | inl f ↦ distinct-apart (front ++ xs) back d x (Contains-append_left front xs x f) n
            | inr r ↦ elim (Contains-append_cases xs more x r) [
              | inl k ↦ distinct-apart (front ++ xs) back d x (Contains-append_right front xs x k) n
              | inr k ↦ fresh_out x k (in_back front xs back x n)
            ]
          ]);
      there = λ was i m. elim (Contains-or (xs ++ more) i) [
        | inl mine ↦ t.busy i mine
        | inr out ↦ elim (in_parts front (xs ++ more) back i m) [
          | inl mine ↦ absurd (out mine)
          | inr r ↦ elim r [
            | inl f ↦ (λ e. was i (in_front front xs back i f) (sym (t.only i out) ∙ e))
            | inr b ↦ (λ e. was i (in_back front xs back i b) (sym (t.only i out) ∙ e))
          ]
        ]
      ];
      taken = λ i m out. elim (in_parts front (xs ++ more) back i m) [
        | inl mine ↦ elim (Contains-append_cases xs more i mine) [ inl k ↦ absurd (out (in_middle front xs back i k)) | inr k ↦ t.fresh i k ]
        | inr r ↦ elim r [ inl f ↦ absurd (out (in_front front xs back i f)) | inr b ↦ absurd (out (in_back front xs back i b)) ]
      ];
      given_back = λ i m out. elim (in_parts front xs back i m) [
        | inl mine ↦ absurd (out (in_middle front (xs ++ more) back i (Contains-append_left xs more i mine)))
        | inr r ↦ elim r [ inl f ↦ absurd (out (in_front front (xs ++ more) back i f)) | inr b ↦ absurd (out (in_back front (xs ++ more) back i b)) ]
      ];
      stays = λ i out out'. t.only i (λ m. out' (in_middle front (xs ++ more) back i m));
    }

pub freeing-changes : (old new front xs gone back : List ℕ) → Frees old new xs gone → IsDistinct nat_eq (front ++ (xs ++ gone) ++ back)
    → UseChanges old (front ++ (xs ++ gone) ++ back) new (front ++ xs ++ back)
freeing-changes old new front xs gone back f d =
    let dl = distinct-left (front ++ (xs ++ gone)) back d in
    let smaller : (i : ℕ) → Contains (front ++ xs ++ back) i → Contains (front ++ (xs ++ gone) ++ back) i = λ i m. elim (in_parts front xs back i m) [
      | inl mine ↦ in_middle front (xs ++ gone) back i (Contains-append_left xs gone i mine)
      | inr r ↦ elim r [ inl a ↦ in_front front (xs ++ gone) back i a | inr b ↦ in_back front (xs ++ gone) back i b ]
    ] in
    record {
      distinct = λ _d. distinct-join (front ++ xs) back
          (distinct-join front xs (distinct-left front (xs ++ gone) dl) (distinct-left xs gone (distinct-right front (xs ++ gone) dl))
          (λ x m n. distinct-apart front (xs ++ gone) dl x m (Contains-append_left xs gone x n)))
          (distinct-right (front ++ (xs ++ gone)) back d)
          (λ x m n. distinct-apart (front ++ (xs ++ gone)) back d x
          (elim (Contains-append_cases front xs x m) [
            | inl a ↦ Contains-append_left front (xs ++ gone) x a
            | inr r ↦ Contains-append_right front (xs ++ gone) x (Contains-append_left xs gone x r)
          ]) n);
      there = λ was i m. elim (in_parts front xs back i m) [
        | inl mine ↦ f.busy i mine
        | inr r ↦
            let out : Contains (xs ++ gone) i → ⊥ = λ k. elim r [
              | inl a ↦ distinct-apart front (xs ++ gone) dl i a k
              | inr b ↦ distinct-apart (front ++ (xs ++ gone)) back d i (Contains-append_right front (xs ++ gone) i k) b
            ] in
            (λ e. was i (smaller i m) (sym (f.only i out) ∙ e))
      ];
      taken = λ i m out. absurd (out (smaller i m));
      given_back = λ i m out. elim (in_parts front (xs ++ gone) back i m) [
        | inl mine ↦ elim (Contains-append_cases xs gone i mine) [ inl k ↦ absurd (out (in_middle front xs back i k)) | inr k ↦ f.free i k ]
        | inr r ↦ elim r [ inl a ↦ absurd (out (in_front front xs back i a)) | inr b ↦ absurd (out (in_back front xs back i b)) ]
      ];
      stays = λ i out out'. f.only i (λ m. out (in_middle front (xs ++ gone) back i m));
    }

-- ---- what the tables do

pub taken-takes : (old new : TableState) (touched more : List ℕ) (h : HasTaken old new touched more) → Takes old.fat new.fat touched (more ++ h.fats ++ h.difats)
taken-takes old new touched more h = record {
  only = λ i out. h.only i (λ m. out (regroup i m));
  once = three-distinct old new touched more h;
  fresh = h.fresh;
  busy = λ i m. taken-busy old new touched more h i (ungroup i m);
}
  where
    regroup : (i : ℕ) → Contains (touched ++ more ++ h.fats ++ h.difats) i → Contains (touched ++ (more ++ h.fats ++ h.difats)) i
    regroup i m = elim (in_three (touched ++ more) h.fats h.difats i m) [
      | inl l ↦ elim (Contains-append_cases touched more i l) [
        | inl x ↦ Contains-append_left touched (more ++ h.fats ++ h.difats) i x
        | inr x ↦ Contains-append_right touched (more ++ h.fats ++ h.difats) i (first_of_three more h.fats h.difats i x)
      ]
      | inr r ↦ elim r [
        | inl x ↦ Contains-append_right touched (more ++ h.fats ++ h.difats) i (second_of_three more h.fats h.difats i x)
        | inr x ↦ Contains-append_right touched (more ++ h.fats ++ h.difats) i (third_of_three more h.fats h.difats i x)
      ]
    ]

    ungroup : (i : ℕ) → Contains (touched ++ (more ++ h.fats ++ h.difats)) i → Contains (touched ++ more ++ h.fats ++ h.difats) i
    ungroup i m = elim (Contains-append_cases touched (more ++ h.fats ++ h.difats) i m) [
      | inl x ↦ first_of_three (touched ++ more) h.fats h.difats i (Contains-append_left touched more i x)
      | inr y ↦ elim (in_three more h.fats h.difats i y) [
        | inl x ↦ first_of_three (touched ++ more) h.fats h.difats i (Contains-append_right touched more i x)
        | inr r ↦ elim r [ inl x ↦ second_of_three (touched ++ more) h.fats h.difats i x | inr x ↦ third_of_three (touched ++ more) h.fats h.difats i x ]
      ]
    ]

pub given-back-frees : GivenBackIsFreeing
given-back-frees old new ends gone g = record { only = g.only; free = g.free; busy = λ i m e. let is = g.ended i m in omega (arith, is, e) }
