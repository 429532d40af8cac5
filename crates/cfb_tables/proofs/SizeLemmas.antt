-- How the tables' sizes grow, and when there is room.
use Rattle.std.proofs.Common.{◌≡◌, ℕ, zero, suc, ◌+◌, ◌-◌, ◌*◌, ◌<◌, ◌≤◌, ◌⊎◌, inl, inr, refl, sym, ◌∙◌, ap, subst, arith}
use Rattle.std.proofs.lemmas.Bool.{cases_eq, cases_lt, lt-ltb, le-ltb}
use Rattle.cfb_format.specs.declared.version.Version.{Version}
use Rattle.cfb_format.specs.declared.version.Version.TheVariants.{V3, V4}
use Rattle.cfb_format.specs.Bytes.{words_per_sector, max_regular_sector}
use Rattle.cfb_format.specs.Full.{HasRoom}
use Rattle.cfb_format.specs.Header.{header_difat_len}
use Rattle.cfb_tables.specs.declared.lists.Sizes.{Sizes}
use Rattle.cfb_tables.specs.Tables.{AreSizes, PassesLimit, numbers_needed, grown_sizes, sizes_after}

-- which growth it is
abbrev pub Needs : Version → Sizes → ℕ → Type 0
Needs v s m =
    ((m ≡ 1) × (s.sectors < s.fats * words_per_sector v))
    ⊎ (((m ≡ 2) × (s.fats * words_per_sector v ≤ s.sectors) × (s.fats < header_difat_len + s.difats * (words_per_sector v - 1)))
    ⊎ ((m ≡ 3) × (s.fats * words_per_sector v ≤ s.sectors) × (header_difat_len + s.difats * (words_per_sector v - 1) ≤ s.fats)))

pub needed-cases : (v : Version) (s : Sizes) → Needs v s (numbers_needed v s)
needed-cases v s =
    let n = s.fats * words_per_sector v in
    let top = header_difat_len + s.difats * (words_per_sector v - 1) in
    elim (cases_lt s.sectors n) [
      | inl lt ↦ inl (rw (lt-ltb s.sectors n lt) refl, lt)
      | inr ge ↦ elim (cases_lt s.fats top) [
        | inl lt ↦ inr (inl (rw (le-ltb s.sectors n ge, lt-ltb s.fats top lt) refl, ge, lt))
        | inr up ↦ inr (inr (rw (le-ltb s.sectors n ge, le-ltb s.fats top up) refl, ge, up))
      ]
    ]

pub needed-some : (v : Version) (s : Sizes) → (0 < numbers_needed v s) × (numbers_needed v s < 4)
needed-some v s = elim (needed-cases v s) [
  | inl c ↦ (omega (arith, c.0), omega (arith, c.0))
  | inr r ↦ elim r [ inl c ↦ (omega (arith, c.0), omega (arith, c.0)) | inr c ↦ (omega (arith, c.0), omega (arith, c.0)) ]
]

-- the sizes after each of the three growths
plus_none : (n : ℕ) → n + 0 ≡ n
plus_none n = omega arith

one_raw : (s : Sizes) (m : ℕ) → m ≡ 1 → grown_sizes s m ≡ record { sectors = s.sectors + 1; fats = s.fats + 0; difats = s.difats + 0 }
one_raw s m e = rw e refl

pub one : (s : Sizes) (m : ℕ) → m ≡ 1 → grown_sizes s m ≡ record { sectors = s.sectors + 1; fats = s.fats; difats = s.difats }
one s m e = one_raw s m e ∙ (λ i. record { sectors = s.sectors + 1; fats = plus_none s.fats i; difats = plus_none s.difats i })

two_raw : (s : Sizes) (m : ℕ) → m ≡ 2 → grown_sizes s m ≡ record { sectors = s.sectors + 2; fats = s.fats + 1; difats = s.difats + 0 }
two_raw s m e = rw e refl

pub two : (s : Sizes) (m : ℕ) → m ≡ 2 → grown_sizes s m ≡ record { sectors = s.sectors + 2; fats = s.fats + 1; difats = s.difats }
two s m e = two_raw s m e ∙ (λ i. record { sectors = s.sectors + 2; fats = s.fats + 1; difats = plus_none s.difats i })

pub three : (s : Sizes) (m : ℕ) → m ≡ 3 → grown_sizes s m ≡ record { sectors = s.sectors + 3; fats = s.fats + 1; difats = s.difats + 1 }
three s m e = rw e refl

more_places : (v : Version) (d : ℕ) → d * (words_per_sector v - 1) + 127 ≤ (d + 1) * (words_per_sector v - 1)
more_places V3 d = omega arith
more_places V4 d = omega arith

pub are-sizes-grown : (v : Version) (s : Sizes) → s.sectors + numbers_needed v s ≤ max_regular_sector → AreSizes v s → AreSizes v (grown_sizes s (numbers_needed v s))
are-sizes-grown v s fits a =
    let places = a.places in
    let short = a.difats in
    elim (needed-cases v s) [
      | inl c ↦ subst (AreSizes v) (sym (one s (numbers_needed v s) c.0)) (record {
        short = omega (arith, fits, c.0);
        places = places;
        difats = omega (arith, short);
      })
      | inr r ↦ elim r [
        | inl c ↦ subst (AreSizes v) (sym (two s (numbers_needed v s) c.0)) (record {
          short = omega (arith, fits, c.0);
          places = omega (arith, c.2);
          difats = omega (arith, short);
        })
        | inr c ↦ subst (AreSizes v) (sym (three s (numbers_needed v s) c.0)) (record {
          short = omega (arith, fits, c.0);
          places = let more = more_places v s.difats in omega (arith, places, more);
          difats = omega (arith, short);
        })
      ]
    ]

-- room for one more sector than w is room for w in the grown sizes
module _ (v : Version) (limit : ℕ) (s : Sizes) (w : ℕ) (r : HasRoom v limit s.sectors s.fats s.difats (suc w)) where
  -- what the first growth costs lies within the room
  two_fats : s.fats * words_per_sector v ≤ s.sectors → s.fats < r.fats
  two_fats full = elim (cases_eq s.fats r.fats) [
    | inl e ↦
        let same : s.fats * words_per_sector v ≡ r.fats * words_per_sector v = ap (λ f. f * words_per_sector v) e in
        let covers = r.covers in absurd (omega (arith, same, covers, full))
    | inr ne ↦ let more = r.more_fats in omega (arith, ne, more)
  ]

  three_difats : s.fats < r.fats → header_difat_len + s.difats * (words_per_sector v - 1) ≤ s.fats → s.difats < r.difats
  three_difats less full = elim (cases_eq s.difats r.difats) [
    | inl e ↦
        let same : s.difats * (words_per_sector v - 1) ≡ r.difats * (words_per_sector v - 1) = ap (λ d. d * (words_per_sector v - 1)) e in
        let places = r.places in absurd (omega (arith, same, places, full, less))
    | inr ne ↦ let more = r.more_difats in omega (arith, ne, more)
  ]

  pub room-grown : let g = grown_sizes s (numbers_needed v s) in HasRoom v limit g.sectors g.fats g.difats w
  room-grown =
      let covers = r.covers in
      let left = r.left in
      let mf = r.more_fats in
      let md = r.more_difats in
      elim (needed-cases v s) [
        | inl c ↦ subst (λ (g : Sizes). HasRoom v limit g.sectors g.fats g.difats w) (sym (one s (numbers_needed v s) c.0)) (record {
          fats = r.fats;
          difats = r.difats;
          more_fats = mf;
          more_difats = md;
          places = r.places;
          covers = omega (arith, covers, mf, md);
          left = omega (arith, left, mf, md);
        })
        | inr q ↦ elim q [
          | inl c ↦
              let f = two_fats c.1 in
              subst (λ (g : Sizes). HasRoom v limit g.sectors g.fats g.difats w) (sym (two s (numbers_needed v s) c.0)) (record {
                fats = r.fats;
                difats = r.difats;
                more_fats = omega (arith, f);
                more_difats = md;
                places = r.places;
                covers = omega (arith, covers, f, md);
                left = omega (arith, left, f, md);
              })
          | inr c ↦
              let f = two_fats c.1 in
              let d = three_difats f c.2 in
              subst (λ (g : Sizes). HasRoom v limit g.sectors g.fats g.difats w) (sym (three s (numbers_needed v s) c.0)) (record {
                fats = r.fats;
                difats = r.difats;
                more_fats = omega (arith, f);
                more_difats = omega (arith, d);
                places = r.places;
                covers = omega (arith, covers, f, d);
                left = omega (arith, left, f, d);
              })
        ]
      ]

  pub room-needed : numbers_needed v s ≤ limit - s.sectors
  room-needed =
      let left = r.left in
      elim (needed-cases v s) [
        | inl c ↦ omega (arith, left, c.0)
        | inr q ↦ elim q [
          | inl c ↦ let f = two_fats c.1 in omega (arith, left, c.0, f)
          | inr c ↦ let f = two_fats c.1 in let d = three_difats f c.2 in omega (arith, left, c.0, f, d)
        ]
      ]

-- and the other way round, where the FAT covers the file
covered-grown : (v : Version) (s : Sizes) → s.sectors ≤ s.fats * words_per_sector v
    → let g = grown_sizes s (numbers_needed v s) in g.sectors ≤ g.fats * words_per_sector v
covered-grown v s covered = elim (needed-cases v s) [
  | inl c ↦ subst (λ (g : Sizes). g.sectors ≤ g.fats * words_per_sector v) (sym (one s (numbers_needed v s) c.0)) (omega (arith, c.1))
  | inr q ↦ elim q [
    | inl c ↦ subst (λ (g : Sizes). g.sectors ≤ g.fats * words_per_sector v) (sym (two s (numbers_needed v s) c.0)) (fits v s.sectors s.fats 2 covered (omega arith))
    | inr c ↦ subst (λ (g : Sizes). g.sectors ≤ g.fats * words_per_sector v) (sym (three s (numbers_needed v s) c.0)) (fits v s.sectors s.fats 3 covered (omega arith))
  ]
]
  where
    fits : (v : Version) (n f m : ℕ) → n ≤ f * words_per_sector v → m ≤ 3 → n + m ≤ (f + 1) * words_per_sector v
    fits V3 n f m h t = omega (arith, h, t)
    fits V4 n f m h t = omega (arith, h, t)

pub room-before : (v : Version) (limit : ℕ) (s : Sizes) (w : ℕ) → numbers_needed v s ≤ limit - s.sectors
    → let g = grown_sizes s (numbers_needed v s) in HasRoom v limit g.sectors g.fats g.difats w → HasRoom v limit s.sectors s.fats s.difats (suc w)
room-before v limit s w fits r = elim (needed-cases v s) [
  | inl c ↦
      let q = subst (λ (g : Sizes). HasRoom v limit g.sectors g.fats g.difats w) (one s (numbers_needed v s) c.0) r in
      let covers = q.covers in let left = q.left in let mf = q.more_fats in let md = q.more_difats in
      record {
        fats = q.fats;
        difats = q.difats;
        more_fats = mf;
        more_difats = md;
        places = q.places;
        covers = omega (arith, covers, mf, md);
        left = omega (arith, left, mf, md, fits, c.0);
      }
  | inr z ↦ elim z [
    | inl c ↦
        let q = subst (λ (g : Sizes). HasRoom v limit g.sectors g.fats g.difats w) (two s (numbers_needed v s) c.0) r in
        let covers = q.covers in let left = q.left in let mf = q.more_fats in let md = q.more_difats in
        record {
          fats = q.fats;
          difats = q.difats;
          more_fats = omega (arith, mf);
          more_difats = md;
          places = q.places;
          covers = omega (arith, covers, mf, md);
          left = omega (arith, left, mf, md, fits, c.0);
        }
    | inr c ↦
        let q = subst (λ (g : Sizes). HasRoom v limit g.sectors g.fats g.difats w) (three s (numbers_needed v s) c.0) r in
        let covers = q.covers in let left = q.left in let mf = q.more_fats in let md = q.more_difats in
        record {
          fats = q.fats;
          difats = q.difats;
          more_fats = omega (arith, mf);
          more_difats = omega (arith, md);
          places = q.places;
          covers = omega (arith, covers, mf, md);
          left = omega (arith, left, mf, md, fits, c.0);
        }
  ]
]

pub room-for-none : (v : Version) (limit : ℕ) (s : Sizes) → AreSizes v s → s.sectors ≤ s.fats * words_per_sector v → HasRoom v limit s.sectors s.fats s.difats 0
room-for-none v limit s a covered = record {
  fats = s.fats;
  difats = s.difats;
  more_fats = omega arith;
  more_difats = omega arith;
  places = a.places;
  covers = omega (arith, covered);
  left = omega arith;
}

-- the sizes after a run of growths, one by one

pub after-none : (v : Version) (k : ℕ) (s : Sizes) → k ≡ 0 → sizes_after v k s ≡ s
unfolding sizes_after
after-none v k s e = rw e refl

pub after-one : (v : Version) (k w : ℕ) (s : Sizes) → k ≡ suc w → sizes_after v k s ≡ sizes_after v w (grown_sizes s (numbers_needed v s))
unfolding sizes_after
after-one v k w s e = rw e refl

pub room-grown-at : (v : Version) (limit : ℕ) (s t : Sizes) (k w : ℕ) → k ≡ suc w → t ≡ grown_sizes s (numbers_needed v s)
    → HasRoom v limit s.sectors s.fats s.difats k → HasRoom v limit t.sectors t.fats t.difats w
room-grown-at v limit s t k w e is r =
    subst (λ (g : Sizes). HasRoom v limit g.sectors g.fats g.difats w) (sym is) (room-grown v limit s w (subst (HasRoom v limit s.sectors s.fats s.difats) e r))

-- some growths after others
pub after-more : (v : Version) (i j : ℕ) (s : Sizes) → sizes_after v j (sizes_after v i s) ≡ sizes_after v (i + j) s
unfolding sizes_after
after-more v zero j s = let none : j ≡ 0 + j = omega arith in ap (λ k. sizes_after v k s) none
after-more v (suc i) j s = after-more v i j (grown_sizes s (numbers_needed v s)) ∙ sym (after-one v (suc i + j) (i + j) s (omega arith))

-- sizes only grow
pub sizes-rise : (v : Version) (k : ℕ) (s : Sizes) → (s.sectors ≤ (sizes_after v k s).sectors) × (s.fats ≤ (sizes_after v k s).fats) × (s.difats ≤ (sizes_after v k s).difats)
unfolding sizes_after
sizes-rise v zero s = (omega arith, omega arith, omega arith)
sizes-rise v (suc k) s =
    let r = sizes-rise v k (grown_sizes s (numbers_needed v s)) in
    (omega (arith, r.0), omega (arith, r.1), omega (arith, r.2))

-- one growth that passes the limit lets all of them pass it
pub passes-limit : (v : Version) (limit k w : ℕ) (s start : Sizes) (more : ℕ) → k ≡ suc w → limit - s.sectors < numbers_needed v s
    → sizes_after v k s ≡ sizes_after v more start → 0 < more → PassesLimit v limit start more
passes-limit v limit k w s start more e few same some =
    let g = grown_sizes s (numbers_needed v s) in
    let r = sizes-rise v w g in
    let t = ap (λ (z : Sizes). z.sectors) (sym (after-one v k w s e) ∙ same) in
    (some, omega (arith, r.0, t, few))

-- where the limit is passed there is no room, and where it isn't there is room if the FAT covers the file
pub no-room : (v : Version) (limit more : ℕ) (s : Sizes) → PassesLimit v limit s more → HasRoom v limit s.sectors s.fats s.difats more → ⊥
unfolding sizes_after
no-room v limit zero s p r = let some = p.0 in omega (arith, some)
no-room v limit (suc zero) s p r = let fits = room-needed v limit s 0 r in let pass = p.1 in let some = (needed-some v s).0 in omega (arith, fits, pass, some)
no-room v limit (suc (suc more)) s p r =
    no-room v limit (suc more) (grown_sizes s (numbers_needed v s)) (omega arith, p.1) (room-grown v limit s (suc more) r)

pub room : (v : Version) (limit more : ℕ) (s : Sizes) → AreSizes v s → limit ≤ max_regular_sector → s.sectors ≤ s.fats * words_per_sector v
    → (PassesLimit v limit s more → ⊥) → HasRoom v limit s.sectors s.fats s.difats more
unfolding sizes_after
room v limit zero s a top covered not = room-for-none v limit s a covered
room v limit (suc more) s a top covered not =
    let g = grown_sizes s (numbers_needed v s) in
    let rise = sizes-rise v more g in
    let some = (needed-some v s).0 in
    let fits : (sizes_after v more g).sectors ≤ limit = elim (cases_lt limit (sizes_after v more g).sectors) [ inl lt ↦ absurd (not (omega arith, lt)) | inr ge ↦ ge ] in
    let low : s.sectors + numbers_needed v s ≤ limit = omega (arith, rise.0, fits) in
    let a' = are-sizes-grown v s (omega (arith, low, top)) a in
    room-before v limit s more (omega (arith, low)) (room v limit more g a' top (covered-grown v s covered) (λ p. not (omega arith, p.1)))
