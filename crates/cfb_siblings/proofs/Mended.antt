-- The rules that make up for a missing black node, for the balance and for reds apart.
use Rattle.std.proofs.Common.{◌≡◌, ℕ, Bool, true, false, List, [], ◌∷◌, refl, sym}
use Rattle.cfb_siblings.specs.Painted.{Painted, Leaf, Node}
use Rattle.cfb_siblings.specs.Way.{Frame, InLeft, InRight, plug, red_top}
use Rattle.cfb_siblings.specs.Calm.{Calm, IsCalm, FitsCalm}
use Rattle.cfb_siblings.specs.Short.{IsCalmBelow, IsCalmIfBlack, Mends, Passes}
use Rattle.cfb_siblings.proofs.Calm.{fill_calm, black_fits}
use Rattle.cfb_siblings.proofs.Lacking.{rule-1, rule-2, rule-3, rule-4-left, rule-4-right, rule-5-left, rule-5-right, rule-6-left, rule-6-right, rule-7-left, rule-7-right}

true≢false : true ≡ false → ⊥
true≢false e = cc

calm-of : (t : Painted) → red_top t ≡ false → IsCalmBelow t → Calm t
calm-of Leaf r l = l
calm-of (Node true a n b) r l = absurd (true≢false r)
calm-of (Node false a n b) r l = l

pub calm-below : (t : Painted) → Calm t → IsCalmBelow t
calm-below Leaf g = g
calm-below (Node true a n b) (_, _, ga, gb) = (ga, gb)
calm-below (Node false a n b) g = g

-- rule 1: a red node becomes black
pub mend-1 : (fs : List Frame) (a : Painted) (n : ℕ) (b : Painted) → Mends fs (Node true a n b) (plug fs (Node false a n b))
mend-1 fs a n b = (λ H sh. (H, rule-1 fs a n b H sh), λ i. fill_calm fs (Node false a n b) i.1 i.0)

-- rule 2: at the top
pub mend-2 : (t : Painted) → red_top t ≡ false → Mends [] t t
mend-2 t r = (λ H sh. rule-2 t H r sh, λ i. (r, calm-of t r i.0))

-- rule 3: there is no other child
pub pass-3-left : (c : Bool) (p : ℕ) (fs : List Frame) (t : Painted) → red_top t ≡ false → Passes (InLeft c p Leaf ∷ fs) t fs (Node c t p Leaf)
pass-3-left true p fs t r = (λ H sh. absurd (rule-3 (InLeft true p Leaf) fs t H sh refl), λ i. ((calm-of t r i.0, tt), black_fits fs true i.1.3))
pass-3-left false p fs t r = (λ H sh. absurd (rule-3 (InLeft false p Leaf) fs t H sh refl), λ i. ((calm-of t r i.0, tt), i.1.1))

pub pass-3-right : (c : Bool) (p : ℕ) (fs : List Frame) (t : Painted) → red_top t ≡ false → Passes (InRight c p Leaf ∷ fs) t fs (Node c Leaf p t)
pass-3-right true p fs t r = (λ H sh. absurd (rule-3 (InRight true p Leaf) fs t H sh refl), λ i. ((tt, calm-of t r i.0), black_fits fs true i.1.3))
pass-3-right false p fs t r = (λ H sh. absurd (rule-3 (InRight false p Leaf) fs t H sh refl), λ i. ((tt, calm-of t r i.0), i.1.1))

-- rule 4: a red other child goes above
calm-4-left : (c : Bool) (p : ℕ) (a : Painted) (s : ℕ) (b : Painted) (fs : List Frame) (t : Painted) → IsCalmIfBlack (InLeft c p (Node true a s b) ∷ fs) t → IsCalmIfBlack (InLeft true p a ∷ InLeft false s b ∷ fs) t
calm-4-left true p a s b fs t (l, (_, r, _, _)) = absurd (true≢false r)
calm-4-left false p a s b fs t (l, ((ra, rb, ca, cb), fits)) = (l, (refl, ra, ca, (cb, fits)))

calm-4-right : (c : Bool) (p : ℕ) (a : Painted) (s : ℕ) (b : Painted) (fs : List Frame) (t : Painted) → IsCalmIfBlack (InRight c p (Node true a s b) ∷ fs) t → IsCalmIfBlack (InRight true p b ∷ InRight false s a ∷ fs) t
calm-4-right true p a s b fs t (l, (_, r, _, _)) = absurd (true≢false r)
calm-4-right false p a s b fs t (l, ((ra, rb, ca, cb), fits)) = (l, (refl, rb, cb, (ca, fits)))

pub pass-4-left : (c : Bool) (p : ℕ) (a : Painted) (s : ℕ) (b : Painted) (fs : List Frame) (t : Painted) → Passes (InLeft c p (Node true a s b) ∷ fs) t (InLeft true p a ∷ InLeft false s b ∷ fs) t
pass-4-left c p a s b fs t = (λ H sh. rule-4-left c p a s b fs t H sh, λ i. calm-4-left c p a s b fs t i)

pub pass-4-right : (c : Bool) (p : ℕ) (a : Painted) (s : ℕ) (b : Painted) (fs : List Frame) (t : Painted) → Passes (InRight c p (Node true a s b) ∷ fs) t (InRight true p b ∷ InRight false s a ∷ fs) t
pass-4-right c p a s b fs t = (λ H sh. rule-4-right c p a s b fs t H sh, λ i. calm-4-right c p a s b fs t i)

-- rule 5: a black other child without red children becomes red, and the place goes up
calm-5-left : (c : Bool) (p : ℕ) (a : Painted) (s : ℕ) (b : Painted) (fs : List Frame) (t : Painted) → red_top t ≡ false → red_top a ≡ false → red_top b ≡ false → IsCalmIfBlack (InLeft c p (Node false a s b) ∷ fs) t → IsCalmIfBlack fs (Node c t p (Node true a s b))
calm-5-left true p a s b fs t r ra rb (l, (_, _, (ca, cb), fits)) = ((calm-of t r l, (ra, rb, ca, cb)), black_fits fs true fits)
calm-5-left false p a s b fs t r ra rb (l, ((ca, cb), fits)) = ((calm-of t r l, (ra, rb, ca, cb)), fits)

calm-5-right : (c : Bool) (p : ℕ) (a : Painted) (s : ℕ) (b : Painted) (fs : List Frame) (t : Painted) → red_top t ≡ false → red_top a ≡ false → red_top b ≡ false → IsCalmIfBlack (InRight c p (Node false a s b) ∷ fs) t → IsCalmIfBlack fs (Node c (Node true a s b) p t)
calm-5-right true p a s b fs t r ra rb (l, (_, _, (ca, cb), fits)) = (((ra, rb, ca, cb), calm-of t r l), black_fits fs true fits)
calm-5-right false p a s b fs t r ra rb (l, ((ca, cb), fits)) = (((ra, rb, ca, cb), calm-of t r l), fits)

pub pass-5-left : (c : Bool) (p : ℕ) (a : Painted) (s : ℕ) (b : Painted) (fs : List Frame) (t : Painted) → red_top t ≡ false → red_top a ≡ false → red_top b ≡ false → Passes (InLeft c p (Node false a s b) ∷ fs) t fs (Node c t p (Node true a s b))
pass-5-left c p a s b fs t r ra rb = (λ H sh. rule-5-left c p a s b fs t H r ra rb sh, λ i. calm-5-left c p a s b fs t r ra rb i)

pub pass-5-right : (c : Bool) (p : ℕ) (a : Painted) (s : ℕ) (b : Painted) (fs : List Frame) (t : Painted) → red_top t ≡ false → red_top a ≡ false → red_top b ≡ false → Passes (InRight c p (Node false a s b) ∷ fs) t fs (Node c (Node true a s b) p t)
pass-5-right c p a s b fs t r ra rb = (λ H sh. rule-5-right c p a s b fs t H r ra rb sh, λ i. calm-5-right c p a s b fs t r ra rb i)

-- two black parts under a node of colour c
calm-crown : (c : Bool) (fs : List Frame) (l : Painted) (n : ℕ) (r : Painted) → red_top l ≡ false → red_top r ≡ false → Calm l → Calm r → (c ≡ true → FitsCalm fs true) → (c ≡ false → FitsCalm fs false) → IsCalm (plug fs (Node c l n r))
calm-crown true fs l n r rl rr cl cr ft ff = fill_calm fs (Node true l n r) (ft refl) (rl, rr, cl, cr)
calm-crown false fs l n r rl rr cl cr ft ff = fill_calm fs (Node false l n r) (ff refl) (cl, cr)

calm-fits : (c : Bool) (p : ℕ) (s : Painted) (fs : List Frame) → FitsCalm (InLeft c p s ∷ fs) false → Calm s × (c ≡ true → FitsCalm fs true) × (c ≡ false → FitsCalm fs false)
calm-fits true p s fs (_, _, g, f) = (g, λ e. f, λ e. absurd (true≢false e))
calm-fits false p s fs (g, f) = (g, λ e. absurd (true≢false (sym e)), λ e. f)

calm-right : (c : Bool) (p : ℕ) (s : Painted) (fs : List Frame) → FitsCalm (InRight c p s ∷ fs) false → FitsCalm (InLeft c p s ∷ fs) false
calm-right true p s fs f = f
calm-right false p s fs f = f

-- rule 7: the farther child is red
calm-7-left : (c : Bool) (p : ℕ) (a : Painted) (s : ℕ) (b1 : Painted) (b : ℕ) (b2 : Painted) (fs : List Frame) (t : Painted) → red_top t ≡ false → IsCalmIfBlack (InLeft c p (Node false a s (Node true b1 b b2)) ∷ fs) t → IsCalm (plug fs (Node c (Node false t p a) s (Node false b1 b b2)))
calm-7-left c p a s b1 b b2 fs t r (l, f) =
    let ((ca, (_, _, c1, c2)), ft, ff) = calm-fits c p (Node false a s (Node true b1 b b2)) fs f in
    calm-crown c fs (Node false t p a) s (Node false b1 b b2) refl refl (calm-of t r l, ca) (c1, c2) ft ff

calm-7-right : (c : Bool) (p : ℕ) (a1 : Painted) (a : ℕ) (a2 : Painted) (s : ℕ) (b : Painted) (fs : List Frame) (t : Painted) → red_top t ≡ false → IsCalmIfBlack (InRight c p (Node false (Node true a1 a a2) s b) ∷ fs) t → IsCalm (plug fs (Node c (Node false a1 a a2) s (Node false b p t)))
calm-7-right c p a1 a a2 s b fs t r (l, f) =
    let (((_, _, c1, c2), cb), ft, ff) = calm-fits c p (Node false (Node true a1 a a2) s b) fs (calm-right c p (Node false (Node true a1 a a2) s b) fs f) in
    calm-crown c fs (Node false a1 a a2) s (Node false b p t) refl refl (c1, c2) (cb, calm-of t r l) ft ff

pub mend-7-left : (c : Bool) (p : ℕ) (a : Painted) (s : ℕ) (b1 : Painted) (b : ℕ) (b2 : Painted) (fs : List Frame) (t : Painted) → red_top t ≡ false → Mends (InLeft c p (Node false a s (Node true b1 b b2)) ∷ fs) t (plug fs (Node c (Node false t p a) s (Node false b1 b b2)))
mend-7-left c p a s b1 b b2 fs t r = (λ H sh. (H, rule-7-left c p a s b1 b b2 fs t H r sh), λ i. calm-7-left c p a s b1 b b2 fs t r i)

pub mend-7-right : (c : Bool) (p : ℕ) (a1 : Painted) (a : ℕ) (a2 : Painted) (s : ℕ) (b : Painted) (fs : List Frame) (t : Painted) → red_top t ≡ false → Mends (InRight c p (Node false (Node true a1 a a2) s b) ∷ fs) t (plug fs (Node c (Node false a1 a a2) s (Node false b p t)))
mend-7-right c p a1 a a2 s b fs t r = (λ H sh. (H, rule-7-right c p a1 a a2 s b fs t H r sh), λ i. calm-7-right c p a1 a a2 s b fs t r i)

-- rules 6 and 7: the nearer child is red
calm-6-left : (c : Bool) (p : ℕ) (a1 : Painted) (a : ℕ) (a2 : Painted) (s : ℕ) (b : Painted) (fs : List Frame) (t : Painted) → red_top t ≡ false → IsCalmIfBlack (InLeft c p (Node false (Node true a1 a a2) s b) ∷ fs) t → IsCalm (plug fs (Node c (Node false t p a1) a (Node false a2 s b)))
calm-6-left c p a1 a a2 s b fs t r (l, f) =
    let (((_, _, c1, c2), cb), ft, ff) = calm-fits c p (Node false (Node true a1 a a2) s b) fs f in
    calm-crown c fs (Node false t p a1) a (Node false a2 s b) refl refl (calm-of t r l, c1) (c2, cb) ft ff

calm-6-right : (c : Bool) (p : ℕ) (a : Painted) (s : ℕ) (b1 : Painted) (b : ℕ) (b2 : Painted) (fs : List Frame) (t : Painted) → red_top t ≡ false → IsCalmIfBlack (InRight c p (Node false a s (Node true b1 b b2)) ∷ fs) t → IsCalm (plug fs (Node c (Node false a s b1) b (Node false b2 p t)))
calm-6-right c p a s b1 b b2 fs t r (l, f) =
    let ((ca, (_, _, c1, c2)), ft, ff) = calm-fits c p (Node false a s (Node true b1 b b2)) fs (calm-right c p (Node false a s (Node true b1 b b2)) fs f) in
    calm-crown c fs (Node false a s b1) b (Node false b2 p t) refl refl (ca, c1) (c2, calm-of t r l) ft ff

pub mend-6-left : (c : Bool) (p : ℕ) (a1 : Painted) (a : ℕ) (a2 : Painted) (s : ℕ) (b : Painted) (fs : List Frame) (t : Painted) → red_top t ≡ false → Mends (InLeft c p (Node false (Node true a1 a a2) s b) ∷ fs) t (plug fs (Node c (Node false t p a1) a (Node false a2 s b)))
mend-6-left c p a1 a a2 s b fs t r = (λ H sh. (H, rule-6-left c p a1 a a2 s b fs t H r sh), λ i. calm-6-left c p a1 a a2 s b fs t r i)

pub mend-6-right : (c : Bool) (p : ℕ) (a : Painted) (s : ℕ) (b1 : Painted) (b : ℕ) (b2 : Painted) (fs : List Frame) (t : Painted) → red_top t ≡ false → Mends (InRight c p (Node false a s (Node true b1 b b2)) ∷ fs) t (plug fs (Node c (Node false a s b1) b (Node false b2 p t)))
mend-6-right c p a s b1 b b2 fs t r = (λ H sh. (H, rule-6-right c p a s b1 b b2 fs t H r sh), λ i. calm-6-right c p a s b1 b b2 fs t r i)
