-- The order of floats, as the lookup uses it: x < y ≤ z gives x < z, and of two values that are no NaN, either x ≤ y or y < x.
-- Assumes nothing.
use mathlib.Core.Path.{◌≡◌, refl, sym, ap, ◌∙◌, subst}
use mathlib.Core.Logic.{◌⊎◌, inl, inr, ⊎_elim}
use mathlib.Core.Bool.{Bool, beq, true, false, not, ◌&&◌, ◌||◌, true≢false, false≢true}
use Prim.Native.Nat.{ℕ, ◌+◌, ◌*◌, ◌<◌}
use native.Mathlib.Nat.{mul-pos, mul_right_comm, mul-lt-mul_of_pos_right, lt_of_mul-lt-mul_right, eq-zero-or-pos, zero-mul}
use native.Mathlib.Omega.{arith}
use lib.Dec.{T, ltb, eqb, ltb→lt, lt→ltb, eqb→eq}
use lib.Ieee.{Float, nan, inf, fin, up, down, below, level, lt, eq, le}
use lib.Ieee.Fits.{down_pos, and_l, and_r}
use lib.Ieee.Positive.{first_pos}
use lib.Ieee.Scale.{finite}
use borrow.Author.Tests.{ltb-false, eqb-false, lt-ltb, eq-eqb}
use Rattle.graph_bound.proofs.Less.{less-irreflexive, less-transitive}

-- ---- tests that hold

holds : {b : Bool} → b ≡ true → T b
holds e = subst T (sym e) tt

held : (b : Bool) → T b → b ≡ true
held true t = refl
held false t = absurd t

either : (a b : Bool) → T (a || b) → T a ⊎ T b
either true b t = inl tt
either false b t = inr t

-- ---- x < y and y = z give x < z

-- three fractions: a / p < b / q, which is c / r
fractions-less : (a b c p q r : ℕ) → 0 < r → a * q < b * p → b * r ≡ c * q → a * r < c * p
fractions-less a b c p q r R h e =
    let first : a * q * r < b * p * r = mul-lt-mul_of_pos_right h R in
    let same : b * r * p ≡ c * q * p = ap (λ (k : ℕ). k * p) e in
    let left = mul_right_comm a q r in
    let middle = mul_right_comm b p r in
    let right = mul_right_comm c q p in
    lt_of_mul-lt-mul_right q (omega arith)

-- a product that is 0, and whose second factor is not, has the first factor 0
no-first : (b r : ℕ) → 0 < r → b * r ≡ 0 → b ≡ 0
no-first b r R e = ⊎_elim (λ (z : b ≡ 0). z) (λ (B : 0 < b). let P = mul-pos B R in absurd (omega arith)) (eq-zero-or-pos b)

-- 0 times anything
none-times : (b p : ℕ) → b ≡ 0 → b * p ≡ 0
none-times b p z = ap (λ (k : ℕ). k * p) z ∙ zero-mul p

-- of signed fractions
below-level : (s t u : Bool) (a b c p q r : ℕ)
    → 0 < p
    → 0 < q
    → 0 < r
    → T (below s (a * q) t (b * p))
    → b * r ≡ c * q
    → T (beq t u || eqb (b * r) 0)
    → T (below s (a * r) u (c * p))
below-level false false false a b c p q r P Q R h e k =
    lt→ltb (a * r) (c * p) (fractions-less a b c p q r R (ltb→lt (a * q) (b * p) h) e)
below-level false false true a b c p q r P Q R h e k =
    let z = none-times b p (no-first b r R (eqb→eq (b * r) 0 k)) in
    absurd (omega (arith, ltb→lt (a * q) (b * p) h))
below-level false true u a b c p q r P Q R h e k = absurd h
below-level true false false a b c p q r P Q R h e k =
    let either-above = ltb→lt 0 (a * q + b * p) h in
    ⊎_elim (λ (z : a * q ≡ 0).
    let B = first_pos b p (omega arith) in
    let C = first_pos c q (omega (arith, mul-pos B R)) in
    lt→ltb 0 (a * r + c * p) (omega (arith, mul-pos C P)))
    (λ (A : 0 < a * q). lt→ltb 0 (a * r + c * p) (omega (arith, mul-pos (first_pos a q A) R)))
    (eq-zero-or-pos (a * q))
below-level true false true a b c p q r P Q R h e k =
    let z : b * r ≡ 0 = eqb→eq (b * r) 0 k in
    let B = none-times b p (no-first b r R z) in
    let C = none-times c p (no-first c q Q (sym e ∙ z)) in
    let A = first_pos a q (omega (arith, ltb→lt 0 (a * q + b * p) h)) in
    lt→ltb (c * p) (a * r) (omega (arith, mul-pos A R))
below-level true true false a b c p q r P Q R h e k =
    let A = first_pos a q (omega (arith, ltb→lt (b * p) (a * q) h)) in
    lt→ltb 0 (a * r + c * p) (omega (arith, mul-pos A R))
below-level true true true a b c p q r P Q R h e k =
    let second : b * p * r < a * q * r = mul-lt-mul_of_pos_right (ltb→lt (b * p) (a * q) h) R in
    let same : b * r * p ≡ c * q * p = ap (λ (k : ℕ). k * p) e in
    let left = mul_right_comm a q r in
    let middle = mul_right_comm b p r in
    let right = mul_right_comm c q p in
    lt→ltb (c * p) (a * r) (lt_of_mul-lt-mul_right q (omega arith))

same_sign : (t u : Bool) → T (beq t u) → t ≡ u
same_sign true true k = refl
same_sign true false k = absurd k
same_sign false true k = absurd k
same_sign false false k = refl

less-then-equal : (x y z : Float) → T (lt x y) → T (eq y z) → T (lt x z)
unfolding lt eq
less-then-equal nan y z h k = absurd h
less-then-equal (inf s) nan z h k = absurd h
less-then-equal (inf s) (inf t) nan h k = absurd k
less-then-equal (inf s) (inf t) (inf u) h k = subst (λ (v : Bool). T (s && not v)) (same_sign t u k) h
less-then-equal (inf s) (inf t) (fin u l c) h k = absurd k
less-then-equal (inf s) (fin t n d) nan h k = absurd k
less-then-equal (inf s) (fin t n d) (inf u) h k = absurd k
less-then-equal (inf s) (fin t n d) (fin u l c) h k = h
less-then-equal (fin s m e) nan z h k = absurd h
less-then-equal (fin s m e) (inf t) nan h k = absurd k
less-then-equal (fin s m e) (inf t) (inf u) h k = subst (λ (v : Bool). T (not v)) (same_sign t u k) h
less-then-equal (fin s m e) (inf t) (fin u l c) h k = absurd k
less-then-equal (fin s m e) (fin t n d) nan h k = absurd k
less-then-equal (fin s m e) (fin t n d) (inf u) h k = absurd k
less-then-equal (fin s m e) (fin t n d) (fin u l c) h k =
    let b = n * up d * down c in
    let g = l * up c * down d in
    below-level s t u (m * up e) (n * up d) (l * up c) (down e) (down d) (down c) (down_pos e) (down_pos d) (down_pos c) h
    (eqb→eq b g (and_l (eqb b g) _ k)) (and_r (eqb b g) _ k)

-- x < y ≤ z gives x < z
pub less-then-at-most : (x y z : Float) → lt x y ≡ true → le y z ≡ true → lt x z ≡ true
unfolding le
less-then-at-most x y z h k =
    held _
    (⊎_elim (less-transitive x y z (holds h)) (less-then-equal x y z (holds h)) (either (lt y z) (eq y z) (holds k)))

-- never x < y ≤ x
pub less-not-at-most : (x y : Float) → lt x y ≡ true → le y x ≡ true → ⊥
less-not-at-most x y h k = less-irreflexive x (holds (less-then-at-most x y x h k))

-- x < y gives x ≤ y
pub less-at-most : (x y : Float) → lt x y ≡ true → le x y ≡ true
unfolding le
less-at-most x y h = ap (λ (b : Bool). b || eq x y) h

-- ---- of two values that are no NaN, either x ≤ y or y < x

-- of signed numbers
not-below : (s t : Bool) (a b : ℕ) → (below s a t b || level s a t b) ≡ false → below t b s a ≡ true
not-below false false a b h = go (ltb a b) refl (eqb a b) refl h
  where
    go : (l : Bool) → ltb a b ≡ l → (e : Bool) → eqb a b ≡ e → (l || e && true) ≡ false → ltb b a ≡ true
    go true p e q h = absurd (true≢false h)
    go false p true q h = absurd (true≢false h)
    go false p false q h =
        let m = ltb-false a b p in
        let n = eqb-false a b q in
        lt-ltb b a (omega arith)
not-below false true a b h = go (ltb 0 (b + a)) refl
  where
    go : (l : Bool) → ltb 0 (b + a) ≡ l → l ≡ true
    go true p = refl
    go false p =
        let m = ltb-false 0 (b + a) p in
        absurd (true≢false (sym (ap (λ (k : Bool). k && eqb a 0) (eq-eqb a b (omega arith)) ∙ eq-eqb a 0 (omega arith)) ∙ h))
not-below true false a b h = go (ltb 0 (a + b)) refl h
  where
    go : (l : Bool) → ltb 0 (a + b) ≡ l → (l || eqb a b && eqb a 0) ≡ false → false ≡ true
    go true p h = absurd (true≢false h)
    go false p h =
        let m = ltb-false 0 (a + b) p in
        absurd (true≢false (sym (ap (λ (k : Bool). k && eqb a 0) (eq-eqb a b (omega arith)) ∙ eq-eqb a 0 (omega arith)) ∙ h))
not-below true true a b h = go (ltb b a) refl (eqb a b) refl h
  where
    go : (l : Bool) → ltb b a ≡ l → (e : Bool) → eqb a b ≡ e → (l || e && true) ≡ false → ltb a b ≡ true
    go true p e q h = absurd (true≢false h)
    go false p true q h = absurd (true≢false h)
    go false p false q h =
        let m = ltb-false b a p in
        let n = eqb-false a b q in
        lt-ltb a b (omega arith)

-- where x is finite, and y is no NaN since w ≤ y
pub not-at-most : (w x y : Float) → finite x ≡ true → le w y ≡ true → le x y ≡ false → lt y x ≡ true
unfolding lt eq le
not-at-most w nan y f k h = absurd (false≢true f)
not-at-most w (inf s) y f k h = absurd (false≢true f)
not-at-most nan (fin s m e) nan f k h = absurd (false≢true k)
not-at-most (inf t) (fin s m e) nan f k h = absurd (false≢true k)
not-at-most (fin t n d) (fin s m e) nan f k h = absurd (false≢true k)
not-at-most w (fin s m e) (inf true) f k h = refl
not-at-most w (fin s m e) (inf false) f k h = absurd (true≢false h)
not-at-most w (fin s m e) (fin t n d) f k h = not-below s t (m * up e * down d) (n * up d * down e) h
