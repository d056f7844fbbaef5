-- The comparison x < y of floats is irreflexive and transitive; where one is a NaN it does not hold. Assumes nothing.
use mathlib.Core.Bool.{Bool, true, false, not}
use Prim.Native.Nat.{ℕ, ◌+◌, ◌*◌, ◌≤◌, ◌<◌}
use native.Mathlib.Nat.{lt_irrefl, mul-pos, mul_right_comm, mul-le-mul_right, mul-lt-mul_of_pos_right}
use native.Mathlib.Nat.{lt_of_mul-lt-mul_right}
use native.Mathlib.Omega.{arith}
use lib.Dec.{T, T_not, ltb→lt, lt→ltb}
use lib.Ieee.{Float, nan, inf, fin, up, down, below, lt}
use lib.Ieee.Fits.{down_pos, and_l, and_r, and_i}
use lib.Ieee.Positive.{first_pos}

pub less-irreflexive : (x : Float) → T (lt x x) → ⊥
unfolding lt
less-irreflexive nan h = h
less-irreflexive (inf true) h = h
less-irreflexive (inf false) h = h
less-irreflexive (fin true m e) h = let a = m * up e * down e in lt_irrefl a (ltb→lt a a h)
less-irreflexive (fin false m e) h = let a = m * up e * down e in lt_irrefl a (ltb→lt a a h)

-- three fractions: a / p < b / q < c / r
fractions-less : (a b c p q r : ℕ) → 0 < p → a * q < b * p → b * r < c * q → a * r < c * p
fractions-less a b c p q r positive h k =
    let first : a * q * r ≤ b * p * r = mul-le-mul_right r (omega arith) in
    let second : b * r * p < c * q * p = mul-lt-mul_of_pos_right k positive in
    let left = mul_right_comm a r q in
    let middle = mul_right_comm b p r in
    let right = mul_right_comm c p q in
    lt_of_mul-lt-mul_right q (omega arith)

-- a product below another one: the larger has a first factor above 0
larger-positive : (a b p q : ℕ) → a < b * p → 0 < q → 0 < b * q
larger-positive a b p q h positive = mul-pos (first_pos b p (omega arith)) positive

-- of signed fractions
below-transitive : (s t u : Bool) (a b c p q r : ℕ)
    → 0 < p
    → 0 < r
    → T (below s (a * q) t (b * p))
    → T (below t (b * r) u (c * q))
    → T (below s (a * r) u (c * p))
below-transitive false false false a b c p q r P R h k =
    lt→ltb (a * r) (c * p) (fractions-less a b c p q r P (ltb→lt (a * q) (b * p) h) (ltb→lt (b * r) (c * q) k))
below-transitive false false true a b c p q r P R h k = k
below-transitive false true false a b c p q r P R h k = absurd h
below-transitive false true true a b c p q r P R h k = absurd h
below-transitive true false false a b c p q r P R h k =
    let above = larger-positive (b * r) c q p (ltb→lt (b * r) (c * q) k) P in
    lt→ltb 0 (a * r + c * p) (omega arith)
below-transitive true false true a b c p q r P R h k = absurd k
below-transitive true true false a b c p q r P R h k =
    let under = larger-positive (b * p) a q r (ltb→lt (b * p) (a * q) h) R in
    lt→ltb 0 (a * r + c * p) (omega arith)
below-transitive true true true a b c p q r P R h k =
    lt→ltb (c * p) (a * r) (fractions-less c b a r q p R (ltb→lt (c * q) (b * r) k) (ltb→lt (b * p) (a * q) h))

pub less-transitive : (x y z : Float) → T (lt x y) → T (lt y z) → T (lt x z)
unfolding lt
less-transitive nan y z h k = h
less-transitive (inf s) nan z h k = absurd h
less-transitive (inf s) (inf t) nan h k = k
less-transitive (inf s) (inf t) (inf u) h k = absurd (T_not t (and_r s (not t) h) (and_l t (not u) k))
less-transitive (inf s) (inf t) (fin u l c) h k = absurd (T_not t (and_r s (not t) h) k)
less-transitive (inf s) (fin t n d) nan h k = k
less-transitive (inf s) (fin t n d) (inf u) h k = and_i s (not u) h k
less-transitive (inf s) (fin t n d) (fin u l c) h k = h
less-transitive (fin s m e) nan z h k = absurd h
less-transitive (fin s m e) (inf t) nan h k = k
less-transitive (fin s m e) (inf t) (inf u) h k = absurd (T_not t h (and_l t (not u) k))
less-transitive (fin s m e) (inf t) (fin u l c) h k = absurd (T_not t h k)
less-transitive (fin s m e) (fin t n d) nan h k = k
less-transitive (fin s m e) (fin t n d) (inf u) h k = k
less-transitive (fin s m e) (fin t n d) (fin u l c) h k =
    below-transitive s t u (m * up e) (n * up d) (l * up c) (down e) (down d) (down c) (down_pos e) (down_pos c) h k
