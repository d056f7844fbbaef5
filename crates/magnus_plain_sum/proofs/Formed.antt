-- What "every number formed is finite" says (specs/Formed.antt): its parts hold one by one, and the answer is one of
-- the numbers formed. And what a finite answer shows of what came before it: since an operation gives a finite result
-- of finite operands only, the signal and every term were finite. Assumes nothing.
use mathlib.Core.Logic.{◌↔◌, ⊎_elim}
use mathlib.Core.Bool.{Bool, ◌&&◌}
use mathlib.Core.List.{List}
use Prim.Native.Nat.{ℕ, zero, suc, ◌<◌}
use native.Mathlib.Nat.{not-suc-le-zero, eq-or-lt_of_le, le_of_suc-le-suc}
use native.Mathlib.Omega.{arith}
use lib.Dec.{T}
use lib.ListN.{get_or}
use lib.Ieee.{Float, nan, Format}
use lib.Ieee.Fits.{and_i, and_l, and_r}
use lib.Ieee.Scale.{finite}
use Rattle.rounding.proofs.Finite.{finite-of-add, finite-of-sub, finite-of-mul}
use Rattle.arithmetic.specs.Vector.{tabulate}
use Rattle.arithmetic.specs.Arithmetic.{ieee, vectors, scaled}
use Rattle.arithmetic.proofs.Tabulate.{get_d_tabulate}
use Rattle.magnus.specs.Operators.{omega4, power, taylor}
use Rattle.magnus_plain_sum.specs.Formed.{FormedOperator, every_place, finite_vector, formed_omega4, formed_terms}

-- ---- the parts of a conjunction

pub and_is : (a b : Bool) → T (a && b) ↔ (T a × T b)
and_is a b = (λ t. (and_l a b t, and_r a b t), λ t. and_i a b t.0 t.1)

pub every-place-is : (p : ℕ → Bool) (n : ℕ) → T (every_place p n) ↔ ((i : ℕ) → i < n → T (p i))
unfolding every_place
every-place-is p n = (at_each n, of-each n)
  where
    at_each : (n : ℕ) → T (every_place p n) → (i : ℕ) → i < n → T (p i)
    at_each zero t i l = absurd (not-suc-le-zero l)
    at_each (suc n) t i l =
        ⊎_elim (λ e. rw e (and_r (every_place p n) (p n) t)) (at_each n (and_l (every_place p n) (p n) t) i)
        (eq-or-lt_of_le (le_of_suc-le-suc l))

    of-each : (n : ℕ) → ((i : ℕ) → i < n → T (p i)) → T (every_place p n)
    of-each zero h = tt
    of-each (suc n) h = and_i (every_place p n) (p n) (of-each n (λ i l. h i (omega arith))) (h n (omega arith))

pub finite-vector-is : (n : ℕ) (x : List Float)
    → T (finite_vector n x) ↔ ((i : ℕ) → i < n → T (finite (get_or x i nan)))
finite-vector-is n x = every-place-is (λ i. finite (get_or x i nan)) n

-- ---- the operands of a finite vector

pub finite-tabulate : (n : ℕ) (g : ℕ → Float) → T (finite_vector n (tabulate g n)) → (i : ℕ) → i < n → T (finite (g i))
finite-tabulate n g t i l = rw (get_d_tabulate g n i nan l) at ((finite-vector-is n (tabulate g n)).0 t i l)

module _ (f : Format) (n : ℕ) where
  open vectors (ieee f) n use {◌+◌ as ◌⊕◌, ◌-◌ as ◌⊖◌}

  infixl 60 ◌⊕◌ ◌⊖◌
  infixr 65 ◌·◌
  abbrev ◌·◌ : Float → List Float → List Float
  ◌·◌ = scaled (ieee f) n

  pub finite-of-sum : (x y : List Float) → T (finite_vector n (x ⊕ y)) → T (finite_vector n x) × T (finite_vector n y)
  finite-of-sum x y t = (
    (finite-vector-is n x).1 (λ i l. (finite-of-add f _ _ (finite-tabulate n _ t i l)).0),
    (finite-vector-is n y).1 (λ i l. (finite-of-add f _ _ (finite-tabulate n _ t i l)).1),
  )

  pub finite-of-difference : (x y : List Float)
      → T (finite_vector n (x ⊖ y))
      → T (finite_vector n x) × T (finite_vector n y)
  finite-of-difference x y t = (
    (finite-vector-is n x).1 (λ i l. (finite-of-sub f _ _ (finite-tabulate n _ t i l)).0),
    (finite-vector-is n y).1 (λ i l. (finite-of-sub f _ _ (finite-tabulate n _ t i l)).1),
  )

  pub finite-of-multiple : (s : Float) (x : List Float) → T (finite_vector n (s · x)) → T (finite_vector n x)
  finite-of-multiple s x t = (finite-vector-is n x).1 (λ i l. (finite-of-mul f _ _ (finite-tabulate n _ t i l)).1)

  -- the factor, if there is a place
  pub finite-factor : 0 < n → (s : Float) (x : List Float) → T (finite_vector n (s · x)) → T (finite s)
  finite-factor node s x t = (finite-of-mul f s (get_or x 0 nan) (finite-tabulate n _ t 0 node)).0

  -- ---- the answer is a number formed

  pub omega4-formed-finite : (minus_half s sign τ : Float) (P1 P2 : FormedOperator) (v : List Float)
      → T ((formed_omega4 f n minus_half s sign τ P1 P2).formed v)
      → T (finite_vector n (omega4 (ieee f) n minus_half s sign τ P1.apply P2.apply v))
  unfolding omega4
  omega4-formed-finite minus_half s sign τ P1 P2 v t = (simp and_is at t).1.1

  -- of a Taylor sum that has a term
  pub taylor-formed-finite : (c : ℕ → Float) (d : ℕ) (W : FormedOperator) (v : List Float)
      → T (formed_terms f n c (suc d) W v)
      → T (finite_vector n (taylor (ieee f) n c (suc d) W.apply v))
  unfolding formed_terms
  taylor-formed-finite c d W v t = (simp and_is at t).1

  -- ---- what a finite answer shows

  -- the sum so far, the last term and the last power were finite
  finite-of-taylor : (c : ℕ → Float) (d : ℕ) (W : List Float → List Float) (v : List Float)
      → let u = W (power (ieee f) n W d v) in
      T (finite_vector n (taylor (ieee f) n c (suc d) W v))
      → T (finite_vector n (taylor (ieee f) n c d W v)) × T (finite_vector n (c (suc d) · u)) × T (finite_vector n u)
  unfolding taylor power
  finite-of-taylor c d W v t =
      let u = W (power (ieee f) n W d v) in
      let parts = finite-of-sum (taylor (ieee f) n c d W v) (c (suc d) · u) t in
      (parts.0, parts.1, finite-of-multiple (c (suc d)) u parts.1)

  -- the signal was finite
  pub finite-signal : (c : ℕ → Float) (d : ℕ) (W : List Float → List Float) (v : List Float)
      → T (finite_vector n (taylor (ieee f) n c d W v))
      → T (finite_vector n v)
  unfolding taylor
  finite-signal c zero W v t = t
  finite-signal c (suc d) W v t = finite-signal c d W v (finite-of-taylor c d W v t).0

  -- every number formed was finite, if W shows the same by a finite result
  pub formed-by-result : (c : ℕ → Float) (d : ℕ) (W : FormedOperator) (v : List Float)
      → ((u : List Float) → T (finite_vector n (W.apply u)) → T (W.formed u))
      → T (finite_vector n (taylor (ieee f) n c d W.apply v))
      → T (formed_terms f n c d W v)
  unfolding formed_terms
  formed-by-result c zero W v h t = tt
  formed-by-result c (suc d) W v h t =
      let parts = finite-of-taylor c d W.apply v t in
      simp and_is (((formed-by-result c d W v h parts.0, h _ parts.2), parts.1), t)
