-- What follows from the laws of a commutative ring: laws of its elements, of sums of several of them, and of linear
-- operators on vectors over it. Assumes nothing.
use mathlib.Core.Path.{◌≡◌, refl, sym, ap, ap₂, ◌∙◌}
use mathlib.Core.List.{List}
use Prim.Native.Nat.{ℕ, zero as none, suc, ◌<◌}
use native.Mathlib.Omega.{arith}
use Rattle.arithmetic.specs.Arithmetic.{Arithmetic, at, vectors}
use Rattle.arithmetic.specs.Product.{sum_to}
use Rattle.arithmetic.proofs.Tabulate.{tabulate-same}
use Rattle.arithmetic.proofs.Product.{at-tabulate}
use Rattle.magnus.specs.Operators.{Operator}
use Rattle.magnus.specs.Ring.{Ring, Linear}

module _ {K : Type 0} {A : Arithmetic K} (R : Ring A) where
  open A use {zero, ◌+◌, ◌*◌, -◌}
  open R use {add_assoc, add_comm, add-zero, add-neg, mul_assoc, mul_comm, mul-add}

  infixl 60 ◌+◌
  infixl 70 ◌*◌
  infix 80 -◌
  pub zero-add : (x : K) → zero + x ≡ x
  zero-add x = add_comm zero x ∙ add-zero x

  pub add_left_comm : (x y z : K) → x + (y + z) ≡ y + (x + z)
  add_left_comm x y z = sym (add_assoc x y z) ∙ ap (◌+ z) (add_comm x y) ∙ add_assoc y x z

  pub mul_left_comm : (x y z : K) → x * (y * z) ≡ y * (x * z)
  mul_left_comm x y z = sym (mul_assoc x y z) ∙ ap (◌* z) (mul_comm x y) ∙ mul_assoc y x z

  pub add-mul : (x y z : K) → (x + y) * z ≡ x * z + y * z
  add-mul x y z = mul_comm (x + y) z ∙ mul-add z x y ∙ ap₂ ◌+◌ (mul_comm z x) (mul_comm z y)

  -- the only element that is equal to twice itself is zero
  pub zero-unique : (x : K) → x ≡ x + x → x ≡ zero
  zero-unique x h =
      sym (add-zero x) ∙ ap (x +◌) (sym (add-neg x)) ∙ sym (add_assoc x x (- x)) ∙ ap (◌+ - x) (sym h) ∙ add-neg x

  -- the only element that adds up to zero with x is its negative
  pub neg_unique : (x y : K) → x + y ≡ zero → y ≡ - x
  neg_unique x y h =
      sym (zero-add y) ∙ ap (◌+ y) (sym (add-neg x)) ∙ add_assoc x (- x) y ∙ add_left_comm x (- x) y ∙ ap (- x +◌) h
      ∙ add-zero (- x)

  pub neg-neg : (x : K) → - (- x) ≡ x
  neg-neg x = sym (neg_unique (- x) x (add_comm (- x) x ∙ add-neg x))

  pub neg-add : (x y : K) → - (x + y) ≡ - x + - y
  neg-add x y =
      sym (neg_unique (x + y) (- x + - y)
      (add_assoc x y (- x + - y)
      ∙ ap (x +◌) (add_left_comm y (- x) (- y) ∙ ap (- x +◌) (add-neg y) ∙ add-zero (- x)) ∙ add-neg x))

  pub mul-zero : (x : K) → x * zero ≡ zero
  mul-zero x = zero-unique (x * zero) (ap (x *◌) (sym (add-zero zero)) ∙ mul-add x zero zero)

  pub mul-neg : (x y : K) → x * - y ≡ - (x * y)
  mul-neg x y = neg_unique (x * y) (x * - y) (sym (mul-add x y (- y)) ∙ ap (x *◌) (add-neg y) ∙ mul-zero x)

  pub neg-mul : (x y : K) → - x * y ≡ - (x * y)
  neg-mul x y = mul_comm (- x) y ∙ mul-neg y x ∙ ap -◌ (mul_comm y x)

  -- ---- sums of several terms
  pub sum_same : (f g : ℕ → K) (m : ℕ) → ((i : ℕ) → i < m → f i ≡ g i) → sum_to A f m ≡ sum_to A g m
  unfolding sum_to
  sum_same f g none h = refl
  sum_same f g (suc m) h = ap₂ ◌+◌ (sum_same f g m (λ i l. h i (omega arith))) (h m (omega arith))

  pub sum-add : (f g : ℕ → K) (m : ℕ) → sum_to A (λ i. f i + g i) m ≡ sum_to A f m + sum_to A g m
  unfolding sum_to
  sum-add f g none = sym (add-zero zero)
  sum-add f g (suc m) = rw (sum_to, sum-add f g m) (simp (add_assoc, add_left_comm))

  pub sum-mul : (s : K) (f : ℕ → K) (m : ℕ) → sum_to A (λ i. s * f i) m ≡ s * sum_to A f m
  unfolding sum_to
  sum-mul s f none = sym (mul-zero s)
  sum-mul s f (suc m) = rw (sum_to, sum-mul s f m) (sym (mul-add s (sum_to A f m) (f m)))

  pub sum-neg : (f : ℕ → K) (m : ℕ) → sum_to A (λ i. - f i) m ≡ - sum_to A f m
  unfolding sum_to
  sum-neg f none = neg_unique zero zero (add-zero zero)
  sum-neg f (suc m) = rw (sum_to, sum-neg f m) (sym (neg-add (sum_to A f m) (f m)))

-- ---- linear operators
module _ {K : Type 0} {A : Arithmetic K} (R : Ring A) (n : ℕ) (P : Operator A n) (linear : Linear A n P) where
  open A use {zero, -◌}
  open vectors A n use {◌+◌ as ◌⊕◌, -◌ as ⊖◌, zero as zeros}
  open R use {add-zero, add-neg}

  infixl 60 ◌⊕◌
  infix 80 -◌ ⊖◌
  -- the zero vector goes to zeros, since it is twice itself
  linear-zero-at : (i : ℕ) → i < n → at A (P zeros) i ≡ zero
  linear-zero-at i h =
      let twice : zeros ≡ zeros ⊕ zeros = tabulate-same _ _ n (λ j l. simp (at-tabulate A, add-zero)) in
      zero-unique R _ (ap (λ y. at A y i) (ap P twice ∙ linear.of-sum zeros zeros) ∙ at-tabulate A _ n i h)

  -- the negative of x goes to the negative of what x goes to, since the two add up to zeros
  linear-neg-at : (x : List K) (i : ℕ) → i < n → at A (P (⊖ x)) i ≡ - at A (P x) i
  linear-neg-at x i h =
      let cancels : x ⊕ ⊖ x ≡ zeros = tabulate-same _ _ n (λ j l. simp (at-tabulate A, add-neg)) in
      let images : P x ⊕ P (⊖ x) ≡ P zeros = sym (linear.of-sum x (⊖ x)) ∙ ap P cancels in
      neg_unique R _ _ (sym (at-tabulate A _ n i h) ∙ ap (λ y. at A y i) images ∙ linear-zero-at i h)

  pub linear-neg : (x : List K) → P (⊖ x) ≡ ⊖ P x
  linear-neg x =
      let more : ⊖ x ≡ ⊖ x ⊕ zeros = tabulate-same _ _ n (λ j l. simp (at-tabulate A, add-zero)) in
      ap P more ∙ linear.of-sum (⊖ x) zeros
      ∙ tabulate-same _ _ n (λ i h. rw (linear-neg-at x i h, linear-zero-at i h) (add-zero (- at A (P x) i)))
