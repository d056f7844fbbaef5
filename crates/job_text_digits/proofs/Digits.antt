-- Digits of numbers: how many there are. Assumes nothing.
use mathlib.Core.Path.{◌≡◌, refl, sym, ap, ◌∙◌}
use mathlib.Core.Bool.{cond}
use mathlib.Core.List.{[], ◌∷◌, ◌++◌}
use Prim.Native.Nat.{ℕ, zero, suc, ◌+◌, ◌*◌, ◌-◌, ◌/◌, ◌%◌, ◌^◌, ◌≤◌, ◌<◌}
use native.Mathlib.Nat.{pow-suc, div-lt_iff_lt-mul, div-lt_self, le-div_iff_mul-le, div-mul-le_self}
use native.Mathlib.Numerals.{add-one}
use native.Mathlib.Decide.{dec_le}
use native.Mathlib.Omega.{arith}
use lib.Dec.{ltb}
use lib.ListN.{length, length-append}
use borrow.Author.Tests.{lt-ltb, le-ltb}
use Rattle.job_text_digits.specs.Numbers.{digit, digits, places_within, places, decimal}

pub digit-below-ten : (d : ℕ) → d < 10 → digit d ≡ 48 + d
unfolding digit
digit-below-ten d h = rw (lt-ltb d 10 h)

pub digit-above : (d : ℕ) → 10 ≤ d → digit d ≡ 97 + (d - 10)
unfolding digit
digit-above d h = rw (le-ltb d 10 h) (omega arith)

pub digits-none : (base n : ℕ) → digits base 0 n ≡ []
unfolding digits
digits-none base n = refl

-- the last digit behind the others
pub digits-next : (base k n : ℕ) → ((k ≡ 0) → ⊥) → digits base k n ≡ digits base (k - 1) (n / base) ++ (digit (n % base) ∷ [])
unfolding digits
digits-next base zero n h = absurd (h refl)
digits-next base (suc k) n h = let e : suc k - 1 ≡ k = omega arith in rw e

pub length_digits : (base k n : ℕ) → length (digits base k n) ≡ k
unfolding digits
length_digits base zero n = refl
length_digits base (suc k) n = rw (length-append, length_digits base k (n / base)) (add-one k)

-- ---- how many decimal digits

shorter : (n f : ℕ) → 10 ≤ n → n ≤ suc f → n / 10 ≤ f
shorter n f h l =
    let s : n / 10 < n = div-lt_self (omega arith) (omega arith) in
    omega arith

-- a larger bound of the recursion makes no difference
within_same : (f g n : ℕ) → n ≤ f → n ≤ g → places_within f n ≡ places_within g n
unfolding places_within
within_same zero zero n p q = refl
within_same zero (suc g) n p q = let s : n < 10 = omega arith in rw (lt-ltb n 10 s)
within_same (suc f) zero n p q = let s : n < 10 = omega arith in rw (lt-ltb n 10 s)
within_same (suc f) (suc g) n p q = elim (dec_le 10 n) [
  | yes l ↦ ap (λ k. cond (ltb n 10) 1 (suc k)) (within_same f g (n / 10) (shorter n f l p) (shorter n g l q))
  | no l ↦ (let s : n < 10 = omega arith in rw (lt-ltb n 10 s))
]

pub places-one : (n : ℕ) → n < 10 → places n ≡ 1
unfolding places places_within
places-one zero h = refl
places-one (suc n) h = rw (lt-ltb (suc n) 10 h)

pub places-more : (n : ℕ) → 10 ≤ n → places n ≡ places (n / 10) + 1
unfolding places places_within
places-more zero h = absurd (omega arith)
places-more (suc n) h =
    rw (le-ltb (suc n) 10 h)
    (ap suc (within_same n (suc n / 10) (suc n / 10) (shorter (suc n) n h (omega arith)) (omega arith)) ∙ sym (add-one _))

-- below 10 to the k + 1 there are at most k + 1
pub places-at-most : (k n : ℕ) → n < 10 ^ suc k → places n ≤ suc k
places-at-most zero n h = let e = places-one n h in omega arith
places-at-most (suc k) n h = elim (dec_le 10 n) [
  | yes l ↦ (let e = places-more n l in
      let less : n / 10 < 10 ^ suc k = (div-lt_iff_lt-mul {k = 10} {x = n} {y = 10 ^ suc k} (omega arith)).1 (rw pow-suc at h) in
      let r = places-at-most k (n / 10) less in
      omega arith)
  | no l ↦ (let e = places-one n (omega arith) in omega arith)
]

-- n is below 10 to its places, and at least a tenth of that: the first of its digits is no zero, but for 0 itself
pub places-hold : (n : ℕ) → n < 10 ^ places n
unfolding places places_within
places-hold n = within n n (omega arith)
  where
    within : (f n : ℕ) → n ≤ f → n < 10 ^ places_within f n
    within zero n p = omega arith
    within (suc f) n p = elim (dec_le 10 n) [
      | yes l ↦ rw (le-ltb n 10 l, pow-suc)
          ((div-lt_iff_lt-mul {k = 10} {x = n} {y = 10 ^ places_within f (n / 10)} (omega arith)).0
          (within f (n / 10) (shorter n f l p)))
      | no l ↦ (let s : n < 10 = omega arith in rw (lt-ltb n 10 s) s)
    ]

pub no-leading-zero : (n : ℕ) → 0 < n → 10 ^ places n ≤ n * 10
unfolding places places_within
no-leading-zero n = within n n (omega arith)
  where
    within : (f n : ℕ) → n ≤ f → 0 < n → 10 ^ places_within f n ≤ n * 10
    within zero n p h = absurd (omega arith)
    within (suc f) n p h = elim (dec_le 10 n) [
      | yes l ↦ rw (le-ltb n 10 l, pow-suc)
          (let some : 0 < n / 10 = (le-div_iff_mul-le {k = 10} {x = 1} {y = n} (omega arith)).1 (omega arith) in
          let r = within f (n / 10) (shorter n f l p) some in
          omega (arith, r, div-mul-le_self n 10))
      | no l ↦ (let s : n < 10 = omega arith in rw (lt-ltb n 10 s) (omega arith))
    ]

pub length-decimal : (n : ℕ) → length (decimal n) ≡ places n
unfolding decimal
length-decimal n = length_digits 10 (places n) n

-- a number of the machine has at most 20, and one up to 64 at most 2
pub twenty : (n : ℕ) → n < 2 ^ 64 → places n ≤ 20
twenty n h = places-at-most 19 n (omega arith)

pub two : (n : ℕ) → n ≤ 64 → length (decimal n) ≤ 2
two n h = let e = length-decimal n in let p = places-at-most 1 n (omega arith) in omega arith
