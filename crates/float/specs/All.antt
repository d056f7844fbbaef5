-- A test that every element of a list passes. Assumes nothing.
use Rattle.std.specs.Prelude.{◌≡◌, refl, ◌↔◌, Bool, true, false, ◌&&◌, List, [], ◌∷◌, ℕ, zero, suc, ◌<◌, length, get_or}
use Rattle.std.proofs.Common.{ap, ◌∙◌, not-suc-le-zero, zero-lt-suc, le_of_suc-le-suc}
use Rattle.std.proofs.lemmas.Bool.{false≢true}
use Rattle.std.proofs.Math.Nat.{suc-le-suc_iff}

-- whether every element of the list passes the test
unfoldable pub all : {A : Type 0} → (A → Bool) → List A → Bool
all p [] = true
all p (x ∷ xs) = p x && all p xs

-- it is true exactly when the element at each place passes (d stands past the end, and is not looked at)
pub all-is : {A : Type 0} (p : A → Bool) (xs : List A) (d : A)
    → (all p xs ≡ true) ↔ ((k : ℕ) → k < length xs → p (get_or xs k d) ≡ true)
unfolding all
all-is {A = A} p xs d = (at_each xs, of-each xs)
  where
    both : (a b : Bool) → (a && b) ≡ true → (a ≡ true) × (b ≡ true)
    both true b h = (refl, h)
    both false b h = absurd (false≢true h)

    at_each : (xs : List A) → all p xs ≡ true → (k : ℕ) → k < length xs → p (get_or xs k d) ≡ true
    at_each [] h k l = absurd (not-suc-le-zero l)
    at_each (x ∷ xs) h zero l = (both (p x) (all p xs) h).0
    at_each (x ∷ xs) h (suc k) l = at_each xs (both (p x) (all p xs) h).1 k (le_of_suc-le-suc l)

    of-each : (xs : List A) → ((k : ℕ) → k < length xs → p (get_or xs k d) ≡ true) → all p xs ≡ true
    of-each [] h = refl
    of-each (x ∷ xs) h =
        ap (λ (b : Bool). b && all p xs) (h zero (zero-lt-suc (length xs)))
        ∙ of-each xs (λ k l. h (suc k) (suc-le-suc_iff.1 l))
