-- How a walk finds the first place at which a test holds: it keeps `Passed`, that the test holds at no place before k.
-- A quick walk that only finds out whether the test holds somewhere agrees with it (`none-fails`). And the
-- refusal of the first place is accepted exactly when there is none. Assumes nothing.
use Rattle.std.proofs.Common.{◌≡◌, ℕ, ◌+◌, ◌<◌, ◌≤◌, Bool, true, false, not, ◌↔◌, List, length, get_or, sym, ap, ◌∙◌, arith, below_none, below_more, ltb-false, ltb-true, le-ltb, lt-ltb, nat_lt, cond, refl, Some, None}
use Rattle.float.specs.All.{all, all-is}
use Rattle.error.specs.declared.Refusal.{Refusal}
use Rattle.error.specs.Answer.{Accepted, Refused}
use Rattle.error.specs.Checks.{refuse_if}
use Rattle.error.proofs.Checks.{refuses, accepts, refuse_if-accepted}
use Rattle.graph_shape.specs.First.{first, find_first, refuse_first, first-is, first-only}

-- ---- a walk that has passed the places before k

pub record Passed (p : ℕ → Bool) (n k : ℕ) : Type 0 where
  pub within : k ≤ n
  pub none : (j : ℕ) → j < k → p j ≡ false

module _ {p : ℕ → Bool} {n : ℕ} where
  -- it begins
  pub passed_none : Passed p n 0
  passed_none = record { within = omega arith; none = below_none (λ j. p j ≡ false) }

  -- the test fails at k
  pub passed-more : {k : ℕ} → Passed p n k → k < n → p k ≡ false → Passed p n (k + 1)
  passed-more {k} h l e =
      record { within = omega arith; none = below_more (λ j. p j ≡ false) k h.none e }

  -- the test holds at k
  pub passed-found : {k : ℕ} → Passed p n k → p k ≡ true → k ≡ first p n
  passed-found {k} h e = first-only (record { within = h.within; none = h.none; found = λ l. e })

  -- there is no place left
  pub passed-all : {k : ℕ} → Passed p n k → n ≤ k → k ≡ first p n
  passed-all {k} h l =
      first-only (record { within = h.within; none = h.none; found = λ m. absurd (omega arith) })

  -- so a search that stands there has found it
  pub find_first-some : {k : ℕ} → Passed p n k → k < n → p k ≡ true → Some k ≡ find_first p n
  unfolding find_first
  find_first-some {k} h l e =
      let f = passed-found h e in
      ap Some f ∙ sym (rw (lt-ltb (first p n) n (rw f at l)) refl)

  -- and one with no place left has found none
  pub find_first-none : {k : ℕ} → Passed p n k → n ≤ k → None ≡ find_first p n
  unfolding find_first
  find_first-none {k} h l =
      let f = passed-all h l in
      sym (rw (le-ltb (first p n) n (rw f at l)) refl)

-- ---- whether the test holds somewhere

module _ (p : ℕ → Bool) (n : ℕ) where
  pub first_past : ((j : ℕ) → j < n → p j ≡ false) → first p n ≡ n
  first_past h = sym (first-only (record { within = omega arith; none = h; found = λ l. absurd (omega arith) }))

  pub none-before-past : first p n ≡ n → (j : ℕ) → j < n → p j ≡ false
  none-before-past e j l = (first-is p n).none j (omega arith)

  -- what a search has found is such a place
  pub found-first : (k : ℕ) → Some k ≡ find_first p n → (k < n) × (k ≡ first p n)
  unfolding find_first
  found-first k = by-test (nat_lt (first p n) n) refl
    where
      by-test : (b : Bool)
          → nat_lt (first p n) n ≡ b
          → Some k ≡ cond b (Some (first p n)) None
          → (k < n) × (k ≡ first p n)
      by-test true e s =
          let f : k ≡ first p n = cc in
          (omega (arith, ltb-true (first p n) n e, f), f)
      by-test false e s = absurd cc

-- a quick walk has the answer b, whether every element of a list passes the test q; p holds where an element does not
module _ {A : Type 0} (q : A → Bool) (xs : List A) (d : A) (p : ℕ → Bool)
    (opposite : (k : ℕ) → p k ≡ not (q (get_or xs k d))) (b : Bool) (quick : b ≡ all q xs) where
  pub none-fails : b ≡ true → (k : ℕ) → k < length xs → p k ≡ false
  none-fails h k l = opposite k ∙ ap not ((all-is q xs d).0 (sym quick ∙ h) k l)

-- ---- the refusal of the first place

module _ (p : ℕ → Bool) (n : ℕ) (refusal : ℕ → Refusal) where
  -- the walk has found the place
  pub refuses-first : (k : ℕ) → k < n → k ≡ first p n → Refused (refusal k) ≡ refuse_first p n refusal
  unfolding refuse_first
  refuses-first k l e = ap (λ (j : ℕ). Refused (refusal j)) e ∙ refuses _ _ (lt-ltb _ _ (rw e at l))

  -- there is none
  pub accepts-none : ((j : ℕ) → j < n → p j ≡ false) → Accepted ≡ refuse_first p n refusal
  unfolding refuse_first
  accepts-none h = let e = first_past p n h in accepts _ _ (le-ltb (first p n) n (omega arith))

  -- the search has found k
  pub refuses-found : (k : ℕ) → Some k ≡ find_first p n → Refused (refusal k) ≡ refuse_first p n refusal
  refuses-found k s = let f = found-first p n k s in refuses-first k f.0 f.1

  -- the search has found none, and nothing is refused
  pub accepts-not-found : None ≡ find_first p n → Accepted ≡ refuse_first p n refusal
  unfolding find_first refuse_first
  accepts-not-found = by-test (nat_lt (first p n) n) refl
    where
      by-test : (b : Bool)
          → nat_lt (first p n) n ≡ b
          → None ≡ cond b (Some (first p n)) None
          → Accepted ≡ refuse_if (nat_lt (first p n) n) (refusal (first p n))
      by-test true e s = absurd cc
      by-test false e s = accepts _ _ e

  -- it is accepted exactly when the test holds nowhere below n
  pub refuse_first-accepted : (refuse_first p n refusal ≡ Accepted) ↔ ((j : ℕ) → j < n → p j ≡ false)
  unfolding refuse_first
  refuse_first-accepted = (
    λ h.
        let g = ltb-false (first p n) n ((refuse_if-accepted _ _).0 h) in
        none-before-past p n (omega (arith, (first-is p n).within)),
    λ h. sym (accepts-none h),
  )
