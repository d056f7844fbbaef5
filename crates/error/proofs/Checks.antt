-- Laws of chains of checks. The first part says what they are: a chain is accepted exactly when all its checks are, and
-- its refusal is the first one. The second part is what a call's proof is made of, one law for each check on the way.
-- Assumes nothing.
use mathlib.Core.Path.{◌≡◌, refl, sym, ap, ◌∙◌}
use mathlib.Core.Logic.{◌↔◌, ◌⊎◌, inl, inr}
use mathlib.Core.Bool.{Bool, true, false, not, true≢false, false≢true}
use Prim.Native.Nat.{ℕ}
use Rattle.std.specs.Prelude.{Err, IsErr, IsErrAnd}
use Rattle.std.proofs.lemmas.Result.{err_from_is_err_and}
use native.Mathlib.Omega.{arith}
use lib.Dec.{eqb}
use borrow.Author.Tests.{eqb-true, eq-eqb, ne_eqb, not-false}
use Rattle.error.specs.Checks.{refuse_if, refuse_unequal, next, if_accepted}
use Rattle.error.specs.Lengths.{length_fault}
use Rattle.error.specs.declared.Refusal.{Refusal}
use Rattle.error.specs.Answer.{Checked}
use Rattle.error.specs.Answer.{Accepted, Refused}

-- ---- what they are

-- no answer is both
not-both : {c : Checked} {r : Refusal} → c ≡ Accepted → c ≡ Refused r → ⊥
not-both p q = let z : ◌≡◌ {A = ℕ} 0 1 = cc in omega arith

-- one check is accepted exactly when its test fails
pub refuse_if-accepted : (t : Bool) (r : Refusal) → (refuse_if t r ≡ Accepted) ↔ (t ≡ false)
unfolding refuse_if
refuse_if-accepted true r = (λ p. absurd (not-both p refl), λ p. absurd (true≢false p))
refuse_if-accepted false r = (λ p. refl, λ p. refl)

-- it refuses, with its refusal, exactly when its test holds
pub refuse_if-refused : (t : Bool) (r q : Refusal) → (refuse_if t r ≡ Refused q) ↔ ((t ≡ true) × (r ≡ q))
unfolding refuse_if
refuse_if-refused true r q = (λ p. (refl, cc), λ p. ap Refused p.1)
refuse_if-refused false r q = (λ p. absurd (not-both refl p), λ p. absurd (false≢true p.0))

-- the check of a count is accepted exactly when the count is the one that is wanted
pub refuse_unequal-accepted : (count wanted : ℕ) (r : Refusal)
    → (refuse_unequal count wanted r ≡ Accepted) ↔ (count ≡ wanted)
unfolding refuse_unequal
refuse_unequal-accepted count wanted r = (
  λ p. eqb-true count wanted (not-false (eqb count wanted) ((refuse_if-accepted _ r).0 p)),
  λ p. (refuse_if-accepted _ r).1 (ap not (eq-eqb count wanted p)),
)

-- a chain is accepted exactly when its first check and the rest are
pub next-accepted : (a b : Checked) → (next a b ≡ Accepted) ↔ ((a ≡ Accepted) × (b ≡ Accepted))
unfolding next
next-accepted Accepted b = (λ p. (refl, p), λ p. p.1)
next-accepted (Refused r) b = (λ p. absurd (not-both p refl), λ p. p.0)

-- it refuses with its first refusal: that of the first check, or that of the rest where the first check accepts
pub next-refused : (a b : Checked) (q : Refusal)
    → (next a b ≡ Refused q) ↔ ((a ≡ Refused q) ⊎ ((a ≡ Accepted) × (b ≡ Refused q)))
unfolding next
next-refused Accepted b q = (λ p. inr (refl, p), rest)
  where
    rest : (Accepted ≡ Refused q) ⊎ ((Accepted ≡ Accepted) × (b ≡ Refused q)) → b ≡ Refused q
    rest (inl p) = absurd (not-both refl p)
    rest (inr p) = p.1
next-refused (Refused r) b q = (inl, first)
  where
    first : (Refused r ≡ Refused q) ⊎ ((Refused r ≡ Accepted) × (b ≡ Refused q)) → Refused r ≡ Refused q
    first (inl p) = p
    first (inr p) = absurd (not-both p.0 refl)

-- a chain within a chain is one chain
pub next-assoc : (a b c : Checked) → next (next a b) c ≡ next a (next b c)
unfolding next
next-assoc Accepted b c = refl
next-assoc (Refused r) b c = refl

-- ---- what a call's proof is made of

-- the test held, and the code refuses
pub refuses : (t : Bool) (r : Refusal) → t ≡ true → Refused r ≡ refuse_if t r
refuses t r p = sym ((refuse_if-refused t r r).1 (p, refl))

-- the test failed, and the code accepts
pub accepts : (t : Bool) (r : Refusal) → t ≡ false → Accepted ≡ refuse_if t r
accepts t r p = sym ((refuse_if-accepted t r).1 p)

-- the count is the one that is wanted, and the code accepts
pub accepts-equal : (count wanted : ℕ) (r : Refusal) → count ≡ wanted → Accepted ≡ refuse_unequal count wanted r
accepts-equal count wanted r p = sym ((refuse_unequal-accepted count wanted r).1 p)

-- it is another, and the code refuses
pub refuses-unequal : (count wanted : ℕ) (r : Refusal)
    → (count ≡ wanted → ⊥)
    → Refused r ≡ refuse_unequal count wanted r
unfolding refuse_unequal
refuses-unequal count wanted r p = refuses _ r (ap not (ne_eqb count wanted p))

-- the check x was made, with the answer a, which is a refusal and is the call's answer
pub refused-here : (a x b : Checked) (r : Refusal) → a ≡ x → a ≡ Refused r → a ≡ next x b
refused-here a x b r e p = p ∙ sym ((next-refused x b r).1 (inl (sym e ∙ p)))

-- the check x was made, with the answer c, which is Accepted; the call's answer a is that of the rest
pub accepted-then : (a c x b : Checked) → c ≡ x → c ≡ Accepted → a ≡ b → a ≡ next x b
unfolding next
accepted-then a c x b e p h = let q : x ≡ Accepted = sym e ∙ p in rw q h

-- ---- what an answer leaves behind

pub left-when-accepted : {A : Type 0} (c : Checked) (a b : A) → c ≡ Accepted → if_accepted c a b ≡ a
unfolding if_accepted
left-when-accepted c a b p = rw p

pub left-when-refused : {A : Type 0} (c : Checked) (r : Refusal) (a b : A) → c ≡ Refused r → if_accepted c a b ≡ b
unfolding if_accepted
left-when-refused c r a b p = rw p

-- ---- the check of a length

-- it is accepted exactly when the length is n
pub length-accepted : (l n : ℕ) → (length_fault l n ≡ Accepted) ↔ (l ≡ n)
unfolding length_fault
length-accepted l n = refuse_unequal-accepted l n _

-- ---- `?`, which leaves at the first refusal

-- what `?` hands on is the refusal that it met
pub handed_on : {a : Checked} {r : Refusal} → IsErr a × IsErrAnd a (λ y. y ≡ r) → a ≡ Refused r
handed_on {a} h = let q = err_from_is_err_and a h.1 in q.1 ∙ ap Err q.2
