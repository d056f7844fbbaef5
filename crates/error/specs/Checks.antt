-- Chains of checks. What a call answers is defined by the checks that it makes, in document 01's order, as
-- `next A (next B C)`: proofs/Checks.antt shows that this is the first refusal among them. Assumes nothing.
use Rattle.std.specs.Prelude.{Bool, true, false, not, ℕ, eqb}
use Rattle.error.specs.declared.Refusal.{Refusal}
use Rattle.error.specs.Answer.{Checked}
use Rattle.error.specs.Answer.{Accepted, Refused}

-- one check: refused where the test holds
unfoldable pub refuse_if : Bool → Refusal → Checked
refuse_if true r = Refused r
refuse_if false r = Accepted

-- one check of a count: refused where it is not the one that is wanted
unfoldable pub refuse_unequal : ℕ → ℕ → Refusal → Checked
refuse_unequal count wanted r = refuse_if (not (eqb count wanted)) r

-- a check and the chain after it: the second answer where the first is Accepted
unfoldable pub next : Checked → Checked → Checked
next Accepted b = b
next (Refused r) b = Refused r

-- what an answer leaves behind: a where it is Accepted, and b where it is a refusal
unfoldable pub if_accepted : {A : Type 0} → Checked → A → A → A
if_accepted Accepted a b = a
if_accepted (Refused r) a b = b
