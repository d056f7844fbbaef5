-- Texts one behind the other. Assumes nothing.
use Rattle.std.proofs.Common.{◌≡◌, List, ◌++◌, ℕ, append_assoc}
use Rattle.job_text_numbers.specs.Added.{Added}

-- a text that need not be named
pub added : {P : List ℕ → Type 0} (t : List ℕ) {w w' : List ℕ} → P t → w' ≡ w ++ t → Added P w w'
added t h e = record { text = t; holds = h; is = e }

-- a text behind another one
pub added-behind : {P Q R : List ℕ → Type 0} {w w' w'' : List ℕ}
    → ((t u : List ℕ) → P t → Q u → R (t ++ u))
    → Added P w w'
    → Added Q w' w''
    → Added R w w''
added-behind f p q = added _ (f p.text q.text p.holds q.holds) (rw (q.is, p.is, append_assoc))
