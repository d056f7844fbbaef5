-- Values one behind the other. Assumes nothing.
use Rattle.std.proofs.Common.{◌≡◌, List, [], ◌∷◌, ◌++◌, ℕ, append_assoc, append-nil}
use Rattle.error.specs.Refusals.{Carried}
use Rattle.job_text_numbers.specs.Added.{Added}
use Rattle.job_text_numbers.proofs.Adding.{added, added-behind}
use Rattle.job_text_row.specs.Spaced.{ValueText, space, Spaced}
use Rattle.job_text_row.specs.Spaced.Spaced.{none as no_value, value}

-- one value behind its space
pub value-added : {v : Carried} {w w' w'' : List ℕ}
    → w' ≡ w ++ (space ∷ [])
    → Added (ValueText v) w' w''
    → Added (Spaced (v ∷ [])) w w''
value-added {v = v} e p =
    let one : Spaced (v ∷ []) (space ∷ p.text) = rw append-nil at (value p.holds no_value) in
    added _ one (rw (p.is, e, append_assoc))

spaced-append : {vs ws : List Carried} (t u : List ℕ) → Spaced vs t → Spaced ws u → Spaced (vs ++ ws) (t ++ u)
spaced-append _ u no_value q = q
spaced-append _ u (value h p) q = rw append_assoc (value h (spaced-append _ u p q))

-- values behind others
pub spaced-behind : {vs ws : List Carried} {w w' w'' : List ℕ}
    → Added (Spaced vs) w w'
    → Added (Spaced ws) w' w''
    → Added (Spaced (vs ++ ws)) w w''
spaced-behind p q = added-behind (λ t u. spaced-append t u) p q
