-- Vectors of which only the place is known, as a loop writes them, one element a turn. Assumes nothing.
use mathlib.Core.Path.{◌≡◌, refl, sym, ◌∙◌}
use mathlib.Core.List.{List, [], ◌∷◌, ◌++◌}
use Prim.Native.Nat.{ℕ, ◌+◌}
use lib.ListN.{set, length-append}
use lib.Ieee.{Float}
use Rattle.scratch.specs.Parts.{put}
use Rattle.scratch.proofs.Parts.{put-append}
use Rattle.square_roots_estimates.specs.Overwritten.{Overwritten}

-- before the first turn
pub overwritten-none : (at : ℕ) (w : List Float) → Overwritten 0 at w w
unfolding put
overwritten-none at w = record { vector = []; size = refl; written = refl }

module _ {i at : ℕ} {w₀ w : List Float} (so-far : Overwritten i at w₀ w) where
  -- a turn writes one element more, whatever it is
  pub overwritten-next : (k : ℕ) (x : Float) → k ≡ at + i → Overwritten (i + 1) at w₀ (set w k x)
  unfolding put
  overwritten-next k x p = record {
    vector = so-far.vector ++ (x ∷ []);
    size = length-append so-far.vector (x ∷ []) ∙ (λ j. so-far.size j + 1);
    written = rw (p, so-far.written, ← so-far.size) (sym (put-append at so-far.vector (x ∷ []) w₀));
  }
