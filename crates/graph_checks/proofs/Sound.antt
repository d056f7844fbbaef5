-- What the checks accept: that of a pattern exactly a `Pattern`, and that of a Laplacian exactly a `Laplacian`. The crates above use these, and not the checks' definitions. Assumes nothing.
use mathlib.Core.Path.{◌≡◌, sym, ◌∙◌}
use mathlib.Core.Logic.{◌↔◌}
use mathlib.Core.List.{List}
use Prim.Native.Nat.{ℕ}
use lib.ListN.{length, get_or}
use lib.Ieee.{Float}
use Rattle.error.specs.Answer.{Accepted}
use Rattle.error.proofs.Checks.{next-accepted}
use Rattle.graph_counts.proofs.Sound.{entry-count-accepted}
use Rattle.graph_shape.proofs.Sound.{shape-accepted}
use Rattle.graph_columns.proofs.Sound.{columns-accepted}
pub use Rattle.graph_values.proofs.Sound.{values-accepted}
use Rattle.graph_checks.specs.Pattern.{Pattern, Laplacian}
use Rattle.graph_checks.specs.PatternChecks.{pattern_fault, csr_fault}

pub pattern-accepted : (n : ℕ) (starts cols : List ℕ) → (pattern_fault n starts cols ≡ Accepted) ↔ Pattern n starts cols
unfolding pattern_fault
pattern-accepted n starts cols = (
  λ h.
      let g = (next-accepted _ _).0 h in
      record {
        rows = (shape-accepted n starts (length cols)).0 g.0;
        inside = (columns-accepted n cols).0 g.1;
      },
  λ p.
      (next-accepted _ _).1
      ((shape-accepted n starts (length cols)).1 p.rows, (columns-accepted n cols).1 p.inside),
)

pub csr-accepted : (n : ℕ) (starts cols : List ℕ) (vals : List Float)
    → (csr_fault n starts cols vals ≡ Accepted) ↔ Laplacian n starts cols vals
unfolding csr_fault
csr-accepted n starts cols vals = (says, holds)
  where
    says : csr_fault n starts cols vals ≡ Accepted → Laplacian n starts cols vals
    says h =
        let shape = (next-accepted _ _).0 h in
        let count = (next-accepted _ _).0 shape.1 in
        let columns = (next-accepted _ _).0 count.1 in
        let rows = (shape-accepted n starts (length cols)).0 shape.0 in
        record {
          pattern = record { rows = rows; inside = (columns-accepted n cols).0 columns.0 };
          count = (entry-count-accepted (length vals) (get_or starts n 0)).0 count.0 ∙ rows.last;
          finite-values = (values-accepted vals).0 columns.1;
        }

    holds : Laplacian n starts cols vals → csr_fault n starts cols vals ≡ Accepted
    holds l =
        let rows = l.pattern.rows in
        (next-accepted _ _).1 (
          (shape-accepted n starts (length cols)).1 rows,
          (next-accepted _ _).1 (
            (entry-count-accepted (length vals) (get_or starts n 0)).1 (l.count ∙ sym rows.last),
            (next-accepted _ _).1
                ((columns-accepted n cols).1 l.pattern.inside, (values-accepted vals).1 l.finite-values),
          ),
        )
