-- What a run refuses of the values that law 2 gives (01, row 20), and how two samples lie in the work slice. Assumes nothing.
use Rattle.std.specs.Prelude.{List, ℕ, length, get_or, Float}
use Rattle.std.specs.Float.{nan, binary64}
use Rattle.arithmetic.specs.Arithmetic.{ieee, at}
use Rattle.error.specs.declared.Refusal.TheVariants.{SampledValue}
use Rattle.error.specs.Answer.{Checked}
use Rattle.graph_checks.specs.First.{refuse_first}
use Rattle.graph_checks.specs.PatternChecks.{not_finite_at}
use Rattle.graph_pairs.specs.Pairs.{pairs}
use Rattle.graph_traj_laws.specs.Laws.{law_value}

-- row 20: the first sampled value that is not finite
unfoldable pub sampled_fault : List Float → Checked
sampled_fault values = refuse_first (not_finite_at values) (length values) (λ k. SampledValue (get_or values k nan))

-- the values of law 2 at two fractions of the way from one list of m values to the other, as pairs
abbrev pub law_pairs : ℕ → Float → Float → List Float → List Float → List Float
law_pairs m f1 f2 starts ends =
    let A = ieee binary64 in
    pairs m (λ i. law_value f1 (at A starts i) (at A ends i)) (λ i. law_value f2 (at A starts i) (at A ends i))
