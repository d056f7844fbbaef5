-- The starred points of document 01 ("Points to meet"), with some beside them: a table of what is computed from the definitions that the
-- contracts cite, and what it must be. Reals are given by their bit patterns.
use Rattle.std.specs.Prelude.{true, false, List, [], ◌∷◌, ◌++◌, map, ℕ, Float}
use Rattle.std.specs.Float.{binary64}
use Rattle.std.specs.Float.Ieee.{of_bits}
use Rattle.arithmetic.specs.Arithmetic.{ieee, subtracted}
use Rattle.error.specs.Refusals.{Carried, count, real, answer_of}
use Rattle.error.specs.Answer.{Checked}
use Rattle.error.specs.Answer.{Accepted, Refused}
use Rattle.graph.specs.ProductOutcome.{product_outcome}
use Rattle.graph_rows.specs.RowProduct.{row_product64}
use Rattle.graph_traj.specs.Lookup.{segment_at}
use Rattle.graph_traj_parts.specs.Trajectory.{Trajectory, trajectory}
use Rattle.graph_traj_breakpoints.specs.LookupChecks.{lookup_fault}
use Rattle.job_points.specs.ExampleJob.{example_job}
use Rattle.job_step.specs.JobOutcome.{job_answer, job_output}
use Rattle.magnus_graph_faults.specs.StepChecks.{Sample, sample}
use Rattle.magnus_graph_outcome.specs.StepOutcome.{StepInput, step_input, forward, adjoint, step_answer, step_output, step_work}
use Rattle.magnus_graph_traj_outcome.specs.RunOutcome.{adjoint_run, run_answer, run_output, run_work}
use Rattle.ieee_square_root.specs.SquareRoot.{square_root}
use Rattle.varcoef_magnus_graph_outcome.specs.StepOutcome as Weighted

-- ---- what a point is made of

-- the real with a bit pattern
unfoldable pub x64 : ℕ → Float
unfolding of_bits
x64 bits = of_bits binary64 bits

-- the reals with these bit patterns
unfoldable pub reals : List ℕ → List Float
reals bits = map x64 bits

-- the bits of 1
abbrev one : ℕ
one = 0x3FF0_0000_0000_0000

-- an answer as document 01's table has it, the number and the values of a refusal; where the call is accepted, what it gives
unfoldable pub answer_or : Checked → List Carried → List Carried
answer_or Accepted given = given
answer_or (Refused r) given = answer_of (Refused r)

-- an answer, and what it leaves of the slices
unfoldable pub leaves : Checked → List Float → List Carried
leaves answer slices = answer_of answer ++ map real slices

-- a point: what the definitions give, and what document 01 says
pub record Point : Type 0 where
  pub computed : List Carried
  pub expected : List Carried

abbrev pub ◌⇒◌ : List Carried → List Carried → Point
computed ⇒ expected = record { computed = computed; expected = expected }

infix 5 ◌⇒◌
-- ---- roots

-- the root of the first value is the second
unfoldable pub root : ℕ → ℕ → Point
root x r = real (square_root binary64 (x64 x)) ∷ [] ⇒ real (x64 r) ∷ []

unfoldable pub roots : List Point
roots =
    -- ★ the root of 4 is 2
    root 0x4010_0000_0000_0000 0x4000_0000_0000_0000
    -- ★ of 2
    ∷ root 0x4000_0000_0000_0000 0x3FF6_A09E_667F_3BCD
    -- ★ of 2 ^ -1074, the smallest value, it is 2 ^ -537
    ∷ root 0x0000_0000_0000_0001 0x1E60_0000_0000_0000
    -- ★ of the largest value
    ∷ root 0x7FEF_FFFF_FFFF_FFFF 0x5FEF_FFFF_FFFF_FFFF
    -- of 2 ^ -1073: an odd negative exponent is halved toward minus infinity
    ∷ root 0x0000_0000_0000_0002 0x1E66_A09E_667F_3BCD
    -- of the largest subnormal value
    ∷ root 0x000F_FFFF_FFFF_FFFF 0x1FFF_FFFF_FFFF_FFFF
    -- of 1 and its neighbours
    ∷ root 0x3FF0_0000_0000_0000 0x3FF0_0000_0000_0000
    ∷ root 0x3FEF_FFFF_FFFF_FFFF 0x3FEF_FFFF_FFFF_FFFF
    ∷ root 0x3FF0_0000_0000_0001 0x3FF0_0000_0000_0000
    -- of +0 and of -0
    ∷ root 0x0000_0000_0000_0000 0x0000_0000_0000_0000
    ∷ root 0x8000_0000_0000_0000 0x8000_0000_0000_0000
    -- of a negative value and of the negative infinity it is a NaN
    ∷ root 0xC010_0000_0000_0000 0x7FF8_0000_0000_0000
    ∷ root 0xFFF0_0000_0000_0000 0x7FF8_0000_0000_0000
    -- of the positive infinity and of a NaN
    ∷ root 0x7FF0_0000_0000_0000 0x7FF0_0000_0000_0000
    ∷ root 0x7FF8_0000_0000_0001 0x7FF8_0000_0000_0000
    ∷ []

-- ---- the row product

-- the network of no nodes, and one of a node with an empty row, before which two entries stand
unfoldable pub no_nodes : Sample
no_nodes = sample 0 (0 ∷ []) [] []

unfoldable pub two_entries_before : Sample
two_entries_before = sample 1 (2 ∷ 2 ∷ []) (0 ∷ 0 ∷ []) (reals (one ∷ one ∷ []))

-- what the row product answers and leaves of the output
unfoldable pub product_of : Sample → List ℕ → List ℕ → List Carried
product_of s signal output =
    let outcome = product_outcome s.nodes s.starts s.cols s.vals (reals signal) (reals output) in
    leaves outcome.answer outcome.output

-- L1 = diag(1, 0), and L2 swaps two nodes
unfoldable pub diagonal : List Float → List Float
diagonal = row_product64 2 (0 ∷ 1 ∷ 2 ∷ []) (0 ∷ 1 ∷ []) (reals (one ∷ 0 ∷ []))

unfoldable pub swap : List Float → List Float
swap = row_product64 2 (0 ∷ 1 ∷ 2 ∷ []) (1 ∷ 0 ∷ []) (reals (one ∷ one ∷ []))

-- L2(L1 v) - L1(L2 v)
unfoldable pub commutator : List Float → List Float
commutator v = subtracted (ieee binary64) 2 (swap (diagonal v)) (diagonal (swap v))

unfoldable pub products : List Point
products =
    -- ★ n 1, starts 2 2, columns 0 0: accepted, product 0
    (product_of two_entries_before (one ∷ []) (one ∷ []) ⇒ real (x64 0) ∷ [])
    -- ★ n 0, start 0: accepted, nothing written
    ∷ (product_of no_nodes [] [] ⇒ [])
    -- ★ L1 = diag(1, 0), L2 swaps two nodes, v (1, 0): L2L1v - L1L2v is (0, 1)
    ∷ (map real (commutator (reals (one ∷ 0 ∷ []))) ⇒ map real (reals (0 ∷ one ∷ [])))
    ∷ []

-- ---- steps

-- what a step answers and leaves of output and work slice
unfoldable pub step_of : Float → StepInput → List Carried
step_of sign s = leaves (step_answer sign s) (step_output sign s ++ step_work sign s)

-- a step without nodes, with the bound 1 and the check on
unfoldable pub step_of_tau : ℕ → StepInput
step_of_tau tau = step_input no_nodes no_nodes (x64 tau) (x64 one) true [] [] (reals (one ∷ []))

-- what 01's job with a map answers, and its values
unfoldable pub job_of : ℕ → List Carried
job_of map = leaves (job_answer (example_job map)) (job_output (example_job map))

-- a weighted step of one node that is linked to nothing, or of none, with a weight for each sample
unfoldable pub weighted_step : Sample → List ℕ → List ℕ → List ℕ → Weighted.StepInput
weighted_step s weights signal work =
    Weighted.step_input s s (x64 one) (x64 one) (x64 one) false (reals weights) (reals weights) (reals signal) (reals signal) (reals work)

unfoldable pub weighted_of : Weighted.StepInput → List Carried
weighted_of s = leaves (Weighted.step_answer forward s) (Weighted.step_output forward s ++ Weighted.step_work forward s)

unfoldable pub steps : List Point
steps =
    -- ★ bound 1: τ = 0x3FF921FB54442D18 gives 8, with τ and the bound, and leaves the work slice
    (step_of forward (step_of_tau 0x3FF9_21FB_5444_2D18)
    ⇒ count 8 ∷ real (x64 0x3FF9_21FB_5444_2D18) ∷ real (x64 one) ∷ real (x64 one) ∷ [])
    -- ★ one bit pattern lower passes; n 0, start 0: accepted, nothing written
    ∷ (step_of forward (step_of_tau 0x3FF9_21FB_5444_2D17) ⇒ real (x64 one) ∷ [])
    ∷ (step_of adjoint (step_of_tau 0x3FF9_21FB_5444_2D17) ⇒ real (x64 one) ∷ [])
    -- ★ the job above, forward and adjoint alike
    ∷ (job_of 0x0097 ⇒ map real (reals (0x3FE5_5555_5555_5556 ∷ 0x3FD5_5555_5555_5555 ∷ [])))
    ∷ (job_of 0x0197 ⇒ map real (reals (0x3FE5_5555_5555_5556 ∷ 0x3FD5_5555_5555_5555 ∷ [])))
    -- ★ weighted: 12
    ∷ (weighted_of (weighted_step no_nodes [] [] (one ∷ [])) ⇒ count 12 ∷ count 0 ∷ real (x64 one) ∷ [])
    -- ★ weight -0 gives 11
    ∷ (weighted_of (weighted_step two_entries_before (0x8000_0000_0000_0000 ∷ []) (one ∷ []) (0 ∷ 0 ∷ 0 ∷ 0 ∷ 0 ∷ 0 ∷ 0 ∷ 0 ∷ 0 ∷ []))
    ⇒ count 11 ∷ real (x64 0x8000_0000_0000_0000) ∷ map real (reals (one ∷ 0 ∷ 0 ∷ 0 ∷ 0 ∷ 0 ∷ 0 ∷ 0 ∷ 0 ∷ 0 ∷ [])))
    ∷ []

-- ---- trajectories

unfoldable pub breakpoints : List Float
breakpoints = reals (0 ∷ one ∷ 0x4008_0000_0000_0000 ∷ [])

-- what the lookup of a time answers among the breakpoints 0 1 3
unfoldable pub lookup : ℕ → List Carried
lookup t = answer_or (lookup_fault 2 breakpoints (x64 t)) (count (segment_at 2 breakpoints (x64 t)) ∷ [])

unfoldable pub in_segment : ℕ → ℕ → Point
in_segment t i = lookup t ⇒ count i ∷ []

unfoldable pub outside : ℕ → Point
outside t = lookup t ⇒ count 18 ∷ real (x64 t) ∷ []

-- one node, linked to nothing, along one segment from 0 to 1
unfoldable pub one_node : Trajectory
one_node = trajectory 1 (0 ∷ 0 ∷ []) [] 1 (reals (0 ∷ one ∷ [])) [] [] (2 ∷ [])

-- what its adjoint run of no steps answers and leaves of output and work slice
unfoldable pub no_steps : ℕ → ℕ → List ℕ → List ℕ → List Carried
no_steps tau signal output work =
    let run = adjoint_run one_node (x64 tau) 0 (x64 one) true (reals (signal ∷ [])) (reals output) (reals work) in
    leaves (run_answer run) (run_output run ++ run_work run)

unfoldable pub trajectories : List Point
trajectories =
    -- ★ breakpoints 0 1 3: the times 1 and 3 lie in segment 1
    in_segment one 1
    ∷ in_segment 0x4008_0000_0000_0000 1
    -- ★ 3.5 lies outside
    ∷ outside 0x400C_0000_0000_0000
    -- the time 0, as +0 and as -0, lies in segment 0
    ∷ in_segment 0x0000_0000_0000_0000 0
    ∷ in_segment 0x8000_0000_0000_0000 0
    -- a NaN lies outside
    ∷ outside 0x7FF8_0000_0000_0000
    -- ★ an adjoint run of no steps, τ NaN: a copy; the work slice stays
    ∷ (no_steps 0x7FF8_0000_0000_0000 0x4008_0000_0000_0000 (0 ∷ []) (one ∷ [])
    ⇒ real (x64 0x4008_0000_0000_0000) ∷ real (x64 one) ∷ [])
    ∷ []

-- ---- the table

unfoldable pub points : List Point
points = roots ++ products ++ steps ++ trajectories
