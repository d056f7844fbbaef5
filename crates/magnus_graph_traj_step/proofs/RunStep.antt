-- One step of a run in its work slice, from the calls of its kernel, each of which tells what it wrote: under law 2 two samples, their
-- checks and the Taylor sum; under laws 0 and 1 the Taylor sum with the one list. Assumes nothing.
use mathlib.Core.Path.{◌≡◌, refl, sym, ap, ◌∙◌, subst, subst₂}
use mathlib.Core.Bool.{true, not}
use mathlib.Core.List.{List}
use Prim.Native.Nat.{ℕ, ◌+◌, ◌*◌, ◌≤◌, ◌<◌}
use native.Mathlib.Omega.{arith}
use lib.ListN.{length, get_or}
use lib.Ieee.{Float, binary64, nan}
use lib.Ieee.Scale.{finite}
use Rattle.rounding.specs.StepLength.{minus_half}
use Rattle.arithmetic.specs.Arithmetic.{ieee}
use Rattle.arithmetic.proofs.Tabulate.{length-tabulate}
use Rattle.scratch.specs.Parts.{part, put}
use Rattle.scratch.proofs.Parts.{Wrote, wrote, length_part, part-of-put-before}
use Rattle.error.specs.declared.Refusal.{Refusal}
use Rattle.error.specs.Answer.{Checked}
use Rattle.error.specs.Answer.{Accepted, Refused}
use Rattle.error.specs.Checks.{next}
use Rattle.error.proofs.Checks.{accepted-then}
use Rattle.graph_rows.specs.RowProduct.{row_product64}
use Rattle.graph_checks.proofs.First.{accepts-none}
use Rattle.graph_pairs.specs.Pairs.{firsts, seconds}
use Rattle.magnus.specs.Operators.{Operator, omega4}
use Rattle.magnus.specs.Coefficients.{reciprocal_factorial}
use Rattle.magnus_graph_helpers.specs.Terms.{TermsAdded}
use Rattle.magnus_graph_faults.proofs.StepSound.{refused-not-accepted}
use Rattle.magnus_graph_outcome.specs.Omega4.{sqrt3_over12}
use Rattle.magnus_graph_step.specs.Omega4.{exp_omega4}
use Rattle.graph_traj_laws.specs.Laws.{law_values, by_law, values_at, law_list}
use Rattle.graph_traj_laws.proofs.Laws.{whole-pool, law-values, law-list-has}
use Rattle.graph_traj_samples.specs.Sampled.{sampled_fault, law_pairs}
use Rattle.graph_traj_samples.proofs.Sampled.{first-values, second-values}
use Rattle.magnus_graph_traj_step.specs.RunStepTaken.{RunStepTaken}

-- ---- the step under law 2

-- Ω with the samples whose values lie as pairs at 7n of the work slice w
abbrev pub sampled_omega : (n : ℕ) → List ℕ → List ℕ → Float → Float → List Float → Operator (ieee binary64) n
sampled_omega n row_starts cols sign τ w =
    let values = part (7 * n) (2 * length cols) w in
    let L = row_product64 n row_starts cols in
    omega4 (ieee binary64) n minus_half sqrt3_over12 sign τ (L (firsts (ieee binary64) (length cols) values)) (L (seconds (ieee binary64) (length cols) values))

-- what holds of the two lists of one segment holds of the parts that are its lists in pools of one segment
one-segment : (P : ℕ → List Float → List Float → Type 0) (m : ℕ) (start end : List Float) → length start ≡ m → length end ≡ m
    → P (length start) start end → P m (part (0 * m) m start) (part (0 * m) m end)
one-segment P m start end p q h =
    subst₂ (P m) (sym (whole-pool m start p)) (sym (whole-pool m end q)) (subst (λ (k : ℕ). P k start end) p h)

-- what `sample` answers and writes at 7n, of two lists of m values
abbrev SampledTo : (n : ℕ) (f1 f2 : Float) → Checked → List Float → List Float → ℕ → List Float → List Float → Type 0
SampledTo n f1 f2 r w w₁ m s e =
    (r ≡ next (sampled_fault (law_values m f1 s e)) (sampled_fault (law_values m f2 s e))) × (w₁ ≡ put (7 * n) (law_pairs m f1 f2 s e) w)

module _ (n : ℕ) (row_starts cols : List ℕ) (start end : List Float) (τ f1 f2 sign : Float) (same : length end ≡ length start)
    (size : length start ≡ length cols) where
  abbrev lists : List Float
  lists = let m = length cols in law_pairs m f1 f2 (part (0 * m) m start) (part (0 * m) m end)

  -- both samples were written as pairs at 7n
  module _ (w w₁ : List Float) (room : 7 * n + 2 * length cols ≤ length w) {r : Checked}
      (samples : SampledTo n f1 f2 r w w₁ (length start) start end) where
    placed : SampledTo n f1 f2 r w w₁ (length cols) (part (0 * length cols) (length cols) start) (part (0 * length cols) (length cols) end)
    placed = one-segment (SampledTo n f1 f2 r w w₁) (length cols) start end size (same ∙ size) samples

    wrote-samples : Wrote (2 * length cols) (7 * n) lists w w₁
    wrote-samples = wrote (2 * length cols) (7 * n) lists w w₁ (length-tabulate _ (2 * length cols)) (omega arith) placed.1

    -- and one was refused
    pub sampled-refused : {x : Refusal} → r ≡ Refused x → RunStepTaken n row_starts cols 2 start end 0 τ f1 f2 sign r w w₁
    unfolding values_at by_law
    sampled-refused refused = record {
      answer = placed.0;
      taken = λ a. absurd (refused-not-accepted refl refused a);
      length-kept = wrote-samples.length-kept;
      rest = λ j h. wrote-samples.rest j (omega arith);
    }

    -- both were accepted, and the Taylor sum was formed
    pub sampled-taken : {w₂ : List Float}
        → r ≡ Accepted
        → TermsAdded (ieee binary64) n (7 * n) (reciprocal_factorial binary64) 4 (sampled_omega n row_starts cols sign τ w₁) w₁ w₂
        → RunStepTaken n row_starts cols 2 start end 0 τ f1 f2 sign Accepted w w₂
    unfolding values_at by_law
    sampled-taken accepted terms =
        let m = length cols in
        let one = ap (firsts (ieee binary64) m) wrote-samples.here ∙ first-values m f1 f2 _ _ in
        let two = ap (seconds (ieee binary64) m) wrote-samples.here ∙ second-values m f1 f2 _ _ in
        let signal = ap (part 0 n) placed.1 ∙ part-of-put-before (7 * n) lists w 0 n (omega arith) in
        record {
          answer = sym accepted ∙ placed.0;
          taken = λ a. terms.sum
              ∙ (λ i. exp_omega4 binary64 n sqrt3_over12 sign τ (row_product64 n row_starts cols (one i))
              (row_product64 n row_starts cols (two i)) (signal i));
          length-kept = terms.length-kept ∙ wrote-samples.length-kept;
          rest = λ j h. terms.rest j (omega arith) ∙ wrote-samples.rest j (omega arith);
        }

-- ---- the step under laws 0 and 1

module _ (n : ℕ) (row_starts cols : List ℕ) (law : ℕ) (start end : List Float) (τ f1 f2 sign : Float) (same : length end ≡ length start)
    (size : length start ≡ length cols) where
  abbrev list_in : List Float → List Float
  list_in pool = part (0 * length cols) (length cols) pool

  -- row 20 refuses nothing of a list of finite values
  none-refused : (pool : List Float)
      → length pool ≡ length cols
      → ((i : ℕ) → i < length pool → finite (get_or pool i nan) ≡ true)
      → Accepted ≡ sampled_fault (list_in pool)
  unfolding sampled_fault
  none-refused pool whole all-finite =
      accepts-none _ _ _ (λ j h. ap not (all-finite j h)) ∙ ap sampled_fault (sym (whole-pool (length cols) pool whole))

  -- both samples are the list that the law names, and the Taylor sum was formed with it
  pub constant-taken : law ≤ 1
      → ((i : ℕ) → i < length start → finite (get_or start i nan) ≡ true)
      → ((i : ℕ) → i < length end → finite (get_or end i nan) ≡ true)
      → {vals : List Float}
      → vals ≡ law_list law 0 (length start) start end
      → {w w' : List Float}
      → (let L = row_product64 n row_starts cols vals in
      TermsAdded (ieee binary64) n (3 * n) (reciprocal_factorial binary64) 4
      (omega4 (ieee binary64) n minus_half sqrt3_over12 sign τ L L) w w')
      → RunStepTaken n row_starts cols law start end 0 τ f1 f2 sign Accepted w w'
  constant-taken constant finite-start finite-end {vals} named {w} {w'} terms =
      let m = length cols in
      let listed = ap (λ (k : ℕ). law_list law 0 k start end) (sym size) ∙ sym named in
      let is : (f : Float) → values_at law m f (list_in start) (list_in end) ≡ vals = λ f. law-values law 0 m f start end constant ∙ listed in
      let passed : (f : Float) → Accepted ≡ sampled_fault (values_at law m f (list_in start) (list_in end)) =
      λ f. law-list-has (λ (l : List Float). Accepted ≡ sampled_fault l) law 0 m start end
      (none-refused start size finite-start) (none-refused end (same ∙ size) finite-end)
      ∙ ap sampled_fault (sym (law-values law 0 m f start end constant)) in
      record {
        answer = accepted-then Accepted Accepted _ _ (passed f1) refl (passed f2);
        taken = λ a. terms.sum
            ∙ (λ i. exp_omega4 binary64 n sqrt3_over12 sign τ (row_product64 n row_starts cols (sym (is f1) i))
            (row_product64 n row_starts cols (sym (is f2) i)) (part 0 n w));
        length-kept = terms.length-kept;
        rest = λ j h. terms.rest j (omega arith);
      }

-- the step of a law that is 2
pub taken-by-law : {n : ℕ} {row_starts cols : List ℕ} (law : ℕ) {starts ends : List Float} {k : ℕ} {τ f1 f2 sign : Float}
    {answer : Checked} {w w' : List Float}
    → law ≡ 2
    → RunStepTaken n row_starts cols 2 starts ends k τ f1 f2 sign answer w w'
    → RunStepTaken n row_starts cols law starts ends k τ f1 f2 sign answer w w'
taken-by-law {n} {row_starts} {cols} law {starts} {ends} {k} {τ} {f1} {f2} {sign} {answer} {w} {w'} two taken =
    subst (λ (l : ℕ). RunStepTaken n row_starts cols l starts ends k τ f1 f2 sign answer w w') (sym two) taken

-- a step with segment k's own lists is one in segment k of the pools in which they lie
pub in-pools : (n : ℕ) (row_starts cols : List ℕ) (law : ℕ) (starts ends : List Float) (k : ℕ) (τ f1 f2 sign : Float)
    {answer : Checked} {w w' : List Float}
    → k * length cols + length cols ≤ length starts
    → k * length cols + length cols ≤ length ends
    → (let of = part (k * length cols) (length cols) in
    RunStepTaken n row_starts cols law (of starts) (of ends) 0 τ f1 f2 sign answer w w')
    → RunStepTaken n row_starts cols law starts ends k τ f1 f2 sign answer w w'
in-pools n row_starts cols law starts ends k τ f1 f2 sign {w = w} p q taken =
    let m = length cols in
    let start = part (k * m) m starts in
    let end = part (k * m) m ends in
    let values : (f : Float) → values_at law m f (part (0 * m) m start) (part (0 * m) m end) ≡ values_at law m f start end =
    λ f i. values_at law m f (whole-pool m start (length_part (k * m) m starts p) i) (whole-pool m end (length_part (k * m) m ends q) i) in
    record {
      answer = taken.answer ∙ (λ i. next (sampled_fault (values f1 i)) (sampled_fault (values f2 i)));
      taken = λ a. taken.taken a
          ∙ (λ i. exp_omega4 binary64 n sqrt3_over12 sign τ (row_product64 n row_starts cols (values f1 i))
          (row_product64 n row_starts cols (values f2 i)) (part 0 n w));
      length-kept = taken.length-kept;
      rest = taken.rest;
    }
