-- The laws of two samples that lie as pairs: the values of each, and that a test of values, as row 20 for a sample's values and row 11 for
-- its weights, refuses neither where every number of the pairs passes. Assumes nothing.
use mathlib.Core.Path.{◌≡◌, refl, sym, ap, ◌∙◌}
use mathlib.Core.Bool.{Bool, true, false, ◌&&◌, and_assoc}
use mathlib.Core.List.{List}
use Prim.Native.Nat.{ℕ, ◌+◌, ◌*◌, ◌≤◌, ◌<◌}
use native.Mathlib.Omega.{arith}
use lib.ListN.{length, get_or, take}
use lib.Ieee.{Float, nan, binary64}
use Rattle.float.specs.All.{all, all-is}
use Rattle.float.proofs.All.{all_more, all-passed}
use Rattle.arithmetic.specs.Vector.{tabulate}
use Rattle.arithmetic.specs.Arithmetic.{ieee, at}
use Rattle.arithmetic.proofs.Tabulate.{length-tabulate, get_d_tabulate}
use Rattle.error.specs.Checks.{next, refuse_if}
use Rattle.error.specs.declared.Refusal.{Refusal}
use Rattle.error.specs.Answer.{Checked}
use Rattle.error.specs.Answer.{Accepted, Refused}
use Rattle.error.proofs.Checks.{accepted-then, refuse_if-accepted, refuse_if-refused}
use Rattle.graph_checks.specs.First.{refuse_first}
use Rattle.graph_checks.proofs.First.{Passed, passed-more, passed-found, refuses-first, accepts-none}
use Rattle.graph_pairs.specs.Pairs.{alternate, pairs, firsts, seconds}
use Rattle.graph_pairs.proofs.Pairs.{alternate-first, alternate-second, first-of-pair, second-of-pair}
use Rattle.graph_pairs.proofs.Pairs.{firsts-of-pairs, seconds-of-pairs}
use Rattle.graph_traj_laws.specs.Laws.{law_value, law_values}
use Rattle.graph_traj_samples.specs.Sampled.{law_pairs}

-- ---- a test of the values of one sample, and the refusal of the first that it refuses

module _ (bad : Float → Bool) (refusal : Float → Refusal) where
  abbrev pub first_fault : List Float → Checked
  first_fault values = refuse_first (λ k. bad (get_or values k nan)) (length values) (λ k. refusal (get_or values k nan))

  -- it refuses none of m values
  none-refused : (f : ℕ → Float) (m : ℕ) → ((i : ℕ) → i < m → bad (f i) ≡ false) → Accepted ≡ first_fault (tabulate f m)
  none-refused f m each =
      accepts-none _ _ _ (λ j h.
      let l : j < m = omega (arith, h, length-tabulate f m) in
      ap bad (get_d_tabulate f m j nan l) ∙ each j l)

  -- a walk over the values of one sample
  module _ (values : List Float) {i : ℕ} (passed : Passed (λ k. bad (get_or values k nan)) (length values) i) where
    -- the value at place i is refused
    pub refused-at : (x : Float) (r : Refusal) → i < length values → x ≡ get_or values i nan → Refused r ≡ refuse_if (bad x) (refusal x)
        → Refused r ≡ first_fault values
    refused-at x r l e h =
        let found = (refuse_if-refused (bad x) (refusal x) r).0 (sym h) in
        ap Refused (sym found.1)
        ∙ ap (λ y. Refused (refusal y)) e
        ∙ refuses-first _ _ _ i l (passed-found passed (ap bad (sym e) ∙ found.0))

    -- it is not, and the walk goes on
    pub passed-at : (x : Float) → i < length values → x ≡ get_or values i nan → Accepted ≡ refuse_if (bad x) (refusal x)
        → Passed (λ k. bad (get_or values k nan)) (length values) (i + 1)
    passed-at x l e h = passed-more passed l (ap bad (sym e) ∙ (refuse_if-accepted (bad x) (refusal x)).0 (sym h))

    -- there is no value left
    pub none_left : length values ≤ i → Accepted ≡ first_fault values
    none_left l = accepts-none _ _ _ (λ j h. passed.none j (omega arith))

-- the value of law 2 at place i
pub get_or-values : (m : ℕ) (f : Float) (s e : List Float) (i : ℕ) → i < m
    → get_or (law_values m f s e) i nan ≡ law_value f (at (ieee binary64) s i) (at (ieee binary64) e i)
unfolding law_values
get_or-values m f s e i l = get_d_tabulate _ m i nan l

pub length-values : (m : ℕ) (f : Float) (s e : List Float) → length (law_values m f s e) ≡ m
unfolding law_values
length-values m f s e = length-tabulate _ m

-- ---- both samples

-- the value of one of them at place i
abbrev pub value : List Float → List Float → Float → ℕ → Float
value starts ends f i = law_value f (at (ieee binary64) starts i) (at (ieee binary64) ends i)

module _ (m : ℕ) (f1 f2 : Float) (starts ends : List Float) where
  -- the values of the first sample, and of the second
  pub first-values : firsts (ieee binary64) m (law_pairs m f1 f2 starts ends) ≡ law_values m f1 starts ends
  unfolding law_values
  first-values = firsts-of-pairs (ieee binary64) m (value starts ends f1) (value starts ends f2)

  pub second-values : seconds (ieee binary64) m (law_pairs m f1 f2 starts ends) ≡ law_values m f2 starts ends
  unfolding law_values
  second-values = seconds-of-pairs (ieee binary64) m (value starts ends f1) (value starts ends f2)

-- every number of the pairs passes a quick test, which refuses what the test of row 20 or 11 refuses
module _ (bad : Float → Bool) (refusal : Float → Refusal) (good : Float → Bool)
    (enough : (x : Float) → good x ≡ true → bad x ≡ false) (m : ℕ) (f1 f2 : Float) (starts ends : List Float) where
  abbrev one : ℕ → Float
  one = value starts ends f1

  abbrev two : ℕ → Float
  two = value starts ends f2

  abbrev accepted-pairs : Type 0
  accepted-pairs = Accepted ≡ next (first_fault bad refusal (law_values m f1 starts ends)) (first_fault bad refusal (law_values m f2 starts ends))

  pub both-pass : {b : Bool} → b ≡ all good (law_pairs m f1 f2 starts ends) → b ≡ true → accepted-pairs
  unfolding law_values
  both-pass tested passed =
      let each = (all-is good (law_pairs m f1 f2 starts ends) nan).0 (sym tested ∙ passed) in
      let size = length-tabulate (alternate one two) (2 * m) in
      let number = get_d_tabulate (alternate one two) (2 * m) in
      let first = none-refused bad refusal one m (λ i l.
      enough _ (ap good (sym (number (2 * i) nan (omega arith) ∙ alternate-first one two i)) ∙ each (2 * i) (omega arith))) in
      let second = none-refused bad refusal two m (λ i l.
      enough _ (ap good (sym (number (2 * i + 1) nan (omega arith) ∙ alternate-second one two i)) ∙ each (2 * i + 1) (omega arith))) in
      accepted-then Accepted Accepted _ _ first refl second

-- a walk that tests both samples' values, one and two, as pairs: after i turns `passed` is whether the first i pairs' numbers are good
module _ (good : Float → Bool) (one two : ℕ → Float) (m : ℕ) where
  abbrev pub SoFar : ℕ → Bool → Type 0
  SoFar i passed = passed ≡ all good (take (2 * i) (pairs m one two))

  module _ {i : ℕ} {passed : Bool} (before : SoFar i passed) where
    pub so-far-next : i < m → {x y : Float} {t : Bool} → x ≡ one i → y ≡ two i → t ≡ (good x && good y) → SoFar (i + 1) (passed && t)
    so-far-next turn {x} {y} {t} is_one is-two tested =
        let size : length (pairs m one two) ≡ 2 * m = length-tabulate (alternate one two) (2 * m) in
        let first = first-of-pair (ieee binary64) m one two i turn in
        let second = second-of-pair (ieee binary64) m one two i turn in
        let next : 2 * i + 1 + 1 ≡ 2 * (i + 1) = omega arith in
        ap (λ (b : Bool). passed && b) tested
        ∙ sym (and_assoc passed (good x) (good y))
        ∙ all_more good (pairs m one two) nan (2 * i + 1) (passed && good x) (good y) (omega arith)
        (all_more good (pairs m one two) nan (2 * i) passed (good x) (omega arith) before (ap good (is_one ∙ sym first)))
        (ap good (is-two ∙ sym second))
        ∙ ap (λ (k : ℕ). all good (take k (pairs m one two))) next

    -- all turns
    pub so-far-all : m ≤ i → passed ≡ all good (pairs m one two)
    so-far-all last =
        let size : length (pairs m one two) ≡ 2 * m = length-tabulate (alternate one two) (2 * m) in
        all-passed good (pairs m one two) (2 * i) passed (omega arith) before
