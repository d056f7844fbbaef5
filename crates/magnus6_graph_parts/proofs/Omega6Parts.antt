-- The parts of Ωv of order 6 in one work slice, from the calls of the kernel, each of which tells which vector it wrote:
-- B1x, B2x and B3x, then C1x and C2x, the two operators of the last commutator, and the term of the Taylor sum. For any
-- arithmetic. Assumes nothing.
use mathlib.Core.Path.{◌≡◌, refl, ap, ap₂, ◌∙◌}
use mathlib.Core.List.{List}
use Prim.Native.Nat.{ℕ, ◌≤◌, ◌+◌ as ◌+ℕ◌, ◌*◌ as ◌*ℕ◌}
use native.Mathlib.Omega.{arith}
use lib.ListN.{length}
use Rattle.arithmetic.specs.Arithmetic.{Arithmetic, scaled, added, subtracted}
use Rattle.arithmetic.specs.Product.{plus_scaled}
use Rattle.arithmetic.proofs.Tabulate.{length-tabulate}
use Rattle.arithmetic.proofs.Product.{length-plus-scaled}
use Rattle.scratch.specs.Parts.{part, put}
use Rattle.scratch.proofs.Parts.{Wrote, wrote, length_part}
use Rattle.magnus.specs.Operators.{Operator}
use Rattle.magnus.specs.OperatorArithmetic.{on_vectors}
use Rattle.magnus.specs.Omega6.{Constants6, b1, b2, c1, lop, rop, omega6}
use Rattle.magnus_graph_helpers.specs.Terms.{TermAdded}
use Rattle.magnus_graph_helpers.proofs.Terms.{term-added}
use Rattle.magnus6_graph_parts.specs.Omega6Parts.{scaled_second_difference, twice_first_plus, c2_sum, Kept, Lop, Rop}
use Rattle.magnus6_graph_parts.specs.Omega6Parts.{second-difference-sum, twice-first-plus, c2-sum}
use Rattle.magnus6_graph_parts.specs.Omega6Parts.{BFormed, C1Formed, C2Formed, LopFormed, RopFormed, AtVFormed}
use Rattle.magnus6_graph_parts.proofs.Omega6Walks.{length-second-difference, length-twice-first-plus, length-c2-sum}

module _ {K : Type 0} (n : ℕ) where
  -- the products with the samples have n places
  pub record Sizes (P1 P2 P3 : List K → List K) : Type 0 where
    pub first : (x : List K) → length (P1 x) ≡ n
    pub second : (x : List K) → length (P2 x) ≡ n
    pub third : (x : List K) → length (P3 x) ≡ n

  -- ---- what the writes leave

  pub kept-all : (from : ℕ) (w : List K) → Kept n from w w
  kept-all from w = record { before = λ a h. refl; length-kept = refl; rest = λ j h. refl }

  -- one write more, at index `from` or after it
  pub kept-write : {from : ℕ} {w w₁ : List K} → Kept n from w w₁ → {t : ℕ} {x w₂ : List K} → Wrote n t x w₁ w₂
      → from ≤ t
      → t +ℕ n ≤ 22 *ℕ n
      → Kept n from w w₂
  kept-write kept written after within = record {
    before = λ a h. written.apart a (omega arith) ∙ kept.before a h;
    length-kept = written.length-kept ∙ kept.length-kept;
    rest = λ j h. written.rest j (omega arith) ∙ kept.rest j h;
  }

  -- fewer vectors are asked for
  pub kept-fewer : {from : ℕ} {w w₁ : List K} → Kept n from w w₁ → (to : ℕ) → to ≤ from → Kept n to w w₁
  kept-fewer kept to less = record {
    before = λ a h. kept.before a (omega arith);
    length-kept = kept.length-kept;
    rest = λ j h. kept.rest j h;
  }

  -- the room is still there
  pub room-kept : {from : ℕ} {w w₁ : List K} → Kept n from w w₁ → 22 *ℕ n ≤ length w → 22 *ℕ n ≤ length w₁
  room-kept kept room = rw kept.length-kept room

module _ {K : Type 0} (A : Arithmetic K) (n : ℕ) (k : Constants6 K) (τ : K) (P1 P2 P3 : Operator A n)
    (sizes : Sizes n P1 P2 P3) where
  open A use {◌*◌, -◌}
  open k use {sqrt15_over3, ten_over3, one_over12, one_over240, minus_twenty}

  infixl 70 ◌*◌
  infix 80 -◌
  -- ---- B1x, B2x and B3x

  -- the first write is that of two vectors, P3x after P1x; the sums of them follow
  pub b-formed : (x : ℕ) (w w₁ w₂ w₃ w₄ w₅ : List K)
      → 22 *ℕ n ≤ length w
      → x +ℕ n ≤ 6 *ℕ n
      → w₁ ≡ put (8 *ℕ n) (P3 (part x n w)) (put (6 *ℕ n) (P1 (part x n w)) w)
      → w₂ ≡ put (7 *ℕ n) (P2 (part x n w₁)) w₁
      → w₃ ≡ put (9 *ℕ n) (scaled A n (- τ) (part (7 *ℕ n) n w₂)) w₂
      → w₄ ≡ put (10 *ℕ n) (scaled A n (τ * sqrt15_over3) (subtracted A n (part (6 *ℕ n) n w₃) (part (8 *ℕ n) n w₃))) w₃
      → w₅ ≡ put (11 *ℕ n) (scaled_second_difference A n (τ * ten_over3)
      (part (6 *ℕ n) n w₄) (part (7 *ℕ n) n w₄) (part (8 *ℕ n) n w₄)) w₄
      → BFormed A n k τ P1 P2 P3 (part x n w) w w₅
  unfolding b1 b2
  b-formed x w w₁ w₂ w₃ w₄ w₅ room within e₁ e₂ e₃ e₄ e₅ =
      let v = part x n w in
      let s₀ = wrote n (6 *ℕ n) (P1 v) w (put (6 *ℕ n) (P1 v) w) (sizes.first _) (omega arith) refl in
      let s₁ = wrote n (8 *ℕ n) _ (put (6 *ℕ n) (P1 v) w) w₁ (sizes.third _) (omega arith) e₁ in
      let s₂ = wrote n (7 *ℕ n) _ w₁ w₂ (sizes.second _) (omega arith) e₂ in
      let s₃ = wrote n (9 *ℕ n) _ w₂ w₃ (length-tabulate _ n) (omega arith) e₃ in
      let s₄ = wrote n (10 *ℕ n) _ w₃ w₄ (length-tabulate _ n) (omega arith) e₄ in
      let s₅ = wrote n (11 *ℕ n) _ w₄ w₅ (length-second-difference A n _ _ _ _) (omega arith) e₅ in
      let a1 = s₂.apart (6 *ℕ n) (omega arith) ∙ s₁.apart (6 *ℕ n) (omega arith) ∙ s₀.here in
      let a2 = s₂.here ∙ ap P2 (s₁.apart x (omega arith) ∙ s₀.apart x (omega arith)) in
      let a3 = s₂.apart (8 *ℕ n) (omega arith) ∙ s₁.here in
      let a1₃ = s₃.apart (6 *ℕ n) (omega arith) ∙ a1 in
      let a2₃ = s₃.apart (7 *ℕ n) (omega arith) ∙ a2 in
      let a3₃ = s₃.apart (8 *ℕ n) (omega arith) ∙ a3 in
      let a1₄ = s₄.apart (6 *ℕ n) (omega arith) ∙ a1₃ in
      let a2₄ = s₄.apart (7 *ℕ n) (omega arith) ∙ a2₃ in
      let a3₄ = s₄.apart (8 *ℕ n) (omega arith) ∙ a3₃ in
      let kept₀ = kept-write n (kept-all n (6 *ℕ n) w) s₀ (omega arith) (omega arith) in
      let kept₁ = kept-write n kept₀ s₁ (omega arith) (omega arith) in
      let kept₂ = kept-write n kept₁ s₂ (omega arith) (omega arith) in
      let kept₃ = kept-write n kept₂ s₃ (omega arith) (omega arith) in
      let kept₄ = kept-write n kept₃ s₄ (omega arith) (omega arith) in
      record {
        b1x = s₅.apart (9 *ℕ n) (omega arith) ∙ s₄.apart (9 *ℕ n) (omega arith) ∙ s₃.here ∙ ap (scaled A n (- τ)) a2;
        b2x = s₅.apart (10 *ℕ n) (omega arith) ∙ s₄.here
            ∙ ap₂ (λ x₁ x₃. scaled A n (τ * sqrt15_over3) (subtracted A n x₁ x₃)) a1₃ a3₃;
        b3x = s₅.here ∙ (λ j. scaled_second_difference A n (τ * ten_over3) (a1₄ j) (a2₄ j) (a3₄ j))
            ∙ second-difference-sum A n k τ P1 P2 P3 v;
        kept = kept-write n kept₄ s₅ (omega arith) (omega arith);
      }

  -- ---- C1x

  pub c1-formed : (v w : List K) {w₁ : List K} (w₂ w₄ w₅ w₆ : List K)
      → 22 *ℕ n ≤ length w
      → BFormed A n k τ P1 P2 P3 v w w₁
      → w₂ ≡ put (6 *ℕ n) (P2 (part (10 *ℕ n) n w₁)) w₁
      → w₄ ≡ put (8 *ℕ n) (P3 (part (9 *ℕ n) n w₂)) (put (7 *ℕ n) (P1 (part (9 *ℕ n) n w₂)) w₂)
      → w₅ ≡ put (12 *ℕ n) (scaled A n (τ * sqrt15_over3) (subtracted A n (part (7 *ℕ n) n w₄) (part (8 *ℕ n) n w₄))) w₄
      → w₆ ≡ put (13 *ℕ n) (subtracted A n (scaled A n (- τ) (part (6 *ℕ n) n w₅)) (part (12 *ℕ n) n w₅)) w₅
      → C1Formed A n k τ P1 P2 P3 v w w₆
  unfolding b1 b2 c1
  c1-formed v w {w₁} w₂ w₄ w₅ w₆ room b e₂ e₄ e₅ e₆ =
      let room₁ = room-kept n b.kept room in
      let w₃ = put (7 *ℕ n) (P1 (part (9 *ℕ n) n w₂)) w₂ in
      let s₂ = wrote n (6 *ℕ n) _ w₁ w₂ (sizes.second _) (omega arith) e₂ in
      let s₃ = wrote n (7 *ℕ n) (P1 (part (9 *ℕ n) n w₂)) w₂ w₃ (sizes.first _) (omega arith) refl in
      let s₄ = wrote n (8 *ℕ n) _ w₃ w₄ (sizes.third _) (omega arith) e₄ in
      let s₅ = wrote n (12 *ℕ n) _ w₄ w₅ (length-tabulate _ n) (omega arith) e₅ in
      let s₆ = wrote n (13 *ℕ n) _ w₅ w₆ (length-tabulate _ n) (omega arith) e₆ in
      let held : (a : ℕ) → 9 *ℕ n ≤ a → a +ℕ n ≤ 12 *ℕ n → part a n w₆ ≡ part a n w₁ = λ a h l.
      s₆.apart a (omega arith) ∙ s₅.apart a (omega arith) ∙ s₄.apart a (omega arith) ∙ s₃.apart a (omega arith)
      ∙ s₂.apart a (omega arith) in
      let y₂ = s₂.apart (9 *ℕ n) (omega arith) ∙ b.b1x in
      let p2 = s₅.apart (6 *ℕ n) (omega arith) ∙ s₄.apart (6 *ℕ n) (omega arith) ∙ s₃.apart (6 *ℕ n) (omega arith)
      ∙ s₂.here ∙ ap P2 b.b2x in
      let p1 = s₄.apart (7 *ℕ n) (omega arith) ∙ s₃.here ∙ ap P1 y₂ in
      let p3 = s₄.here ∙ ap P3 y₂ in
      let b2y = s₅.here ∙ ap₂ (λ x₁ x₃. scaled A n (τ * sqrt15_over3) (subtracted A n x₁ x₃)) p1 p3 in
      let kept₂ = kept-write n b.kept s₂ (omega arith) (omega arith) in
      let kept₃ = kept-write n kept₂ s₃ (omega arith) (omega arith) in
      let kept₄ = kept-write n kept₃ s₄ (omega arith) (omega arith) in
      let kept₅ = kept-write n kept₄ s₅ (omega arith) (omega arith) in
      record {
        b1x = held (9 *ℕ n) (omega arith) (omega arith) ∙ b.b1x;
        b2x = held (10 *ℕ n) (omega arith) (omega arith) ∙ b.b2x;
        b3x = held (11 *ℕ n) (omega arith) (omega arith) ∙ b.b3x;
        c1x = s₆.here ∙ ap₂ (λ x₁ x₂. subtracted A n (scaled A n (- τ) x₁) x₂) p2 b2y;
        p1y = s₆.apart (7 *ℕ n) (omega arith) ∙ s₅.apart (7 *ℕ n) (omega arith) ∙ p1;
        p3y = s₆.apart (8 *ℕ n) (omega arith) ∙ s₅.apart (8 *ℕ n) (omega arith) ∙ p3;
        b2y = s₆.apart (12 *ℕ n) (omega arith) ∙ b2y;
        kept = kept-write n kept₅ s₆ (omega arith) (omega arith);
      }

  -- ---- C2x

  pub c2-formed : (v w : List K) {w₁ : List K} (w₂ w₃ w₄ w₅ w₇ w₈ : List K)
      → 22 *ℕ n ≤ length w
      → C1Formed A n k τ P1 P2 P3 v w w₁
      → w₂ ≡ put (14 *ℕ n) (twice_first_plus A n (part (11 *ℕ n) n w₁) (part (13 *ℕ n) n w₁)) w₁
      → w₃ ≡ put (15 *ℕ n) (P2 (part (14 *ℕ n) n w₂)) w₂
      → w₄ ≡ put (16 *ℕ n) (P2 (part (9 *ℕ n) n w₃)) w₃
      → w₅ ≡ put (17 *ℕ n) (P2 (part (12 *ℕ n) n w₄)) w₄
      → w₇ ≡ put (19 *ℕ n) (P3 (part (16 *ℕ n) n w₅)) (put (18 *ℕ n) (P1 (part (16 *ℕ n) n w₅)) w₅)
      → w₈ ≡ put (20 *ℕ n) (c2_sum A n k τ (part (15 *ℕ n) n w₇) (part (7 *ℕ n) n w₇) (part (16 *ℕ n) n w₇)
      (part (8 *ℕ n) n w₇) (part (17 *ℕ n) n w₇) (part (18 *ℕ n) n w₇) (part (19 *ℕ n) n w₇)) w₇
      → C2Formed A n k τ P1 P2 P3 v w w₈
  c2-formed v w {w₁} w₂ w₃ w₄ w₅ w₇ w₈ room c e₂ e₃ e₄ e₅ e₇ e₈ =
      let room₁ = room-kept n c.kept room in
      let w₆ = put (18 *ℕ n) (P1 (part (16 *ℕ n) n w₅)) w₅ in
      let s₂ = wrote n (14 *ℕ n) _ w₁ w₂ (length-twice-first-plus A n _ _) (omega arith) e₂ in
      let s₃ = wrote n (15 *ℕ n) _ w₂ w₃ (sizes.second _) (omega arith) e₃ in
      let s₄ = wrote n (16 *ℕ n) _ w₃ w₄ (sizes.second _) (omega arith) e₄ in
      let s₅ = wrote n (17 *ℕ n) _ w₄ w₅ (sizes.second _) (omega arith) e₅ in
      let s₆ = wrote n (18 *ℕ n) (P1 (part (16 *ℕ n) n w₅)) w₅ w₆ (sizes.first _) (omega arith) refl in
      let s₇ = wrote n (19 *ℕ n) _ w₆ w₇ (sizes.third _) (omega arith) e₇ in
      let s₈ = wrote n (20 *ℕ n) _ w₇ w₈ (length-c2-sum A n k τ _ _ _ _ _ _ _) (omega arith) e₈ in
      -- the vectors before 14n are those of C1x
      let k₂ = kept-write n (kept-all n (14 *ℕ n) w₁) s₂ (omega arith) (omega arith) in
      let k₃ = kept-write n k₂ s₃ (omega arith) (omega arith) in
      let k₄ = kept-write n k₃ s₄ (omega arith) (omega arith) in
      let k₅ = kept-write n k₄ s₅ (omega arith) (omega arith) in
      let k₆ = kept-write n k₅ s₆ (omega arith) (omega arith) in
      let k₇ = kept-write n k₆ s₇ (omega arith) (omega arith) in
      let k₈ = kept-write n k₇ s₈ (omega arith) (omega arith) in
      let w-x = s₂.here ∙ ap₂ (twice_first_plus A n) c.b3x c.c1x ∙ twice-first-plus A n k τ P1 P2 P3 v in
      let p2w = s₇.apart (15 *ℕ n) (omega arith) ∙ s₆.apart (15 *ℕ n) (omega arith) ∙ s₅.apart (15 *ℕ n) (omega arith)
      ∙ s₄.apart (15 *ℕ n) (omega arith) ∙ s₃.here ∙ ap P2 w-x in
      let p2y₅ = s₅.apart (16 *ℕ n) (omega arith) ∙ s₄.here ∙ ap P2 (k₃.before (9 *ℕ n) (omega arith) ∙ c.b1x) in
      let p2y = s₇.apart (16 *ℕ n) (omega arith) ∙ s₆.apart (16 *ℕ n) (omega arith) ∙ p2y₅ in
      let p2b2y = s₇.apart (17 *ℕ n) (omega arith) ∙ s₆.apart (17 *ℕ n) (omega arith)
      ∙ s₅.here ∙ ap P2 (k₄.before (12 *ℕ n) (omega arith) ∙ c.b2y) in
      let p1p2y = s₇.apart (18 *ℕ n) (omega arith) ∙ s₆.here ∙ ap P1 p2y₅ in
      let p3p2y = s₇.here ∙ ap P3 p2y₅ in
      let p1y = k₇.before (7 *ℕ n) (omega arith) ∙ c.p1y in
      let p3y = k₇.before (8 *ℕ n) (omega arith) ∙ c.p3y in
      record {
        b1x = k₈.before (9 *ℕ n) (omega arith) ∙ c.b1x;
        b2x = k₈.before (10 *ℕ n) (omega arith) ∙ c.b2x;
        b3x = k₈.before (11 *ℕ n) (omega arith) ∙ c.b3x;
        c1x = k₈.before (13 *ℕ n) (omega arith) ∙ c.c1x;
        c2x = s₈.here
            ∙ (λ j. c2_sum A n k τ (p2w j) (p1y j) (p2y j) (p3y j) (p2b2y j) (p1p2y j) (p3p2y j))
            ∙ c2-sum A n k τ P1 P2 P3 v;
        kept = record {
          before = λ a h. k₈.before a (omega arith) ∙ c.kept.before a h;
          length-kept = k₈.length-kept ∙ c.kept.length-kept;
          rest = λ j h. k₈.rest j h ∙ c.kept.rest j h;
        };
      }

  -- ---- the operators of the last commutator

  pub lop-formed : (v w : List K) {w₁ : List K} (w₂ w₃ : List K)
      → 22 *ℕ n ≤ length w
      → C1Formed A n k τ P1 P2 P3 v w w₁
      → w₂ ≡ put (14 *ℕ n) (subtracted A n (scaled A n minus_twenty (part (9 *ℕ n) n w₁)) (part (11 *ℕ n) n w₁)) w₁
      → w₃ ≡ put (5 *ℕ n) (added A n (part (14 *ℕ n) n w₂) (part (13 *ℕ n) n w₂)) w₂
      → LopFormed A n k τ P1 P2 P3 v w w₃
  unfolding lop
  lop-formed v w {w₁} w₂ w₃ room c e₂ e₃ =
      let room₁ = room-kept n c.kept room in
      let s₂ = wrote n (14 *ℕ n) _ w₁ w₂ (length-tabulate _ n) (omega arith) e₂ in
      let s₃ = wrote n (5 *ℕ n) _ w₂ w₃ (length-tabulate _ n) (omega arith) e₃ in
      let first = s₂.here ∙ ap₂ (λ x₁ x₃. subtracted A n (scaled A n minus_twenty x₁) x₃) c.b1x c.b3x in
      let kept₂ = kept-write n (kept-fewer n c.kept (5 *ℕ n) (omega arith)) s₂ (omega arith) (omega arith) in
      record {
        lop-x = s₃.here ∙ ap₂ (added A n) first (s₂.apart (13 *ℕ n) (omega arith) ∙ c.c1x);
        kept = kept-write n kept₂ s₃ (omega arith) (omega arith);
      }

  pub rop-formed : (v w : List K) {w₁ : List K} (w₂ : List K)
      → 22 *ℕ n ≤ length w
      → C2Formed A n k τ P1 P2 P3 v w w₁
      → w₂ ≡ put (21 *ℕ n) (added A n (part (10 *ℕ n) n w₁) (part (20 *ℕ n) n w₁)) w₁
      → RopFormed A n k τ P1 P2 P3 v w w₂
  unfolding rop
  rop-formed v w {w₁} w₂ room c e₂ =
      let room₁ = room-kept n c.kept room in
      let s₂ = wrote n (21 *ℕ n) _ w₁ w₂ (length-tabulate _ n) (omega arith) e₂ in
      record {
        rop-x = s₂.here ∙ ap₂ (added A n) c.b2x c.c2x;
        kept = kept-write n c.kept s₂ (omega arith) (omega arith);
      }

  -- both at v, and the part of Ωv before the commutator
  pub at-v-formed : (v w : List K) {w₁ : List K} (w₂ w₃ w₄ w₅ w₆ : List K)
      → 22 *ℕ n ≤ length w
      → C2Formed A n k τ P1 P2 P3 v w w₁
      → w₂ ≡ put (2 *ℕ n) (part (9 *ℕ n) n w₁) w₁
      → w₃ ≡ put (2 *ℕ n) (plus_scaled A n (part (2 *ℕ n) n w₂) one_over12 (part (11 *ℕ n) n w₂)) w₂
      → w₄ ≡ put (14 *ℕ n) (subtracted A n (scaled A n minus_twenty (part (9 *ℕ n) n w₃)) (part (11 *ℕ n) n w₃)) w₃
      → w₅ ≡ put (3 *ℕ n) (added A n (part (14 *ℕ n) n w₄) (part (13 *ℕ n) n w₄)) w₄
      → w₆ ≡ put (4 *ℕ n) (added A n (part (10 *ℕ n) n w₅) (part (20 *ℕ n) n w₅)) w₅
      → AtVFormed A n k τ P1 P2 P3 v w w₆
  unfolding lop rop
  at-v-formed v w {w₁} w₂ w₃ w₄ w₅ w₆ room c e₂ e₃ e₄ e₅ e₆ =
      let room₁ = room-kept n c.kept room in
      let s₂ = wrote n (2 *ℕ n) _ w₁ w₂ (length_part (9 *ℕ n) n w₁ (omega arith)) (omega arith) e₂ in
      let s₃ = wrote n (2 *ℕ n) _ w₂ w₃ (length-plus-scaled A n _ _ _) (omega arith) e₃ in
      let s₄ = wrote n (14 *ℕ n) _ w₃ w₄ (length-tabulate _ n) (omega arith) e₄ in
      let s₅ = wrote n (3 *ℕ n) _ w₄ w₅ (length-tabulate _ n) (omega arith) e₅ in
      let s₆ = wrote n (4 *ℕ n) _ w₅ w₆ (length-tabulate _ n) (omega arith) e₆ in
      let held₃ : (a : ℕ) → 3 *ℕ n ≤ a → part a n w₃ ≡ part a n w₁ = λ a h.
      s₃.apart a (omega arith) ∙ s₂.apart a (omega arith) in
      let first = s₄.here ∙ ap₂ (λ x₁ x₃. subtracted A n (scaled A n minus_twenty x₁) x₃)
      (held₃ (9 *ℕ n) (omega arith) ∙ c.b1x) (held₃ (11 *ℕ n) (omega arith) ∙ c.b3x) in
      let c1v = s₄.apart (13 *ℕ n) (omega arith) ∙ held₃ (13 *ℕ n) (omega arith) ∙ c.c1x in
      let b2v = s₅.apart (10 *ℕ n) (omega arith) ∙ s₄.apart (10 *ℕ n) (omega arith) ∙ held₃ (10 *ℕ n) (omega arith)
      ∙ c.b2x in
      let c2v = s₅.apart (20 *ℕ n) (omega arith) ∙ s₄.apart (20 *ℕ n) (omega arith) ∙ held₃ (20 *ℕ n) (omega arith)
      ∙ c.c2x in
      let kept₂ = kept-write n (kept-fewer n c.kept (2 *ℕ n) (omega arith)) s₂ (omega arith) (omega arith) in
      let kept₃ = kept-write n kept₂ s₃ (omega arith) (omega arith) in
      let kept₄ = kept-write n kept₃ s₄ (omega arith) (omega arith) in
      let kept₅ = kept-write n kept₄ s₅ (omega arith) (omega arith) in
      record {
        linear = s₆.apart (2 *ℕ n) (omega arith) ∙ s₅.apart (2 *ℕ n) (omega arith) ∙ s₄.apart (2 *ℕ n) (omega arith)
            ∙ s₃.here
            ∙ ap₂ (λ x₁ x₃. plus_scaled A n x₁ one_over12 x₃) (s₂.here ∙ c.b1x) (s₂.apart (11 *ℕ n) (omega arith) ∙ c.b3x);
        lop-v = s₆.apart (3 *ℕ n) (omega arith) ∙ s₅.here ∙ ap₂ (added A n) first c1v;
        rop-v = s₆.here ∙ ap₂ (added A n) b2v c2v;
        kept = kept-write n kept₅ s₆ (omega arith) (omega arith);
      }

  -- ---- the term

  pub term6-added : (coefficient : K) (w w₁ w₂ w₃ w₄ w₅ w' : List K)
      → 22 *ℕ n ≤ length w
      → AtVFormed A n k τ P1 P2 P3 (part n n w) w w₁
      → LopFormed A n k τ P1 P2 P3 (part (4 *ℕ n) n w₁) w₁ w₂
      → RopFormed A n k τ P1 P2 P3 (part (3 *ℕ n) n w₂) w₂ w₃
      → w₄ ≡ put (6 *ℕ n) (scaled A n one_over240 (subtracted A n (part (5 *ℕ n) n w₃) (part (21 *ℕ n) n w₃))) w₃
      → w₅ ≡ put n (added A n (part (2 *ℕ n) n w₄) (part (6 *ℕ n) n w₄)) w₄
      → w' ≡ put 0 (plus_scaled A n (part 0 n w₅) coefficient (part n n w₅)) w₅
      → TermAdded A n (22 *ℕ n) (omega6 (on_vectors A n) k τ P1 P2 P3) coefficient w w'
  unfolding omega6 plus_scaled
  term6-added coefficient w w₁ w₂ w₃ w₄ w₅ w' room v l r e₄ e₅ e₆ =
      let room₁ = room-kept n v.kept room in
      let room₂ = room-kept n l.kept room₁ in
      let room₃ = room-kept n r.kept room₂ in
      let s₄ = wrote n (6 *ℕ n) _ w₃ w₄ (length-tabulate _ n) (omega arith) e₄ in
      let linear = s₄.apart (2 *ℕ n) (omega arith) ∙ r.kept.before (2 *ℕ n) (omega arith)
      ∙ l.kept.before (2 *ℕ n) (omega arith) ∙ v.linear in
      let left = r.kept.before (5 *ℕ n) (omega arith) ∙ l.lop-x ∙ ap (Lop A n k τ P1 P2 P3) v.rop-v in
      let right = r.rop-x ∙ ap (Rop A n k τ P1 P2 P3) (l.kept.before (3 *ℕ n) (omega arith) ∙ v.lop-v) in
      let commutator = s₄.here ∙ ap₂ (λ x₁ x₂. scaled A n one_over240 (subtracted A n x₁ x₂)) left right in
      let kept = kept-write n (kept-fewer n r.kept (2 *ℕ n) (omega arith)) s₄ (omega arith) (omega arith) in
      term-added A n (22 *ℕ n) (omega6 (on_vectors A n) k τ P1 P2 P3) coefficient _ w w₄ w₅ w' (omega arith) (omega arith)
      (ap₂ (added A n) linear commutator) (length-tabulate _ n)
      (kept.before 0 (omega arith) ∙ l.kept.before 0 (omega arith) ∙ v.kept.before 0 (omega arith))
      (kept.length-kept ∙ l.kept.length-kept ∙ v.kept.length-kept)
      (λ j h. kept.rest j h ∙ l.kept.rest j h ∙ v.kept.rest j h)
      e₅ e₆
