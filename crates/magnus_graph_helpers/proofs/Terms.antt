-- A step in one work slice, from the calls of its kernel, each of which tells which vectors it wrote (01, parts 6, 7 and
-- 9): the walk that forms Ωv of order 4 from its products; one term of order 4 from four products; the Taylor sum from its
-- terms; and the step from loading the signal to clearing the work slice. For any arithmetic. Assumes nothing.
use mathlib.Core.Path.{◌≡◌, refl, sym, ap, ◌∙◌, subst}
use mathlib.Core.List.{List}
use Prim.Native.Nat.{ℕ, suc, ◌≤◌, ◌<◌, ◌+◌ as ◌+ℕ◌, ◌*◌ as ◌*ℕ◌}
use native.Mathlib.Numerals.{add-one}
use native.Mathlib.Omega.{arith}
use lib.ListN.{length, drop}
use Rattle.arithmetic.specs.Vector.{tabulate}
use Rattle.arithmetic.specs.Arithmetic.{Arithmetic, at}
use Rattle.arithmetic.specs.Product.{plus_scaled}
use Rattle.arithmetic.proofs.Tabulate.{length-tabulate, tabulate-same}
use Rattle.arithmetic.proofs.Product.{at-tabulate, length-plus-scaled}
use Rattle.scratch.specs.Parts.{part, put, Apart}
use Rattle.scratch.proofs.Parts.{Wrote, wrote, length_part, put-first-same}
use Rattle.magnus.specs.Operators.{Operator, omega4, power, taylor}
use Rattle.magnus_graph_helpers.specs.Terms.{omega4_sum, omega4-sum, TermAdded, TermsAdded}

module _ {K : Type 0} (A : Arithmetic K) where
  open A use {◌+◌, ◌-◌, ◌*◌}

  infixl 60 ◌+◌ ◌-◌
  infixl 70 ◌*◌
  -- ---- Ωv from its products

  -- its place i, and the walk over the places that writes it
  abbrev pub omega4_sum_at : K → K → List K → List K → List K → List K → ℕ → K
  omega4_sum_at scale comm_scale a b c d i = scale * (at A a i + at A b i) + comm_scale * (at A c i - at A d i)

  pub omega4-sum-walk : (n : ℕ) (scale comm_scale : K) (a b c d : List K)
      → tabulate (omega4_sum_at scale comm_scale a b c d) n ≡ omega4_sum A n scale comm_scale a b c d
  unfolding omega4_sum
  omega4-sum-walk n scale comm_scale a b c d = tabulate-same _ _ n (λ i h. simp (at-tabulate A))

module _ {K : Type 0} (A : Arithmetic K) (n : ℕ) where
  open A use {◌*◌}

  infixl 70 ◌*◌
  length-omega4-sum : (scale comm_scale : K) (a b c d : List K) → length (omega4_sum A n scale comm_scale a b c d) ≡ n
  unfolding omega4_sum
  length-omega4-sum scale comm_scale a b c d = length-tabulate _ n

  -- ---- one term

  -- The product P with the vector at `source` was written at `target`. Of the first five vectors those apart from the
  -- target are as they were, and so is the work slice from index `used` on.
  pub record ProductPlaced (used source target : ℕ) (P : Operator A n) (w w' : List K) : Type 0 where
    pub here : part target n w' ≡ P (part source n w)
    pub apart : (a : ℕ) → a +ℕ n ≤ 5 *ℕ n → Apart n a target → part a n w' ≡ part a n w
    pub length-kept : length w' ≡ length w
    pub rest : (k : ℕ) → used ≤ k → drop k w' ≡ drop k w

  -- a call that writes this product and nothing else
  pub product-placed : (used source target : ℕ) (P : Operator A n) (w w' : List K)
      → ((x : List K) → length (P x) ≡ n)
      → used ≤ length w
      → target +ℕ n ≤ used
      → w' ≡ put target (P (part source n w)) w
      → ProductPlaced used source target P w w'
  product-placed used source target P w w' size room within e =
      let written = wrote n target (P (part source n w)) w w' (size _) (omega arith) e in
      record {
        here = written.here;
        apart = λ a h far. written.apart a far;
        length-kept = written.length-kept;
        rest = λ k h. written.rest k (omega arith);
      }

  -- the room is still there
  pub room-left : {used source target : ℕ} {P : Operator A n} {w w' : List K} → ProductPlaced used source target P w w'
      → (m : ℕ)
      → m ≤ length w
      → m ≤ length w'
  room-left placed m room = rw placed.length-kept room

  -- a = P1 v, b = P2 v, d = P1 b over v, which is no longer needed, and c = P2 a: with them Ωv is formed over d
  pub omega4-formed : {used : ℕ} (minus_half s sign τ : K) (P1 P2 : Operator A n) {w w₁ w₂ w₃ w₄ : List K}
      → ProductPlaced used n (2 *ℕ n) P1 w w₁
      → ProductPlaced used n (3 *ℕ n) P2 w₁ w₂
      → ProductPlaced used (3 *ℕ n) n P1 w₂ w₃
      → ProductPlaced used (2 *ℕ n) (4 *ℕ n) P2 w₃ w₄
      → omega4_sum A n (minus_half * τ) (sign * s * τ * τ)
      (part (2 *ℕ n) n w₄) (part (3 *ℕ n) n w₄) (part (4 *ℕ n) n w₄) (part n n w₄)
      ≡ omega4 A n minus_half s sign τ P1 P2 (part n n w)
  omega4-formed minus_half s sign τ P1 P2 {w = w} first second third fourth =
      let a₃ = third.apart (2 *ℕ n) (omega arith) (omega arith) ∙ second.apart (2 *ℕ n) (omega arith) (omega arith) ∙ first.here in
      let a = fourth.apart (2 *ℕ n) (omega arith) (omega arith) ∙ a₃ in
      let b₂ = second.here ∙ ap P2 (first.apart n (omega arith) (omega arith)) in
      let b = fourth.apart (3 *ℕ n) (omega arith) (omega arith) ∙ third.apart (3 *ℕ n) (omega arith) (omega arith) ∙ b₂ in
      let c = fourth.here ∙ ap P2 a₃ in
      let d = fourth.apart n (omega arith) (omega arith) ∙ third.here ∙ ap P1 b₂ in
      (λ j. omega4_sum A n (minus_half * τ) (sign * s * τ * τ) (a j) (b j) (c j) (d j))
      ∙ omega4-sum A n minus_half s sign τ P1 P2 (part n n w)

  -- the image under W was written over the vector at n, and the coefficient times it added to the vector at 0
  pub term-added : (used : ℕ) (W : Operator A n) (coefficient : K) (x w w₁ w₂ w' : List K)
      → 2 *ℕ n ≤ length w
      → 2 *ℕ n ≤ used
      → x ≡ W (part n n w)
      → length x ≡ n
      → part 0 n w₁ ≡ part 0 n w
      → length w₁ ≡ length w
      → ((k : ℕ) → used ≤ k → drop k w₁ ≡ drop k w)
      → w₂ ≡ put n x w₁
      → w' ≡ put 0 (plus_scaled A n (part 0 n w₂) coefficient (part n n w₂)) w₂
      → TermAdded A n used W coefficient w w'
  term-added used W coefficient x w w₁ w₂ w' room within formula size sum_kept kept rest image-written sum-written =
      let image = wrote n n x w₁ w₂ size (omega arith) image-written in
      let kept₂ = image.length-kept in
      let total = plus_scaled A n (part 0 n w₂) coefficient (part n n w₂) in
      let sum = wrote n 0 total w₂ w' (length-plus-scaled A n _ coefficient _) (omega arith) sum-written in
      record {
        image = sum.apart n (omega arith) ∙ image.here ∙ formula;
        sum = sum.here
            ∙ (λ j. plus_scaled A n ((image.apart 0 (omega arith) ∙ sum_kept) j) coefficient ((image.here ∙ formula) j));
        length-kept = sum.length-kept ∙ image.length-kept ∙ kept;
        rest = λ k h. sum.rest k (omega arith) ∙ image.rest k (omega arith) ∙ rest k h;
      }

  -- four products and Ωv of them make a term of order 4
  pub term4-added : (used : ℕ) (minus_half s sign τ coefficient : K) (P1 P2 : Operator A n) (w w₁ w₂ w₃ w₄ w₅ w' : List K)
      → 5 *ℕ n ≤ length w
      → 5 *ℕ n ≤ used
      → ProductPlaced used n (2 *ℕ n) P1 w w₁
      → ProductPlaced used n (3 *ℕ n) P2 w₁ w₂
      → ProductPlaced used (3 *ℕ n) n P1 w₂ w₃
      → ProductPlaced used (2 *ℕ n) (4 *ℕ n) P2 w₃ w₄
      → w₅ ≡ put n (omega4_sum A n (minus_half * τ) (sign * s * τ * τ)
      (part (2 *ℕ n) n w₄) (part (3 *ℕ n) n w₄) (part (4 *ℕ n) n w₄) (part n n w₄)) w₄
      → w' ≡ put 0 (plus_scaled A n (part 0 n w₅) coefficient (part n n w₅)) w₅
      → TermAdded A n used (omega4 A n minus_half s sign τ P1 P2) coefficient w w'
  term4-added used minus_half s sign τ coefficient P1 P2 w w₁ w₂ w₃ w₄ w₅ w' room within first second third fourth formed sum =
      term-added used (omega4 A n minus_half s sign τ P1 P2) coefficient _ w w₄ w₅ w' (omega arith) (omega arith)
      (omega4-formed minus_half s sign τ P1 P2 first second third fourth) (length-omega4-sum _ _ _ _ _ _)
      (fourth.apart 0 (omega arith) (omega arith) ∙ third.apart 0 (omega arith) (omega arith)
      ∙ second.apart 0 (omega arith) (omega arith) ∙ first.apart 0 (omega arith) (omega arith))
      (fourth.length-kept ∙ third.length-kept ∙ second.length-kept ∙ first.length-kept)
      (λ k h. fourth.rest k h ∙ third.rest k h ∙ second.rest k h ∙ first.rest k h)
      formed sum

  -- Where both samples are one, a = P v and d = P a over v do: a is b, and d is c. The difference c - d is formed all the same.
  pub omega4-constant-formed : {used : ℕ} (minus_half s sign τ : K) (P : Operator A n) {w w₁ w₂ : List K}
      → ProductPlaced used n (2 *ℕ n) P w w₁
      → ProductPlaced used (2 *ℕ n) n P w₁ w₂
      → omega4_sum A n (minus_half * τ) (sign * s * τ * τ)
      (part (2 *ℕ n) n w₂) (part (2 *ℕ n) n w₂) (part n n w₂) (part n n w₂)
      ≡ omega4 A n minus_half s sign τ P P (part n n w)
  omega4-constant-formed minus_half s sign τ P {w = w} first second =
      let a = second.apart (2 *ℕ n) (omega arith) (omega arith) ∙ first.here in
      let d = second.here ∙ ap P first.here in
      (λ j. omega4_sum A n (minus_half * τ) (sign * s * τ * τ) (a j) (a j) (d j) (d j))
      ∙ omega4-sum A n minus_half s sign τ P P (part n n w)

  -- two products and Ωv of them make a term of order 4 of one sample
  pub term4-constant-added : (used : ℕ) (minus_half s sign τ coefficient : K) (P : Operator A n) (w w₁ w₂ w₃ w' : List K)
      → 3 *ℕ n ≤ length w
      → 3 *ℕ n ≤ used
      → ProductPlaced used n (2 *ℕ n) P w w₁
      → ProductPlaced used (2 *ℕ n) n P w₁ w₂
      → w₃ ≡ put n (omega4_sum A n (minus_half * τ) (sign * s * τ * τ)
      (part (2 *ℕ n) n w₂) (part (2 *ℕ n) n w₂) (part n n w₂) (part n n w₂)) w₂
      → w' ≡ put 0 (plus_scaled A n (part 0 n w₃) coefficient (part n n w₃)) w₃
      → TermAdded A n used (omega4 A n minus_half s sign τ P P) coefficient w w'
  term4-constant-added used minus_half s sign τ coefficient P w w₁ w₂ w₃ w' room within first second formed sum =
      term-added used (omega4 A n minus_half s sign τ P P) coefficient _ w w₂ w₃ w' (omega arith) (omega arith)
      (omega4-constant-formed minus_half s sign τ P first second) (length-omega4-sum _ _ _ _ _ _)
      (second.apart 0 (omega arith) (omega arith) ∙ first.apart 0 (omega arith) (omega arith))
      (second.length-kept ∙ first.length-kept)
      (λ k h. second.rest k h ∙ first.rest k h)
      formed sum

  -- ---- the terms

  module _ (used : ℕ) (c : ℕ → K) (W : Operator A n) (w₀ : List K) where
    -- no term yet: the vector at n is the signal too
    pub terms-none : part n n w₀ ≡ part 0 n w₀ → TermsAdded A n used c 0 W w₀ w₀
    unfolding taylor power
    terms-none signal = record { sum = refl; image = signal; length-kept = refl; rest = λ k h. refl }

    -- one term more
    pub terms-next : (d : ℕ) (coefficient : K) (w w' : List K)
        → TermsAdded A n used c d W w₀ w
        → coefficient ≡ c (suc d)
        → TermAdded A n used W coefficient w w'
        → TermsAdded A n used c (suc d) W w₀ w'
    unfolding taylor power plus_scaled
    terms-next d coefficient w w' before e term =
        let image = ap W before.image in
        record {
          sum = rw (term.sum, e, before.sum, image);
          image = term.image ∙ image;
          length-kept = term.length-kept ∙ before.length-kept;
          rest = λ k h. term.rest k h ∙ before.rest k h;
        }

  -- ---- a loop that adds the terms

  -- the signal, the vector at 0, was copied to n
  pub signal-copied : (w w₁ : List K) → 2 *ℕ n ≤ length w → w₁ ≡ put n (part 0 n w) w → Wrote n n (part 0 n w) w w₁
  signal-copied w w₁ room e = wrote n n (part 0 n w) w w₁ (length_part 0 n w (omega arith)) (omega arith) e

  -- nothing from index `used` on was written
  pub copied-rest : (used : ℕ) (w w₁ : List K) → 2 *ℕ n ≤ length w → 2 *ℕ n ≤ used → w₁ ≡ put n (part 0 n w) w
      → (j : ℕ)
      → used ≤ j
      → drop j w₁ ≡ drop j w
  copied-rest used w w₁ room within e j h = (signal-copied w w₁ room e).rest j (omega arith)

  -- k of d turns have added the terms up to Wᵏv
  pub record TermsTurn (used : ℕ) (c : ℕ → K) (d : ℕ) (W : Operator A n) (w₀ : List K) (k : ℕ) (w : List K) : Type 0 where
    pub turns : k ≤ d
    pub terms : TermsAdded A n used c k W w₀ w

  module _ (used : ℕ) (c : ℕ → K) where
    -- before them the signal was copied to the vector at n
    pub turns-none : (d : ℕ) (W : Operator A n) (w w₁ : List K)
        → 2 *ℕ n ≤ length w
        → w₁ ≡ put n (part 0 n w) w
        → TermsTurn used c d W w₁ 0 w₁
    turns-none d W w w₁ room e =
        let written = signal-copied w w₁ room e in
        record { turns = omega arith; terms = terms-none used c W w₁ (written.here ∙ sym (written.apart 0 (omega arith))) }

    pub turns_next : {d : ℕ} {W : Operator A n} {w₀ : List K} {k : ℕ} {w : List K}
        → TermsTurn used c d W w₀ k w
        → k < d
        → (coefficient : K) (w' : List K)
        → coefficient ≡ c (k +ℕ 1)
        → TermAdded A n used W coefficient w w'
        → TermsTurn used c d W w₀ (k +ℕ 1) w'
    turns_next {d} {W} {w₀} {k} {w} before more coefficient w' e term =
        let next : suc k ≡ k +ℕ 1 = sym (add-one k) in
        record {
          turns = omega arith;
          terms = subst (λ j. TermsAdded A n used c j W w₀ w') next
              (terms-next used c W w₀ k coefficient w w' before.terms (e ∙ ap c (sym next)) term);
        }

    -- After them the sum of the signal's terms is formed. Before them w became w₁, which has the same signal, with what else the terms want.
    pub turns-done : {d : ℕ} {W : Operator A n} {k : ℕ} (w w₁ : List K) {w₂ : List K}
        → part 0 n w₁ ≡ part 0 n w
        → length w₁ ≡ length w
        → ((j : ℕ) → used ≤ j → drop j w₁ ≡ drop j w)
        → TermsTurn used c d W w₁ k w₂
        → d ≤ k
        → TermsAdded A n used c d W w w₂
    turns-done {d} {W} {k} w w₁ {w₂} signal kept rest before last =
        let all : k ≡ d = let turns = before.turns in omega arith in
        let terms = subst (λ j. TermsAdded A n used c j W w₁ w₂) all before.terms in
        record {
          sum = terms.sum ∙ ap (taylor A n c d W) signal;
          image = terms.image ∙ ap (power A n W d) signal;
          length-kept = terms.length-kept ∙ kept;
          rest = λ j h. terms.rest j h ∙ rest j h;
        }

    -- the signal was only copied
    pub turns-all : {d : ℕ} {W : Operator A n} {k : ℕ} (w w₁ : List K) {w₂ : List K}
        → 2 *ℕ n ≤ length w
        → 2 *ℕ n ≤ used
        → w₁ ≡ put n (part 0 n w) w
        → TermsTurn used c d W w₁ k w₂
        → d ≤ k
        → TermsAdded A n used c d W w w₂
    turns-all w w₁ room within e before last =
        let written = signal-copied w w₁ room e in
        turns-done w w₁ (written.apart 0 (omega arith)) written.length-kept (copied-rest used w w₁ room within e) before last

  -- ---- the same terms of an operator that is said otherwise

  pub term-same : {used : ℕ} {coefficient : K} {w w' : List K} {W W' : Operator A n}
      → W ≡ W'
      → TermAdded A n used W coefficient w w'
      → TermAdded A n used W' coefficient w w'
  term-same {used} {coefficient} {w} {w'} e = subst (λ W. TermAdded A n used W coefficient w w') e

  pub terms-same : {used : ℕ} {c : ℕ → K} {d : ℕ} {w w' : List K} {W W' : Operator A n}
      → W ≡ W'
      → TermsAdded A n used c d W w w'
      → TermsAdded A n used c d W' w w'
  terms-same {used} {c} {d} {w} {w'} e = subst (λ W. TermsAdded A n used c d W w w') e

  -- ---- the step

  -- the signal v was loaded into the work slice w, now w₁, of which only the first `need` elements were written
  pub record SignalLoaded (need : ℕ) (v w w₁ : List K) : Type 0 where
    pub signal : part 0 n w₁ ≡ v
    pub length-kept : length w₁ ≡ length w
    pub rest : drop need w₁ ≡ drop need w

  pub signal-loaded : (need : ℕ) (v w w₁ : List K) → length v ≡ n → n ≤ need → need ≤ length w → w₁ ≡ put 0 v w
      → SignalLoaded need v w w₁
  signal-loaded need v w w₁ size enough room loaded =
      let written = wrote n 0 v w w₁ size (omega arith) loaded in
      record { signal = written.here; length-kept = written.length-kept; rest = written.rest need (omega arith) }

  -- then the terms were added, the sum was stored to out, of m places, and the work slice was cleared
  pub step-done : (need used m : ℕ) (c : ℕ → K) (d : ℕ) (W : Operator A n) {v w w₁ w₂ : List K} (out z w₃ : List K)
      → m ≡ n
      → need ≤ length w
      → used ≤ need
      → SignalLoaded need v w w₁
      → TermsAdded A n used c d W w₁ w₂
      → out ≡ part 0 m w₂
      → length z ≡ need
      → w₃ ≡ put 0 z w₂
      → (out ≡ taylor A n c d W v) × (w₃ ≡ put 0 z w)
  step-done need used m c d W {v} {w} {w₁} {w₂} out z w₃ size room within loaded terms stored size-z cleared =
      let rest = terms.rest need within ∙ loaded.rest in (
        stored ∙ ap (λ k. part 0 k w₂) size ∙ terms.sum ∙ ap (taylor A n c d W) loaded.signal,
        cleared ∙ put-first-same need z w w₂ size-z room (terms.length-kept ∙ loaded.length-kept) rest,
      )
