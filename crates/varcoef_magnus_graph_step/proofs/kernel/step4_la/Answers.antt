-- `varcoef_magnus_graph_step::kernel::step4_la` meets its contract: the work slice is split, the roots are written behind the vectors, the four terms
-- are added to the signal, the sum is stored to dst, and the first 9n elements of the work slice, beyond which nothing was written, are cleared.
-- Assumes nothing.
use Rattle.std.proofs.Common.{◌≡◌, ◌≤◌, ◌*◌, ◌∙◌, ap, ap₂, arith, length, map, drop}
use Rattle.std.specs.Float.{binary64}
use Rattle.rounding.specs.StepLength.{minus_half}
use Rattle.arithmetic.specs.Arithmetic.{ieee}
use Rattle.arithmetic.proofs.Tabulate.{length-tabulate}
use Rattle.scratch.specs.Parts.{part}
use Rattle.ieee_square_root.specs.SquareRoot.{square_root}
use Rattle.graph_rows.specs.Product.{product_of}
use Rattle.magnus.specs.Coefficients.{reciprocal_factorial}
use Rattle.magnus.specs.Operators.{taylor}
use Rattle.magnus_graph_helpers.proofs.Terms.{signal-loaded, terms-same}
use Rattle.varcoef_magnus_graph_taylor_term.specs.WeightedOmega4.{weighted_omega4}
use Rattle.varcoef_magnus_graph_step.proofs.Roots.{first-roots, second-roots, length-both, rest-of-both, cleared-joined}
use Rattle.varcoef_magnus_graph_step.proofs.kernel.step4_la.Goals as goal

pub returns : goal.returns
returns c =
    let args = c.args in
    let pre = c.requires in
    let n = args.first.pattern.n in
    let f = args.factors in
    let A = ieee binary64 in
    let root = square_root binary64 in
    let r1 = map root args.weights1.now in
    let r2 = map root args.weights2.now in
    let halves = c.split_at_mut-vectors.ensures in
    let front = c.split_at_mut-vectors.result.0.now in
    let back = c.split_at_mut-vectors.result.1.now in
    let room : 3 * n ≤ length back = omega (arith, halves.back_len, pre.room) in
    let root1 = first-roots n root args.weights1.now args.weights2.now back _ _ pre.weights1_len pre.weights2_len room
    c.sqrt_into_slice.ensures c.sqrt_into_slice-2.ensures in
    let root2 = second-roots n root args.weights1.now args.weights2.now back _ _ pre.weights1_len pre.weights2_len room
    c.sqrt_into_slice.ensures c.sqrt_into_slice-2.ensures in
    let same = ap₂ (weighted_omega4 A n minus_half f.s f.sign f.tau (product_of args.first) (product_of args.second)) root1 root2 in
    let signal = signal-loaded A n (6 * n) args.src.now front _ pre.src_len (omega arith) (omega (arith, halves.front_len)) c.load.ensures in
    let terms = terms-same A n same c.taylor_sum.ensures in
    let terms-size : length c.taylor_sum.new.work ≡ 6 * n = omega (arith, c.taylor_sum.ensures.length-kept, signal.length-kept, halves.front_len) in (
      c.store.ensures ∙ ap (λ k. part 0 k c.taylor_sum.new.work) pre.dst_len ∙ terms.sum ∙ ap (taylor A n (reciprocal_factorial binary64) 4 _) signal.signal,
      cleared-joined args.work.now (6 * n) (3 * n) _ _ terms-size
          (length-both n root args.weights1.now args.weights2.now back _ _ pre.weights1_len pre.weights2_len room
          c.sqrt_into_slice.ensures c.sqrt_into_slice-2.ensures ∙ ap length halves.back)
          (rest-of-both n root args.weights1.now args.weights2.now back _ _ pre.weights1_len pre.weights2_len room
          c.sqrt_into_slice.ensures c.sqrt_into_slice-2.ensures ∙ ap (drop (3 * n)) halves.back)
          (9 * n) _ _ (omega arith) (length-tabulate _ _) pre.room (omega arith) c.clear.ensures,
    )
