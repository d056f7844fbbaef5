-- `magnus6_graph_c2_sums::kernel::c2_sum` meets its contract: a turn reads the next elements of seven vectors, which lie before
-- what is written. The code's quotients 10 / 3 and 1 / 60 are the formula's. Assumes nothing.
use Rattle.std.proofs.Common.{◌≡◌, ◌+◌, ◌*◌, ◌<◌, ◌≤◌, ℕ, length, take, refl, arith, ap, ◌∙◌, sym}
use Rattle.std.specs.Float.{binary64, nan}
use lib.Ieee.{of_bits, div}
use lib.ListN.{length-take}
use Rattle.arithmetic.specs.Vector.{tabulate}
use Rattle.arithmetic.specs.Arithmetic.{ieee}
use Rattle.scratch.specs.Parts.{part}
use Rattle.scratch.proofs.Parts.{get_d_part}
use Rattle.scratch.proofs.Halves.{part-of-first, joined-after}
use Rattle.scratch.proofs.Writing.{written_none, written_next, written-whole}
use Rattle.magnus.specs.Omega6.{constants6}
use Rattle.magnus6_graph_parts.specs.Omega6Parts.{c2_sum}
use Rattle.magnus6_graph_parts.proofs.Omega6Walks.{c2_of, c2-sum-walk, length-c2-sum}
use Rattle.magnus6_graph_c2_sums.proofs.kernel.c2_sum.Goals as goal

pub loop-i-init : goal.loop-i-init
loop-i-init c = written_none _ _ _ _

pub loop-i-preserved : goal.loop-i-preserved
unfolding of_bits div
loop-i-preserved c =
    let n = c.args.n in
    let before = c.split_at_mut-before.result.0.now in
    let i = c.loop-i.i in
    let shorter = rw length-take at c.loop-i-test.true in
    let turn : i < n = omega arith in
    let read = λ (at : ℕ). sym (get_d_part at n before i nan turn) in
    let p2w = read (15 * n) in
    let p1y = read (7 * n) in
    let p2y = read (16 * n) in
    let p3y = read (8 * n) in
    let p2b2y = read (17 * n) in
    let p1p2y = read (18 * n) in
    let p3p2y = read (19 * n) in
    rw c.second_difference-two_b3_y.ensures
    (written_next c.loop-i.invariant c.loop-i-test.true _ _ (omega arith)
    (λ j. c2_of (ieee binary64) constants6 c.args.tau (p2w j) (p1y j) (p2y j) (p3y j) (p2b2y j) (p1p2y j) (p3p2y j)))

pub returns : goal.returns
returns c =
    let n = c.args.n in
    let tau = c.args.tau in
    let w = c.args.work.now in
    let halves = c.split_at_mut-before.ensures in
    let count : length (take n c.split_at_mut-before.result.1.now) ≡ n = rw length-take (omega (arith, halves.back_len)) in
    let kept = λ (at : ℕ) (h : at + n ≤ 20 * n). ap (part at n) halves.front ∙ part-of-first at n (20 * n) w h in
    let p2w = kept (15 * n) (omega arith) in
    let p1y = kept (7 * n) (omega arith) in
    let p2y = kept (16 * n) (omega arith) in
    let p3y = kept (8 * n) (omega arith) in
    let p2b2y = kept (17 * n) (omega arith) in
    let p1p2y = kept (18 * n) (omega arith) in
    let p3p2y = kept (19 * n) (omega arith) in
    joined-after w (20 * n) (20 * n) halves.front halves.back (length-c2-sum (ieee binary64) n constants6 tau _ _ _ _ _ _ _)
    (written-whole c.loop-i.invariant c.loop-i-test.false
    (ap (tabulate _) count ∙ c2-sum-walk (ieee binary64) constants6 tau n _ _ _ _ _ _ _)
    ∙ (λ j. c2_sum (ieee binary64) n constants6 tau (p2w j) (p1y j) (p2y j) (p3y j) (p2b2y j) (p1p2y j) (p3p2y j)))
    refl (omega arith)
