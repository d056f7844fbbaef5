-- `magnus6_graph_parts::kernel::b3_sum` meets its contract: a turn reads the next elements of three vectors, which lie before
-- what is written. The code's quotient 10 / 3 is the formula's. Assumes nothing.
use Rattle.std.proofs.Common.{◌≡◌, ◌+◌, ◌*◌, ◌<◌, ◌≤◌, ℕ, length, take, refl, arith, ap, ◌∙◌, sym}
use Rattle.std.specs.Float.{binary64, nan}
use Rattle.std.specs.Float.Ieee.{mul}
use lib.Ieee.{of_bits, div}
use lib.ListN.{length-take}
use Rattle.arithmetic.specs.Arithmetic.{ieee}
use Rattle.arithmetic.specs.Vector.{tabulate}
use Rattle.scratch.specs.Parts.{part}
use Rattle.scratch.proofs.Parts.{get_d_part}
use Rattle.scratch.proofs.Halves.{part-of-first, joined-after}
use Rattle.scratch.proofs.Writing.{written_none, written_next, written-whole}
use Rattle.magnus.specs.Omega6.{constants6}
use Rattle.magnus6_graph_parts.specs.Omega6Parts.{second_difference_of, scaled_second_difference}
use Rattle.magnus6_graph_parts.proofs.Omega6Walks.{second-difference-walk, length-second-difference}
use Rattle.magnus6_graph_parts.proofs.kernel.b3_sum.Goals as goal

pub loop-i-init : goal.loop-i-init
loop-i-init c = written_none _ _ _ _

pub loop-i-preserved : goal.loop-i-preserved
unfolding of_bits div
loop-i-preserved c =
    let n = c.args.n in
    let before = c.split_at_mut-before.result.0.now in
    let i = c.loop-i.i in
    let shorter = rw length-take at c.loop-i-test.true in
    let turn : i < n = omega arith in
    let a1 = sym (get_d_part (6 * n) n before i nan turn) in
    let a2 = sym (get_d_part (7 * n) n before i nan turn) in
    let a3 = sym (get_d_part (8 * n) n before i nan turn) in
    let scale = mul binary64 c.args.tau constants6.ten_over3 in
    written_next c.loop-i.invariant c.loop-i-test.true _ _ (omega arith)
    (c.second_difference.ensures ∙ (λ j. second_difference_of (ieee binary64) scale (a1 j) (a2 j) (a3 j)))

pub returns : goal.returns
returns c =
    let n = c.args.n in
    let w = c.args.work.now in
    let halves = c.split_at_mut-before.ensures in
    let count : length (take n c.split_at_mut-before.result.1.now) ≡ n = rw length-take (omega (arith, halves.back_len)) in
    let kept = λ (at : ℕ) (h : at + n ≤ 11 * n). ap (part at n) halves.front ∙ part-of-first at n (11 * n) w h in
    let scale = mul binary64 c.args.tau constants6.ten_over3 in
    let a1 = kept (6 * n) (omega arith) in
    let a2 = kept (7 * n) (omega arith) in
    let a3 = kept (8 * n) (omega arith) in
    joined-after w (11 * n) (11 * n) halves.front halves.back (length-second-difference (ieee binary64) n _ _ _ _)
    (written-whole c.loop-i.invariant c.loop-i-test.false (ap (tabulate _) count ∙ second-difference-walk (ieee binary64) n scale _ _ _)
    ∙ (λ j. scaled_second_difference (ieee binary64) n scale (a1 j) (a2 j) (a3 j)))
    refl (omega arith)
