-- `graph_shape::kernel::RowStarts::first_entry` meets its contract: a turn of the inner loop passes one entry more, or has found the first.
use Rattle.std.proofs.Common.{arith, refl, ◌≡◌, ◌∙◌, sym, ◌+◌, take, get_or, length-take}
use Rattle.graph_shape.proofs.First.{passed_none, passed-more, find_first-some, find_first-none}
use Rattle.graph_shape.proofs.Walk.{start-before-next, start-before-below, stored, start-before-last}
use Rattle.graph_shape.proofs.kernel.RowStarts.first_entry.Goals as goal
use Rattle.graph_shape.proofs.kernel.RowStarts.first_entry.Goals.{else-rows-test, then-rows-test+then-loop-k-test+then-fails}

pub rows-init : goal.rows-init
rows-init g c = (refl, refl, λ p tests. passed_none)

pub loop-k-init : goal.loop-k-init
loop-k-init g c = (
  c.rows.invariant.0,
  omega (arith, c.rows.invariant.1, start-before-below c.args.self.accepted c.rows-test.true),
  c.rows.invariant.2,
)

pub loop-k-preserved : goal.loop-k-preserved
loop-k-preserved g c =
    let inside = stored c.args.self.accepted c.rows-test.true c.loop-k-test.true in (
      c.loop-k.invariant.0,
      omega (arith, c.loop-k-test.true),
      λ p tests.
          passed-more (c.loop-k.invariant.2 p tests) inside
          (sym (tests _ _ inside c.fails.ensures) ∙ c.if-fails.false),
    )

pub rows-preserved : goal.rows-preserved
rows-preserved g c =
    let all : c.loop-k.k ≡ get_or (take (c.args.self.n + 1) c.args.self.row_ptr.now) c.rows.end-index 0 = omega (arith, c.loop-k.invariant.1, c.loop-k-test.false) in (
      c.loop-k.invariant.0,
      start-before-next c.args.self.accepted c.rows-test.true,
      rw all at c.loop-k.invariant.2,
    )

pub returns : goal.returns
returns g c = λ p tests.
    elim c.rows-test.branch [
      | else-rows-test w ↦
          let last = start-before-last c.args.self.accepted (omega (arith, length-take (c.args.self.n + 1) c.args.self.row_ptr.now)) w.rows-test.false in
          w.found-is ∙ c.rows.invariant.0 ∙ find_first-none (c.rows.invariant.2 p tests) (omega (arith, last, c.rows.invariant.1))
      | then-rows-test+then-loop-k-test+then-fails w ↦
          let inside = stored c.args.self.accepted w.rows-test.true w.loop-k-test.true in
          w.found-is
          ∙ find_first-some (w.loop-k.invariant.2 p tests) inside
          (sym (tests _ _ inside w.fails.ensures) ∙ w.if-fails.true)
    ]
