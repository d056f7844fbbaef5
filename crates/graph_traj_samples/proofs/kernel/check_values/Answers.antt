-- `check_values` meets its contract: the loop stops at the first value that the check refuses. Assumes nothing.
use Rattle.std.proofs.Common.{sym, ◌∙◌, ◌<◌, length, arith}
use Rattle.error.proofs.Checks.{handed_on}
use Rattle.graph_checks.proofs.First.{passed_none}
use Rattle.graph_traj_laws.specs.Laws.{law_values}
use Rattle.graph_traj_samples.proofs.Sampled.{refused-at, passed-at, none_left, get_or-values, length-values}
use Rattle.graph_traj_samples.proofs.kernel.check_values.Goals as goal

pub loop-i-init : goal.loop-i-init
loop-i-init g c = λ bad refusal checks. passed_none

pub returns-in_err-check : goal.returns-in_err-check
returns-in_err-check g c =
    let args = c.args in
    let s = args.lists.start.now in
    let e = args.lists.end.now in
    let n = length s in
    let turn : c.loop-i.i < n = c.loop-i-test.true in
    let size = length-values n args.fraction s e in
    let value = c.law_value.ensures ∙ sym (get_or-values n args.fraction s e c.loop-i.i turn) in
    λ bad refusal checks.
    handed_on c.from_residual.ensures
    ∙ refused-at bad refusal (law_values n args.fraction s e) (c.loop-i.invariant bad refusal checks) _ _
    (omega (arith, size, turn)) value (checks _ _ c.in_err-check.ensures)

pub loop-i-preserved : goal.loop-i-preserved
loop-i-preserved g c =
    let args = c.args in
    let s = args.lists.start.now in
    let e = args.lists.end.now in
    let n = length s in
    let turn : c.loop-i.i < n = c.loop-i-test.true in
    let size = length-values n args.fraction s e in
    let value = c.law_value.ensures ∙ sym (get_or-values n args.fraction s e c.loop-i.i turn) in
    λ bad refusal checks.
    passed-at bad refusal (law_values n args.fraction s e) (c.loop-i.invariant bad refusal checks) _
    (omega (arith, size, turn)) value (checks _ _ c.in_ok-check.ensures)

pub returns : goal.returns
returns g c =
    let args = c.args in
    let s = args.lists.start.now in
    let e = args.lists.end.now in
    let n = length s in
    let size = length-values n args.fraction s e in
    λ bad refusal checks.
    none_left bad refusal (law_values n args.fraction s e) (c.loop-i.invariant bad refusal checks)
    (omega (arith, size, c.loop-i-test.false))
