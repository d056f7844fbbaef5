-- `gershgorin_bound_csr` meets its contract: where the check accepts, the row starts are what the bound's walk asks. Assumes nothing.
use Rattle.std.proofs.Common.{refl, sym, ◌∙◌}
use Rattle.std.proofs.lemmas.Result.{err_from_is_err_and}
use Rattle.graph_shape.proofs.Sound.{rows-by-last}
use Rattle.graph.proofs.BoundAnswer.{bound-given, bound-refused}
use Rattle.graph.proofs.ProductOutcome.{laplacian-is}
use Rattle.graph.proofs.gershgorin_bound_csr.Goals as goal

pub returns-in_err-from_csr_parts : goal.returns-in_err-from_csr_parts
returns-in_err-from_csr_parts c =
    let (r, is, same) = err_from_is_err_and c.from_residual.result c.from_residual.ensures.1 in
    rw is (rw same (bound-refused c.in_err-from_csr_parts.ensures refl))

pub invariant_of-row_starts : goal.invariant_of-row_starts
invariant_of-row_starts c =
    let laplacian = laplacian-is _ _ _ _ c.in_ok-from_csr_parts.ensures refl in
    record { accepted = rows-by-last laplacian.pattern.rows }

pub invariant_of-gershgorin : goal.invariant_of-gershgorin
invariant_of-gershgorin c =
    let laplacian = laplacian-is _ _ _ _ c.in_ok-from_csr_parts.ensures refl in
    record { count = laplacian.count ∙ sym laplacian.pattern.rows.last }

pub returns : goal.returns
returns c = bound-given c.in_ok-from_csr_parts.ensures refl c.gershgorin.ensures
