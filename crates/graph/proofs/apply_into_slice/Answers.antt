-- `apply_into_slice` meets its contract: it makes the checks of `product_fault` in their order; where all accept, the pattern and the lengths
-- are what the product asks, and nothing has been written before. Assumes nothing.
use Rattle.std.proofs.Common.{List, Float, sym, ap, ◌∙◌}
use Rattle.error.proofs.Left.{answers-accepted, left-unchanged, left-written}
use Rattle.graph.proofs.ProductOutcome.{laplacian-is, laplacian-refused, signal-refused, output-checked}
use Rattle.graph.proofs.ProductOutcome.{length-is}
use Rattle.graph.proofs.apply_into_slice.Goals as goal

pub returns-in_default : goal.returns-in_default
returns-in_default c =
    let a = laplacian-refused _ _ _ _ _ _ c.from_csr_parts-laplacian.ensures c.in_default.is in
    record { answer = a; output = left-unchanged _ _ a c.in_default.is }

pub returns-in_default-signal : goal.returns-in_default-signal
returns-in_default-signal c =
    let a = signal-refused _ _ _ _ _ _ c.from_csr_parts-laplacian.ensures c.in-Ok.is
    c.check_length-signal.ensures c.in_default-signal.is in
    record { answer = a; output = left-unchanged _ _ a c.in_default-signal.is }

pub returns-in_default-output : goal.returns-in_default-output
returns-in_default-output c =
    let a = output-checked _ _ _ _ _ _ c.from_csr_parts-laplacian.ensures c.in-Ok.is
    c.check_length-signal.ensures c.in-Ok-signal.is c.check_length-output.ensures in
    record { answer = a; output = left-unchanged _ _ a c.in_default-output.is }

-- where the Laplacian is accepted, its parts make up a sample
pub from_parts-requires : goal.from_parts-requires
from_parts-requires c =
    let l = laplacian-is _ _ _ _ c.from_csr_parts-laplacian.ensures c.in-Ok.is in
    record { pattern = l.pattern; count = l.count }

-- and where the lengths are, they are its node count
pub product-requires : goal.product-requires
product-requires c =
    let n = c.from_parts.ensures.nodes in
    record {
      src_len = length-is _ _ c.check_length-signal.ensures c.in-Ok-signal.is ∙ sym n;
      out_len = length-is _ _ c.check_length-output.ensures c.in-Ok-output.is ∙ sym n;
    }

pub returns : goal.returns
returns c =
    let a = output-checked _ _ _ _ _ _ c.from_csr_parts-laplacian.ensures c.in-Ok.is
    c.check_length-signal.ensures c.in-Ok-signal.is c.check_length-output.ensures in
    let accepted = c.in-Ok-output.is in
    record {
      answer = answers-accepted a accepted;
      output = left-written _ _ a accepted (c.product.ensures ∙ ap (λ (L : List Float → List Float). L c.args.src.now) c.from_parts.ensures.product);
    }
