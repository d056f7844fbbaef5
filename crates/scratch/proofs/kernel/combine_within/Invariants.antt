-- `scratch::kernel::combine_within`: whatever function the closure computes, its values at the places passed are written.
use Rattle.std.proofs.Common.{Float}
use lib.ListN.{get_or}
use lib.Ieee.{nan}
use Rattle.scratch.specs.Parts.{part, Computes}
use Rattle.scratch.proofs.Writing.{Written}
use Rattle.scratch.proofs.kernel.combine_within.Given as goal

abbrev pub invariant-loop-i : goal.invariant-loop-i
invariant-loop-i g l =
    let w = l.fn.work in
    (h : Float → Float → Float) → Computes (goal.F-post g l.f) h
    → Written l.target (λ k. h (get_or (part l.x l.n w) k nan) (get_or (part l.y l.n w) k nan)) l.n w l.i l.work
