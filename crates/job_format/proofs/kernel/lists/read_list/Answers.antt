-- A turn writes the next element.
use Rattle.std.proofs.Common.{◌≡◌, sym, List, ℕ, ◌+◌, ◌<◌, length, take, arith}
use Rattle.std.proofs.Math.ListN.{set}
use Rattle.std.proofs.lemmas.List.{take_more_set}
use Rattle.arithmetic.specs.Vector.{tabulate}
use Rattle.arithmetic.proofs.Tabulate.{tabulate-none, tabulate-next}
use Rattle.job_format.proofs.kernel.lists.read_list.Goals as goal

next : {A : Type 0} (f : ℕ → A) (target : List A) (i : ℕ) (x : A)
    → i < length target
    → take i target ≡ tabulate f i
    → x ≡ f i
    → take (i + 1) (set target i x) ≡ tabulate f (i + 1)
next f target i x h p q = rw (take_more_set target i x h, tabulate-next f i, p, q)

pub loop-i-init : goal.loop-i-init
loop-i-init g c = sym (tabulate-none _)

pub loop-i-preserved : goal.loop-i-preserved
loop-i-preserved g c =
    next _ c.loop-i.target c.loop-i.i c.read.result (omega arith) c.loop-i.invariant c.read.ensures
