-- The test of a breakpoint by its predecessor, which is minus infinity for the first: a finite number is above that. Assumes nothing.
use mathlib.Core.Path.{◌≡◌, refl, sym, ap, ◌∙◌}
use mathlib.Core.Bool.{Bool, true, false, not, ◌&&◌, ◌||◌, and-true}
use mathlib.Core.List.{List, ◌∷◌}
use Prim.Native.Nat.{ℕ, zero, suc, ◌+◌, ◌-◌}
use native.Mathlib.Numerals.{add-one}
use native.Mathlib.Omega.{arith}
use lib.Dec.{ltb}
use lib.ListN.{get_or}
use borrow.Author.Tests.{lt-ltb, le-ltb}
use lib.Ieee.{Float, nan, inf, fin, binary64, of_bits, lt}
use lib.Ieee.Scale.{finite}
use Rattle.graph_traj_breakpoints.specs.Breakpoints.{breakpoint}
use Rattle.graph_traj_breakpoints.specs.LookupChecks.{not_rising_at}

-- the predecessor of breakpoint i
abbrev pub predecessor : List Float → ℕ → Float
predecessor breakpoints i = get_or (inf true ∷ breakpoints) i nan

-- the code's name of minus infinity
pub minus-infinity : of_bits binary64 0xFFF0000000000000 ≡ inf true
unfolding of_bits
minus-infinity = refl

pub predecessor-next : (breakpoints : List Float) (i : ℕ) → breakpoint breakpoints i ≡ predecessor breakpoints (i + 1)
predecessor-next breakpoints i = ap (predecessor breakpoints) (sym (add-one i))

-- a finite number is above minus infinity
above : (x : Float) → (finite x && lt (inf true) x) ≡ finite x
unfolding lt
above nan = refl
above (inf s) = refl
above (fin s m e) = refl

-- the code's test is the opposite of the definition's
opposite : (finite later above : Bool) → (finite && (not later || above)) ≡ not (not finite || later && not above)
opposite true true true = refl
opposite true true false = refl
opposite true false above = refl
opposite false later above = refl

pub rising-is : (breakpoints : List Float) (i : ℕ)
    → (finite (breakpoint breakpoints i) && lt (predecessor breakpoints i) (breakpoint breakpoints i)) ≡ not (not_rising_at breakpoints i)
unfolding not_rising_at
rising-is breakpoints zero =
    let none : ltb 0 0 ≡ false = le-ltb 0 0 (omega arith) in
    let x = breakpoint breakpoints 0 in
    rw none (above x ∙ sym (and-true _) ∙ opposite (finite x) false false)
rising-is breakpoints (suc i) =
    let later : ltb 0 (suc i) ≡ true = lt-ltb 0 (suc i) (omega arith) in
    let before : suc i - 1 ≡ i = omega arith in
    rw (later, before) (opposite (finite (breakpoint breakpoints (suc i))) true _)
