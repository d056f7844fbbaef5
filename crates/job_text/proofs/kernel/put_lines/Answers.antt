-- A turn writes the next value's line behind those before.
use Rattle.std.proofs.Common.{◌≡◌, refl, ap, List, [], ◌∷◌, ◌++◌, ℕ, ◌+◌, ◌<◌, length, take, get_or, add-one, arith, append_assoc, append-nil, length-append}
use Rattle.std.proofs.Math.Seq.{take-suc}
use Rattle.std.specs.Prelude.{Float}
use Rattle.job_text_numbers.specs.Added.{Added}
use Rattle.job_text_numbers.proofs.Adding.{added}
use Rattle.job_text_digits.specs.Numbers.{RealText}
use Rattle.job_text.specs.Text.{newline, Lines}
use Rattle.job_text.specs.Text.Lines.{none as no_line, line}
use Rattle.job_text.proofs.kernel.put_lines.Goals as goal

lines-next : {xs : List Float} {x : Float} (u : List ℕ) {t : List ℕ}
    → Lines xs u
    → RealText x t
    → Lines (xs ++ (x ∷ [])) (u ++ (t ++ (newline ∷ [])))
lines-next _ no_line r = line r no_line
lines-next _ (line q l) r = rw append_assoc (line q (lines-next _ l r))

next-line : (values : List Float) (i : ℕ) (x : Float) {w w' w'' w''' : List ℕ}
    → i < length values
    → Added (Lines (take i values)) w w'
    → Added (RealText (get_or values i x)) w' w''
    → w''' ≡ w'' ++ (newline ∷ [])
    → Added (Lines (take (i + 1) values)) w w'''
next-line values i x h lines real end =
    rw (add-one i, take-suc values i x h)
    (added _ (lines-next _ lines.holds real.holds) (rw (end, real.is, lines.is, append_assoc, append_assoc)))

pub loop-value-init : goal.loop-value-init
loop-value-init c = record { lines = added [] no_line (rw append-nil refl); bytes = omega arith }

pub loop-value-preserved : goal.loop-value-preserved
loop-value-preserved c = record {
  lines = next-line c.args.values.now c.loop-value.value-index _ c.loop-value-test.true c.loop-value.invariant.lines c.put_real.ensures.added c.put_byte.ensures;
  bytes = omega (arith, c.loop-value.invariant.bytes, c.put_real.ensures.length_value, simp length-append at (ap length c.put_byte.ensures));
}
