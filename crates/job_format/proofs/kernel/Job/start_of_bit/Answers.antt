-- The turns go through the fields in the order of the bits, and each adds the field's bytes, where the job has it.
use Rattle.std.proofs.Common.{sym, ◌∙◌, ap, ℕ, get_or, arith}
use Rattle.job_format.specs.JobFormat.{job_has, field_sizes, job_nodes, job_entries}
use Rattle.job_format.proofs.Fields.{bit-of-turn, first-start, after-standing, after-lacking}
use Rattle.job_format.proofs.kernel.Job.start_of_bit.Goals as goal
use Rattle.job_format.proofs.kernel.Job.start_of_bit.Goals.{then-has, else-has}

pub loop-field-init : goal.loop-field-init
loop-field-init c = record { start = first-start _; small = omega arith }

pub loop-field-preserved : goal.loop-field-preserved
loop-field-preserved c =
    let bit = bit-of-turn c.args.bit c.loop-field.field-index c.requires c.loop-field-test.true in
    elim c.if-has.branch [
      | then-has w ↦ record {
        start = w.at-is
            ∙ after-standing c.args.self.now c.loop-field.field-index c.loop-field.at w.size-at.result c.loop-field.invariant.start
            (sym (ap (job_has c.args.self.now) bit) ∙ sym c.has.ensures ∙ w.if-has.true)
            (w.size-at.ensures.0 ∙ ap (λ (k : ℕ). get_or (field_sizes (job_nodes c.args.self.now) (job_entries c.args.self.now)) k 0) bit);
        small = omega (arith, w.size-at.ensures.1);
      }
      | else-has w ↦ record {
        start = w.at-is ∙ after-lacking c.args.self.now c.loop-field.field-index c.loop-field.at c.loop-field.invariant.start
            (sym (ap (job_has c.args.self.now) bit) ∙ sym c.has.ensures ∙ w.if-has.false);
        small = omega arith;
      }
    ]
