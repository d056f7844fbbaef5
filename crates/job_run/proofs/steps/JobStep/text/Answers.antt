-- The step has an output of a place for each node, and its answer is written.
use Rattle.std.proofs.Common.{arith}
use Rattle.job_run.proofs.Rooms.{output-zeros}
use Rattle.job_run.proofs.Texts.{step-written}
use Rattle.job_run.proofs.steps.JobStep.text.Goals as goal

pub step-answer-requires : goal.step-answer-requires
step-answer-requires c = output-zeros 64 c.nodes.ensures.0 (omega (arith, c.args.self.now.small.nodes))

pub returns : goal.returns
returns c = step-written _ c.step-answer.ensures c.answer_text.ensures
