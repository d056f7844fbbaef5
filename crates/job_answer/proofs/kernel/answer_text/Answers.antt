-- It is the text of the case that the answer is.
use Rattle.job_answer.specs.AnswerText.{AnswerText}
use Rattle.job_answer.proofs.kernel.answer_text.Goals as goal

pub returns-in-Ok : goal.returns-in-Ok
unfolding AnswerText
returns-in-Ok c = rw c.in-Ok.is c.done_text.ensures

pub returns-in-Err : goal.returns-in-Err
unfolding AnswerText
returns-in-Err c = rw c.in-Err.is c.refused_text.ensures
