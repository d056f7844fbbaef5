-- The text of an answer (01, "The job program"). Assumes nothing.
use Rattle.std.specs.Prelude.{List, ℕ, Float}
use Rattle.error.specs.Answer.{Checked}
use Rattle.error.specs.Answer.{Accepted, Refused}
use Rattle.job_text.specs.Text.{DoneText, RefusedText}

-- a text of an answer: `done` with the values where it is accepted, else `refused` with the refusal
unfoldable pub AnswerText : Checked → List Float → List ℕ → Type 0
AnswerText Accepted values text = DoneText values text
AnswerText (Refused r) values text = RefusedText r text
