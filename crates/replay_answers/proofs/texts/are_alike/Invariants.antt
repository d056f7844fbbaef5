-- Each iteration leaves a shorter text.
use Rattle.std.proofs.Common.{length}
use Rattle.replay_answers.proofs.texts.are_alike.Given as goal

abbrev pub decreases-loop-text : goal.decreases-loop-text
decreases-loop-text l = length l.text
