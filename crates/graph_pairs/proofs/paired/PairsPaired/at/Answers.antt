-- The pairs' `at` meets the contract of the trait: place k of either list is an element of pair k. Assumes nothing.
use Rattle.std.proofs.Common.{sym}
use Rattle.std.specs.Float.{binary64}
use Rattle.arithmetic.specs.Arithmetic.{ieee}
use Rattle.graph_pairs.proofs.Pairs.{at-firsts, at-seconds}
use Rattle.graph_pairs.proofs.paired.PairsPaired.at.Goals as goal

pub returns-clause-first : goal.returns-clause-first
returns-clause-first c = sym (at-firsts (ieee binary64) _ _ _ c.requires)

pub returns-clause-second : goal.returns-clause-second
returns-clause-second c = sym (at-seconds (ieee binary64) _ _ _ c.requires)
