-- `expand::line` ends: each turn leaves less of the line.
-- Assumes nothing.
use Rattle.std.proofs.Common.{length}
use Rattle.vectors_text.proofs.expand.line.Given as goal

abbrev pub decreases-loop-first : goal.decreases-loop-first
decreases-loop-first l = length l.rest
