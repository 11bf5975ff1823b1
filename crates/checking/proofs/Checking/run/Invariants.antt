-- `Checking::run` meets its contract. The invariant is `Running`.
-- Assumes nothing.
use lib.ListN.{length}
use Rattle.checking.proofs.Laws.{Running}
use Rattle.checking.proofs.Checking.run.Given as goal

abbrev pub invariant-loop-left : goal.invariant-loop-left
invariant-loop-left l = Running l.initial.checking l.bytes l.checking l.left

abbrev pub decreases-loop-left : goal.decreases-loop-left
decreases-loop-left l = length l.left
