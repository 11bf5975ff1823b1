-- `fault::range` meets its contract: the two tests are those of `between`.
-- Assumes nothing.
use Rattle.std.proofs.Common.{arith}
use Rattle.std.proofs.lemmas.Grind.{common_steps}
use Rattle.building.specs.Fault.{range_fault}
use Rattle.building.proofs.fault.range.Goals as goal

pub returns : goal.returns
unfolding range_fault
returns c = grind (arith, common_steps)
