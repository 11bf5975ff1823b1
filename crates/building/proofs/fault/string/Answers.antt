-- `fault::string` meets its contract: the string is allowed, or 6.
-- Assumes nothing.
use Rattle.std.proofs.Common.{rules}
use Rattle.building.specs.Fault.{string_fault}
use Rattle.building.proofs.fault.string.Goals as goal

pub returns : goal.returns
unfolding string_fault
returns c = search rules
