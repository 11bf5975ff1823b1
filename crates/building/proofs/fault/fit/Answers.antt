-- `fault::fit` meets its contract, by whether the end is within a packet and within the room.
-- Assumes nothing.
use Rattle.std.proofs.Common.{rules}
use Rattle.building.specs.Fault.{fit_fault}
use Rattle.building.proofs.fault.fit.Goals as goal

pub returns-in_err-unless : goal.returns-in_err-unless
unfolding fit_fault
returns-in_err-unless c = search rules

pub returns : goal.returns
unfolding fit_fault
returns c = search rules
