-- `Building::count_fault` meets its contract: a hundred headers came before, or not.
-- Assumes nothing.
use Rattle.std.proofs.Common.{rules}
use Rattle.building_record.specs.Record.{count_fault}
use Rattle.building_record.proofs.Building.count_fault.Goals as goal

pub returns : goal.returns
unfolding count_fault
returns c = search rules
