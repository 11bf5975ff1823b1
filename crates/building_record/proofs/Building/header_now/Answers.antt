-- `Building::header_now` meets its contract, by whether the record is possible and attributes began.
-- Assumes nothing.
use Rattle.std.proofs.Common.{rules}
use Rattle.building_record.specs.Record.{header_now}
use Rattle.building_record.proofs.Building.header_now.Goals as goal

pub returns : goal.returns
unfolding header_now
returns c = search rules
