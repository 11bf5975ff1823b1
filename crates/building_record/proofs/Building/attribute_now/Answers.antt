-- `Building::attribute_now` meets its contract, by whether the record is possible and a Forward is being built.
-- Assumes nothing.
use Rattle.std.proofs.Common.{rules}
use Rattle.building_record.specs.Record.{attribute_now}
use Rattle.building_record.proofs.Building.attribute_now.Goals as goal

pub returns : goal.returns
unfolding attribute_now
returns c = search rules
