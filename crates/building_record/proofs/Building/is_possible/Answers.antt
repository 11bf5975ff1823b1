-- `Building::is_possible` meets its contract: the tests are those of the definition, in its order.
-- Assumes nothing.
use Rattle.std.proofs.Common.{arith}
use Rattle.std.proofs.lemmas.Grind.{common_steps}
use Rattle.building_record.specs.Record.{is_possible}
use Rattle.building_record.proofs.Building.is_possible.Goals as goal

pub returns-then-self-le-MAX_HEADERS : goal.returns-then-self-le-MAX_HEADERS
unfolding is_possible
returns-then-self-le-MAX_HEADERS c = grind (arith, common_steps)

pub returns-else-self-le-MAX_HEADERS : goal.returns-else-self-le-MAX_HEADERS
unfolding is_possible
returns-else-self-le-MAX_HEADERS c = grind (arith, common_steps)
