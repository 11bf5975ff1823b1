-- `size::plus` meets its contract: what is told is the sum, or the most that is told.
-- Assumes nothing.
use Rattle.std.proofs.Common.{rules}
use Rattle.building.specs.Field.{size_told}
use Rattle.building.proofs.size.plus.Goals as goal

pub returns : goal.returns
unfolding size_told
returns c = search rules
