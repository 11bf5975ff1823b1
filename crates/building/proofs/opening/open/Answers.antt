-- `opening::open` meets its contract: the first four bytes, and the code right behind them.
-- Assumes nothing.
use Rattle.std.proofs.Common.{arith}
use Rattle.std.proofs.lemmas.Grind.{common_steps}
use Rattle.wire.proofs.Rows.{joined}
use Rattle.building.proofs.opening.open.Goals as goal

pub returns-clause-buffer_after : goal.returns-clause-buffer_after
returns-clause-buffer_after c = grind (arith, common_steps, joined)
