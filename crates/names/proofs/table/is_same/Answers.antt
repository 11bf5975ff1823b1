-- `table::is_same` meets its contract where case is ignored: the library's comparison is that of a name and a text.
-- Assumes nothing.
use Rattle.names.proofs.Tables.{same_ignoring}
use Rattle.names.proofs.table.is_same.Goals as goal

pub returns-then-ignoring : goal.returns-then-ignoring
returns-then-ignoring c = rw c.if-ignoring.true (same_ignoring _ _ _ c.eq_ignore_ascii_case.ensures.test)
