-- `table::is_listed` meets its contract: a code below the first is not listed, and of any other the distance from the first decides.
-- Assumes nothing.
use borrow.Author.Tests.{lt-leb}
use mathlib.Core.Path.{sym}
use native.Mathlib.Omega.{arith}
use Rattle.names.proofs.Laws.{listed_below, listed_from}
use Rattle.names.proofs.Tables.{count}
use Rattle.names.proofs.table.is_listed.Goals as goal

pub returns-then-code-table : goal.returns-then-code-table
returns-then-code-table c =
    let t = c.table_of-table.ensures in
    rw (count c.args.list _ t.names)
    (sym (listed_from c.args.list c.args.code _ t.first c.if-code-table.true))

pub returns-else-code-table : goal.returns-else-code-table
returns-else-code-table c =
    let t = c.table_of-table.ensures in
    rw (lt-leb _ _ c.if-code-table.false)
    (sym (listed_below c.args.list c.args.code (omega (arith, t.first))))
