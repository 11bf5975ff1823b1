-- `table::bytes_for` meets its contract: a code below the first has no name, and any other the one at its distance from the first.
-- Assumes nothing.
use mathlib.Core.Path.{sym, ◌∙◌}
use native.Mathlib.Omega.{arith}
use Rattle.names.proofs.Laws.{name_below}
use Rattle.names.proofs.Tables.{name_at, name_past}
use Rattle.names.proofs.table.bytes_for.Goals as goal

pub returns-in_default : goal.returns-in_default
returns-in_default c =
    let below = c.in_default.ensures in
    sym (name_below c.args.list c.args.code (omega (arith, below, c.table_of-table.ensures.first)))

pub returns-in-Some-get : goal.returns-in-Some-get
returns-in-Some-get c =
    let t = c.table_of-table.ensures in
    let distance = c.in-Some.ensures in
    let found = c.in-Some-get.ensures.lookup in
    c.as_bytes.ensures.value
    ∙ name_at c.args.list c.args.code _ _ t.names t.first distance.0 c.in-Some.k c.in-Some-get.name.now distance.1 found.3.0 (found.3.1 _)

pub returns-in-None : goal.returns-in-None
returns-in-None c =
    let t = c.table_of-table.ensures in
    let distance = c.in-Some.ensures in
    let past = c.in-None.ensures.lookup in
    name_past c.args.list c.args.code _ _ t.names t.first distance.0 c.in-Some.k distance.1 past.3
