-- `table::code_of` meets its contract: the code of a name is as far from the list's first as the name is.
-- Assumes nothing.
use native.Mathlib.Omega.{arith}
use Rattle.names.proofs.Tables.{place_found, place_none}
use Rattle.names.proofs.table.code_of.Goals as goal

pub overflow_cast-result : goal.overflow_cast-result
overflow_cast-result c =
    let t = c.table_of-table.ensures in
    let found = place_found c.args.list c.args.text.now _ _ _ t.names t.first t.ignoring c.in-Some.k c.in-Some.ensures in
    omega arith

pub overflow_add-result : goal.overflow_add-result
overflow_add-result c =
    let t = c.table_of-table.ensures in
    let found = place_found c.args.list c.args.text.now _ _ _ t.names t.first t.ignoring c.in-Some.k c.in-Some.ensures in
    omega arith

pub returns-in-Some : goal.returns-in-Some
returns-in-Some c =
    let t = c.table_of-table.ensures in
    (place_found c.args.list c.args.text.now _ _ _ t.names t.first t.ignoring c.in-Some.k c.in-Some.ensures).1

pub returns-in-None : goal.returns-in-None
returns-in-None c =
    let t = c.table_of-table.ensures in
    place_none c.args.list c.args.text.now _ _ _ t.names t.first t.ignoring c.in-None.ensures
