-- `places::put_pair` meets its contract: two stores, one behind the other.
-- Assumes nothing.
use native.Mathlib.Omega.{arith}
use lib.ListN.{length-set}
use Rattle.wire.proofs.Bytes.{over_two}
use Rattle.places.proofs.put_pair.Goals as goal

pub bounds-table-at-2 : goal.bounds-table-at-2
bounds-table-at-2 c = simp length-set (omega (arith, c.requires))

pub returns : goal.returns
returns c = over_two c.args.table.now c.args.at _ _ c.requires
