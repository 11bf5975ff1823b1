-- `places::fill` meets its contract: the places are copied over the table's start.
-- Assumes nothing.
use native.Mathlib.Nat.{zero-add}
use Rattle.wire.specs.Bytes.{over}
use Rattle.places.proofs.fill.Goals as goal

pub returns : goal.returns
unfolding over
returns c = rw (c.copy_from_slice.ensures.after, zero-add)
