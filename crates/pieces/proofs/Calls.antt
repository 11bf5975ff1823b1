-- What the calls of the pieces cite.
-- Assumes nothing.
use Rattle.wire.proofs.Bytes.{over_over}
use Rattle.attributes.proofs.Laws.{high_unserved}
use Rattle.building.proofs.Calls.{calls}

pub ruleset pieces = (calls, over_over, high_unserved)
