-- `attributes::attributes` meets its contract. The invariant is `Reading`; it is put to use at each return.
-- Assumes nothing.
use Rattle.attributes.proofs.Laws.{Reading}
use Rattle.attributes.proofs.attributes.Given as goal

abbrev pub invariant-loop-count : goal.invariant-loop-count
invariant-loop-count l = Reading l.packet l.at l.initial.table l.table l.from l.seen.bits l.place l.count
