-- `headers::headers` meets its contract. The invariant is `Reading`.
-- Assumes nothing.
use Rattle.headers.proofs.Laws.{Reading}
use Rattle.headers.proofs.headers.Given as goal

abbrev pub invariant-loop-i : goal.invariant-loop-i
invariant-loop-i l = Reading l.direction l.packet l.at l.count l.initial.table l.table l.declared l.place l.i
