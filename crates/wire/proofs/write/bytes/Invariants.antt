-- `wire::write::bytes` meets its contract. The invariant: the first i bytes are written, and the others are the buffer's own.
-- Assumes nothing.
use Rattle.wire.proofs.Copying.{Copying}
use Rattle.wire.proofs.write.bytes.Given as goal

abbrev pub invariant-loop-i : goal.invariant-loop-i
invariant-loop-i l = Copying l.initial.buffer l.at l.from l.buffer l.i
