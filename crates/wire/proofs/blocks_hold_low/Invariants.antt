-- `wire::blocks_hold_low` meets its contract. The invariant: none of the bytes before the block is low.
-- Assumes nothing.
use mathlib.Core.Path.{◌≡◌}
use mathlib.Core.Bool.{false}
use Rattle.wire.specs.Bytes.{part}
use Rattle.wire.specs.Private.{holds_low}
use Rattle.wire.proofs.blocks_hold_low.Given as goal

abbrev pub invariant-loop-at : goal.invariant-loop-at
invariant-loop-at l = holds_low (part l.text 0 l.at) ≡ false
