-- What the writer's own functions promise to one another.
-- Assumes nothing.
use Rattle.std.specs.Prelude.{ℕ}
use Rattle.connection.specs.Step.{Step}
use Rattle.building.specs.Fault.{fit_fault}
use Rattle.building.specs.Call.{Outcome, refused, outcome_by}
use Rattle.building.specs.Sent.{Written}

-- what a packet of so many bytes that makes a step comes to on a buffer with so much room
abbrev pub ready_of : Step → ℕ → ℕ → Outcome Written
ready_of (Step.Refused n) size room = refused n
ready_of (Step.Next c) size room = outcome_by (fit_fault size room) (record { size = size; connection = c })
