-- What a move makes of a connection, in document 01's terms: refused with a number, or the connection after it. Beside it is what the code's
-- answer says of it.
-- Assumes nothing.
use Rattle.std.specs.Prelude.{ℕ, Result, Ok, Err}
use Rattle.wire.specs.Refusal.{number_of}
use Rattle.wire.specs.declared.refusal.Refusal.{Refusal}
use Rattle.connection.specs.declared.Connection.{Connection}

-- what a move makes of a connection
pub data Step : Type 0 where
  Refused : ℕ → Step
  Next : Connection → Step

-- what the answer of a call that steps says
abbrev pub step_meaning : Result Connection Refusal → Step
step_meaning (Err refusal) = Step.Refused (number_of refusal)
step_meaning (Ok c) = Step.Next c
