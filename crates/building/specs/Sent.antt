-- What the answer of a call that sends says, in document 01's terms: refused with a number, or written, with the packet's length and the
-- connection after it.
-- Document 01, 'Building'.
-- Assumes nothing.
use Rattle.std.specs.Prelude.{Bool, true, false, Result, Ok, Err}
use Rattle.wire.specs.Refusal.{number_of}
use Rattle.wire.specs.declared.refusal.Refusal.{Refusal}
use Rattle.building.specs.Call.{Outcome, refused, done}
-- a packet that stands in the buffer from its first byte on: how long it is, and the connection after it
pub use Rattle.connection.specs.declared.Written.{Written}

-- what each case of the answer says
abbrev pub sent_outcome : Result Written Refusal → Outcome Written
sent_outcome (Err refusal) = refused (number_of refusal)
sent_outcome (Ok written) = done written

-- an answer that says the packet is written
abbrev pub is_written : Result Written Refusal → Bool
is_written (Err refusal) = false
is_written (Ok written) = true
