-- What crosses at the server's end while two ends send and deliver: a packet that it sends, when it is sent; a packet to it, when it is
-- delivered. That is the capture which stands for these events.
-- Document 02, A1, and document 01, 'Two ends and their pipes'.
-- Assumes nothing.
use Rattle.std.specs.Prelude.{◌≡◌, List, [], ◌∷◌, ◌++◌, ℕ}
use Rattle.wire.specs.Bytes.{part}
use Rattle.wire.specs.Refusal.{none}
use Rattle.packet.specs.declared.Direction.{Direction}
use Rattle.connection.specs.declared.Connection.{Connection}
use Rattle.building.specs.Call.{Outcome, refused, done}
use Rattle.building.specs.Sent.{Written}
use Rattle.sends.specs.Send.{Send, call_direction, outcome_of, buffer_of}
use Rattle.capture.specs.Course.{course}
use Rattle.two_ends_laws.specs.Ends.{PipePacket, Ends, pipe_of, sender_of}
use Rattle.two_ends_laws.specs.Past.{World, Event, send, deliver, happen}

-- bytes that are sent in a direction, as far as they cross at the server's end
abbrev pub at_sending : Direction → List ℕ → List ℕ
at_sending Direction.ToContainer bytes = bytes
at_sending Direction.ToServer bytes = []

-- bytes that are delivered in a direction, as far as they cross there
abbrev pub at_delivery : Direction → List ℕ → List ℕ
at_delivery Direction.ToContainer bytes = []
at_delivery Direction.ToServer bytes = bytes

-- a send that came to this: nothing where it is refused
abbrev pub crossed_send : Send → Connection → Outcome Written → List ℕ
crossed_send call c (refused n) = []
crossed_send call c (done written) = at_sending (call_direction call) (part (buffer_of c call) 0 written.size)

-- a delivery from a pipe: nothing where it is empty
abbrev pub crossed_from : Direction → List PipePacket → List ℕ
crossed_from direction [] = []
crossed_from direction (packet ∷ later) = at_delivery direction packet.bytes

-- an event
abbrev pub crossed : Event → Ends → List ℕ
crossed (send call) e = crossed_send call (sender_of (call_direction call) e) (outcome_of (sender_of (call_direction call) e) call)
crossed (deliver direction d) e = crossed_from direction (pipe_of direction e)

-- a list of events
abbrev pub crossing : List Event → World → List ℕ
crossing [] w = []
crossing (event ∷ later) w = crossed event w.ends ++ crossing later (happen event w)

-- bytes whose every packet is accepted from a connection, with nothing left, and with this connection after them
pub record Passes (c : Connection) (s : List ℕ) (last : Connection) : Type 0 where
  pub clean : (course c s).refusal ≡ none
  pub whole : (course c s).left ≡ []
  pub ends : (course c s).after ≡ last
