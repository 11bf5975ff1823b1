-- What the answers of reading say, in document 01's terms.
-- Document 01, 'Refusal numbers': what acceptance tells.
-- Assumes nothing.
use Rattle.std.specs.Prelude.{ℕ, ◌+◌, ◌*◌, Result, Ok, Err}
use Rattle.wire.specs.Refusal.{number_of}
use Rattle.wire.specs.declared.refusal.Refusal.{Refusal}
use Rattle.connection.specs.declared.Connection.{Connection}
use Rattle.packet.specs.declared.Packet.{Packet}
use Rattle.reader.specs.declared.Received.{Received}

-- how many headers a packet has
abbrev pub headers_in : Packet → ℕ
headers_in Packet.CPing = 0
headers_in Packet.CPong = 0
headers_in (Packet.Forward f) = f.headers
headers_in (Packet.Body p) = 0
headers_in (Packet.GetBody asked) = 0
headers_in (Packet.SendHeaders h) = h.headers
headers_in (Packet.BodyChunk p) = 0
headers_in (Packet.End reuse) = 0

-- how many attributes a packet has
abbrev pub attributes_in : Packet → ℕ
attributes_in Packet.CPing = 0
attributes_in Packet.CPong = 0
attributes_in (Packet.Forward f) = f.attributes
attributes_in (Packet.Body p) = 0
attributes_in (Packet.GetBody asked) = 0
attributes_in (Packet.SendHeaders h) = 0
attributes_in (Packet.BodyChunk p) = 0
attributes_in (Packet.End reuse) = 0

-- what length of body a packet declares: only a Forward does
abbrev pub body_declared : Packet → ℕ
body_declared Packet.CPing = 0
body_declared Packet.CPong = 0
body_declared (Packet.Forward f) = f.declared.0
body_declared (Packet.Body p) = 0
body_declared (Packet.GetBody asked) = 0
body_declared (Packet.SendHeaders h) = 0
body_declared (Packet.BodyChunk p) = 0
body_declared (Packet.End reuse) = 0

-- how many places the table needs: 2 × (headers + attributes)
abbrev pub places_needed : Packet → ℕ
places_needed packet = 2 * (headers_in packet + attributes_in packet)

-- an answer: so many bytes are needed; refused with this number; or accepted, with the packet, the bytes taken and the connection after it
pub data Meaning : Type 0 where
  needs : ℕ → Meaning
  refused : ℕ → Meaning
  accepted : Packet → ℕ → Connection → Meaning

-- what an answer says where nothing is refused
abbrev pub answer_meaning : Received → Meaning
answer_meaning (Received.Needs n) = needs n
answer_meaning (Received.Accepted packet taken connection) = accepted packet taken connection

-- what each case of the answer says
abbrev pub received_meaning : Result Received Refusal → Meaning
received_meaning (Err refusal) = refused (number_of refusal)
received_meaning (Ok received) = answer_meaning received
