-- What is behind an accepted packet; which answers are not "needs", and how many bytes a "needs" asks for.
-- Document 01, 'Refusal numbers': the reading order, and what acceptance tells.
-- Assumes nothing.
use Rattle.std.specs.Prelude.{◌≡◌, true, List, ℕ, ◌≤◌, ◌<◌}
use Rattle.wire.specs.Bytes.{part}
use Rattle.packet.specs.declared.Direction.{Direction}
use Rattle.packet.specs.declared.Packet.{Packet}
use Rattle.connection.specs.Connection.{max_packet}
use Rattle.connection.specs.Cycle.{allowed, after}
use Rattle.connection.specs.declared.Kind.{Kind}
use Rattle.connection.specs.declared.Connection.{Connection}
use Rattle.payload.specs.Code.{kind_at}
use Rattle.payload.specs.Kinds.{packet_at, packet_move}
use Rattle.payload.specs.Read.{KindRead, PacketRead}
use Rattle.reader.specs.Frame.{FrameRead, frame_at}
use Rattle.reader.specs.Meaning.{Meaning, needs, refused, accepted, places_needed}
use Rattle.reader.specs.Reading.{context_of}

-- what is behind a packet that is accepted, of whose bytes so many are taken: its frame is whole, its kind and its fields are read, the
-- connection allows its move and then steps by it, and the table has room for its places
pub record Acceptance (direction : Direction) (c : Connection) (s : List ℕ) (room : ℕ) (packet : Packet) (taken : ℕ) (next : Connection) : Type 0 where
  pub kind : Kind
  pub whole_is : frame_at direction s ≡ FrameRead.Whole taken
  pub kind_is : kind_at (context_of direction c) (part s 0 taken) ≡ KindRead.Kind kind
  pub fields_are : (packet_at (context_of direction c) kind (part s 0 taken)).end ≡ PacketRead.Packet packet
  pub allows : allowed c (packet_move packet) ≡ true
  pub steps : next ≡ after c (packet_move packet)
  pub has_room : places_needed packet ≤ room

-- an answer that is not "needs"
abbrev pub Answered : Meaning → Type 0
Answered (needs n) = ⊥
Answered (refused n) = Unit
Answered (accepted packet taken after) = Unit

-- so many bytes are more than the `size` bytes that are there, and no more than a packet may have
abbrev pub NeedsMore : ℕ → ℕ → Type 0
NeedsMore size n = (size < n) × (n ≤ max_packet)
