-- What a packet in a pipe is: it makes a move, and every connection that allows the move accepts it, whatever stands behind it, and is handed
-- the same packet.
-- Assumes nothing.
use Rattle.std.specs.Prelude.{◌≡◌, true, List, [], ◌∷◌, ◌++◌, ℕ, length}
use Rattle.packet.specs.declared.Direction.{Direction}
use Rattle.packet.specs.declared.Packet.{Packet}
use Rattle.connection.specs.Cycle.{move_kind, direction_of, allowed, after}
use Rattle.connection.specs.declared.Connection.{Connection}
use Rattle.connection.specs.declared.Move.{Move}
use Rattle.places.specs.Entries.{max_places}
use Rattle.payload.specs.Kinds.{packet_move}
use Rattle.reader.specs.Meaning.{accepted}
use Rattle.reader.specs.Reading.{reading}
use Rattle.two_ends_laws.specs.Ends.{PipePacket}
use Rattle.two_ends_laws.specs.Past.{body_part, held_in, RequestBody, gets, count_packet}

-- the body bytes in a packet of a move: in a body packet as many as it says, in every other none
abbrev pub Carries : Move → List ℕ → Type 0
Carries Move.CPing held = held ≡ []
Carries Move.CPong held = held ≡ []
Carries (Move.Forward f) held = held ≡ []
Carries (Move.Body k) held = length held ≡ k
Carries (Move.GetBody r) held = held ≡ []
Carries Move.SendHeaders held = held ≡ []
Carries (Move.BodyChunk k) held = held ≡ []
Carries (Move.End reuse) held = held ≡ []

-- what a packet of a move that holds these body bytes adds to the requests
abbrev pub counting : Move → List ℕ → List RequestBody → List RequestBody
counting Move.CPing held before = before
counting Move.CPong held before = before
counting (Move.Forward f) held before = record { declared = f.declared.0; got = [] } ∷ before
counting (Move.Body k) held before = gets held before
counting (Move.GetBody r) held before = before
counting Move.SendHeaders held before = before
counting (Move.BodyChunk k) held before = before
counting (Move.End reuse) held before = before

-- a packet in a pipe of this direction that makes a move: whoever allows the move takes exactly the packet, is handed its body bytes, and
-- counts it as the move says
pub record Readable (direction : Direction) (packet : PipePacket) (m : Move) : Type 0 where
  pub way : direction_of (move_kind m) ≡ direction
  pub carries : Carries m (held_in packet)
  pub tells : Packet
  pub makes : packet_move tells ≡ m
  pub handed : (rest : List ℕ) → body_part (packet.bytes ++ rest) tells ≡ held_in packet
  pub counts : (rest : List ℕ) (before : List RequestBody)
      → count_packet (packet.bytes ++ rest) tells before ≡ counting m (held_in packet) before
  pub reads : (c : Connection) (rest : List ℕ) → allowed c m ≡ true
      → reading direction c (packet.bytes ++ rest) max_places ≡ accepted tells (length packet.bytes) (after c m)
