-- What a packet of a kind says, from its bytes alone, with the places that it has for the table; and what a packet is for the cycle.
-- Document 01, 'Server to container', 'Container to server', and 'The cycle'; document 02, A4.
-- Assumes nothing.
use Rattle.std.specs.Prelude.{List, ℕ}
use Rattle.names.specs.Method.{is_head_method}
use Rattle.places.specs.Entries.{Entries, ended}
use Rattle.connection.specs.declared.Kind.{Kind}
use Rattle.connection.specs.declared.Move.{Move}
use Rattle.connection.specs.declared.ForwardMove.{ForwardMove}
use Rattle.packet.specs.declared.Forward.{Forward}
use Rattle.packet.specs.declared.Packet.{Packet}
use Rattle.payload.specs.declared.Context.{Context}
use Rattle.payload.specs.Read.{PacketRead}
use Rattle.payload.specs.Bare.{bare_at}
use Rattle.payload.specs.End.{end_at}
use Rattle.payload.specs.GetBody.{get_at}
use Rattle.payload.specs.Body.{body_at}
use Rattle.payload.specs.BodyChunk.{chunk_at}
use Rattle.payload.specs.Forward.{forward_at}
use Rattle.payload.specs.SendHeaders.{send_headers_at}

-- a packet, by its kind; those without headers have no places
-- what is known beside the bytes is not looked at yet; requests A6 and A11 will look at it
abbrev pub packet_at : Context → Kind → List ℕ → Entries PacketRead
packet_at context Kind.CPing s = ended (bare_at s Packet.CPing)
packet_at context Kind.CPong s = ended (bare_at s Packet.CPong)
packet_at context Kind.Forward s = forward_at s
packet_at context Kind.Body s = ended (body_at s)
packet_at context Kind.GetBody s = ended (get_at s)
packet_at context Kind.SendHeaders s = send_headers_at s
packet_at context Kind.BodyChunk s = ended (chunk_at s)
packet_at context Kind.End s = ended (end_at s)

-- a packet's kind
abbrev pub packet_kind : Packet → Kind
packet_kind Packet.CPing = Kind.CPing
packet_kind Packet.CPong = Kind.CPong
packet_kind (Packet.Forward forward) = Kind.Forward
packet_kind (Packet.Body part) = Kind.Body
packet_kind (Packet.GetBody asked) = Kind.GetBody
packet_kind (Packet.SendHeaders h) = Kind.SendHeaders
packet_kind (Packet.BodyChunk part) = Kind.BodyChunk
packet_kind (Packet.End reuse) = Kind.End

-- what a Forward is for the cycle: what it declares, and whether its method is HEAD
abbrev pub forward_move : Forward → ForwardMove
forward_move forward = record { declared = forward.declared; head = is_head_method forward.method }

-- what a packet is for the cycle: of a part its size
abbrev pub packet_move : Packet → Move
packet_move Packet.CPing = Move.CPing
packet_move Packet.CPong = Move.CPong
packet_move (Packet.Forward forward) = Move.Forward (forward_move forward)
packet_move (Packet.Body part) = Move.Body part.len
packet_move (Packet.GetBody asked) = Move.GetBody asked
packet_move (Packet.SendHeaders h) = Move.SendHeaders
packet_move (Packet.BodyChunk part) = Move.BodyChunk part.len
packet_move (Packet.End reuse) = Move.End reuse
