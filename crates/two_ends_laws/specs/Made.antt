-- A send that was done: the packet that it wrote makes the move of its call.
-- Document 01, 'Two ends and their pipes', and 'The cycle'.
-- Assumes nothing.
use Rattle.std.specs.Prelude.{◌≡◌, Bool, true, false, List, ℕ, length}
use Rattle.packet.specs.declared.Packet.{Packet}
use Rattle.names.specs.Method.{is_head_method}
use Rattle.connection.specs.Cycle.{allowed, after}
use Rattle.connection.specs.declared.Connection.{Connection}
use Rattle.connection.specs.declared.ForwardMove.{ForwardMove}
use Rattle.connection.specs.declared.Move.{Move}
use Rattle.reader.specs.Meaning.{body_declared}
use Rattle.sends.specs.Send.{Send, cping, body, close_forward, cpong, body_chunk, get_body, end, close_send_headers, call_direction, is_body_call, body_given}
use Rattle.two_ends_laws.specs.Ends.{PipePacket}
use Rattle.two_ends_laws.specs.Past.{held_in}
use Rattle.two_ends_laws.specs.Readable.{Readable}

-- whether what is told is a Forward whose method is HEAD
abbrev pub head_told : Packet → Bool
head_told Packet.CPing = false
head_told Packet.CPong = false
head_told (Packet.Forward f) = is_head_method f.method
head_told (Packet.Body p) = false
head_told (Packet.GetBody asked) = false
head_told (Packet.SendHeaders h) = false
head_told (Packet.BodyChunk p) = false
head_told (Packet.End reuse) = false

-- what a Forward is for the cycle, as whoever reads it is told
abbrev pub forward_told : Packet → ForwardMove
forward_told tells = record { declared = record { 0 = body_declared tells }; head = head_told tells }

-- the move of a call: a body packet or a chunk of as many bytes as are given, what is asked for, whether the connection is used again; a
-- Forward with what is told of it
abbrev pub move_of : Send → Packet → Move
move_of (cping buffer) tells = Move.CPing
move_of (body buffer bytes) tells = Move.Body (length bytes)
move_of (close_forward r buffer) tells = Move.Forward (forward_told tells)
move_of (cpong buffer) tells = Move.CPong
move_of (body_chunk buffer bytes) tells = Move.BodyChunk (length bytes)
move_of (get_body buffer asked small) tells = Move.GetBody asked
move_of (end buffer reuse) tells = Move.End reuse
move_of (close_send_headers r buffer) tells = Move.SendHeaders

-- the packet of a call, by its bytes
abbrev pub packet_by : Send → List ℕ → PipePacket
packet_by call bytes = record { bytes = bytes; of_body = is_body_call call }

-- a send with this connection that wrote these bytes and came to the next connection
pub record Made (c : Connection) (call : Send) (bytes : List ℕ) (next : Connection) : Type 0 where
  -- the move that it made
  pub move : Move
  -- the connection allowed it
  pub allows : allowed c move ≡ true
  -- and is the one after it now
  pub steps : next ≡ after c move
  -- whoever allows the move at the other end reads the packet as that move
  pub readable : Readable (call_direction call) (packet_by call bytes) move
  -- the move is the call's
  pub move_is : move ≡ move_of call readable.tells
  -- the packet holds the body bytes that were given to the call
  pub holds : held_in (packet_by call bytes) ≡ body_given call
