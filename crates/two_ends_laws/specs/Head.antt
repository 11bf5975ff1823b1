-- HEAD has no body, along a run of two ends: when a HEAD is under way, by what was delivered, and which packets hold bytes of a response.
-- Both are said of packets and of their bytes, and not of what a connection has noted.
-- Document 02, A4.
-- Assumes nothing.
use Rattle.std.specs.Prelude.{◌≡◌, Bool, true, false, not, List, [], ◌∷◌, ℕ, eqb, get_or}
use Rattle.wire.specs.Pick.{both}
use Rattle.wire.specs.Bytes.{integer_in}
use Rattle.wire.specs.Packet.{code_place, after_code_place}
use Rattle.packet.specs.declared.Packet.{Packet}
use Rattle.names.specs.Method.{is_head_method}
use Rattle.connection.specs.Connection.{is_head}
use Rattle.connection.specs.declared.Kind.{Kind}
use Rattle.payload.specs.Code.{code_of}
use Rattle.reader.specs.Meaning as read
use Rattle.two_ends_laws.specs.Ends.{PipePacket}
use Rattle.two_ends_laws.specs.Past.{Entry, sent, refused_send, delivered, World}

-- whether a HEAD is under way after an accepted packet: a Forward says it by its method, an End ends it, and every other packet leaves it
abbrev pub head_packet : Packet → Bool → Bool
head_packet Packet.CPing before = before
head_packet Packet.CPong before = before
head_packet (Packet.Forward f) before = is_head_method f.method
head_packet (Packet.Body p) before = before
head_packet (Packet.GetBody asked) before = before
head_packet (Packet.SendHeaders h) before = before
head_packet (Packet.BodyChunk p) before = before
head_packet (Packet.End reuse) before = false

abbrev pub head_answer : read.Meaning → Bool → Bool
head_answer (read.needs n) before = before
head_answer (read.refused n) before = before
head_answer (read.accepted packet taken after) before = head_packet packet before

-- a HEAD is under way: of the Forwards and Ends that were accepted the newest is a HEAD's Forward. So it is from its acceptance at the
-- container's end to the acceptance of its End at the server's.
abbrev pub head_under_way : List Entry → Bool
head_under_way [] = false
head_under_way (sent bytes ∷ before) = head_under_way before
head_under_way (refused_send bytes e f ∷ before) = head_under_way before
head_under_way (delivered packet lent answer ∷ before) = head_answer answer (head_under_way before)

-- a packet to the server is a chunk with bytes: it has the code of a Send Body Chunk, and a length that is not 0
abbrev pub is_chunk_with_bytes : List ℕ → Bool
is_chunk_with_bytes s = both (eqb (get_or s code_place 0) (code_of Kind.BodyChunk)) (not (eqb (integer_in s after_code_place) 0))

-- no packet of a pipe is one
abbrev pub NoChunkWithBytes : List PipePacket → Type 0
NoChunkWithBytes [] = Unit
NoChunkWithBytes (packet ∷ later) = (is_chunk_with_bytes packet.bytes ≡ false) × NoChunkWithBytes later

-- no chunk with bytes is in the pipe to the server
pub record HeadBare (w : World) : Type 0 where
  -- while a HEAD is under way
  pub under_way : head_under_way w.past ≡ true → NoChunkWithBytes w.ends.to_server
  -- and where either end has noted a HEAD; the server's does so when it sends the Forward
  pub at_server : is_head w.ends.at_server ≡ true → NoChunkWithBytes w.ends.to_server
  pub at_container : is_head w.ends.at_container ≡ true → NoChunkWithBytes w.ends.to_server
