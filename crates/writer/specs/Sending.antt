-- The packets that one call builds: CPing, CPong, body packet, Send Body Chunk, Get Body Chunk and End.
-- Document 01, 'Server to container', 'Container to server', and 'Building': 13, then 14, then 2 and 15. None of their fields can be
-- wrong: a boolean and an integer are any, and so are the bytes of a body or a chunk.
-- Assumes nothing.
use Rattle.std.specs.Prelude.{Bool, List, [], ◌∷◌, ◌++◌, ℕ, eqb, length}
use Rattle.wire.specs.Pick.{pick}
use Rattle.wire.specs.Refusal.{not_now, body_size_wrong}
use Rattle.wire.specs.Bytes.{integer_bytes}
use Rattle.wire.specs.Field.{boolean_bytes}
use Rattle.wire.specs.Packet.{packet}
use Rattle.connection.specs.Cycle.{move_kind, direction_of, in_state, in_size, after}
use Rattle.connection.specs.declared.Connection.{Connection}
use Rattle.connection.specs.declared.Kind.{Kind}
use Rattle.connection.specs.declared.Move.{Move}
use Rattle.payload.specs.Code.{code_of}
use Rattle.building.specs.Fault.{unless}
use Rattle.building.specs.Call.{Call}
use Rattle.building.specs.Sent.{Written}

-- the packet that makes a move, with this payload
abbrev pub packet_of : Move → List ℕ → List ℕ
packet_of m payload = packet (direction_of (move_kind m)) payload

-- a kind of packet that the state does not allow is 13
abbrev pub state_fault : Connection → Move → ℕ
state_fault c m = unless (in_state c (move_kind m)) not_now

-- a body packet or a chunk of a size that is not allowed is 14
abbrev pub size_fault : Connection → Move → ℕ
size_fault c m = unless (in_size c m) body_size_wrong

-- what is looked for before 2 and 15
abbrev pub sending_faults : Connection → Move → List ℕ
sending_faults c m = state_fault c m ∷ size_fault c m ∷ []

-- the call that writes a packet: it makes its move, and answers its length and the connection after it
abbrev pub sending : Connection → Move → List ℕ → Call Written
sending c m payload = record {
  faults = sending_faults c m;
  at = 0;
  bytes = packet_of m payload;
  answer = record { size = length (packet_of m payload); connection = after c m };
}

-- CPing and CPong: the code alone
abbrev pub bare_payload : Move → List ℕ
bare_payload m = code_of (move_kind m) ∷ []

-- a body packet: no payload where it is empty, else a size and so many bytes
abbrev pub body_payload : List ℕ → List ℕ
body_payload bytes = pick (eqb (length bytes) 0) [] (integer_bytes (length bytes) ++ bytes)

-- Send Body Chunk: the code, a length, so many bytes, one zero
abbrev pub chunk_payload : List ℕ → List ℕ
chunk_payload bytes = code_of Kind.BodyChunk ∷ (integer_bytes (length bytes) ++ (bytes ++ (0 ∷ [])))

-- Get Body Chunk: the code and how many bytes are asked for
abbrev pub get_payload : ℕ → List ℕ
get_payload asked = code_of Kind.GetBody ∷ integer_bytes asked

-- End: the code and whether the connection is used again
abbrev pub end_payload : Bool → List ℕ
end_payload reuse = code_of Kind.End ∷ boolean_bytes reuse

-- the calls; the first is what CPing and CPong share
unfoldable pub bare_call : Connection → Move → Call Written
bare_call c m = sending c m (bare_payload m)

abbrev pub cping_call : Connection → Call Written
cping_call c = bare_call c Move.CPing

abbrev pub cpong_call : Connection → Call Written
cpong_call c = bare_call c Move.CPong

unfoldable pub body_call : Connection → List ℕ → Call Written
body_call c bytes = sending c (Move.Body (length bytes)) (body_payload bytes)

unfoldable pub chunk_call : Connection → List ℕ → Call Written
chunk_call c bytes = sending c (Move.BodyChunk (length bytes)) (chunk_payload bytes)

unfoldable pub get_call : Connection → ℕ → Call Written
get_call c asked = sending c (Move.GetBody asked) (get_payload asked)

unfoldable pub end_call : Connection → Bool → Call Written
end_call c reuse = sending c (Move.End reuse) (end_payload reuse)
