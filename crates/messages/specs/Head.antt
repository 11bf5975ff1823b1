-- HEAD has no body: by what a connection is marked, and what the mark makes of a chunk at either end.
-- The mark goes by the byte behind the code of the Forward as it stands in the packet; an attribute that tells of a method has no say.
-- Document 02, A4.
-- Assumes nothing.
use Rattle.std.specs.Prelude.{◌≡◌, Bool, List, [], ◌++◌, ℕ, ◌≤◌, ◌<◌, length, get_or}
use Rattle.wire.specs.Refusal.{body_size_wrong}
use Rattle.wire.specs.Bytes.{part}
use Rattle.wire.specs.Field.{byte_at}
use Rattle.wire.specs.Packet.{code_place, after_code_place}
use Rattle.packet.specs.declared.Direction.{Direction}
use Rattle.packet.specs.declared.Forward.{Forward}
use Rattle.packet.specs.declared.Packet.{Packet}
use Rattle.names.specs.Method.{is_head_method}
use Rattle.connection.specs.Connection.{max_packet, is_head}
use Rattle.connection.specs.Cycle.{after}
use Rattle.connection.specs.declared.Connection.{Connection}
use Rattle.connection.specs.declared.Kind.{Kind}
use Rattle.connection.specs.declared.Move.{Move}
use Rattle.payload.specs.BodyChunk.{chunk_start, chunk_at}
use Rattle.payload.specs.Code.{kind_of_code}
use Rattle.payload.specs.Packet.{part_from}
use Rattle.payload.specs.Read.{KindRead, PacketRead}
use Rattle.building.specs.Call.{refused, done, outcome}
use Rattle.building.specs.Sent.{Written}
use Rattle.building_record.specs.declared.Building.{Building}
use Rattle.building_record.specs.declared.BuildingKind.{BuildingKind}
use Rattle.writer.specs.Sending.{chunk_call}
use Rattle.reader.specs.Frame.{frame_at, FrameRead}
use Rattle.reader.specs.Meaning as read
use Rattle.reader.specs.Reading.{reading}
use Rattle.closing.specs.Closing.{close_outcome, close_buffer}
use Rattle.messages.specs.Message.{body_chunk}
use Rattle.messages.specs.Bytes.{message_bytes}

-- a Forward's bytes say that it is HEAD
abbrev pub says_head : List ℕ → Bool
says_head packet = is_head_method (get_or packet after_code_place 0)

-- the mark after a Forward is by what stands in the packet: one that is accepted, and one that is closed
pub record HeadMarked (c : Connection) : Type 0 where
  pub accepted : (s : List ℕ) (room : ℕ) (f : Forward) (taken : ℕ) (next : Connection)
      → reading Direction.ToContainer c s room ≡ read.accepted (Packet.Forward f) taken next → is_head next ≡ says_head (part s 0 taken)
  pub closed : (r : Building) (buffer : List ℕ) (w : Written) → r.kind ≡ BuildingKind.Forward → close_outcome c r buffer ≡ done w
      → is_head w.connection ≡ says_head (part (close_buffer c r buffer) 0 w.size)

-- what an empty chunk tells
abbrev pub empty_chunk : Packet
empty_chunk = Packet.BodyChunk (part_from chunk_start 0)

-- chunks where they are allowed and the request is HEAD
pub record HeadChunks (c : Connection) : Type 0 where
  -- a fault of a chunk's fields, 12 among them, comes first
  pub faults_first : (s rest : List ℕ) (room n : ℕ) → frame_at Direction.ToServer s ≡ FrameRead.Whole (length s)
      → kind_of_code Direction.ToServer (byte_at s code_place) ≡ KindRead.Kind Kind.BodyChunk → chunk_at s ≡ PacketRead.Refused n
      → reading Direction.ToServer c (s ++ rest) room ≡ read.refused n
  -- a chunk with bytes is 14, whatever stands behind it
  pub read_refused : (bytes rest : List ℕ) (room : ℕ) → 0 < length bytes → length (message_bytes (body_chunk bytes)) ≤ max_packet
      → reading Direction.ToServer c (message_bytes (body_chunk bytes) ++ rest) room ≡ read.refused body_size_wrong
  -- and to write one is 14, however many bytes it has and whatever room there is: before 2 and 15
  pub write_refused : (bytes : List ℕ) (room : ℕ) → 0 < length bytes → outcome (chunk_call c bytes) room ≡ refused body_size_wrong
  -- an empty one is read
  pub empty_read : (rest : List ℕ) (room : ℕ)
      → reading Direction.ToServer c (message_bytes (body_chunk []) ++ rest) room ≡ read.accepted empty_chunk (length (message_bytes (body_chunk []))) (after c (Move.BodyChunk 0))
  -- and written
  pub empty_written : (room : ℕ) → length (message_bytes (body_chunk [])) ≤ room
      → outcome (chunk_call c []) room ≡ done (record { size = length (message_bytes (body_chunk [])); connection = after c (Move.BodyChunk 0) })
