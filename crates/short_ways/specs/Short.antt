-- The short ways: a body packet and a Send Body Chunk, read apart from every other packet, are answered as reading says.
-- Assumes nothing.
use Rattle.std.specs.Prelude.{Bool, false, List, ℕ, eqb, Result, Ok, Err, Option, Some, None}
use Rattle.wire.specs.Pick.{pick}
use Rattle.wire.specs.Refusal.{number_of}
use Rattle.wire.specs.declared.refusal.Refusal.{Refusal}
use Rattle.wire.specs.Bytes.{part}
use Rattle.wire.specs.Field.{byte_at}
use Rattle.packet.specs.declared.Direction.{Direction}
use Rattle.packet.specs.declared.Part.{Part}
use Rattle.packet.specs.declared.Packet.{Packet}
use Rattle.wire.specs.Read.{NumberRead}
use Rattle.connection.specs.Cycle.{in_state}
use Rattle.connection.specs.declared.Kind.{Kind}
use Rattle.connection.specs.declared.Connection.{Connection}
use Rattle.payload.specs.Code.{code_of}
use Rattle.reader.specs.Frame.{FrameRead, frame_at}
use Rattle.short_ways.specs.declared.ReadPart.{ReadPart}
use Rattle.reader.specs.Meaning.{Meaning, refused, accepted}
use Rattle.reader.specs.Reading.{reading}
use Rattle.wire.specs.Packet.{code_place}

-- how many bytes a packet has where it is whole, else 0
abbrev pub whole_size : FrameRead → ℕ
whole_size (FrameRead.Needs n) = 0
whole_size (FrameRead.Refused n) = 0
whole_size (FrameRead.Whole n) = n

-- a code as read is the one of a Send Body Chunk
abbrev pub is_chunk : NumberRead → Bool
is_chunk (NumberRead.Refused n) = false
is_chunk (NumberRead.Number code next) = eqb code (code_of Kind.BodyChunk)

-- how many bytes the first packet has where it goes a short way, else 0: a body packet that is due, at the container's end
unfoldable pub body_size : Connection → List ℕ → ℕ
body_size c s = pick (in_state c Kind.Body) (whole_size (frame_at Direction.ToContainer s)) 0

-- so many bytes of a packet with the code of a Send Body Chunk, else 0
abbrev pub chunk_first : List ℕ → ℕ → ℕ
chunk_first s n = pick (is_chunk (byte_at (part s 0 n) code_place)) n 0

-- and at the server's end a Send Body Chunk that is allowed
unfoldable pub chunk_size : Connection → List ℕ → ℕ
chunk_size c s = pick (in_state c Kind.BodyChunk) (chunk_first s (whole_size (frame_at Direction.ToServer s))) 0

-- by the direction
abbrev pub short_size : Direction → Connection → List ℕ → ℕ
short_size Direction.ToContainer c s = body_size c s
short_size Direction.ToServer c s = chunk_size c s

-- what a short way answers: that the packet is another one, or what reading a packet answers
pub data PartMeaning : Type 0 where
  other : PartMeaning
  answered : Meaning → PartMeaning

-- what is told of a packet that was read, None of another one; `of` makes the packet from the part that is handed out
abbrev pub found_meaning : (Part → Packet) → Option ReadPart → PartMeaning
found_meaning of None = other
found_meaning of (Some found) = answered (accepted (of found.part) found.taken found.connection)

-- what each case of the answer says
abbrev pub part_meaning : (Part → Packet) → Result (Option ReadPart) Refusal → PartMeaning
part_meaning of (Err refusal) = answered (refused (number_of refusal))
part_meaning of (Ok found) = found_meaning of found

-- the answer of a short way, at the end to which packets of this direction go: another packet where it goes none, else what reading
-- answers with a table of no places, which is what it answers with any table
unfoldable pub short_reading : Direction → Connection → List ℕ → PartMeaning
short_reading direction c s = pick (eqb (short_size direction c s) 0) other (answered (reading direction c s 0))
