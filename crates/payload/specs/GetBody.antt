-- Get Body Chunk.
-- Document 01, 'Container to server', Get Body Chunk.
-- Assumes nothing.
use Rattle.std.specs.Prelude.{List, ℕ, length}
use Rattle.wire.specs.Field.{integer_at}
use Rattle.wire.specs.Read.{NumberRead}
use Rattle.packet.specs.declared.Packet.{Packet}
use Rattle.payload.specs.Read.{PacketRead}
use Rattle.payload.specs.Packet.{finished}
use Rattle.wire.specs.Packet.{after_code_place}

-- a Get Body Chunk of `size` bytes, by what its integer reads as
abbrev pub get_of : ℕ → NumberRead → PacketRead
get_of size (NumberRead.Refused n) = PacketRead.Refused n
get_of size (NumberRead.Number asked next) = finished size next (Packet.GetBody asked)

-- Get Body Chunk: an integer
unfoldable pub get_at : List ℕ → PacketRead
get_at s = get_of (length s) (integer_at s after_code_place)
