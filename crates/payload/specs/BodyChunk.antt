-- Send Body Chunk.
-- Document 01, 'Container to server', Send Body Chunk, and row 6 of 'Refusal numbers'.
-- Assumes nothing.
use Rattle.std.specs.Prelude.{List, ℕ, ◌+◌, leb, eqb, length, get_or}
use Rattle.wire.specs.Pick.{pick}
use Rattle.wire.specs.Refusal.{cut_short, string_wrong}
use Rattle.wire.specs.Field.{integer_at}
use Rattle.wire.specs.Read.{NumberRead}
use Rattle.packet.specs.declared.Packet.{Packet}
use Rattle.payload.specs.Read.{PacketRead}
use Rattle.payload.specs.Packet.{part_from, finished}
use Rattle.wire.specs.Packet.{after_code_place}

-- where a chunk's bytes start: behind the code and the two bytes of its length
abbrev pub chunk_start : ℕ
chunk_start = 7

-- a chunk's bytes and the byte behind them: present (3), zero (6), and the last (12)
unfoldable pub chunk_of : List ℕ → ℕ → PacketRead
chunk_of s len =
    pick (leb (chunk_start + (len + 1)) (length s))
    (pick (eqb (get_or s (chunk_start + len) 0) 0)
    (finished (length s) (chunk_start + len + 1) (Packet.BodyChunk (part_from chunk_start len)))
    (PacketRead.Refused string_wrong))
    (PacketRead.Refused cut_short)

-- a chunk, by what its length reads as
abbrev pub chunk_by : List ℕ → NumberRead → PacketRead
chunk_by s (NumberRead.Refused n) = PacketRead.Refused n
chunk_by s (NumberRead.Number len next) = chunk_of s len

-- Send Body Chunk: a length, so many bytes of any value, one zero
unfoldable pub chunk_at : List ℕ → PacketRead
chunk_at s = chunk_by s (integer_at s after_code_place)
