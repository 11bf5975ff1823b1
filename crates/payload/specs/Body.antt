-- A body packet. An empty one has two forms: without a payload, the one that is written, and with a size of 0 and nothing behind it.
-- Document 01, 'Server to container', Body packet, and in 'Refusal numbers' what a body packet's size is held against; document 02, A2: the
-- other empty packet.
-- Assumes nothing.
use Rattle.std.specs.Prelude.{List, ℕ, ◌+◌, ltb, eqb, length}
use Rattle.wire.specs.Pick.{pick}
use Rattle.wire.specs.Refusal.{cut_short, left_over}
use Rattle.wire.specs.Field.{integer_at}
use Rattle.wire.specs.Read.{NumberRead}
use Rattle.packet.specs.declared.Part.{Part}
use Rattle.packet.specs.declared.Packet.{Packet}
use Rattle.payload.specs.Read.{PacketRead}
use Rattle.payload.specs.Packet.{part_from}
use Rattle.wire.specs.Packet.{payload_place}

-- where a body's bytes start: behind the size, which is the payload's first two bytes
abbrev pub body_start : ℕ
body_start = 6

-- the part of a body packet that holds `len` bytes of body: they start behind the size; where there are none, the part is told at the payload's
-- place, whichever form the packet has
abbrev pub body_of_size : ℕ → Part
body_of_size len = part_from (pick (eqb len 0) payload_place body_start) len

-- a body packet of `size` bytes in all that tells its own size: more than follows is 3, less is 12
unfoldable pub sized_at : ℕ → ℕ → PacketRead
sized_at size len =
    pick (ltb size (body_start + len)) (PacketRead.Refused cut_short)
    (pick (ltb (body_start + len) size) (PacketRead.Refused left_over) (PacketRead.Packet (Packet.Body (body_of_size len))))

-- a body packet of `size` bytes in all, by what its own size reads as
abbrev pub sized_of : ℕ → NumberRead → PacketRead
sized_of size (NumberRead.Refused n) = PacketRead.Refused n
sized_of size (NumberRead.Number len next) = sized_at size len

-- a body packet: empty where it has no payload, else a size and so many bytes, which may be none
unfoldable pub body_at : List ℕ → PacketRead
body_at s =
    pick (eqb (length s) payload_place) (PacketRead.Packet (Packet.Body (body_of_size 0)))
    (sized_of (length s) (integer_at s payload_place))
