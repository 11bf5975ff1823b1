-- What all kinds of packet share: a part of a packet, and that nothing may stand behind the last field.
-- Document 01, 'Refusal numbers': row 12, and what is handed out of a body packet or a chunk.
-- Assumes nothing.
use Rattle.std.specs.Prelude.{ℕ, eqb}
use Rattle.wire.specs.Pick.{pick}
use Rattle.wire.specs.Refusal.{left_over}
use Rattle.packet.specs.declared.Part.{Part}
use Rattle.packet.specs.declared.Packet.{Packet}
use Rattle.payload.specs.Read.{PacketRead}

-- a part of a packet, by where it starts and how many bytes it has
abbrev pub part_from : ℕ → ℕ → Part
part_from start len = record { start = record { 0 = start }; len = len }

-- a packet of `size` bytes whose last field ends at `next`: bytes behind it are 12
abbrev pub finished : ℕ → ℕ → Packet → PacketRead
finished size next found = pick (eqb next size) (PacketRead.Packet found) (PacketRead.Refused left_over)
