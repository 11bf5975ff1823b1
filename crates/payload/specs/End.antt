-- End Response.
-- Document 01, 'Container to server', End Response.
-- Assumes nothing.
use Rattle.std.specs.Prelude.{List, ℕ, length}
use Rattle.wire.specs.Field.{boolean_at}
use Rattle.wire.specs.Read.{BooleanRead}
use Rattle.packet.specs.declared.Packet.{Packet}
use Rattle.payload.specs.Read.{PacketRead}
use Rattle.payload.specs.Packet.{finished}
use Rattle.wire.specs.Packet.{after_code_place}

-- an End of `size` bytes, by what its boolean reads as
abbrev pub end_of : ℕ → BooleanRead → PacketRead
end_of size (BooleanRead.Refused n) = PacketRead.Refused n
end_of size (BooleanRead.Boolean reuse next) = finished size next (Packet.End reuse)

-- End: a boolean
unfoldable pub end_at : List ℕ → PacketRead
end_at s = end_of (length s) (boolean_at s after_code_place)
