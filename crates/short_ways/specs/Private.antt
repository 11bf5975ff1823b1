-- What the functions of the short ways promise to one another. Whoever reads the promises of the public calls needs none of these.
-- Assumes nothing.
use Rattle.std.specs.Prelude.{ℕ, eqb, Option, Some, None}
use Rattle.wire.specs.Pick.{pick}
use Rattle.packet.specs.declared.Part.{Part}
use Rattle.packet.specs.declared.Packet.{Packet}
use Rattle.connection.specs.declared.Kind.{Kind}

-- a part of no bytes, and the part of a packet: this one unless it is a body packet or a chunk
abbrev pub no_part : Part
no_part = record { start = record { 0 = 0 }; len = 0 }

abbrev pub part_in : Packet → Part
part_in Packet.CPing = no_part
part_in Packet.CPong = no_part
part_in (Packet.Forward f) = no_part
part_in (Packet.Body p) = p
part_in (Packet.GetBody asked) = no_part
part_in (Packet.SendHeaders h) = no_part
part_in (Packet.BodyChunk p) = p
part_in (Packet.End reuse) = no_part

-- a packet of a kind with a part: a body packet and a chunk are no more than theirs
abbrev pub with_part : Kind → Packet → Part → Packet
with_part Kind.CPing packet = λ part. packet
with_part Kind.CPong packet = λ part. packet
with_part Kind.Forward packet = λ part. packet
with_part Kind.Body packet = Packet.Body
with_part Kind.GetBody packet = λ part. packet
with_part Kind.SendHeaders packet = λ part. packet
with_part Kind.BodyChunk packet = Packet.BodyChunk
with_part Kind.End packet = λ part. packet

-- a size, where 0 stands for none, as the code tells it
abbrev pub some_size : ℕ → Option ℕ
some_size n = pick (eqb n 0) None (Some n)
