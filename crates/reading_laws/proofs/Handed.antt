-- What reading hands out of an accepted packet, and the places that it puts into the table, are what was read in the packet: `packet_handed`
-- says so of every packet that was read. So, with the laws of `Shown`, a view at a place that was handed out shows what was read there.
-- Assumes nothing.
use mathlib.Core.Path.{◌≡◌}
use mathlib.Core.List.{List}
use Prim.Native.Nat.{ℕ}
use Rattle.wire.specs.Bytes.{part}
use Rattle.packet.specs.declared.Direction.{Direction}
use Rattle.packet.specs.declared.Packet.{Packet}
use Rattle.connection.specs.declared.Connection.{Connection}
use Rattle.payload.specs.Handed.{PacketHanded}
use Rattle.payload.proofs.Handed.{packet_handed}
use Rattle.reader.specs.Meaning.{accepted}
use Rattle.reader.specs.Reading.{parse, parse_whole, places_of, context_of, reading}
use Rattle.reading_laws.proofs.Acceptance.{accepted_is}

-- an accepted packet, and its places for the table, are what was read in it
pub accepted_handed : (direction : Direction) (c : Connection) (s : List ℕ) (room : ℕ) (packet : Packet) (taken : ℕ) (next : Connection)
    → reading direction c s room ≡ accepted packet taken next
    → PacketHanded (part s 0 taken) packet (places_of (parse (context_of direction c) s))
unfolding parse parse_whole
accepted_handed direction c s room packet taken next e =
    let a = accepted_is direction c s room packet taken next e in
    rw (a.whole_is, a.kind_is) (packet_handed (context_of direction c) a.kind (part s 0 taken) packet a.fields_are)
