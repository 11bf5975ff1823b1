-- What the reader's own functions promise to one another: the answer and the table at each stage on the way. Whoever reads the promises of
-- the public calls needs none of these.
-- Assumes nothing.
use Rattle.std.specs.Prelude.{List, ℕ, length, take}
use Rattle.packet.specs.declared.Direction.{Direction}
use Rattle.connection.specs.Cycle.{sized_step}
use Rattle.connection.specs.declared.Kind.{Kind}
use Rattle.connection.specs.declared.Connection.{Connection}
use Rattle.payload.specs.declared.Context.{Context}
use Rattle.payload.specs.Read.{PacketRead}
use Rattle.payload.specs.Kinds.{packet_at, packet_move}
use Rattle.reader.specs.Meaning.{Meaning, needs, refused, accepted, places_needed}
use Rattle.reader.specs.Reading.{parse_whole, context_of, stepped, judging, with_room, places_of, filled}

-- how many places an answer asks of the table
abbrev pub needed : Meaning → ℕ
needed (needs n) = 0
needed (refused n) = 0
needed (accepted packet taken after) = places_needed packet

-- the table after an answer, filled with the first of these places
unfoldable pub table_given : Meaning → List ℕ → List ℕ → List ℕ
table_given answer places table = filled (with_room (length table) answer) (take (needed answer) places) table

-- a packet of a kind that is allowed, whose fields were read: the step by its size alone
unfoldable pub sizing : Connection → ℕ → PacketRead → Meaning
sizing c taken (PacketRead.Refused n) = refused n
sizing c taken (PacketRead.Packet packet) = stepped packet taken (sized_step c (packet_move packet))

-- a packet of a kind that is allowed: the answer, and the table
unfoldable pub allowed_reading : Context → Connection → Kind → List ℕ → ℕ → Meaning
allowed_reading context c kind s room = with_room room (sizing c (length s) (packet_at context kind s).end)

unfoldable pub allowed_table : Context → Connection → Kind → List ℕ → List ℕ → List ℕ
allowed_table context c kind s table = filled (allowed_reading context c kind s (length table)) (packet_at context kind s).places table

-- a packet that is a list of its own bytes: the answer, and the table
unfoldable pub whole_of : Direction → Connection → List ℕ → ℕ → Meaning
whole_of direction c s room = with_room room (judging c (parse_whole (context_of direction c) s))

unfoldable pub table_whole : Direction → Connection → List ℕ → List ℕ → List ℕ
table_whole direction c s table = filled (whole_of direction c s (length table)) (places_of (parse_whole (context_of direction c) s)) table
