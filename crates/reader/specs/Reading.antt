-- Reading a packet at either end. The connection enters at three places only: what an end knows of a packet beside its bytes, whether its
-- kind is allowed (13), and the step (14). All else is `parse`, which sees no connection.
-- Document 01, 'Refusal numbers': the reading order and the table.
-- Assumes nothing.
use Rattle.std.specs.Prelude.{Bool, false, List, [], ℕ, leb, length}
use Rattle.wire.specs.Pick.{pick}
use Rattle.wire.specs.Refusal.{not_now, buffer_too_short}
use Rattle.wire.specs.Bytes.{part, over}
use Rattle.packet.specs.declared.Direction.{Direction}
use Rattle.places.specs.Entries.{Entries}
use Rattle.connection.specs.Connection.{body_due}
use Rattle.connection.specs.Cycle.{in_state, step_of}
use Rattle.connection.specs.declared.Kind.{Kind}
use Rattle.connection.specs.declared.Connection.{Connection}
use Rattle.connection.specs.Step.{Step}
use Rattle.payload.specs.Code.{kind_at}
use Rattle.payload.specs.Kinds.{packet_at, packet_move}
use Rattle.payload.specs.declared.Context.{Context}
use Rattle.payload.specs.Read.{KindRead, PacketRead}
use Rattle.packet.specs.declared.Packet.{Packet}
use Rattle.reader.specs.Frame.{FrameRead, frame_at}
use Rattle.reader.specs.Meaning.{Meaning, needs, refused, accepted, places_needed}

-- what bytes are, with no connection in it: too few, wrong, or a whole packet of a kind, with its length and what its fields say
pub data Parsed : Type 0 where
  unfinished : ℕ → Parsed
  wrong : ℕ → Parsed
  whole : Kind → ℕ → Entries PacketRead → Parsed

-- a packet, by its kind
abbrev pub parsed_of : Context → List ℕ → KindRead → Parsed
parsed_of context s (KindRead.Refused n) = wrong n
parsed_of context s (KindRead.Kind kind) = whole kind (length s) (packet_at context kind s)

-- a packet that is a list of its own bytes
unfoldable pub parse_whole : Context → List ℕ → Parsed
parse_whole context s = parsed_of context s (kind_at context s)

-- bytes, by the first packet's frame: what lies behind it is not looked at
abbrev pub parse_frame : Context → List ℕ → FrameRead → Parsed
parse_frame context s (FrameRead.Needs n) = unfinished n
parse_frame context s (FrameRead.Refused n) = wrong n
parse_frame context s (FrameRead.Whole n) = parse_whole context (part s 0 n)

-- what the first packet of the bytes is
unfoldable pub parse : Context → List ℕ → Parsed
parse context s = parse_frame context s (frame_at context.direction s)

-- whether an end takes what comes for a body packet: the container's while one is due, the server's never
abbrev pub read_as_body : Direction → Connection → Bool
read_as_body Direction.ToContainer c = body_due c
read_as_body Direction.ToServer c = false

-- what an end knows of a packet of this direction beside its bytes
abbrev pub context_of : Direction → Connection → Context
context_of direction c = record { direction = direction; body = read_as_body direction c }

-- the step that a packet makes: refused (14), or the connection after it
abbrev pub stepped : Packet → ℕ → Step → Meaning
stepped packet taken (Step.Refused n) = refused n
stepped packet taken (Step.Next after) = accepted packet taken after

-- a packet whose fields were read, 12 among them, and then the step
unfoldable pub accepting : Connection → ℕ → PacketRead → Meaning
accepting c taken (PacketRead.Refused n) = refused n
accepting c taken (PacketRead.Packet packet) = stepped packet taken (step_of c (packet_move packet))

-- what bytes are answered with, the table aside: 13 comes behind the code and before the fields
abbrev pub judging : Connection → Parsed → Meaning
judging c (unfinished n) = needs n
judging c (wrong n) = refused n
judging c (whole kind taken found) = pick (in_state c kind) (accepting c taken found.end) (refused not_now)

-- an answer where the table has so much room: too little is 15, which comes last
abbrev pub with_room : ℕ → Meaning → Meaning
with_room room (needs n) = needs n
with_room room (refused n) = refused n
with_room room (accepted packet taken after) = pick (leb (places_needed packet) room) (accepted packet taken after) (refused buffer_too_short)

-- the answer of reading, at the end to which packets of this direction go
unfoldable pub reading : Direction → Connection → List ℕ → ℕ → Meaning
reading direction c s room = with_room room (judging c (parse (context_of direction c) s))

-- the places that a packet has for the table: for each header its name's and its value's, then for each attribute its code's and its
-- value's
abbrev pub places_of : Parsed → List ℕ
places_of (unfinished n) = []
places_of (wrong n) = []
places_of (whole kind taken found) = found.places

-- the table then: where the packet is accepted, its places from the table's start on and the rest as it was; else all as it was
abbrev pub filled : Meaning → List ℕ → List ℕ → List ℕ
filled (needs n) places table = table
filled (refused n) places table = table
filled (accepted packet taken after) places table = over table 0 places

-- the table after reading
unfoldable pub table_after : Direction → Connection → List ℕ → List ℕ → List ℕ
table_after direction c s table =
    filled (reading direction c s (length table)) (places_of (parse (context_of direction c) s)) table
