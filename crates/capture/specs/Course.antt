-- A capture: packets of both directions back to back, as they are seen at the server's end, stepped through one connection. Its course is
-- what every tool over captures looks at: the packets that are accepted, one after the other, and how that ends.
-- Document 02, A1.
-- Assumes nothing.
use Rattle.std.specs.Prelude.{List, [], ◌∷◌, ◌++◌, ℕ, zero, suc, ◌+◌, eqb, length, get_or, drop}
use Rattle.wire.specs.Pick.{pick}
use Rattle.wire.specs.Refusal.{none}
use Rattle.wire.specs.Bytes.{part}
use Rattle.wire.specs.Packet.{leading}
use Rattle.packet.specs.declared.Direction.{Direction}
use Rattle.packet.specs.declared.Packet.{Packet}
use Rattle.places.specs.Entries.{max_places}
use Rattle.connection.specs.declared.Connection.{Connection}
use Rattle.reader.specs.Meaning.{Meaning, needs, refused, accepted}
use Rattle.reader.specs.Reading.{reading}

-- which way the next packet goes, by the first byte: to the server where it is 41, else to the container. Leading bytes of neither
-- direction are then not the container's, and refused with 1.
unfoldable pub direction_in : List ℕ → Direction
direction_in s = pick (eqb (get_or s 0 0) (get_or (leading Direction.ToServer) 0 0)) Direction.ToServer Direction.ToContainer

-- what reading answers to the first packet of the bytes; the table has room for any packet's places
unfoldable pub first_in : Connection → List ℕ → Meaning
first_in c s = reading (direction_in s) c s max_places

-- an accepted packet: what it tells, and its bytes
pub record Seen : Type 0 where
  pub packet : Packet
  pub bytes : List ℕ

-- a course: the packets that are accepted, the connection after them, the bytes that are left, and the refusal of the packet that stands
-- there, none where no whole packet does
pub record Course : Type 0 where
  pub seen : List Seen
  pub after : Connection
  pub left : List ℕ
  pub refusal : ℕ

-- no packet is accepted
abbrev pub stopped : Connection → List ℕ → ℕ → Course
stopped c s refusal = record { seen = []; after = c; left = s; refusal = refusal }

-- a course with a packet before it, and with these packets
abbrev pub before : Seen → Course → Course
before packet k = record { seen = packet ∷ k.seen; after = k.after; left = k.left; refusal = k.refusal }

abbrev pub all_before : List Seen → Course → Course
all_before packets k = record { seen = packets ++ k.seen; after = k.after; left = k.left; refusal = k.refusal }

-- bytes, by the answer to their first packet: what is behind an accepted one goes on from the connection after it
abbrev pub course_then : Connection → List ℕ → Meaning → (Connection → List ℕ → Course) → Course
course_then c s (needs n) later = stopped c s none
course_then c s (refused n) later = stopped c s n
course_then c s (accepted packet taken next) later = before (record { packet = packet; bytes = part s 0 taken }) (later next (drop taken s))

-- the course of bytes from a connection, over at most so many packets
unfoldable pub course_by : ℕ → Connection → List ℕ → Course
course_by zero c s = stopped c s none
course_by (suc most) c s = course_then c s (first_in c s) (course_by most)

-- the course of bytes from a connection: no packet is empty, so there are at most as many packets as bytes
unfoldable pub course : Connection → List ℕ → Course
course c s = course_by (length s) c s

-- more bytes: a course that was not refused goes on with what was left and these; a refused one stays
abbrev pub fed : Course → List ℕ → Course
fed k more =
    pick (eqb k.refusal none)
    (all_before k.seen (course k.after (k.left ++ more)))
    (record { seen = k.seen; after = k.after; left = k.left ++ more; refusal = k.refusal })

-- parts, one after the other
abbrev pub fed_all : Course → List (List ℕ) → Course
fed_all k [] = k
fed_all k (part ∷ later) = fed_all (fed k part) later

-- the bytes of parts, and of packets, one behind the other
abbrev pub joined : List (List ℕ) → List ℕ
joined [] = []
joined (part ∷ later) = part ++ joined later

abbrev pub seen_bytes : List Seen → List ℕ
seen_bytes [] = []
seen_bytes (packet ∷ later) = packet.bytes ++ seen_bytes later

-- a figure that is added up over packets
abbrev pub total : (Seen → ℕ) → List Seen → ℕ
total figure [] = 0
total figure (packet ∷ later) = figure packet + total figure later

-- the figures of a packet that every tool needs: one for each, and its bytes
abbrev pub one_each : Seen → ℕ
one_each packet = 1

abbrev pub size_of : Seen → ℕ
size_of packet = length packet.bytes
