-- Two ends and a pipe each way: the sends, the deliveries, and what each does to the ends and the pipes.
-- Document 01, 'Two ends and their pipes'.
-- Assumes nothing.
use Rattle.std.specs.Prelude.{◌≡◌, Bool, List, [], ◌∷◌, ◌++◌, ℕ, length, take}
use Rattle.wire.specs.Bytes.{part}
use Rattle.packet.specs.declared.Direction.{Direction}
use Rattle.places.specs.Entries.{max_places}
use Rattle.connection.specs.Connection.{fresh}
use Rattle.connection.specs.declared.Connection.{Connection}
use Rattle.building.specs.Call.{Outcome, refused, done}
use Rattle.building.specs.Sent.{Written}
use Rattle.sends.specs.Send.{Send, call_direction, outcome_of, buffer_of, is_body_call}
use Rattle.reader.specs.Meaning as read
use Rattle.reader.specs.Reading.{reading}

-- a packet in a pipe, and whether a body call wrote it
pub record PipePacket : Type 0 where
  pub bytes : List ℕ
  pub of_body : Bool

-- the two ends and the pipe each way
pub record Ends : Type 0 where
  pub at_server : Connection
  pub at_container : Connection
  pub to_container : List PipePacket
  pub to_server : List PipePacket

-- two fresh ends, and nothing on the way
abbrev pub fresh_ends : Ends
fresh_ends = record { at_server = fresh; at_container = fresh; to_container = []; to_server = [] }

-- the pipe of a direction, the connection of the end that sends into it, and the connection of the end that reads from it
abbrev pub pipe_of : Direction → Ends → List PipePacket
pipe_of Direction.ToContainer e = e.to_container
pipe_of Direction.ToServer e = e.to_server

abbrev pub sender_of : Direction → Ends → Connection
sender_of Direction.ToContainer e = e.at_server
sender_of Direction.ToServer e = e.at_container

abbrev pub receiver_of : Direction → Ends → Connection
receiver_of Direction.ToContainer e = e.at_container
receiver_of Direction.ToServer e = e.at_server

-- the ends with another pipe of a direction and another connection at the end that sends into it
abbrev pub with_sent : Direction → Connection → List PipePacket → Ends → Ends
with_sent Direction.ToContainer c pipe e =
    record { at_server = c; at_container = e.at_container; to_container = pipe; to_server = e.to_server }
with_sent Direction.ToServer c pipe e =
    record { at_server = e.at_server; at_container = c; to_container = e.to_container; to_server = pipe }

-- the same with the end that reads from it
abbrev pub with_read : Direction → Connection → List PipePacket → Ends → Ends
with_read Direction.ToContainer c pipe e =
    record { at_server = e.at_server; at_container = c; to_container = pipe; to_server = e.to_server }
with_read Direction.ToServer c pipe e =
    record { at_server = c; at_container = e.at_container; to_container = e.to_container; to_server = pipe }

-- what a call that sends hands back: the connection to go on with, which is the one given where it is refused, and the packets that it
-- puts into the pipe, none where it is refused
abbrev pub connection_after : Connection → Outcome Written → Connection
connection_after c (refused n) = c
connection_after c (done written) = written.connection

abbrev pub packets_of : List ℕ → Bool → Outcome Written → List PipePacket
packets_of buffer of_body (refused n) = []
packets_of buffer of_body (done written) = record { bytes = part buffer 0 written.size; of_body = of_body } ∷ []

-- a send that came to this: the packet goes last into its pipe
abbrev pub sent_from : Connection → Direction → Send → Ends → Outcome Written → Ends
sent_from c direction call e o =
    with_sent direction (connection_after c o) (pipe_of direction e ++ packets_of (buffer_of c call) (is_body_call call) o) e

-- a send
abbrev pub after_send : Send → Ends → Ends
after_send call e = sent_from (sender_of (call_direction call) e) (call_direction call) call e (outcome_of (sender_of (call_direction call) e) call)

-- the bytes of packets, one behind the other
abbrev pub all_bytes : List PipePacket → List ℕ
all_bytes [] = []
all_bytes (packet ∷ later) = packet.bytes ++ all_bytes later

-- a delivery of a pipe's first packet: how many of those behind it are lent with it, and the table of 328 places that is lent
pub record Delivery : Type 0 where
  pub behind : ℕ
  pub table : List ℕ
  pub places : length table ≡ max_places

-- the bytes that a delivery lends, and what reading answers to them
abbrev pub lent : Delivery → PipePacket → List PipePacket → List ℕ
lent d packet later = packet.bytes ++ all_bytes (take d.behind later)

abbrev pub answer_of : Direction → Connection → Delivery → PipePacket → List PipePacket → read.Meaning
answer_of direction c d packet later = reading direction c (lent d packet later) (length d.table)

-- the ends after an answer: accepted, the packet leaves the pipe and the connection steps; else both stay
abbrev pub after_answer : Direction → List PipePacket → Ends → read.Meaning → Ends
after_answer direction later e (read.needs n) = e
after_answer direction later e (read.refused n) = e
after_answer direction later e (read.accepted packet taken after) = with_read direction after later e
