-- What happened, newest first: sends and deliveries as they went; and what they add up to, body bytes sent and received and what each
-- request got.
-- Document 01, 'Two ends and their pipes'.
-- Assumes nothing.
use Rattle.std.specs.Prelude.{List, [], ◌∷◌, ◌++◌, ℕ, drop}
use Rattle.wire.specs.Pick.{pick}
use Rattle.wire.specs.Bytes.{part}
use Rattle.packet.specs.declared.Direction.{Direction}
use Rattle.packet.specs.declared.Packet.{Packet}
use Rattle.payload.specs.Body.{body_start}
use Rattle.building.specs.Call.{Outcome, refused, done}
use Rattle.building.specs.Sent.{Written}
use Rattle.reader.specs.Meaning as read
use Rattle.sends.specs.Send.{Send, call_direction, outcome_of, body_given}
use Rattle.two_ends_laws.specs.Ends.{PipePacket, Ends, fresh_ends, pipe_of, sender_of, receiver_of, after_send, Delivery, lent, answer_of, after_answer}

-- something that happened: a send that was written, with the body bytes given to it; a refused send, with the body bytes given to it
-- and the ends and pipes before it and after it; a delivery, with the packet's bytes, the bytes lent and the answer
pub data Entry : Type 0 where
  sent : (bytes : List ℕ) → Entry
  refused_send : (bytes : List ℕ) (before after : Ends) → Entry
  delivered : (packet lent : List ℕ) → read.Meaning → Entry

-- the ends and pipes, and what happened so far
pub record World : Type 0 where
  pub ends : Ends
  pub past : List Entry

-- the start: two fresh ends, empty pipes, and nothing happened
abbrev pub start : World
start = record { ends = fresh_ends; past = [] }

-- an event: a send, or a delivery of the first packet of a direction's pipe
pub data Event : Type 0 where
  send : Send → Event
  deliver : Direction → Delivery → Event

-- what is noted of a send
abbrev pub entry_of : Send → Ends → Outcome Written → Entry
entry_of call e (refused n) = refused_send (body_given call) e (after_send call e)
entry_of call e (done written) = sent (body_given call)

-- a delivery to the end that reads from a pipe; on an empty pipe nothing happens
abbrev pub deliver_from : Direction → Delivery → World → List PipePacket → World
deliver_from direction d w [] = w
deliver_from direction d w (packet ∷ later) =
    let answer = answer_of direction (receiver_of direction w.ends) d packet later in
    record {
      ends = after_answer direction later w.ends answer;
      past = delivered packet.bytes (lent d packet later) answer ∷ w.past;
    }

-- what an event does
abbrev pub happen : Event → World → World
happen (send call) w = record {
  ends = after_send call w.ends;
  past = entry_of call w.ends (outcome_of (sender_of (call_direction call) w.ends) call) ∷ w.past;
}
happen (deliver direction d) w = deliver_from direction d w (pipe_of direction w.ends)

-- what a list of events comes to
abbrev pub run : List Event → World → World
run [] w = w
run (event ∷ later) w = run later (happen event w)

-- the body bytes sent: those given to body calls not refused, in order
abbrev pub sent_bytes : List Entry → List ℕ
sent_bytes [] = []
sent_bytes (sent bytes ∷ before) = sent_bytes before ++ bytes
sent_bytes (refused_send bytes e f ∷ before) = sent_bytes before
sent_bytes (delivered packet lent answer ∷ before) = sent_bytes before

-- the bytes that an accepted packet hands out as a body, a part of the bytes lent
abbrev pub body_part : List ℕ → Packet → List ℕ
body_part lent Packet.CPing = []
body_part lent Packet.CPong = []
body_part lent (Packet.Forward f) = []
body_part lent (Packet.Body p) = part lent p.start.0 p.len
body_part lent (Packet.GetBody asked) = []
body_part lent (Packet.SendHeaders h) = []
body_part lent (Packet.BodyChunk p) = []
body_part lent (Packet.End reuse) = []

abbrev pub body_handed : List ℕ → read.Meaning → List ℕ
body_handed lent (read.needs n) = []
body_handed lent (read.refused n) = []
body_handed lent (read.accepted packet taken after) = body_part lent packet

-- the body bytes received: those that deliveries handed out as a body, in order
abbrev pub received_bytes : List Entry → List ℕ
received_bytes [] = []
received_bytes (sent bytes ∷ before) = received_bytes before
received_bytes (refused_send bytes e f ∷ before) = received_bytes before
received_bytes (delivered packet lent answer ∷ before) = received_bytes before ++ body_handed lent answer

-- the body bytes in a pipe: those that the packets of body calls hold, behind the six bytes that come before a body
abbrev pub held_in : PipePacket → List ℕ
held_in packet = pick packet.of_body (drop body_start packet.bytes) []

abbrev pub body_bytes_in : List PipePacket → List ℕ
body_bytes_in [] = []
body_bytes_in (packet ∷ later) = held_in packet ++ body_bytes_in later

-- a request: what it declared, and the body bytes that it got
pub record RequestBody : Type 0 where
  pub declared : ℕ
  pub got : List ℕ

-- bytes that come to the newest request
abbrev pub gets : List ℕ → List RequestBody → List RequestBody
gets bytes [] = []
gets bytes (request ∷ before) = record { declared = request.declared; got = request.got ++ bytes } ∷ before

-- an accepted packet: a Forward is a new request, a body comes to the newest one
abbrev pub count_packet : List ℕ → Packet → List RequestBody → List RequestBody
count_packet lent Packet.CPing before = before
count_packet lent Packet.CPong before = before
count_packet lent (Packet.Forward f) before = record { declared = f.declared.0; got = [] } ∷ before
count_packet lent (Packet.Body p) before = gets (part lent p.start.0 p.len) before
count_packet lent (Packet.GetBody asked) before = before
count_packet lent (Packet.SendHeaders h) before = before
count_packet lent (Packet.BodyChunk p) before = before
count_packet lent (Packet.End reuse) before = before

abbrev pub count_answer : List ℕ → read.Meaning → List RequestBody → List RequestBody
count_answer lent (read.needs n) before = before
count_answer lent (read.refused n) before = before
count_answer lent (read.accepted packet taken after) before = count_packet lent packet before

-- the requests, newest first: each Forward accepted in a delivery, with the body bytes received after it and before the next
abbrev pub requests : List Entry → List RequestBody
requests [] = []
requests (sent bytes ∷ before) = requests before
requests (refused_send bytes e f ∷ before) = requests before
requests (delivered packet lent answer ∷ before) = count_answer lent answer (requests before)
