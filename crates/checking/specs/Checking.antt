-- The checker over a capture: its six figures, over the whole capture and on the way.
-- Document 02, A1.
-- Assumes nothing.
use Rattle.std.specs.Prelude.{Bool, List, ℕ, ◌+◌, ◌-◌, leb, ltb, eqb, length, take}
use Rattle.wire.specs.Pick.{pick, both}
use Rattle.wire.specs.Refusal.{none, unfinished_packet, capture_too_long}
use Rattle.packet.specs.declared.Packet.{Packet}
use Rattle.connection.specs.Connection.{fresh}
use Rattle.capture.specs.Course.{Seen, Course, course, total, one_each, size_of}
use Rattle.checking.specs.declared.Checking.{Checking}
use Rattle.checking.specs.declared.Checked.{Checked}

-- the most bytes of a capture: of a longer one only so many are judged
abbrev pub max_capture : ℕ
max_capture = 4294967295

-- the bytes of a capture that are judged
abbrev pub judged : List ℕ → List ℕ
judged s = take max_capture s

-- a request is a Forward
abbrev pub requests_in : Packet → ℕ
requests_in Packet.CPing = 0
requests_in Packet.CPong = 0
requests_in (Packet.Forward f) = 1
requests_in (Packet.Body p) = 0
requests_in (Packet.GetBody asked) = 0
requests_in (Packet.SendHeaders h) = 0
requests_in (Packet.BodyChunk p) = 0
requests_in (Packet.End reuse) = 0

-- body bytes are those of body packets, not of chunks
abbrev pub body_in : Packet → ℕ
body_in Packet.CPing = 0
body_in Packet.CPong = 0
body_in (Packet.Forward f) = 0
body_in (Packet.Body p) = p.len
body_in (Packet.GetBody asked) = 0
body_in (Packet.SendHeaders h) = 0
body_in (Packet.BodyChunk p) = 0
body_in (Packet.End reuse) = 0

-- the same figures of an accepted packet
abbrev pub requests_of : Seen → ℕ
requests_of packet = requests_in packet.packet

abbrev pub body_of : Seen → ℕ
body_of packet = body_in packet.packet

-- the refusal of a capture of `size` bytes whose judged packets end at a place with this refusal: their own; 18 where the capture is
-- too long; 0 where the packets are the whole of it; else the last one is unfinished, 17
unfoldable pub verdict : ℕ → ℕ → ℕ → ℕ
verdict refusal place size =
    pick (eqb refusal none)
    (pick (ltb max_capture size) capture_too_long (pick (eqb place size) none unfinished_packet))
    refusal

-- the place that is told: where the refused packet starts, or the end of what is judged
unfoldable pub verdict_place : ℕ → ℕ → ℕ → ℕ
verdict_place refusal place size = pick (both (eqb refusal none) (ltb max_capture size)) max_capture place

-- the checker's answer to a capture of `size` bytes, by the course of those that are judged
abbrev pub checked_by : Course → ℕ → Checked
checked_by k size = record {
  packets = total one_each k.seen;
  requests = total requests_of k.seen;
  body = total body_of k.seen;
  state = k.after.state;
  refusal = verdict k.refusal (total size_of k.seen) size;
  place = verdict_place k.refusal (total size_of k.seen) size;
}

-- the checker's answer to a capture
unfoldable pub checked : List ℕ → Checked
checked s = checked_by (course fresh (judged s)) (length s)

-- before the first byte
abbrev pub begun : Checking
begun = record { connection = fresh; packets = 0; requests = 0; body = 0; place = 0; refusal = none }

-- figures that can be: no packet is empty, and no body is longer than its packet
abbrev pub possible : Checking → Bool
possible k = both (both (leb k.packets k.place) (leb k.requests k.place)) (leb k.body k.place)

-- whether more bytes are looked at: nothing was refused, and the figures can be
unfoldable pub goes_on : Checking → Bool
goes_on k = both (eqb k.refusal none) (possible k)

-- the figures after a course
abbrev pub advanced : Checking → Course → Checking
advanced k further = record {
  connection = further.after;
  packets = k.packets + total one_each further.seen;
  requests = k.requests + total requests_of further.seen;
  body = k.body + total body_of further.seen;
  place = k.place + total size_of further.seen;
  refusal = further.refusal;
}

-- after more bytes, of which no more are looked at than a capture may have
unfoldable pub gone_on : Checking → List ℕ → Checking
gone_on k s = pick (goes_on k) (advanced k (course k.connection (take (max_capture - k.place) s))) k

-- the answer at the end of a capture of `size` bytes
unfoldable pub finished : Checking → ℕ → Checked
finished k size = record {
  packets = k.packets;
  requests = k.requests;
  body = k.body;
  state = k.connection.state;
  refusal = verdict k.refusal k.place size;
  place = verdict_place k.refusal k.place size;
}
