-- Closing a packet that was built in pieces: the count of headers, the length and, in a Forward, FF are set, and what then stands there is
-- judged as the end to which it goes would judge it.
-- Document 01, 'Building': closing.
-- Assumes nothing.
use Rattle.std.specs.Prelude.{List, [], ◌∷◌, ℕ, ◌+◌, ◌-◌, eqb, length}
use Rattle.wire.specs.Pick.{pick}
use Rattle.wire.specs.Refusal.{none, cut_short, not_now, record_wrong}
use Rattle.wire.specs.Bytes.{part, over, integer_bytes}
use Rattle.attributes.specs.Attributes.{last_mark}
use Rattle.connection.specs.Cycle.{in_state}
use Rattle.connection.specs.declared.Connection.{Connection}
use Rattle.building.specs.Fault.{unless, first_fault, fit_fault}
use Rattle.building.specs.Call.{Outcome, refused, done}
use Rattle.building_record.specs.declared.BuildingKind.{BuildingKind}
use Rattle.building_record.specs.declared.Building.{Building}
use Rattle.building_record.specs.Record.{built_kind, direction_in, is_possible}
use Rattle.building.specs.Sent.{Written}
use Rattle.reader.specs.Meaning as read
use Rattle.reader.specs.Reading.{parse, context_of, judging}
use Rattle.wire.specs.Packet.{payload_place, length_place}

-- what stands behind the last piece: FF in a Forward, nothing in a Send Headers
abbrev pub last_bytes : BuildingKind → List ℕ
last_bytes BuildingKind.Forward = last_mark ∷ []
last_bytes BuildingKind.SendHeaders = []

-- how long the packet is then
abbrev pub closed_length : Building → ℕ
closed_length r = r.next.0 + length (last_bytes r.kind)

-- what is looked for first: 16 for an impossible record, 13 for a packet that the state does not allow, then 2 and 15 for its length
unfoldable pub closing_fault : Connection → Building → List ℕ → ℕ
closing_fault c r buffer =
    first_fault
    (unless (is_possible r buffer) record_wrong
    ∷ unless (in_state c (built_kind r.kind)) not_now
    ∷ fit_fault (closed_length r) (length buffer)
    ∷ [])

-- the buffer with the count set to how many headers there are
abbrev pub with_count : Building → List ℕ → List ℕ
with_count r buffer = over buffer r.count.0 (integer_bytes r.headers)

-- and the length set to that of the payload
abbrev pub with_length : Building → List ℕ → List ℕ
with_length r buffer = over (with_count r buffer) length_place (integer_bytes (closed_length r - payload_place))

-- and the last bytes written: the packet is closed, and every other byte is as it was
unfoldable pub closed : Building → List ℕ → List ℕ
closed r buffer = over (with_length r buffer) r.next.0 (last_bytes r.kind)

-- the packet that would stand there
unfoldable pub closed_packet : Building → List ℕ → List ℕ
closed_packet r buffer = part (closed r buffer) 0 (closed_length r)

-- what reading would answer to these bytes at the end to which they go, with this connection and the table aside
unfoldable pub judgement : Connection → Building → List ℕ → read.Meaning
judgement c r packet = judging c (parse (context_of (direction_in r) c) packet)

-- what closing comes to by that: the judge's number, or written, with the packet's length and the connection after it. "needs" is never the
-- judge's answer, since the length that was set is the packet's (the law `closed_whole`); 3 stands for it
abbrev pub verdict : ℕ → read.Meaning → Outcome Written
verdict size (read.needs n) = refused cut_short
verdict size (read.refused n) = refused n
verdict size (read.accepted packet taken after) = done (record { size = size; connection = after })

-- what closing comes to
unfoldable pub close_outcome : Connection → Building → List ℕ → Outcome Written
close_outcome c r buffer =
    pick (eqb (closing_fault c r buffer) none)
    (verdict (closed_length r) (judgement c r (closed_packet r buffer)))
    (refused (closing_fault c r buffer))

-- the first where it is done, the second where it is refused
abbrev pub where_done : Outcome Written → List ℕ → List ℕ → List ℕ
where_done (refused n) these those = those
where_done (done written) these those = these

-- the buffer after closing: where it is done, with the packet closed; where it is refused, all as it was
unfoldable pub close_buffer : Connection → Building → List ℕ → List ℕ
close_buffer c r buffer = where_done (close_outcome c r buffer) (closed r buffer) buffer
