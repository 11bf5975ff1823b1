-- What there is where closing is done: what was found before, and what stands in the buffer then.
-- Document 01, 'Building': closing.
-- Assumes nothing.
use Rattle.std.specs.Prelude.{◌≡◌, true, List, ℕ, ◌≤◌, length}
use Rattle.wire.specs.Bytes.{part}
use Rattle.connection.specs.Connection.{max_packet}
use Rattle.connection.specs.Cycle.{in_state}
use Rattle.connection.specs.declared.Connection.{Connection}
use Rattle.places.specs.Entries.{max_places}
use Rattle.packet.specs.declared.Packet.{Packet}
use Rattle.payload.specs.Kinds.{packet_kind}
use Rattle.building_record.specs.declared.Building.{Building}
use Rattle.building_record.specs.Record.{built_kind, direction_in, is_possible}
use Rattle.building.specs.Sent.{Written}
use Rattle.reader.specs.Meaning as read
use Rattle.reader.specs.Reading.{reading}
use Rattle.closing.specs.Closing.{closed_length, closed, closed_packet, judgement, close_buffer}

-- where nothing is found before the packet is judged
pub record Ready (c : Connection) (r : Building) (buffer : List ℕ) : Type 0 where
  -- the record is possible
  pub possible : is_possible r buffer ≡ true
  -- the state allows the packet
  pub allowed : in_state c (built_kind r.kind) ≡ true
  -- all of it fits a packet
  pub within : closed_length r ≤ max_packet
  -- and the buffer
  pub inside : closed_length r ≤ length buffer

-- where closing is done
pub record CloseDone (c : Connection) (r : Building) (buffer : List ℕ) (w : Written) : Type 0 where
  -- nothing was found before
  pub ready : Ready c r buffer
  -- the packet's length is answered
  pub size_is : w.size ≡ closed_length r
  -- the buffer is the one with the packet closed
  pub buffer_is : close_buffer c r buffer ≡ closed r buffer
  -- the packet stands there from the first byte on
  pub packet_is : part (close_buffer c r buffer) 0 w.size ≡ closed_packet r buffer
  -- and has its length
  pub packet_size : length (closed_packet r buffer) ≡ closed_length r
  -- the end to which it goes reads it as this
  pub packet : Packet
  -- it is the packet that the record says
  pub kind_is : packet_kind packet ≡ built_kind r.kind
  -- this end accepts it, all of it, and has the connection that is answered after it
  pub judged_is : judgement c r (closed_packet r buffer) ≡ read.accepted packet (closed_length r) w.connection
  -- and so it reads it with every table that is long enough for all packets
  pub reads : (room : ℕ) → max_places ≤ room
      → reading (direction_in r) c (closed_packet r buffer) room ≡ read.accepted packet (closed_length r) w.connection
