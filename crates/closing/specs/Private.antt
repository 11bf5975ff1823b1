-- What the functions of closing promise to one another: what stood where closing writes, and how it is put back.
-- Assumes nothing.
use Rattle.std.specs.Prelude.{List, [], ◌∷◌, ℕ, ◌+◌, ◌≤◌, length}
use Rattle.wire.specs.Bytes.{over, integer_bytes}
use Rattle.connection.specs.Connection.{max_packet}
use Rattle.building_record.specs.declared.BuildingKind.{BuildingKind}
use Rattle.building_record.specs.declared.Building.{Building}
use Rattle.building_record.specs.Record.{count_size}
use Rattle.closing.specs.declared.Old.{Old}
use Rattle.closing.specs.Closing.{closed_length}
use Rattle.wire.specs.Packet.{payload_place, length_place}

-- what stands behind the last piece when a byte is put there: that byte in a Forward, nothing in a Send Headers
abbrev pub last_with : BuildingKind → ℕ → List ℕ
last_with BuildingKind.Forward byte = byte ∷ []
last_with BuildingKind.SendHeaders byte = []

-- a packet that can be closed in a buffer: the count stands between the packet's first four bytes and the place behind the last piece, and
-- all of the packet fits
pub record Closable (r : Building) (buffer : List ℕ) : Type 0 where
  pub behind : payload_place ≤ r.count.0
  pub apart : r.count.0 + count_size ≤ r.next.0
  pub within : closed_length r ≤ max_packet
  pub inside : closed_length r ≤ length buffer

-- the buffer with what stood there put back, the last that was set first
abbrev pub put_back : Building → Old → List ℕ → List ℕ
put_back r old buffer =
    over
    (over (over buffer r.next.0 (last_with r.kind old.last)) length_place (integer_bytes old.payload))
    r.count.0
    (integer_bytes old.count)
