-- The building record of a Forward or a Send Headers, and which records are impossible.
-- Document 01, 'Building', and row 16 of 'Refusal numbers'.
-- Assumes nothing.
use Rattle.std.specs.Prelude.{◌≡◌, Bool, true, false, not, List, ℕ, ◌+◌, ◌-◌, ◌≤◌, leb, ltb, eqb, length, get_or}
use Rattle.wire.specs.Pick.{both}
use Rattle.wire.specs.Refusal.{too_many, record_wrong}
use Rattle.packet.specs.declared.Direction.{Direction}
use Rattle.places.specs.Entries.{max_headers}
use Rattle.connection.specs.Connection.{max_packet}
use Rattle.connection.specs.Cycle.{direction_of}
use Rattle.connection.specs.declared.Kind.{Kind}
use Rattle.payload.specs.Code.{code_of}
use Rattle.building.specs.Fault.{unless}
use Rattle.building_record.specs.declared.BuildingKind.{BuildingKind}
use Rattle.building_record.specs.declared.Building.{Building}
use Rattle.wire.specs.Packet.{payload_place, code_place}

-- which packet: its kind
abbrev pub built_kind : BuildingKind → Kind
built_kind BuildingKind.Forward = Kind.Forward
built_kind BuildingKind.SendHeaders = Kind.SendHeaders

-- a Forward is being built
abbrev pub is_forward : BuildingKind → Bool
is_forward BuildingKind.Forward = true
is_forward BuildingKind.SendHeaders = false

-- a record's fields as they stand: the packet, its next place, its count's place, how many headers, whether an attribute came
abbrev pub building_fields : BuildingKind → ℕ → ℕ → ℕ → Bool → Building
building_fields kind next count headers attributes =
    record { kind = kind; next = record { 0 = next }; count = record { 0 = count }; headers = headers; attributes = attributes }

-- how many bytes the count of headers takes
abbrev pub count_size : ℕ
count_size = 2

-- a possible record, over the buffer in which its packet stands: the next place is within 8192 and within the buffer; the count does
-- not begin before the payload, and ends no later than at the next place; at most 100 headers came; the packet's code is where it belongs
unfoldable pub is_possible : Building → List ℕ → Bool
is_possible r buffer =
    both (leb r.next.0 max_packet)
    (both (leb r.next.0 (length buffer))
    (both (leb payload_place r.count.0)
    (both (leb (r.count.0 + count_size) r.next.0)
    (both (leb r.headers max_headers) (eqb (get_or buffer code_place 0) (code_of (built_kind r.kind)))))))

-- the same as statements, one a clause
pub record Possible (r : Building) (buffer : List ℕ) : Type 0 where
  -- the next place is within what a packet may have
  pub within : r.next.0 ≤ max_packet
  -- and within the buffer
  pub inside : r.next.0 ≤ length buffer
  -- the count does not begin before the payload
  pub behind : payload_place ≤ r.count.0
  -- and ends no later than at the next place
  pub apart : r.count.0 + count_size ≤ r.next.0
  -- no more headers came than may
  pub few : r.headers ≤ max_headers
  -- the packet's code is where it belongs
  pub code : get_or buffer code_place 0 ≡ code_of (built_kind r.kind)

-- which way the packet goes that is being built
abbrev pub direction_in : Building → Direction
direction_in r = direction_of (built_kind r.kind)

-- a header that comes now: 16 for an impossible record, and behind an attribute
unfoldable pub header_now : Building → List ℕ → ℕ
header_now r buffer = unless (both (is_possible r buffer) (not r.attributes)) record_wrong

-- an attribute that comes now: 16 for an impossible record, and on a Send Headers
unfoldable pub attribute_now : Building → List ℕ → ℕ
attribute_now r buffer = unless (both (is_possible r buffer) (is_forward r.kind)) record_wrong

-- a header where a hundred came before is 11
unfoldable pub count_fault : Building → ℕ
count_fault r = unless (ltb r.headers max_headers) too_many

-- the first record of a packet, whose fixed fields end at a place: the count is their last two bytes
abbrev pub opened : BuildingKind → ℕ → Building
opened kind end = building_fields kind end (end - count_size) 0 false

-- the record behind a header that ends at a place
abbrev pub with_header : Building → ℕ → Building
with_header r end = building_fields r.kind end r.count.0 (r.headers + 1) r.attributes

-- the record behind an attribute that ends at a place
abbrev pub with_attribute : Building → ℕ → Building
with_attribute r end = building_fields r.kind end r.count.0 r.headers true
