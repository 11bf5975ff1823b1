-- What reading a packet's kind, its fixed fields, its lists and the packet answers, in document 01's terms: refused with a number, or what was
-- read. Beside each is what the code's answer says of it.
-- Assumes nothing.
use Rattle.std.specs.Prelude.{ℕ, Result, Ok, Err, Option}
use Rattle.wire.specs.Refusal.{number_of}
use Rattle.wire.specs.declared.refusal.Refusal.{Refusal}
use Rattle.wire.specs.declared.read.Field.{Field as FieldFound}
use Rattle.headers.specs.Read.{HeadersRead}
use Rattle.connection.specs.declared.Kind.{Kind as KindOfPacket}
use Rattle.packet.specs.declared.Packet.{Packet as PacketFound}
use Rattle.packet.specs.declared.BodyLeft.{BodyLeft}
use Rattle.payload.specs.declared.field.Placed.{Placed}
use Rattle.payload.specs.declared.lists.ReadLists.{ReadLists}

-- what kind a packet is: refused, or the kind
pub data KindRead : Type 0 where
  Refused : ℕ → KindRead
  Kind : KindOfPacket → KindRead

-- what a packet is: refused, or the packet
pub data PacketRead : Type 0 where
  Refused : ℕ → PacketRead
  Packet : PacketFound → PacketRead

-- a field: refused, or its place, its number (0 for a string) and the place after it
pub data FieldRead : Type 0 where
  Refused : ℕ → FieldRead
  Field : ℕ → ℕ → ℕ → FieldRead

-- what follows a Forward's fixed fields: refused, or the declared length of the body and how many attributes there are
pub data ListsRead : Type 0 where
  Refused : ℕ → ListsRead
  Lists : BodyLeft → ℕ → ListsRead

-- what the answer of a call that reads a kind says
abbrev pub kind_meaning : Result KindOfPacket Refusal → KindRead
kind_meaning (Err refusal) = KindRead.Refused (number_of refusal)
kind_meaning (Ok kind) = KindRead.Kind kind

-- a packet
abbrev pub packet_meaning : Result PacketFound Refusal → PacketRead
packet_meaning (Err refusal) = PacketRead.Refused (number_of refusal)
packet_meaning (Ok packet) = PacketRead.Packet packet

-- a field that was read
abbrev pub placed : Placed → FieldRead
placed field = FieldRead.Field field.at field.value field.next

-- a field, by the number that what it is refused with tells
abbrev pub field_by : {E : Type 0} → (E → ℕ) → Result Placed E → FieldRead
field_by number (Err fault) = FieldRead.Refused (number fault)
field_by number (Ok field) = placed field

-- a field
abbrev pub field_meaning : Result Placed Refusal → FieldRead
field_meaning field = field_by number_of field

-- the headers, in the same way
abbrev pub headers_by : {E : Type 0} → (E → ℕ) → Result (FieldFound (Option ℕ)) E → HeadersRead
headers_by number (Err fault) = HeadersRead.Refused (number fault)
headers_by number (Ok field) = HeadersRead.Headers field.value field.next

-- and the lists
abbrev pub lists_by : {E : Type 0} → (E → ℕ) → Result ReadLists E → ListsRead
lists_by number (Err fault) = ListsRead.Refused (number fault)
lists_by number (Ok lists) = ListsRead.Lists lists.declared lists.attributes

-- the lists
abbrev pub lists_meaning : Result ReadLists Refusal → ListsRead
lists_meaning lists = lists_by number_of lists
