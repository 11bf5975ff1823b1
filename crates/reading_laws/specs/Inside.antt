-- What reading answers lies inside the packet, and there is at most so much of it.
-- Document 01, 'Server to container': the most headers and attributes; 'Refusal numbers': the table of places.
-- Assumes nothing.
use Rattle.std.specs.Prelude.{◌≡◌, true, List, ℕ, ◌+◌, ◌≤◌, ◌<◌, ltb}
use Rattle.wire.specs.Pick.{all}
use Rattle.packet.specs.declared.Packet.{Packet}
use Rattle.places.specs.Entries.{max_headers, max_attributes, max_places}
use Rattle.reader.specs.Meaning.{headers_in, attributes_in, places_needed}

-- every place is before the end of a packet of `size` bytes
abbrev pub AllBelow : ℕ → List ℕ → Type 0
AllBelow size places = all (λ (p : ℕ). ltb p size) places ≡ true

-- each fixed string's place and the part are inside a packet of `size` bytes
abbrev pub FieldsInside : ℕ → Packet → Type 0
FieldsInside size Packet.CPing = Unit
FieldsInside size Packet.CPong = Unit
FieldsInside size (Packet.Forward f) =
    (f.protocol.0 < size) × (f.req_uri.0 < size) × (f.remote_addr.0 < size) × (f.remote_host.0 < size) × (f.server_name.0 < size)
FieldsInside size (Packet.Body p) = p.start.0 + p.len ≤ size
FieldsInside size (Packet.GetBody asked) = Unit
FieldsInside size (Packet.SendHeaders h) = h.message.0 < size
FieldsInside size (Packet.BodyChunk p) = p.start.0 + p.len ≤ size
FieldsInside size (Packet.End reuse) = Unit

-- what is handed out of a packet of `size` bytes: its fields are inside it; headers, attributes and places are not too many
pub record PacketInside (size : ℕ) (packet : Packet) : Type 0 where
  pub fields_in : FieldsInside size packet
  pub headers_most : headers_in packet ≤ max_headers
  pub attributes_most : attributes_in packet ≤ max_attributes
  pub places_most : places_needed packet ≤ max_places
