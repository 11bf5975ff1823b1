-- What the laws of reading packets say: a field that is read lies inside the packet, and how many places a packet has.
-- Assumes nothing.
use Rattle.std.specs.Prelude.{◌≡◌, List, ℕ, ◌+◌, ◌≤◌, ◌<◌, length}
use Rattle.places.specs.Entries.{max_headers, max_attributes}
use Rattle.packet.specs.declared.Forward.{Forward}
use Rattle.packet.specs.declared.SendHeaders.{SendHeaders}
use Rattle.payload.specs.Read.{FieldRead}

-- a field that lies inside a packet of `size` bytes: its place is before the end, and the place after it is the end or before it
abbrev pub FieldInside : ℕ → FieldRead → Type 0
FieldInside size (FieldRead.Refused n) = Unit
FieldInside size (FieldRead.Field at value next) = (at < size) × (next ≤ size)

-- the places of a Forward: two for each header and for each attribute, no more than may come
pub record ForwardPlaces (forward : Forward) (places : List ℕ) : Type 0 where
  pub many : length places ≡ (forward.headers + forward.attributes) + (forward.headers + forward.attributes)
  pub headers_most : forward.headers ≤ max_headers
  pub attributes_most : forward.attributes ≤ max_attributes

-- the places of Send Headers: two for each header, no more than may come
pub record SendHeadersPlaces (h : SendHeaders) (places : List ℕ) : Type 0 where
  pub many : length places ≡ h.headers + h.headers
  pub headers_most : h.headers ≤ max_headers
