-- What a packet that was read hands out, field by field: each number is what is read at its own place, each string is read where it is told
-- to stand, and every field begins where the one before it ends, from behind the code to the packet's last byte.
-- Document 01, 'Server to container', 'Container to server', and 'Refusal numbers': what acceptance tells, and the table of places.
-- Assumes nothing.
use Rattle.std.specs.Prelude.{◌≡◌, Bool, true, false, List, [], ◌∷◌, ◌++◌, ℕ, ◌+◌, ◌≤◌, eqb, length, get_or, Option, None}
use Rattle.wire.specs.Pick.{pick, between}
use Rattle.wire.specs.Bytes.{part}
use Rattle.wire.specs.Field.{byte_at, integer_at, boolean_at, string_at, is_optional}
use Rattle.wire.specs.Packet.{payload_place, after_code_place}
use Rattle.packet.specs.declared.Direction.{Direction}
use Rattle.wire.specs.declared.StringField.{StringField}
use Rattle.wire.specs.Read.{NumberRead, BooleanRead, StringRead}
use Rattle.names.specs.Attribute.{attribute_kind}
use Rattle.packet.specs.declared.AttributeKind.{AttributeKind}
use Rattle.places.specs.Entries.{max_headers, max_attributes}
use Rattle.headers.specs.Length.{declared_length}
use Rattle.headers.specs.Headers.{name_at, declares, declared_after}
use Rattle.headers.specs.Read.{LengthRead, NameRead}
use Rattle.attributes.specs.Attributes.{last_mark}
use Rattle.packet.specs.declared.Forward.{Forward}
use Rattle.packet.specs.declared.SendHeaders.{SendHeaders}
use Rattle.packet.specs.declared.Part.{Part}
use Rattle.packet.specs.declared.Packet.{Packet}
use Rattle.payload.specs.Forward.{first_method, last_method}
use Rattle.payload.specs.SendHeaders.{least_status, greatest_status}

-- a string that is read, by where it ends
abbrev pub StringEnds : ℕ → StringRead → Type 0
StringEnds end (StringRead.Refused n) = ⊥
StringEnds end (StringRead.Null next) = next ≡ end
StringEnds end (StringRead.Text start len next) = next ≡ end

-- an integer that is read, by where it ends
abbrev pub NumberEnds : ℕ → NumberRead → Type 0
NumberEnds end (NumberRead.Refused n) = ⊥
NumberEnds end (NumberRead.Number value next) = next ≡ end

-- a header's name that is read, by where it ends
abbrev pub NameEnds : ℕ → NameRead → Type 0
NameEnds end (NameRead.Refused n) = ⊥
NameEnds end (NameRead.Code code next) = next ≡ end
NameEnds end (NameRead.Spelled start len next) = next ≡ end

-- a string of a field is read at a place, up to another
abbrev pub StringThere : List ℕ → StringField → ℕ → ℕ → Type 0
StringThere s field at end = StringEnds end (string_at s at (is_optional field))

-- whether a name that is read is the one whose value declares the length of the body
abbrev pub declares_read : Direction → NameRead → Bool
declares_read d (NameRead.Refused n) = false
declares_read d (NameRead.Code code next) = declares d code
declares_read d (NameRead.Spelled start len next) = false

-- whether a string that is read is null
abbrev pub read_null : StringRead → Bool
read_null (StringRead.Refused n) = false
read_null (StringRead.Null next) = true
read_null (StringRead.Text start len next) = false

-- the bytes of a string that is read
abbrev pub read_bytes : List ℕ → StringRead → List ℕ
read_bytes s (StringRead.Refused n) = []
read_bytes s (StringRead.Null next) = []
read_bytes s (StringRead.Text start len next) = part s start len

-- after a header with this name and this value that much is declared
abbrev pub DeclaresThen : Direction → List ℕ → Option ℕ → NameRead → StringRead → Option ℕ → Type 0
DeclaresThen d s before name value after = declared_after (declares_read d name) before (read_null value) (read_bytes s value) ≡ LengthRead.Now after

-- headers are read from a place to another, with these places for their names and values: the name at the first, the value where the name
-- ends, the next header where the value ends; and what is declared before them becomes, header by header, what is declared after them
abbrev pub HeadersHanded : Direction → List ℕ → ℕ → Option ℕ → List ℕ → ℕ → Option ℕ → Type 0
HeadersHanded d s at before [] end after = (at ≡ end) × (before ≡ after)
HeadersHanded d s at before (p ∷ []) end after = ⊥
HeadersHanded d s at before (p ∷ q ∷ rest) end after =
    (next : ℕ) × (p ≡ at) × NameEnds q (name_at d s p) × StringThere s StringField.HeaderValue q next × (declared : Option ℕ)
    × DeclaresThen d s before (name_at d s p) (string_at s q (is_optional StringField.HeaderValue)) declared × HeadersHanded d s next declared rest end after

-- a value of a kind is read behind a code: from a place on, with the value at another, up to its end. A pair has its name in front
abbrev pub ValueThere : List ℕ → AttributeKind → ℕ → ℕ → ℕ → Type 0
ValueThere s AttributeKind.NotServed from value end = ⊥
ValueThere s AttributeKind.Text from value end = (value ≡ from) × StringThere s StringField.AttributeValue value end
ValueThere s AttributeKind.Integer from value end = (value ≡ from) × NumberEnds end (integer_at s value)
ValueThere s AttributeKind.Pair from value end =
    StringThere s StringField.AttributeName from value × StringThere s StringField.AttributeValue value end

-- attributes are read from a place to another, FF the last byte before it, with these places for their codes and values
abbrev pub AttributesHanded : List ℕ → ℕ → List ℕ → ℕ → Type 0
AttributesHanded s at [] end = (get_or s at 0 ≡ last_mark) × (at + 1 ≡ end)
AttributesHanded s at (p ∷ []) end = ⊥
AttributesHanded s at (p ∷ q ∷ rest) end =
    (next : ℕ) × (p ≡ at) × ValueThere s (attribute_kind (get_or s p 0)) (p + 1) q next × AttributesHanded s next rest end

-- the lists of a Forward from a place on: so many headers, which declare this, then so many attributes, which end with the packet; two
-- places for each
pub record ListsHanded (s : List ℕ) (at headers attributes declared : ℕ) (places : List ℕ) : Type 0 where
  pub of_headers : List ℕ
  pub of_attributes : List ℕ
  pub are : places ≡ of_headers ++ of_attributes
  pub headers_many : length of_headers ≡ headers + headers
  pub attributes_many : length of_attributes ≡ attributes + attributes
  pub attributes_most : attributes ≤ max_attributes
  pub middle : ℕ
  pub of_length : Option ℕ
  pub headers_there : HeadersHanded Direction.ToContainer s at None of_headers middle of_length
  pub declared_is : declared ≡ declared_length of_length
  pub attributes_there : AttributesHanded s middle of_attributes (length s)

-- a Forward: the method is the byte behind the code, in its range; the five strings stand one behind the other; then the port, is_ssl and the
-- count of headers, each what is read at its place; then its lists
pub record ForwardHanded (s : List ℕ) (f : Forward) (places : List ℕ) : Type 0 where
  pub method_read : byte_at s after_code_place ≡ NumberRead.Number f.method f.protocol.0
  pub method_range : between first_method last_method f.method ≡ true
  pub protocol_there : StringThere s StringField.Protocol f.protocol.0 f.req_uri.0
  pub uri_there : StringThere s StringField.ReqUri f.req_uri.0 f.remote_addr.0
  pub addr_there : StringThere s StringField.RemoteAddr f.remote_addr.0 f.remote_host.0
  pub host_there : StringThere s StringField.RemoteHost f.remote_host.0 f.server_name.0
  pub port_place : ℕ
  pub name_there : StringThere s StringField.ServerName f.server_name.0 port_place
  pub ssl_place : ℕ
  pub port_read : integer_at s port_place ≡ NumberRead.Number f.server_port ssl_place
  pub count_place : ℕ
  pub ssl_read : boolean_at s ssl_place ≡ BooleanRead.Boolean f.is_ssl count_place
  pub lists_place : ℕ
  pub count_read : integer_at s count_place ≡ NumberRead.Number f.headers lists_place
  pub headers_most : f.headers ≤ max_headers
  pub lists : ListsHanded s lists_place f.headers f.attributes f.declared.0 places

-- Send Headers: the status is the integer behind the code, in its range; the message, the count of headers and so many headers, which declare
-- nothing and end with the packet
pub record SendHeadersHanded (s : List ℕ) (h : SendHeaders) (places : List ℕ) : Type 0 where
  pub status_read : integer_at s after_code_place ≡ NumberRead.Number h.status h.message.0
  pub status_range : between least_status greatest_status h.status ≡ true
  pub count_place : ℕ
  pub message_there : StringThere s StringField.Message h.message.0 count_place
  pub headers_place : ℕ
  pub count_read : integer_at s count_place ≡ NumberRead.Number h.headers headers_place
  pub headers_most : h.headers ≤ max_headers
  pub headers_many : length places ≡ h.headers + h.headers
  pub headers_there : HeadersHanded Direction.ToServer s headers_place None places (length s) None

-- the size that a body packet tells: none where it has no payload, else the payload's first integer
abbrev pub body_size_read : List ℕ → NumberRead
body_size_read s = pick (eqb (length s) payload_place) (NumberRead.Number 0 payload_place) (integer_at s payload_place)

-- a body packet: its size is what is read, and so many bytes stand behind it, the rest of the packet; they are the part that is handed out,
-- which is told at the payload's place where there are none
pub record BodyHanded (s : List ℕ) (p : Part) (places : List ℕ) : Type 0 where
  pub behind : ℕ
  pub size_read : body_size_read s ≡ NumberRead.Number p.len behind
  pub rest : behind + p.len ≡ length s
  pub start_is : p.start.0 ≡ pick (eqb p.len 0) payload_place behind
  pub no_places : places ≡ []

-- a chunk: its length is the integer behind the code, and so many bytes stand behind it, all but the packet's last byte, which is zero
pub record ChunkHanded (s : List ℕ) (p : Part) (places : List ℕ) : Type 0 where
  pub size_read : integer_at s after_code_place ≡ NumberRead.Number p.len p.start.0
  pub closed : get_or s (p.start.0 + p.len) 0 ≡ 0
  pub rest : p.start.0 + p.len + 1 ≡ length s
  pub no_places : places ≡ []

-- a Get Body Chunk: what is asked for is the integer behind the code, with which the packet ends
pub record GetHanded (s : List ℕ) (asked : ℕ) (places : List ℕ) : Type 0 where
  pub asked_read : integer_at s after_code_place ≡ NumberRead.Number asked (length s)
  pub no_places : places ≡ []

-- an End: whether the connection is used again is the boolean behind the code, with which the packet ends
pub record EndHanded (s : List ℕ) (reuse : Bool) (places : List ℕ) : Type 0 where
  pub reuse_read : boolean_at s after_code_place ≡ BooleanRead.Boolean reuse (length s)
  pub no_places : places ≡ []

-- a CPing or a CPong: nothing stands behind the code, and nothing is handed out
pub record BareHanded (s : List ℕ) (places : List ℕ) : Type 0 where
  pub ends : length s ≡ after_code_place
  pub no_places : places ≡ []

-- a packet of any kind, with its places for the table
abbrev pub PacketHanded : List ℕ → Packet → List ℕ → Type 0
PacketHanded s Packet.CPing places = BareHanded s places
PacketHanded s Packet.CPong places = BareHanded s places
PacketHanded s (Packet.Forward f) places = ForwardHanded s f places
PacketHanded s (Packet.Body p) places = BodyHanded s p places
PacketHanded s (Packet.GetBody asked) places = GetHanded s asked places
PacketHanded s (Packet.SendHeaders h) places = SendHeadersHanded s h places
PacketHanded s (Packet.BodyChunk p) places = ChunkHanded s p places
PacketHanded s (Packet.End reuse) places = EndHanded s reuse places
