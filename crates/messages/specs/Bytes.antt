-- The bytes of a message: the packet that document 01 gives it.
-- Document 01, 'Bytes and numbers', 'Server to container' and 'Container to server'.
-- Assumes nothing.
use Rattle.std.specs.Prelude.{false, List, [], ◌∷◌, ◌++◌, ℕ, length}
use Rattle.wire.specs.Bytes.{integer_bytes}
use Rattle.wire.specs.Packet.{packet}
use Rattle.packet.specs.declared.Direction.{Direction}
use Rattle.connection.specs.Cycle.{direction_of}
use Rattle.connection.specs.declared.Move.{Move}
use Rattle.payload.specs.Code.{code_of}
use Rattle.building.specs.Field.{Field, fields_bytes}
use Rattle.building_record.specs.declared.BuildingKind.{BuildingKind}
use Rattle.pieces.specs.declared.forward.Numbers.{Numbers}
use Rattle.pieces.specs.declared.forward.Nulls.{Nulls}
use Rattle.building_record.specs.Record.{built_kind}
use Rattle.pieces.specs.Fixed.{forward_fields, send_headers_fields}
use Rattle.pieces.specs.Header.{coded_fields, spelled_fields}
use Rattle.pieces.specs.Attribute.{text_fields, integer_fields, pair_fields}
use Rattle.writer.specs.Sending.{bare_payload, body_payload, chunk_payload, get_payload, end_payload}
use Rattle.closing.specs.Closing.{last_bytes}
use Rattle.messages.specs.Message.{Text, MessageName, coded, spelled, Header, Value, string, integer, pair, Attribute, Request, Response, Message, cping, cpong, forward, body, get_body, send_headers, body_chunk, end, message_direction, is_null, content_of}

-- a header's fields: its name and its value
abbrev pub fields_by : Direction → Text → MessageName → List Field
fields_by direction value (coded n) = coded_fields direction n (is_null value) (content_of value)
fields_by direction value (spelled name) = spelled_fields direction false name (is_null value) (content_of value)

abbrev pub header_fields : Direction → Header → List Field
header_fields direction header = fields_by direction header.value header.name

-- the bytes of headers, one behind the other
abbrev pub headers_bytes : Direction → List Header → List ℕ
headers_bytes direction [] = []
headers_bytes direction (header ∷ later) = fields_bytes (header_fields direction header) ++ headers_bytes direction later

-- an attribute's fields: its code and its value
abbrev pub value_fields : ℕ → Value → List Field
value_fields code (string value) = text_fields code (is_null value) (content_of value)
value_fields code (integer n) = integer_fields code n
value_fields code (pair name value) = pair_fields code false name (is_null value) (content_of value)

abbrev pub attribute_fields : Attribute → List Field
attribute_fields attribute = value_fields attribute.code attribute.value

-- the bytes of attributes, one behind the other
abbrev pub attributes_bytes : List Attribute → List ℕ
attributes_bytes [] = []
attributes_bytes (attribute ∷ later) = fields_bytes (attribute_fields attribute) ++ attributes_bytes later

-- a Forward's fixed fields, its numbers and nulls as its call takes them
abbrev pub numbers_of : Request → Numbers
numbers_of request = record { method = request.method; server_port = request.port; is_ssl = request.ssl }

abbrev pub nulls_of : Request → Nulls
nulls_of request = record {
  protocol = is_null request.protocol;
  req_uri = is_null request.uri;
  remote_addr = is_null request.addr;
  remote_host = is_null request.host;
  server_name = is_null request.name;
}

abbrev pub request_fields : Request → List Field
request_fields request =
    forward_fields (numbers_of request) (nulls_of request) (content_of request.protocol) (content_of request.uri) (content_of request.addr)
    (content_of request.host) (content_of request.name)

-- a Send Headers' fixed fields
abbrev pub response_fields : Response → List Field
response_fields response = send_headers_fields response.status (is_null response.message) (content_of response.message)

-- the payload of a packet in pieces: its code, its fixed fields, how many headers, the headers, the attributes, and FF in a Forward
abbrev pub pieces_payload : BuildingKind → List Field → List Header → List Attribute → List ℕ
pieces_payload kind own headers attributes =
    code_of (built_kind kind)
    ∷ (fields_bytes own
    ++ (integer_bytes (length headers)
    ++ (headers_bytes (direction_of (built_kind kind)) headers ++ (attributes_bytes attributes ++ last_bytes kind))))

-- the payload of a message
abbrev pub payload_of : Message → List ℕ
payload_of cping = bare_payload Move.CPing
payload_of cpong = bare_payload Move.CPong
payload_of (forward request) = pieces_payload BuildingKind.Forward (request_fields request) request.headers request.attributes
payload_of (body bytes) = body_payload bytes
payload_of (get_body asked) = get_payload asked
payload_of (send_headers response) = pieces_payload BuildingKind.SendHeaders (response_fields response) response.headers []
payload_of (body_chunk bytes) = chunk_payload bytes
payload_of (end reuse) = end_payload reuse

-- the packet of a message
unfoldable pub message_bytes : Message → List ℕ
message_bytes m = packet (message_direction m) (payload_of m)
