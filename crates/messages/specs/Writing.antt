-- Writing a message by the calls of the library: one call; or the fixed fields, each header, each attribute, and closing.
-- Document 01, 'Building'. Each step is what the promise of its call says: the answer, and the buffer afterwards.
-- Assumes nothing.
use Rattle.std.specs.Prelude.{false, List, [], ◌∷◌, ℕ, length}
use Rattle.connection.specs.declared.Connection.{Connection}
use Rattle.building.specs.Call.{Call, Outcome, refused, done, outcome, buffer_after}
use Rattle.building_record.specs.declared.Building.{Building}
use Rattle.pieces.specs.Fixed.{forward_call, send_headers_call}
use Rattle.pieces.specs.Header.{coded_call, spelled_call}
use Rattle.pieces.specs.Attribute.{text_call, integer_call, pair_call}
use Rattle.building.specs.Sent.{Written}
use Rattle.writer.specs.Sending.{cping_call, cpong_call, body_call, chunk_call, get_call, end_call}
use Rattle.closing.specs.Closing.{close_outcome, close_buffer}
use Rattle.messages.specs.Message.{Text, MessageName, coded, spelled, Header, Value, string, integer, pair, Attribute, Request, Response, Message, cping, cpong, forward, body, get_body, send_headers, body_chunk, end, is_null, content_of}
use Rattle.messages.specs.Bytes.{numbers_of, nulls_of}

-- what pieces come to: refused with a number, or a building record and the buffer in which its packet stands so far
pub data Built : Type 0 where
  stopped : ℕ → Built
  built : Building → List ℕ → Built

-- by a piece's outcome, and the buffer after it
abbrev pub built_by : List ℕ → Outcome Building → Built
built_by buffer (refused n) = stopped n
built_by buffer (done r) = built r buffer

-- a piece on a buffer
abbrev pub piece : Call Building → List ℕ → Built
piece call buffer = built_by (buffer_after call buffer) (outcome call (length buffer))

-- a header's call, by its name
abbrev pub header_call_by : Building → List ℕ → Text → MessageName → Call Building
header_call_by r buffer value (coded n) = coded_call r buffer n (is_null value) (content_of value)
header_call_by r buffer value (spelled name) = spelled_call r buffer false name (is_null value) (content_of value)

-- a header added to what was built
abbrev pub add_header : Built → Header → Built
add_header (stopped n) header = stopped n
add_header (built r buffer) header = piece (header_call_by r buffer header.value header.name) buffer

-- and each of several
abbrev pub add_headers : Built → List Header → Built
add_headers before [] = before
add_headers before (header ∷ later) = add_headers (add_header before header) later

-- an attribute's call, by its value
abbrev pub attribute_call_by : Building → List ℕ → ℕ → Value → Call Building
attribute_call_by r buffer code (string value) = text_call r buffer code (is_null value) (content_of value)
attribute_call_by r buffer code (integer n) = integer_call r buffer code n
attribute_call_by r buffer code (pair name value) = pair_call r buffer code false name (is_null value) (content_of value)

-- an attribute added to what was built
abbrev pub add_attribute : Built → Attribute → Built
add_attribute (stopped n) attribute = stopped n
add_attribute (built r buffer) attribute = piece (attribute_call_by r buffer attribute.code attribute.value) buffer

-- and each of several
abbrev pub add_attributes : Built → List Attribute → Built
add_attributes before [] = before
add_attributes before (attribute ∷ later) = add_attributes (add_attribute before attribute) later

-- what writing a message comes to: refused with a number, or the packet's length and the connection after it, and the buffer
pub data Wrote : Type 0 where
  unwritten : ℕ → Wrote
  wrote : Written → List ℕ → Wrote

-- by the outcome of the call that sends, and the buffer after it
abbrev pub wrote_by : List ℕ → Outcome Written → Wrote
wrote_by buffer (refused n) = unwritten n
wrote_by buffer (done written) = wrote written buffer

-- one call on a buffer
abbrev pub one_call : Call Written → List ℕ → Wrote
one_call call buffer = wrote_by (buffer_after call buffer) (outcome call (length buffer))

-- closing what was built
abbrev pub close_built : Connection → Built → Wrote
close_built c (stopped n) = unwritten n
close_built c (built r buffer) = wrote_by (close_buffer c r buffer) (close_outcome c r buffer)

-- a packet in pieces: the fixed fields, each header, each attribute, closing
abbrev pub in_pieces : Connection → Call Building → List Header → List Attribute → List ℕ → Wrote
in_pieces c begin headers attributes buffer = close_built c (add_attributes (add_headers (piece begin buffer) headers) attributes)

-- the call for a Forward's fixed fields
abbrev pub begin_request : Request → Call Building
begin_request request =
    forward_call (numbers_of request) (nulls_of request) (content_of request.protocol) (content_of request.uri) (content_of request.addr)
    (content_of request.host) (content_of request.name)

-- and for a Send Headers'
abbrev pub begin_response : Response → Call Building
begin_response response = send_headers_call response.status (is_null response.message) (content_of response.message)

-- a message written into a buffer
unfoldable pub writing : Connection → Message → List ℕ → Wrote
writing c cping buffer = one_call (cping_call c) buffer
writing c cpong buffer = one_call (cpong_call c) buffer
writing c (forward request) buffer = in_pieces c (begin_request request) request.headers request.attributes buffer
writing c (body bytes) buffer = one_call (body_call c bytes) buffer
writing c (get_body asked) buffer = one_call (get_call c asked) buffer
writing c (send_headers response) buffer = in_pieces c (begin_response response) response.headers [] buffer
writing c (body_chunk bytes) buffer = one_call (chunk_call c bytes) buffer
writing c (end reuse) buffer = one_call (end_call c reuse) buffer
