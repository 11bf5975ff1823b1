-- The message that an accepted packet shows: what acceptance tells, and what the views show at the places that it hands out and that stand
-- in the table. Each part is what a call of `views` promises: `place_at`, `is_null_at`, `text_at`, `name_at`, `integer_at`,
-- `attribute_code_at`, `attribute_kind_at`, `attribute_name_at`, `bytes_of`.
-- Document 01, 'Refusal numbers': what acceptance tells, and the table of places.
-- Assumes nothing.
use Rattle.std.specs.Prelude.{List, [], ◌∷◌, ℕ, ◌+◌, ◌*◌, get_or}
use Rattle.wire.specs.Pick.{pick}
use Rattle.wire.specs.Bytes.{part}
use Rattle.names.specs.Attribute.{attribute_kind}
use Rattle.packet.specs.declared.AttributeKind.{AttributeKind}
use Rattle.packet.specs.declared.HeaderName.{HeaderName}
use Rattle.packet.specs.declared.Packet.{Packet}
use Rattle.reader.specs.Meaning.{headers_in, attributes_in}
use Rattle.views.specs.View.{integer_view, null_view, text_view, name_view}
use Rattle.messages.specs.Message.{Text, null, text, MessageName, coded, spelled, Header, Value, string, integer, pair, Attribute, Message, cping, cpong, forward, body, get_body, send_headers, body_chunk, end}

-- the string at a place
abbrev pub text_shown : List ℕ → ℕ → Text
text_shown s at = pick (null_view s at) null (text (text_view s at))

-- the header's name at a place
abbrev pub name_by : List ℕ → ℕ → HeaderName → MessageName
name_by s at (HeaderName.Code n) = coded n
name_by s at HeaderName.Spelled = spelled (text_view s at)

abbrev pub name_shown : List ℕ → ℕ → MessageName
name_shown s at = name_by s at (name_view s at)

-- the headers at these places, two for each
abbrev pub headers_shown : List ℕ → List ℕ → List Header
headers_shown s [] = []
headers_shown s (name ∷ []) = []
headers_shown s (name ∷ value ∷ later) = record { name = name_shown s name; value = text_shown s value } ∷ headers_shown s later

-- the value of an attribute, by the kind of value that its code has; the name of a pair is behind the code
abbrev pub value_by : List ℕ → ℕ → ℕ → AttributeKind → Value
value_by s at value AttributeKind.NotServed = string null
value_by s at value AttributeKind.Text = string (text_shown s value)
value_by s at value AttributeKind.Integer = integer (integer_view s value)
value_by s at value AttributeKind.Pair = pair (text_view s (at + 1)) (text_shown s value)

-- the attributes at these places, two for each
abbrev pub attributes_shown : List ℕ → List ℕ → List Attribute
attributes_shown s [] = []
attributes_shown s (at ∷ []) = []
attributes_shown s (at ∷ value ∷ later) =
    record { code = get_or s at 0; value = value_by s at value (attribute_kind (get_or s at 0)) } ∷ attributes_shown s later

-- the places of a packet's headers in a table, and behind them those of its attributes
abbrev pub header_places : Packet → List ℕ → List ℕ
header_places packet table = part table 0 (2 * headers_in packet)

abbrev pub attribute_places : Packet → List ℕ → List ℕ
attribute_places packet table = part table (2 * headers_in packet) (2 * attributes_in packet)

-- the message of a packet, by where its headers and attributes are
abbrev pub shown_by : Packet → List ℕ → List ℕ → List ℕ → Message
shown_by Packet.CPing s headers attributes = cping
shown_by Packet.CPong s headers attributes = cpong
shown_by (Packet.Forward f) s headers attributes = forward (record {
  method = f.method;
  protocol = text_shown s f.protocol.0;
  uri = text_shown s f.req_uri.0;
  addr = text_shown s f.remote_addr.0;
  host = text_shown s f.remote_host.0;
  name = text_shown s f.server_name.0;
  port = f.server_port;
  ssl = f.is_ssl;
  headers = headers_shown s headers;
  attributes = attributes_shown s attributes;
})
shown_by (Packet.Body p) s headers attributes = body (part s p.start.0 p.len)
shown_by (Packet.GetBody asked) s headers attributes = get_body asked
shown_by (Packet.SendHeaders h) s headers attributes = send_headers (record {
  status = h.status;
  message = text_shown s h.message.0;
  headers = headers_shown s headers;
})
shown_by (Packet.BodyChunk p) s headers attributes = body_chunk (part s p.start.0 p.len)
shown_by (Packet.End reuse) s headers attributes = end reuse

-- the message that was read: of the packet as handed out, its bytes, and the table as reading left it
unfoldable pub message_shown : Packet → List ℕ → List ℕ → Message
message_shown packet s table = shown_by packet s (header_places packet table) (attribute_places packet table)
