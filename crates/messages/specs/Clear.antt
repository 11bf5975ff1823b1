-- No string that a call hands out of an accepted packet, and none that a call writes, has a zero or a line end in it: so no value can become
-- a second header. Which strings a message has, which a piece writes, and the three sentences about them.
-- Document 02, A3: no line ends in strings.
-- Assumes nothing.
use Rattle.std.specs.Prelude.{◌≡◌, Bool, List, [], ◌∷◌, ◌++◌, ℕ, ◌≤◌, length, Option, Some, None}
use Rattle.wire.specs.Pick.{pick}
use Rattle.wire.specs.Bytes.{part}
use Rattle.wire.specs.Facts.{Clear}
use Rattle.packet.specs.declared.Direction.{Direction}
use Rattle.packet.specs.declared.Packet.{Packet}
use Rattle.names.specs.Header.{header_names}
use Rattle.names.specs.Names.{code_in}
use Rattle.connection.specs.declared.Connection.{Connection}
use Rattle.places.specs.Entries.{max_places}
use Rattle.building.specs.Call.{Call, with_fault, done, outcome}
use Rattle.building.specs.Sent.{Written}
use Rattle.building_record.specs.declared.Building.{Building}
use Rattle.building_record.specs.Record.{direction_in}
use Rattle.pieces.specs.declared.forward.Numbers.{Numbers}
use Rattle.pieces.specs.declared.forward.Nulls.{Nulls}
use Rattle.pieces.specs.Fixed.{forward_call, send_headers_call}
use Rattle.pieces.specs.Header.{coded_call, spelled_call, named_call}
use Rattle.pieces.specs.Attribute.{text_call, integer_call, pair_call}
use Rattle.reader.specs.Meaning.{accepted}
use Rattle.reader.specs.Reading.{reading, table_after}
use Rattle.closing.specs.Closing.{close_outcome, close_buffer}
use Rattle.messages.specs.Message.{Text, null, text, MessageName, coded, spelled, Header, Value, string, integer, pair, Attribute, Message, cping, cpong, forward, body, get_body, send_headers, body_chunk, end}
use Rattle.messages.specs.Shown.{message_shown}

-- each of several texts is clear
abbrev pub AllClear : List (List ℕ) → Type 0
AllClear [] = Unit
AllClear (bytes ∷ later) = Clear bytes × AllClear later

-- the text of a string, none where it is null
abbrev pub texts_of : Text → List (List ℕ)
texts_of null = []
texts_of (text bytes) = bytes ∷ []

-- the text of a header's name, none where it is a code
abbrev pub name_texts : MessageName → List (List ℕ)
name_texts (coded n) = []
name_texts (spelled bytes) = bytes ∷ []

-- the texts of headers: of each its name and its value
abbrev pub headers_texts : List Header → List (List ℕ)
headers_texts [] = []
headers_texts (header ∷ later) = name_texts header.name ++ (texts_of header.value ++ headers_texts later)

-- the texts of an attribute's value; an integer is no string
abbrev pub value_texts : Value → List (List ℕ)
value_texts (string value) = texts_of value
value_texts (integer n) = []
value_texts (pair name value) = name ∷ texts_of value

-- the texts of attributes
abbrev pub attributes_texts : List Attribute → List (List ℕ)
attributes_texts [] = []
attributes_texts (attribute ∷ later) = value_texts attribute.value ++ attributes_texts later

-- the texts of all strings of a message; the bytes of a body and of a chunk are no string
abbrev pub texts_in : Message → List (List ℕ)
texts_in cping = []
texts_in cpong = []
texts_in (forward request) =
    texts_of request.protocol
    ++ (texts_of request.uri
    ++ (texts_of request.addr
    ++ (texts_of request.host ++ (texts_of request.name ++ (headers_texts request.headers ++ attributes_texts request.attributes)))))
texts_in (body bytes) = []
texts_in (get_body asked) = []
texts_in (send_headers response) = texts_of response.message ++ headers_texts response.headers
texts_in (body_chunk bytes) = []
texts_in (end reuse) = []

-- a call that adds a piece, with all that it is given: the fixed fields of a Forward, also with a fault that its caller found, or of a Send
-- Headers, a header, an attribute
pub data Piece : Type 0 where
  begin_forward : Numbers → Nulls → (protocol uri addr host name : List ℕ) → Piece
  begin_forward_with : (fault : ℕ) → Numbers → Nulls → (protocol uri addr host name : List ℕ) → Piece
  begin_send_headers : (status : ℕ) (no_message : Bool) (message : List ℕ) → Piece
  header_coded : Building → (buffer : List ℕ) (code : ℕ) (no_value : Bool) (value : List ℕ) → Piece
  header_spelled : Building → (buffer : List ℕ) (no_name : Bool) (name : List ℕ) (no_value : Bool) (value : List ℕ) → Piece
  header_named : Building → (buffer name : List ℕ) (no_value : Bool) (value : List ℕ) → Piece
  attribute_text : Building → (buffer : List ℕ) (code : ℕ) (no_value : Bool) (value : List ℕ) → Piece
  attribute_integer : Building → (buffer : List ℕ) (code value : ℕ) → Piece
  attribute_pair : Building → (buffer : List ℕ) (code : ℕ) (no_name : Bool) (name : List ℕ) (no_value : Bool) (value : List ℕ) → Piece

-- the text of a string as a call is given it: whether it is null, and its bytes
abbrev pub given : Bool → List ℕ → List (List ℕ)
given absent bytes = pick absent [] (bytes ∷ [])

-- the texts that a header whose name is given as a text has: the name itself only where it is spelled out
abbrev pub named_texts : List ℕ → Bool → List ℕ → Option ℕ → List (List ℕ)
named_texts name no_value value (Some code) = given no_value value
named_texts name no_value value None = name ∷ given no_value value

-- the texts of a Forward's fixed strings
abbrev pub fixed_texts : Nulls → List ℕ → List ℕ → List ℕ → List ℕ → List ℕ → List (List ℕ)
fixed_texts nulls protocol uri addr host name =
    given nulls.protocol protocol
    ++ (given nulls.req_uri uri
    ++ (given nulls.remote_addr addr ++ (given nulls.remote_host host ++ given nulls.server_name name)))

-- what is known of a piece: the call, as its promise says it, and the texts of the strings that are given to it and that its bytes are made of
pub record PieceRow : Type 0 where
  pub call : Call Building
  pub texts : List (List ℕ)

-- piece by piece
abbrev pub piece_row : Piece → PieceRow
piece_row (begin_forward numbers nulls protocol uri addr host name) = record {
  call = forward_call numbers nulls protocol uri addr host name;
  texts = fixed_texts nulls protocol uri addr host name;
}
piece_row (begin_forward_with fault numbers nulls protocol uri addr host name) = record {
  call = with_fault (forward_call numbers nulls protocol uri addr host name) fault;
  texts = fixed_texts nulls protocol uri addr host name;
}
piece_row (begin_send_headers status no_message message) = record { call = send_headers_call status no_message message; texts = given no_message message }
piece_row (header_coded r buffer code no_value value) = record { call = coded_call r buffer code no_value value; texts = given no_value value }
piece_row (header_spelled r buffer no_name name no_value value) = record {
  call = spelled_call r buffer no_name name no_value value;
  texts = given no_name name ++ given no_value value;
}
piece_row (header_named r buffer name no_value value) = record {
  call = named_call r buffer name no_value value;
  texts = named_texts name no_value value (code_in (header_names (direction_in r)) name);
}
piece_row (attribute_text r buffer code no_value value) = record { call = text_call r buffer code no_value value; texts = given no_value value }
piece_row (attribute_integer r buffer code value) = record { call = integer_call r buffer code value; texts = [] }
piece_row (attribute_pair r buffer code no_name name no_value value) = record {
  call = pair_call r buffer code no_name name no_value value;
  texts = given no_name name ++ given no_value value;
}

-- bytes are accepted whole, and every string of the message that they show is clear
pub record ShownClear (d : Direction) (c : Connection) (s table : List ℕ) (next : Connection) : Type 0 where
  pub packet : Packet
  pub answer : reading d c s (length table) ≡ accepted packet (length s) next
  pub clear : AllClear (texts_in (message_shown packet s (table_after d c s table)))

-- no zero and no line end in any string
pub record StringsClear : Type 0 where
  -- that is shown of an accepted packet, at either end, from every connection and with any table
  pub read : (d : Direction) (c : Connection) (s table : List ℕ) (p : Packet) (n : ℕ) (next : Connection)
      → reading d c s (length table) ≡ accepted p n next → AllClear (texts_in (message_shown p (part s 0 n) (table_after d c s table)))
  -- that a piece writes, wherever it is added
  pub added : (piece : Piece) (room : ℕ) (r : Building) → outcome (piece_row piece).call room ≡ done r → AllClear (piece_row piece).texts
  -- of a packet that is closed, whatever was put into the buffer between the pieces and closing: the packet that then stands there is accepted
  pub closed : (c : Connection) (r : Building) (buffer : List ℕ) (w : Written) → close_outcome c r buffer ≡ done w
      → (table : List ℕ) → max_places ≤ length table
      → ShownClear (direction_in r) c (part (close_buffer c r buffer) 0 w.size) table w.connection
