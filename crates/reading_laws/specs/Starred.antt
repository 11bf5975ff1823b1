-- The starred packets of document 01, 'Packets on both sides of the line', each with every state that its line names; where none is named,
-- with one that allows the packet. Refusals are written as document 01's numbers and texts as they are, so that no name stands between.
-- Assumes nothing.
use Rattle.std.specs.Prelude.{true, false, List, [], ◌∷◌, ℕ}
use Rattle.wire.specs.Bytes.{part}
use Rattle.packet.specs.declared.Direction.{Direction}
use Rattle.packet.specs.declared.Packet.{Packet}
use Rattle.names.specs.Names.{ascii, name_for}
use Rattle.names.specs.declared.NameList.{NameList}
use Rattle.connection.specs.Connection.{rest, with_left, with_due, with_headers, fresh}
use Rattle.connection.specs.declared.State.{State}
use Rattle.connection.specs.declared.Connection.{Connection}
use Rattle.payload.specs.Packet.{part_from}
use Rattle.reader.specs.Meaning.{Meaning, needs, refused, accepted}
use Rattle.reader.specs.Reading.{reading}
use Rattle.views.specs.View.{text_view}

-- a packet that comes in a direction to an end with this connection, its answer, and the texts that it shows; no table is lent
pub record Case : Type 0 where
  pub direction : Direction
  pub connection : Connection
  pub bytes : List ℕ
  pub answer : Meaning
  pub texts : List (List ℕ)

-- the texts that a packet shows, as the views show them: a Forward the name of its method, its protocol and its req_uri; a Send Headers its
-- message; a body packet and a chunk their bytes
abbrev pub texts_by : List ℕ → Packet → List (List ℕ)
texts_by s Packet.CPing = []
texts_by s Packet.CPong = []
texts_by s (Packet.Forward f) = name_for NameList.Methods f.method ∷ text_view s f.protocol.0 ∷ text_view s f.req_uri.0 ∷ []
texts_by s (Packet.Body p) = part s p.start.0 p.len ∷ []
texts_by s (Packet.GetBody asked) = []
texts_by s (Packet.SendHeaders h) = text_view s h.message.0 ∷ []
texts_by s (Packet.BodyChunk p) = part s p.start.0 p.len ∷ []
texts_by s (Packet.End reuse) = []

-- the texts that an answer shows of the lent bytes
abbrev pub texts_shown : List ℕ → Meaning → List (List ℕ)
texts_shown s (needs n) = []
texts_shown s (refused n) = []
texts_shown s (accepted packet taken after) = texts_by s packet

-- what reading answers, and shows
abbrev pub observed : Case → Meaning × List (List ℕ)
observed c =
    let answer = reading c.direction c.connection c.bytes 0 in
    (answer, texts_shown c.bytes answer)

-- what document 01 says
abbrev pub expected : Case → Meaning × List (List ℕ)
expected c = (c.answer, c.texts)

-- a packet for the container's end
abbrev to_container : Connection → List ℕ → Meaning → List (List ℕ) → Case
to_container connection bytes answer texts =
    record { direction = Direction.ToContainer; connection = connection; bytes = bytes; answer = answer; texts = texts }

-- a packet for the server's end
abbrev to_server : Connection → List ℕ → Meaning → List (List ℕ) → Case
to_server connection bytes answer texts =
    record { direction = Direction.ToServer; connection = connection; bytes = bytes; answer = answer; texts = texts }

-- a connection with a body packet due: bytes left, bytes asked for
abbrev due : ℕ → ℕ → Connection
due left asked = with_due true asked (with_left left (rest State.Busy))

-- a connection with a request and no body packet due, before its headers
abbrev unanswered : Connection
unanswered = rest State.Busy

-- the same after its headers
abbrev answering : Connection
answering = with_headers true unanswered

-- CPing
abbrev cping : List ℕ
cping =
    0x12 ∷ 0x34 ∷ 0x00 ∷ 0x01 ∷ 0x0A ∷ []

-- CPong
abbrev cpong : List ℕ
cpong =
    0x41 ∷ 0x42 ∷ 0x00 ∷ 0x01 ∷ 0x09 ∷ []

-- an empty body packet
abbrev empty_body : List ℕ
empty_body =
    0x12 ∷ 0x34 ∷ 0x00 ∷ 0x00 ∷ []

-- a body packet that holds "hi"
abbrev hi_body : List ℕ
hi_body =
    0x12 ∷ 0x34 ∷ 0x00 ∷ 0x04 ∷ 0x00 ∷ 0x02 ∷ 0x68 ∷ 0x69 ∷ []

-- End, the connection used again
abbrev end_reuse : List ℕ
end_reuse =
    0x41 ∷ 0x42 ∷ 0x00 ∷ 0x02 ∷ 0x05 ∷ 0x01 ∷ []

-- End with a boolean of 2
abbrev end_two : List ℕ
end_two =
    0x41 ∷ 0x42 ∷ 0x00 ∷ 0x02 ∷ 0x05 ∷ 0x02 ∷ []

-- Get Body Chunk for 8186 bytes
abbrev get_all : List ℕ
get_all =
    0x41 ∷ 0x42 ∷ 0x00 ∷ 0x03 ∷ 0x06 ∷ 0x1F ∷ 0xFA ∷ []

-- a chunk that holds "ok"
abbrev ok_chunk : List ℕ
ok_chunk =
    0x41 ∷ 0x42 ∷ 0x00 ∷ 0x06 ∷ 0x03 ∷ 0x00 ∷ 0x02 ∷ 0x6F ∷ 0x6B ∷ 0x00 ∷ []

-- a chunk whose last byte is 1
abbrev open_chunk : List ℕ
open_chunk =
    0x41 ∷ 0x42 ∷ 0x00 ∷ 0x06 ∷ 0x03 ∷ 0x00 ∷ 0x02 ∷ 0x6F ∷ 0x6B ∷ 0x01 ∷ []

-- Send Headers, 200 OK, no headers
abbrev ok_head : List ℕ
ok_head =
    0x41 ∷ 0x42 ∷ 0x00 ∷ 0x0A ∷ 0x04 ∷ 0x00 ∷ 0xC8 ∷ 0x00 ∷ 0x02 ∷ 0x4F ∷ 0x4B ∷ 0x00 ∷ 0x00 ∷ 0x00 ∷ []

-- Forward, GET / by HTTP/1.1, port 80, the other strings null
abbrev get_root : List ℕ
get_root =
    0x12 ∷ 0x34 ∷ 0x00 ∷ 0x1D ∷ 0x02 ∷ 0x02 ∷ 0x00 ∷ 0x08 ∷ 0x48 ∷ 0x54 ∷ 0x54 ∷ 0x50 ∷ 0x2F ∷ 0x31 ∷ 0x2E ∷ 0x31 ∷ 0x00 ∷ 0x00 ∷ 0x01 ∷ 0x2F ∷ 0x00 ∷ 0xFF ∷ 0xFF ∷ 0xFF ∷ 0xFF ∷ 0xFF ∷ 0xFF ∷ 0x00 ∷ 0x50 ∷ 0x00 ∷ 0x00 ∷ 0x00 ∷ 0xFF ∷ []

-- what Send Headers says here
abbrev ok_packet : Packet
ok_packet = Packet.SendHeaders (record { status = 200; message = record { 0 = 7 }; headers = 0 })

-- what the Forward says: method 2, port 80, no TLS, and where its five strings are
abbrev get_packet : Packet
get_packet = Packet.Forward (record {
  method = 2;
  protocol = record { 0 = 6 };
  req_uri = record { 0 = 17 };
  remote_addr = record { 0 = 21 };
  remote_host = record { 0 = 23 };
  server_name = record { 0 = 25 };
  server_port = 80;
  is_ssl = false;
  headers = 0;
  attributes = 0;
  declared = record { 0 = 0 };
})

-- the starred set
abbrev pub starred : List Case
starred =
    to_container fresh cping (accepted Packet.CPing 5 (rest State.Pinged)) []
    ∷ to_server (rest State.Pinged) cpong (accepted Packet.CPong 5 fresh) []
    ∷ to_container (due 0 8186) empty_body (accepted (Packet.Body (part_from 4 0)) 4 unanswered) (ascii "" ∷ [])
    ∷ to_container (due 1 1) empty_body (refused 14) []
    ∷ to_container fresh empty_body (refused 3) []
    ∷ to_container (due 2 8186) hi_body (accepted (Packet.Body (part_from 6 2)) 8 unanswered) (ascii "hi" ∷ [])
    ∷ to_container (due 1 8186) hi_body (refused 14) []
    ∷ to_server answering end_reuse (accepted (Packet.End true) 6 fresh) []
    ∷ to_server answering end_two (refused 7) []
    ∷ to_server unanswered get_all (accepted (Packet.GetBody 8186) 7 (due 0 8186)) []
    ∷ to_server answering ok_chunk (accepted (Packet.BodyChunk (part_from 7 2)) 10 answering) (ascii "ok" ∷ [])
    ∷ to_server answering open_chunk (refused 6) []
    ∷ to_server unanswered ok_head (accepted ok_packet 14 answering) (ascii "OK" ∷ [])
    ∷ to_container fresh get_root (accepted get_packet 33 unanswered) (ascii "GET" ∷ ascii "HTTP/1.1" ∷ ascii "/" ∷ [])
    ∷ []
