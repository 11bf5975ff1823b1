-- Whole requests, computed by the definitions: that ends do send, and that what they send arrives; one with a body, and a HEAD. (The
-- theorems alone would hold of ends that never send.)
-- Assumes nothing.
use mathlib.Core.Path.{◌≡◌, refl}
use mathlib.Core.Bool.{true, false}
use mathlib.Core.List.{List, [], ◌∷◌}
use Prim.Native.Nat.{ℕ}
use lib.ListN.{replicate}
use Rattle.wire.specs.Pick.{all, any}
use Rattle.wire.specs.Bytes.{part, over, integer_in}
use Rattle.wire.specs.Field.{byte_at, integer_at, boolean_at, text_at, after_length, string_at}
use Rattle.packet.specs.declared.Direction.{Direction}
use Rattle.names.specs.Header.{code_fault}
use Rattle.names.specs.Names.{is_listed, request_names, response_names}
use Rattle.headers.specs.Length.{digits, decimal_of}
use Rattle.connection.specs.Cycle.{largest_body, step_of}
use Rattle.places.specs.Entries.{max_places}
use Rattle.headers.specs.Headers.{code_name_of, name_at, declared_after, header_value_at, header_at, headers_at}
use Rattle.attributes.specs.Attributes.{attribute_at, attributes_at}
use Rattle.payload.specs.Code.{code_kind, kind_at}
use Rattle.payload.specs.Sequence.{string_field_at, string_after, boolean_field_at, boolean_after, byte_after, any_integer_after, integer_after}
use Rattle.payload.specs.End.{end_at}
use Rattle.payload.specs.GetBody.{get_at}
use Rattle.payload.specs.Body.{sized_at, body_at}
use Rattle.payload.specs.BodyChunk.{chunk_of, chunk_at}
use Rattle.payload.specs.Lists.{headers_after, attributes_behind, lists_at}
use Rattle.payload.specs.Forward.{forward_reads, forward_at}
use Rattle.payload.specs.SendHeaders.{send_headers_reads, send_headers_at}
use Rattle.building.specs.Fault.{fit_fault}
use Rattle.building.specs.Call.{refusal_of, outcome, buffer_after}
use Rattle.building_record.specs.Record.{is_possible}
use Rattle.writer.specs.Sending.{bare_call, body_call, chunk_call, end_call}
use Rattle.closing.specs.Closing.{closing_fault, closed, closed_packet, judgement, close_outcome, close_buffer}
use Rattle.reader.specs.Frame.{leading_differs, length_at, frame_at}
use Rattle.reader.specs.Reading.{parse_whole, parse, accepting, reading}
use Rattle.sends.specs.Send.{body, close_forward, body_chunk, end, close_send_headers}
use Rattle.two_ends_laws.specs.Ends.{fresh_ends, all_bytes, Delivery}
use Rattle.two_ends_laws.specs.Head.{head_under_way}
use Rattle.two_ends_laws.specs.Past.{start, Event, send, deliver, run, requests, received_bytes, sent_bytes}

-- a buffer in which a Forward was built up to its last header: GET /, content-length 2
abbrev request : List ℕ
request =
    0x12 ∷ 0x34 ∷ 0x00 ∷ 0x00 ∷ 0x02 ∷ 0x02
    ∷ 0x00 ∷ 0x01 ∷ 0x48 ∷ 0x00
    ∷ 0x00 ∷ 0x01 ∷ 0x2F ∷ 0x00
    ∷ 0xFF ∷ 0xFF ∷ 0xFF ∷ 0xFF ∷ 0xFF ∷ 0xFF
    ∷ 0x00 ∷ 0x50 ∷ 0x00
    ∷ 0x00 ∷ 0x00
    ∷ 0xA0 ∷ 0x08 ∷ 0x00 ∷ 0x01 ∷ 0x32 ∷ 0x00
    ∷ 0x07 ∷ 0x07 ∷ []

-- and one with a Send Headers without headers: 200, no message
abbrev response : List ℕ
response = 0x41 ∷ 0x42 ∷ 0x00 ∷ 0x00 ∷ 0x04 ∷ 0x00 ∷ 0xC8 ∷ 0xFF ∷ 0xFF ∷ 0x00 ∷ 0x00 ∷ []

-- a short buffer, for the other packets
abbrev short : List ℕ
short = replicate 10 9

-- "hi", and one byte more than the request declared
abbrev hi : List ℕ
hi = 0x68 ∷ 0x69 ∷ []

abbrev too_much : List ℕ
too_much = 0x68 ∷ 0x69 ∷ 0x21 ∷ []

-- a delivery with the packet behind the first lent too
abbrev with_next : Delivery
with_next = record { behind = 1; table = replicate max_places 0; places = refl }

-- a Forward, a body packet that is refused (14), one that is sent, both delivered; Send Headers and End, both delivered
abbrev sample : List Event
sample =
    send (close_forward (record { next = 31; count = 23; headers = 1; attributes = false }) request)
    ∷ send (body short too_much)
    ∷ send (body short hi)
    ∷ deliver Direction.ToContainer with_next
    ∷ deliver Direction.ToContainer with_next
    ∷ send (close_send_headers (record { next = 11; count = 9; headers = 0; attributes = false }) response)
    ∷ send (end short true)
    ∷ deliver Direction.ToServer with_next
    ∷ deliver Direction.ToServer with_next
    ∷ []

-- what it comes to: the request declared 2 bytes and got "hi", which is all that was sent and received, and the ends are as at the start
pub sample_run : (requests (run sample start).past ≡ record { declared = 2; got = hi } ∷ [])
    × (sent_bytes (run sample start).past ≡ hi)
    × (received_bytes (run sample start).past ≡ hi)
    × ((run sample start).ends ≡ fresh_ends)
unfolding all any part over integer_in byte_at integer_at boolean_at text_at after_length string_at code_fault is_listed request_names response_names digits decimal_of largest_body step_of code_name_of name_at declared_after header_value_at header_at headers_at attribute_at attributes_at code_kind kind_at string_field_at string_after boolean_field_at boolean_after byte_after any_integer_after integer_after end_at get_at sized_at body_at chunk_of chunk_at headers_after attributes_behind lists_at forward_at forward_reads send_headers_at send_headers_reads fit_fault refusal_of outcome buffer_after is_possible bare_call body_call end_call closing_fault closed closed_packet judgement close_outcome close_buffer leading_differs length_at frame_at parse_whole parse accepting reading
sample_run = (refl, refl, refl, refl)

-- a buffer in which a Forward was built that is a HEAD: HEAD /, no headers
abbrev head_request : List ℕ
head_request =
    0x12 ∷ 0x34 ∷ 0x00 ∷ 0x00 ∷ 0x02 ∷ 0x03
    ∷ 0x00 ∷ 0x01 ∷ 0x48 ∷ 0x00
    ∷ 0x00 ∷ 0x01 ∷ 0x2F ∷ 0x00
    ∷ 0xFF ∷ 0xFF ∷ 0xFF ∷ 0xFF ∷ 0xFF ∷ 0xFF
    ∷ 0x00 ∷ 0x50 ∷ 0x00
    ∷ 0x00 ∷ 0x00
    ∷ 0x07 ∷ []

-- a HEAD, delivered; Send Headers; a chunk with bytes, which is refused (14); an empty one, which is sent
abbrev head_sample : List Event
head_sample =
    send (close_forward (record { next = 25; count = 23; headers = 0; attributes = false }) head_request)
    ∷ deliver Direction.ToContainer with_next
    ∷ send (close_send_headers (record { next = 11; count = 9; headers = 0; attributes = false }) response)
    ∷ send (body_chunk short hi)
    ∷ send (body_chunk short [])
    ∷ []

-- then both packets delivered, and End sent and delivered
abbrev head_ending : List Event
head_ending =
    deliver Direction.ToServer with_next
    ∷ deliver Direction.ToServer with_next
    ∷ send (end short true)
    ∷ deliver Direction.ToServer with_next
    ∷ []

-- what it comes to: a HEAD is under way, with Send Headers and the empty chunk in the pipe; and after its End none is, and the ends are as
-- at the start
pub head_sample_run : (head_under_way (run head_sample start).past ≡ true)
    × (all_bytes (run head_sample start).ends.to_server
    ≡ 0x41 ∷ 0x42 ∷ 0x00 ∷ 0x07 ∷ 0x04 ∷ 0x00 ∷ 0xC8 ∷ 0xFF ∷ 0xFF ∷ 0x00 ∷ 0x00
    ∷ 0x41 ∷ 0x42 ∷ 0x00 ∷ 0x04 ∷ 0x03 ∷ 0x00 ∷ 0x00 ∷ 0x00 ∷ [])
    × (head_under_way (run head_ending (run head_sample start)).past ≡ false)
    × ((run head_ending (run head_sample start)).ends ≡ fresh_ends)
unfolding all any part over integer_in byte_at integer_at boolean_at text_at after_length string_at code_fault is_listed request_names response_names digits decimal_of largest_body step_of code_name_of name_at declared_after header_value_at header_at headers_at attribute_at attributes_at code_kind kind_at string_field_at string_after boolean_field_at boolean_after byte_after any_integer_after integer_after end_at get_at sized_at body_at chunk_of chunk_at headers_after attributes_behind lists_at forward_at forward_reads send_headers_at send_headers_reads fit_fault refusal_of outcome buffer_after is_possible bare_call body_call chunk_call end_call closing_fault closed closed_packet judgement close_outcome close_buffer leading_differs length_at frame_at parse_whole parse accepting reading
head_sample_run = (refl, refl, refl, refl)
