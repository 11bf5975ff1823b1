-- Send Headers.
-- Document 01, 'Container to server', Send Headers, and rows 7 and 11 of 'Refusal numbers'.
-- Assumes nothing.
use Rattle.std.specs.Prelude.{List, ℕ, length}
use Rattle.wire.specs.Refusal.{out_of_range, too_many}
use Rattle.packet.specs.declared.Direction.{Direction}
use Rattle.wire.specs.declared.StringField.{StringField}
use Rattle.places.specs.Entries.{Entries, ending, max_headers}
use Rattle.headers.specs.Read.{HeadersRead}
use Rattle.payload.specs.Read.{FieldRead, PacketRead}
use Rattle.packet.specs.declared.Packet.{Packet}
use Rattle.payload.specs.Sequence.{after_code, string_after, integer_after, field_place, field_number}
use Rattle.payload.specs.Packet.{finished}
use Rattle.payload.specs.Lists.{headers_after}

-- the least status
abbrev pub least_status : ℕ
least_status = 100

-- the greatest status
abbrev pub greatest_status : ℕ
greatest_status = 599

-- the fixed fields of Send Headers, as read
pub record SendHeadersReads : Type 0 where
  pub status : FieldRead
  pub message : FieldRead
  pub headers : FieldRead

-- status (100 to 599), message, num_headers (at most 100, else 11), each behind the one before it
unfoldable pub send_headers_reads : List ℕ → SendHeadersReads
send_headers_reads s =
    let status = integer_after s least_status greatest_status out_of_range after_code in
    let message = string_after s StringField.Message status in
    let headers = integer_after s 0 max_headers too_many message in
    record { status = status; message = message; headers = headers }

-- Send Headers, by its fixed fields and how its headers end
abbrev pub send_headers_of : ℕ → SendHeadersReads → HeadersRead → PacketRead
send_headers_of size reads (HeadersRead.Refused n) = PacketRead.Refused n
send_headers_of size reads (HeadersRead.Headers declared next) =
    finished size next
    (Packet.SendHeaders
    (record {
      status = field_number reads.status;
      message = field_place reads.message;
      headers = field_number reads.headers;
    }))

-- Send Headers: the fixed fields, then the headers
unfoldable pub send_headers_at : List ℕ → Entries PacketRead
send_headers_at s = ending (send_headers_of (length s) (send_headers_reads s)) (headers_after Direction.ToServer s (send_headers_reads s).headers)
