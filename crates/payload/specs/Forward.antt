-- Forward Request.
-- Document 01, 'Server to container', Forward Request, and rows 7 and 11 of 'Refusal numbers'.
-- Assumes nothing.
use Rattle.std.specs.Prelude.{true, List, ℕ, eqb}
use Rattle.wire.specs.Refusal.{out_of_range, too_many}
use Rattle.wire.specs.declared.StringField.{StringField}
use Rattle.places.specs.Entries.{Entries, ending, max_headers}
use Rattle.payload.specs.Read.{FieldRead, ListsRead, PacketRead}
use Rattle.packet.specs.declared.Packet.{Packet}
use Rattle.payload.specs.Sequence.{after_code, string_after, boolean_after, byte_after, any_integer_after, integer_after, field_place, field_number}
use Rattle.payload.specs.Lists.{lists_at}
use Rattle.wire.specs.Field.{boolean_number}

-- the first method, OPTIONS
abbrev pub first_method : ℕ
first_method = 1

-- the last method, MKACTIVITY
abbrev pub last_method : ℕ
last_method = 27

-- the fixed fields of a Forward, as read
pub record ForwardReads : Type 0 where
  pub method : FieldRead
  pub protocol : FieldRead
  pub uri : FieldRead
  pub addr : FieldRead
  pub host : FieldRead
  pub name : FieldRead
  pub port : FieldRead
  pub ssl : FieldRead
  pub headers : FieldRead

-- method (1 to 27), protocol, req_uri, remote_addr, remote_host, server_name, server_port (any integer), is_ssl, num_headers (at most 100,
-- else 11), each behind the one before it
unfoldable pub forward_reads : List ℕ → ForwardReads
forward_reads s =
    let method = byte_after s first_method last_method out_of_range after_code in
    let protocol = string_after s StringField.Protocol method in
    let uri = string_after s StringField.ReqUri protocol in
    let addr = string_after s StringField.RemoteAddr uri in
    let host = string_after s StringField.RemoteHost addr in
    let name = string_after s StringField.ServerName host in
    let port = any_integer_after s name in
    let ssl = boolean_after s port in
    let headers = integer_after s 0 max_headers too_many ssl in
    record {
      method = method;
      protocol = protocol;
      uri = uri;
      addr = addr;
      host = host;
      name = name;
      port = port;
      ssl = ssl;
      headers = headers;
    }

-- a Forward, by its fixed fields and how its lists end
abbrev pub forward_of : ForwardReads → ListsRead → PacketRead
forward_of reads (ListsRead.Refused n) = PacketRead.Refused n
forward_of reads (ListsRead.Lists declared attributes) =
    PacketRead.Packet
    (Packet.Forward
    (record {
      method = field_number reads.method;
      protocol = field_place reads.protocol;
      req_uri = field_place reads.uri;
      remote_addr = field_place reads.addr;
      remote_host = field_place reads.host;
      server_name = field_place reads.name;
      server_port = field_number reads.port;
      is_ssl = eqb (field_number reads.ssl) (boolean_number true);
      headers = field_number reads.headers;
      attributes = attributes;
      declared = declared;
    }))

-- Forward: the fixed fields, then the headers and the attributes
unfoldable pub forward_at : List ℕ → Entries PacketRead
forward_at s = ending (forward_of (forward_reads s)) (lists_at s (forward_reads s).headers)
