-- The first piece of a packet: all that stands before its headers.
-- Document 01, 'Server to container', Forward Request; 'Container to server', Send Headers; 'Building': the places of the length and of
-- the count are written as 0.
-- Assumes nothing.
use Rattle.std.specs.Prelude.{Bool, false, List, [], ◌∷◌, ◌++◌, ℕ, length}
use Rattle.wire.specs.Bytes.{integer_bytes}
use Rattle.wire.specs.Field.{boolean_bytes}
use Rattle.wire.specs.declared.StringField.{StringField}
use Rattle.payload.specs.Forward.{first_method, last_method}
use Rattle.payload.specs.SendHeaders.{least_status, greatest_status}
use Rattle.building.specs.Field.{Field, plain, opening, byte_within, integer_within, string_field, faults_of, fields_bytes}
use Rattle.building.specs.Call.{Call}
use Rattle.building_record.specs.declared.BuildingKind.{BuildingKind}
use Rattle.building_record.specs.declared.Building.{Building}
use Rattle.pieces.specs.declared.forward.Numbers.{Numbers}
use Rattle.pieces.specs.declared.forward.Nulls.{Nulls}
use Rattle.building_record.specs.Record.{built_kind, opened}

-- a count that closing will set
abbrev pub unset : Field
unset = plain (integer_bytes 0)

-- a packet's fixed fields, from its first byte to the count of headers
abbrev pub fixed : BuildingKind → List Field → List Field
fixed kind own = plain (opening (built_kind kind) 0) ∷ (own ++ (unset ∷ []))

-- the call that writes them
abbrev pub fixed_call : BuildingKind → List Field → Call Building
fixed_call kind own = record {
  faults = faults_of (fixed kind own);
  at = 0;
  bytes = fields_bytes (fixed kind own);
  answer = opened kind (length (fields_bytes (fixed kind own)));
}

-- of a Forward's strings none is null
abbrev pub no_nulls : Nulls
no_nulls = record { protocol = false; req_uri = false; remote_addr = false; remote_host = false; server_name = false }

-- a Forward: method (1 to 27), protocol, req_uri, remote_addr, remote_host, server_name, server_port, is_ssl
abbrev pub forward_fields : Numbers → Nulls → List ℕ → List ℕ → List ℕ → List ℕ → List ℕ → List Field
forward_fields numbers nulls protocol uri addr host name =
    byte_within first_method last_method numbers.method
    ∷ string_field StringField.Protocol nulls.protocol protocol
    ∷ string_field StringField.ReqUri nulls.req_uri uri
    ∷ string_field StringField.RemoteAddr nulls.remote_addr addr
    ∷ string_field StringField.RemoteHost nulls.remote_host host
    ∷ string_field StringField.ServerName nulls.server_name name
    ∷ plain (integer_bytes numbers.server_port)
    ∷ plain (boolean_bytes numbers.is_ssl)
    ∷ []

-- Send Headers: status (100 to 599), message
abbrev pub send_headers_fields : ℕ → Bool → List ℕ → List Field
send_headers_fields status null message =
    integer_within least_status greatest_status status ∷ string_field StringField.Message null message ∷ []

-- the calls
unfoldable pub forward_call : Numbers → Nulls → List ℕ → List ℕ → List ℕ → List ℕ → List ℕ → Call Building
forward_call numbers nulls protocol uri addr host name =
    fixed_call BuildingKind.Forward (forward_fields numbers nulls protocol uri addr host name)

unfoldable pub send_headers_call : ℕ → Bool → List ℕ → Call Building
send_headers_call status null message = fixed_call BuildingKind.SendHeaders (send_headers_fields status null message)
