-- A Forward's strings as they are lent, None for null, and what the definitions of its fixed fields say of them.
-- Assumes nothing.
use Rattle.std.specs.Prelude.{List}
use Rattle.wire.specs.Text.{is_null, bytes_in}
use Rattle.building.specs.Field.{Field}
use Rattle.building.specs.Call.{Call}
use Rattle.building_record.specs.declared.Building.{Building}
use Rattle.pieces.specs.declared.forward.Numbers.{Numbers}
use Rattle.pieces.specs.declared.forward.Strings.{Strings}
use Rattle.pieces.specs.declared.forward.Nulls.{Nulls}
use Rattle.pieces.specs.Fixed.{forward_fields, forward_call}
use Rattle.pieces.specs.Private.{forward_strings}

-- which of them are null
abbrev pub nulls_of : Strings → Nulls
nulls_of strings = record {
  protocol = is_null strings.protocol;
  req_uri = is_null strings.req_uri;
  remote_addr = is_null strings.remote_addr;
  remote_host = is_null strings.remote_host;
  server_name = is_null strings.server_name;
}

-- the fixed fields with them
abbrev pub fields_with : Numbers → Strings → List Field
fields_with numbers strings =
    forward_fields numbers (nulls_of strings) (bytes_in strings.protocol) (bytes_in strings.req_uri) (bytes_in strings.remote_addr) (bytes_in strings.remote_host) (bytes_in strings.server_name)

-- the five strings alone
abbrev pub strings_with : Strings → List Field
strings_with strings =
    forward_strings (nulls_of strings) (bytes_in strings.protocol) (bytes_in strings.req_uri) (bytes_in strings.remote_addr) (bytes_in strings.remote_host) (bytes_in strings.server_name)

-- the call that writes the fixed fields
abbrev pub forward_with : Numbers → Strings → Call Building
forward_with numbers strings =
    forward_call numbers (nulls_of strings) (bytes_in strings.protocol) (bytes_in strings.req_uri) (bytes_in strings.remote_addr) (bytes_in strings.remote_host) (bytes_in strings.server_name)
