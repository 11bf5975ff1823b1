-- What the functions of a Forward's fixed fields promise to one another: cuts of `forward_fields`, which is the method and these two
-- parts.
-- Assumes nothing.
use Rattle.std.specs.Prelude.{List, [], ◌∷◌, ℕ}
use Rattle.wire.specs.Bytes.{integer_bytes}
use Rattle.wire.specs.Field.{boolean_bytes}
use Rattle.wire.specs.declared.StringField.{StringField}
use Rattle.building.specs.Field.{Field, plain, string_field}
use Rattle.pieces.specs.declared.forward.Numbers.{Numbers}
use Rattle.pieces.specs.declared.forward.Nulls.{Nulls}
use Rattle.pieces.specs.Fixed.{unset}

-- the five strings
abbrev pub forward_strings : Nulls → List ℕ → List ℕ → List ℕ → List ℕ → List ℕ → List Field
forward_strings nulls protocol uri addr host name =
    string_field StringField.Protocol nulls.protocol protocol
    ∷ string_field StringField.ReqUri nulls.req_uri uri
    ∷ string_field StringField.RemoteAddr nulls.remote_addr addr
    ∷ string_field StringField.RemoteHost nulls.remote_host host
    ∷ string_field StringField.ServerName nulls.server_name name
    ∷ []

-- what stands behind them: port, is_ssl and the count
abbrev pub forward_tail : Numbers → List Field
forward_tail numbers = plain (integer_bytes numbers.server_port) ∷ plain (boolean_bytes numbers.is_ssl) ∷ unset ∷ []
