-- A header: its name, by code or spelled, and its value, judged as reading judges them.
-- Document 01, 'Server to container', Header, and 'Building'. A second content-length is found when the packet is closed.
-- Assumes nothing.
use Rattle.std.specs.Prelude.{Bool, false, List, [], ◌∷◌, ◌++◌, ℕ, ◌+◌, length, Option, Some, None}
use Rattle.wire.specs.Refusal.{none}
use Rattle.wire.specs.Bytes.{integer_bytes}
use Rattle.wire.specs.Field.{string_bytes}
use Rattle.packet.specs.declared.Direction.{Direction}
use Rattle.wire.specs.declared.StringField.{StringField}
use Rattle.names.specs.Header.{header_names, code_fault, spelled_fault}
use Rattle.names.specs.Names.{code_in}
use Rattle.headers.specs.Read.{LengthRead}
use Rattle.headers.specs.Headers.{declares, declared_after}
use Rattle.building.specs.Fault.{or_else, string_fault}
use Rattle.building.specs.Field.{Field, faults_of, fields_bytes, needed_at}
use Rattle.building.specs.Call.{Call}
use Rattle.building_record.specs.declared.Building.{Building}
use Rattle.building_record.specs.Record.{direction_in, header_now, count_fault, with_header}

-- a name by its code
abbrev pub coded_name : Direction → ℕ → Field
coded_name direction code = record { fault = code_fault direction code; bytes = integer_bytes code }

-- a name that is spelled out: the string's own rule (6), then the name's (8, and 10 for transfer-encoding)
abbrev pub spelled_name : Direction → Bool → List ℕ → Field
spelled_name direction null text = record {
  fault = or_else (string_fault StringField.HeaderName null text) (spelled_fault direction text);
  bytes = string_bytes null text;
}

-- the fault of what a value declares
abbrev pub length_fault : LengthRead → ℕ
length_fault (LengthRead.Refused n) = n
length_fault (LengthRead.Now declared) = none

-- a value: the string's own rule (6), then, where it declares a length, that it is one (10)
unfoldable pub value_fault : Bool → Bool → List ℕ → ℕ
value_fault is_length null text =
    or_else (string_fault StringField.HeaderValue null text) (length_fault (declared_after is_length None null text))

-- a value
abbrev pub header_value : Bool → Bool → List ℕ → Field
header_value is_length null text = record { fault = value_fault is_length null text; bytes = string_bytes null text }

-- a header with a code for its name
abbrev pub coded_fields : Direction → ℕ → Bool → List ℕ → List Field
coded_fields direction code null value = coded_name direction code ∷ header_value (declares direction code) null value ∷ []

-- a header with a spelled name; such a name declares nothing, since content-length goes by code
abbrev pub spelled_fields : Direction → Bool → List ℕ → Bool → List ℕ → List Field
spelled_fields direction name_null name value_null value =
    spelled_name direction name_null name ∷ header_value false value_null value ∷ []

-- the call that writes a header: 16, its fields, 11 for one too many
abbrev pub header_call : Building → List ℕ → List Field → Call Building
header_call r buffer own = record {
  faults = header_now r buffer ∷ (faults_of own ++ (count_fault r ∷ []));
  at = r.next.0;
  bytes = fields_bytes own;
  answer = with_header r (r.next.0 + length (fields_bytes own));
}

-- the calls
unfoldable pub coded_call : Building → List ℕ → ℕ → Bool → List ℕ → Call Building
coded_call r buffer code null value = header_call r buffer (coded_fields (direction_in r) code null value)

unfoldable pub spelled_call : Building → List ℕ → Bool → List ℕ → Bool → List ℕ → Call Building
spelled_call r buffer name_null name value_null value =
    header_call r buffer (spelled_fields (direction_in r) name_null name value_null value)

-- a header whose name is given as a text: by its code where it is listed, else spelled out
abbrev pub named_by : Building → List ℕ → List ℕ → Bool → List ℕ → Option ℕ → Call Building
named_by r buffer name null value (Some code) = coded_call r buffer code null value
named_by r buffer name null value None = spelled_call r buffer false name null value

unfoldable pub named_call : Building → List ℕ → List ℕ → Bool → List ℕ → Call Building
named_call r buffer name null value = named_by r buffer name null value (code_in (header_names (direction_in r)) name)

-- how many bytes a buffer needs for it
abbrev pub named_needs : Building → List ℕ → Bool → List ℕ → Option ℕ → ℕ
named_needs r name null value (Some code) = needed_at r.next.0 (coded_fields (direction_in r) code null value)
named_needs r name null value None = needed_at r.next.0 (spelled_fields (direction_in r) false name null value)
