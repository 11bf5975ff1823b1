-- An attribute: its code and its value, which is a string, an integer, or a name and a value.
-- Document 01, 'Server to container', Attribute codes, and 'Building': FF, and a code with another kind of value, are 9. A repeated code
-- and a 65th attribute are found when the packet is closed.
-- Assumes nothing.
use Rattle.std.specs.Prelude.{Bool, true, false, List, [], ◌∷◌, ℕ, ◌+◌, length}
use Rattle.wire.specs.Refusal.{attribute_wrong}
use Rattle.wire.specs.Bytes.{integer_bytes}
use Rattle.wire.specs.declared.StringField.{StringField}
use Rattle.names.specs.Attribute.{attribute_kind}
use Rattle.packet.specs.declared.AttributeKind.{AttributeKind}
use Rattle.building.specs.Fault.{unless}
use Rattle.building.specs.Field.{Field, plain, string_field, faults_of, fields_bytes}
use Rattle.building.specs.Call.{Call}
use Rattle.building_record.specs.declared.Building.{Building}
use Rattle.building_record.specs.Record.{attribute_now, with_attribute}

-- which kind of value it is
abbrev pub is_text : AttributeKind → Bool
is_text AttributeKind.NotServed = false
is_text AttributeKind.Text = true
is_text AttributeKind.Integer = false
is_text AttributeKind.Pair = false

abbrev pub is_integer : AttributeKind → Bool
is_integer AttributeKind.NotServed = false
is_integer AttributeKind.Text = false
is_integer AttributeKind.Integer = true
is_integer AttributeKind.Pair = false

abbrev pub is_pair : AttributeKind → Bool
is_pair AttributeKind.NotServed = false
is_pair AttributeKind.Text = false
is_pair AttributeKind.Integer = false
is_pair AttributeKind.Pair = true

-- a code that does not take the kind of value given is 9; FF takes none
abbrev pub code_field : Bool → ℕ → Field
code_field takes code = record { fault = unless takes attribute_wrong; bytes = code ∷ [] }

-- an attribute with a string
abbrev pub text_fields : ℕ → Bool → List ℕ → List Field
text_fields code null value = code_field (is_text (attribute_kind code)) code ∷ string_field StringField.AttributeValue null value ∷ []

-- an attribute with an integer
abbrev pub integer_fields : ℕ → ℕ → List Field
integer_fields code value = code_field (is_integer (attribute_kind code)) code ∷ plain (integer_bytes value) ∷ []

-- an attribute with a name and a value
abbrev pub pair_fields : ℕ → Bool → List ℕ → Bool → List ℕ → List Field
pair_fields code name_null name value_null value =
    code_field (is_pair (attribute_kind code)) code
    ∷ string_field StringField.AttributeName name_null name
    ∷ string_field StringField.AttributeValue value_null value
    ∷ []

-- the call that writes an attribute: 16, then its fields
abbrev pub attribute_call : Building → List ℕ → List Field → Call Building
attribute_call r buffer own = record {
  faults = attribute_now r buffer ∷ faults_of own;
  at = r.next.0;
  bytes = fields_bytes own;
  answer = with_attribute r (r.next.0 + length (fields_bytes own));
}

-- the calls
unfoldable pub text_call : Building → List ℕ → ℕ → Bool → List ℕ → Call Building
text_call r buffer code null value = attribute_call r buffer (text_fields code null value)

unfoldable pub integer_call : Building → List ℕ → ℕ → ℕ → Call Building
integer_call r buffer code value = attribute_call r buffer (integer_fields code value)

unfoldable pub pair_call : Building → List ℕ → ℕ → Bool → List ℕ → Bool → List ℕ → Call Building
pair_call r buffer code name_null name value_null value = attribute_call r buffer (pair_fields code name_null name value_null value)
