-- Where a string is given as null its text does not matter: with any other text the call is the same, and so it has the same outcome and
-- leaves the same buffer. One law for each field that is a string, and the calls by them.
-- Assumes nothing.
use mathlib.Core.Path.{◌≡◌, refl, ap, ◌∙◌}
use mathlib.Core.Bool.{Bool, true, false}
use mathlib.Core.List.{List, [], ◌∷◌}
use Prim.Native.Nat.{ℕ}
use Rattle.wire.specs.Bytes.{integer_bytes}
use Rattle.wire.specs.Field.{boolean_bytes, string_bytes, string_allowed}
use Rattle.wire.specs.declared.StringField.{StringField}
use Rattle.packet.specs.declared.Direction.{Direction}
use Rattle.names.specs.Attribute.{attribute_kind}
use Rattle.names.specs.Header.{header_names}
use Rattle.names.specs.Names.{code_in}
use Rattle.std.specs.Prelude.{Option, Some, None}
use Rattle.headers.specs.Headers.{declares, declared_after}
use Rattle.payload.specs.Forward.{first_method, last_method}
use Rattle.payload.specs.SendHeaders.{least_status, greatest_status}
use Rattle.building.specs.Fault.{string_fault}
use Rattle.building.specs.Field.{Field, plain, byte_within, integer_within, string_field, SameText}
use Rattle.building_record.specs.declared.BuildingKind.{BuildingKind}
use Rattle.building_record.specs.declared.Building.{Building}
use Rattle.building_record.specs.Record.{direction_in}
use Rattle.pieces.specs.declared.forward.Numbers.{Numbers}
use Rattle.pieces.specs.declared.forward.Nulls.{Nulls}
use Rattle.pieces.specs.Fixed.{fixed_call, forward_call, send_headers_call}
use Rattle.pieces.specs.Header.{spelled_name, value_fault, header_value, coded_name, header_call, coded_call, spelled_call, named_by, named_call}
use Rattle.pieces.specs.Attribute.{is_text, is_pair, code_field, attribute_call, text_call, pair_call}

-- a string's field
string_same : (field : StringField) (null : Bool) (text other : List ℕ) → SameText null text other
    → string_field field null text ≡ string_field field null other
unfolding string_fault string_allowed string_bytes
string_same field true text other same = refl
string_same field false text other same = ap (string_field field false) (same refl)

-- a header's spelled name, which may not be null
name_same : (direction : Direction) (null : Bool) (text other : List ℕ) → SameText null text other
    → spelled_name direction null text ≡ spelled_name direction null other
unfolding string_fault string_allowed string_bytes
name_same direction true text other same = refl
name_same direction false text other same = ap (spelled_name direction false) (same refl)

-- a header's value
value_same : (is_length null : Bool) (text other : List ℕ) → SameText null text other
    → header_value is_length null text ≡ header_value is_length null other
unfolding value_fault string_fault string_allowed string_bytes declared_after
value_same is_length true text other same = refl
value_same is_length false text other same = ap (header_value is_length false) (same refl)

-- the calls: Forward
pub forward_same : (numbers : Numbers) (nulls : Nulls) (protocol uri addr host name protocol2 uri2 addr2 host2 name2 : List ℕ)
    → SameText nulls.protocol protocol protocol2
    → SameText nulls.req_uri uri uri2
    → SameText nulls.remote_addr addr addr2
    → SameText nulls.remote_host host host2
    → SameText nulls.server_name name name2
    → forward_call numbers nulls protocol uri addr host name ≡ forward_call numbers nulls protocol2 uri2 addr2 host2 name2
unfolding forward_call
forward_same numbers nulls protocol uri addr host name protocol2 uri2 addr2 host2 name2 p u a h n =
    let made : Field → Field → Field → Field → Field → List Field =
    λ p u a h n. byte_within first_method last_method numbers.method ∷ p ∷ u ∷ a ∷ h ∷ n
    ∷ plain (integer_bytes numbers.server_port) ∷ plain (boolean_bytes numbers.is_ssl) ∷ [] in
    let P : Field = string_field StringField.Protocol nulls.protocol protocol in
    let U : Field = string_field StringField.ReqUri nulls.req_uri uri in
    let A : Field = string_field StringField.RemoteAddr nulls.remote_addr addr in
    let H : Field = string_field StringField.RemoteHost nulls.remote_host host in
    let P2 : Field = string_field StringField.Protocol nulls.protocol protocol2 in
    let U2 : Field = string_field StringField.ReqUri nulls.req_uri uri2 in
    let A2 : Field = string_field StringField.RemoteAddr nulls.remote_addr addr2 in
    let H2 : Field = string_field StringField.RemoteHost nulls.remote_host host2 in
    let N : Field = string_field StringField.ServerName nulls.server_name name in
    ap (λ (x : Field). fixed_call BuildingKind.Forward (made x U A H N)) (string_same StringField.Protocol nulls.protocol protocol protocol2 p)
    ∙ ap (λ (x : Field). fixed_call BuildingKind.Forward (made P2 x A H N)) (string_same StringField.ReqUri nulls.req_uri uri uri2 u)
    ∙ ap (λ (x : Field). fixed_call BuildingKind.Forward (made P2 U2 x H N)) (string_same StringField.RemoteAddr nulls.remote_addr addr addr2 a)
    ∙ ap (λ (x : Field). fixed_call BuildingKind.Forward (made P2 U2 A2 x N)) (string_same StringField.RemoteHost nulls.remote_host host host2 h)
    ∙ ap (λ (x : Field). fixed_call BuildingKind.Forward (made P2 U2 A2 H2 x)) (string_same StringField.ServerName nulls.server_name name name2 n)

-- Send Headers
pub send_headers_same : (status : ℕ) (null : Bool) (message other : List ℕ) → SameText null message other
    → send_headers_call status null message ≡ send_headers_call status null other
unfolding send_headers_call
send_headers_same status null message other same =
    ap (λ (x : Field). fixed_call BuildingKind.SendHeaders (integer_within least_status greatest_status status ∷ x ∷ []))
    (string_same StringField.Message null message other same)

module _ (r : Building) (buffer : List ℕ) where
  -- a header by code
  pub coded_same : (code : ℕ) (null : Bool) (value other : List ℕ) → SameText null value other
      → coded_call r buffer code null value ≡ coded_call r buffer code null other
  unfolding coded_call
  coded_same code null value other same =
      ap (λ (x : Field). header_call r buffer (coded_name (direction_in r) code ∷ x ∷ []))
      (value_same (declares (direction_in r) code) null value other same)

  -- one with a spelled name
  pub spelled_same : (name_null : Bool) (name name2 : List ℕ) (value_null : Bool) (value value2 : List ℕ) → SameText name_null name name2
      → SameText value_null value value2 → spelled_call r buffer name_null name value_null value ≡ spelled_call r buffer name_null name2 value_null value2
  unfolding spelled_call
  spelled_same name_null name name2 value_null value value2 n v =
      ap (λ (x : Field). header_call r buffer (x ∷ header_value false value_null value ∷ [])) (name_same (direction_in r) name_null name name2 n)
      ∙ ap (λ (x : Field). header_call r buffer (spelled_name (direction_in r) name_null name2 ∷ x ∷ []))
      (value_same false value_null value value2 v)

  -- one whose name is given as a text
  pub named_same : (name : List ℕ) (null : Bool) (value other : List ℕ) → SameText null value other
      → named_call r buffer name null value ≡ named_call r buffer name null other
  unfolding named_call
  named_same name null value other same = by (code_in (header_names (direction_in r)) name)
    where
      by : (found : Option ℕ) → named_by r buffer name null value found ≡ named_by r buffer name null other found
      by (Some code) = coded_same code null value other same
      by None = spelled_same false name name null value other (λ e. refl) same

  -- an attribute with a string
  pub text_same : (code : ℕ) (null : Bool) (value other : List ℕ) → SameText null value other
      → text_call r buffer code null value ≡ text_call r buffer code null other
  unfolding text_call
  text_same code null value other same =
      ap (λ (x : Field). attribute_call r buffer (code_field (is_text (attribute_kind code)) code ∷ x ∷ []))
      (string_same StringField.AttributeValue null value other same)

  -- one with a name and a value
  pub pair_same : (code : ℕ) (name_null : Bool) (name name2 : List ℕ) (value_null : Bool) (value value2 : List ℕ) → SameText name_null name name2
      → SameText value_null value value2
      → pair_call r buffer code name_null name value_null value ≡ pair_call r buffer code name_null name2 value_null value2
  unfolding pair_call
  pair_same code name_null name name2 value_null value value2 n v =
      ap (λ (x : Field). attribute_call r buffer (code_field (is_pair (attribute_kind code)) code ∷ x ∷ string_field StringField.AttributeValue value_null value ∷ []))
      (string_same StringField.AttributeName name_null name name2 n)
      ∙ ap (λ (x : Field). attribute_call r buffer (code_field (is_pair (attribute_kind code)) code ∷ string_field StringField.AttributeName name_null name2 ∷ x ∷ []))
      (string_same StringField.AttributeValue value_null value value2 v)
