-- Every piece is refused with numbers of document 01 only.
-- Assumes nothing.
use mathlib.Core.Path.{◌≡◌, refl}
use mathlib.Core.Bool.{Bool, true, false, not}
use mathlib.Core.List.{List, [], ◌∷◌}
use Prim.Native.Nat.{ℕ}
use lib.Dec.{ltb, eqb}
use Rattle.wire.specs.Pick.{both, either}
use Rattle.wire.specs.Refusal.{none, attribute_wrong, too_many, record_wrong, is_refusal, is_fault}
use Rattle.wire.specs.declared.StringField.{StringField}
use Rattle.packet.specs.declared.Direction.{Direction}
use Rattle.names.specs.Attribute.{attribute_kind}
use Rattle.names.specs.Header.{header_names, spelled_fault}
use Rattle.names.specs.Names.{code_in}
use Rattle.headers.specs.Length.{length_after}
use Rattle.std.specs.Prelude.{Option, Some, None}
use Rattle.std.specs.Prelude.{None}
use Rattle.headers.specs.Read.{LengthRead}
use Rattle.names.proofs.Refusals.{code_fault_lem, spelled_fault_lem}
use Rattle.headers.proofs.ContentLength.{LengthRefusal, length_refusal}
use Rattle.headers.specs.Headers.{declares, declared_after}
use Rattle.places.specs.Entries.{max_headers}
use Rattle.payload.specs.Forward.{first_method, last_method}
use Rattle.payload.specs.SendHeaders.{least_status, greatest_status}
use Rattle.building.specs.Fault.{AllFaults, string_fault}
use Rattle.building.specs.Field.{Field, faults_of}
use Rattle.building.specs.Call.{Numbered}
use Rattle.building.proofs.Refusals.{unless_fault, or_fault, string_fault_lem, range_fault_lem, all_append, outcome_refusal}
use Rattle.building_record.specs.declared.Building.{Building}
use Rattle.building_record.specs.Record.{is_forward, direction_in, is_possible, header_now, attribute_now, count_fault}
use Rattle.pieces.specs.declared.forward.Numbers.{Numbers}
use Rattle.pieces.specs.declared.forward.Nulls.{Nulls}
use Rattle.pieces.specs.Fixed.{forward_call, send_headers_call}
use Rattle.pieces.specs.Header.{spelled_name, length_fault, value_fault, coded_fields, spelled_fields, header_call, coded_call, spelled_call, named_by, named_call}
use Rattle.pieces.specs.Attribute.{is_text, is_integer, is_pair, attribute_call, text_fields, integer_fields, pair_fields, text_call, integer_call, pair_call}

-- a refusal is a fault
refusal_fault : (n : ℕ) → is_refusal n ≡ true → is_fault n ≡ true
refusal_fault n h = go (eqb n none) (is_refusal n) h
  where
    go : (t u : Bool) → u ≡ true → either t u ≡ true
    go true u h = refl
    go false u h = h

-- what a value declares
declared_fault : (is_length null : Bool) (text : List ℕ) → is_fault (length_fault (declared_after is_length None null text)) ≡ true
unfolding declared_after
declared_fault true null text = by (length_after None null text) (length_refusal None null text)
  where
    by : (d : LengthRead) → LengthRefusal d → is_fault (length_fault d) ≡ true
    by (LengthRead.Refused n) h = refusal_fault n h
    by (LengthRead.Now declared) h = refl
declared_fault false null text = refl

-- a header's value, and its spelled name
value_fault_lem : (is_length null : Bool) (text : List ℕ) → is_fault (value_fault is_length null text) ≡ true
unfolding value_fault
value_fault_lem is_length null text =
    or_fault (string_fault StringField.HeaderValue null text) (length_fault (declared_after is_length None null text))
    (string_fault_lem StringField.HeaderValue null text) (declared_fault is_length null text)

name_fault_lem : (direction : Direction) (null : Bool) (text : List ℕ) → is_fault (spelled_name direction null text).fault ≡ true
name_fault_lem direction null text =
    or_fault (string_fault StringField.HeaderName null text) (spelled_fault direction text) (string_fault_lem StringField.HeaderName null text)
    (spelled_fault_lem direction text)

-- 16 before a piece and 11 behind it
module _ (r : Building) (buffer : List ℕ) where
  header_refusal : (own : List Field) → AllFaults (faults_of own) → Numbered (header_call r buffer own)
  unfolding header_now count_fault
  header_refusal own all =
      outcome_refusal (header_call r buffer own) (
        unless_fault (both (is_possible r buffer) (not r.attributes)) record_wrong refl,
        all_append (faults_of own) (count_fault r ∷ []) all (unless_fault (ltb r.headers max_headers) too_many refl, tt),
      )

  attribute_refusal : (own : List Field) → AllFaults (faults_of own) → Numbered (attribute_call r buffer own)
  unfolding attribute_now
  attribute_refusal own all =
      outcome_refusal (attribute_call r buffer own)
      (unless_fault (both (is_possible r buffer) (is_forward r.kind)) record_wrong refl, all)

  coded_refusal : (code : ℕ) (null : Bool) (value : List ℕ) → Numbered (coded_call r buffer code null value)
  unfolding coded_call
  coded_refusal code null value =
      header_refusal (coded_fields (direction_in r) code null value)
      (code_fault_lem (direction_in r) code, (value_fault_lem (declares (direction_in r) code) null value, tt))

  spelled_refusal : (name_null : Bool) (name : List ℕ) (value_null : Bool) (value : List ℕ)
      → Numbered (spelled_call r buffer name_null name value_null value)
  unfolding spelled_call
  spelled_refusal name_null name value_null value =
      header_refusal (spelled_fields (direction_in r) name_null name value_null value)
      (name_fault_lem (direction_in r) name_null name, (value_fault_lem false value_null value, tt))

  named_refusal : (name : List ℕ) (null : Bool) (value : List ℕ) → Numbered (named_call r buffer name null value)
  unfolding named_call
  named_refusal name null value = by (code_in (header_names (direction_in r)) name)
    where
      by : (found : Option ℕ) → Numbered (named_by r buffer name null value found)
      by (Some code) = coded_refusal code null value
      by None = spelled_refusal false name null value

-- the calls, one by one
pub piece_refusals :
    ((numbers : Numbers) (nulls : Nulls) (protocol uri addr host name : List ℕ) → Numbered (forward_call numbers nulls protocol uri addr host name))
    × ((status : ℕ) (null : Bool) (message : List ℕ) → Numbered (send_headers_call status null message))
    × ((r : Building) (buffer : List ℕ) (code : ℕ) (null : Bool) (value : List ℕ) → Numbered (coded_call r buffer code null value))
    × ((r : Building) (buffer : List ℕ) (name_null : Bool) (name : List ℕ) (value_null : Bool) (value : List ℕ)
    → Numbered (spelled_call r buffer name_null name value_null value))
    × ((r : Building) (buffer name : List ℕ) (null : Bool) (value : List ℕ) → Numbered (named_call r buffer name null value))
    × ((r : Building) (buffer : List ℕ) (code : ℕ) (null : Bool) (value : List ℕ) → Numbered (text_call r buffer code null value))
    × ((r : Building) (buffer : List ℕ) (code value : ℕ) → Numbered (integer_call r buffer code value))
    × ((r : Building) (buffer : List ℕ) (code : ℕ) (name_null : Bool) (name : List ℕ) (value_null : Bool) (value : List ℕ)
    → Numbered (pair_call r buffer code name_null name value_null value))
unfolding forward_call send_headers_call text_call integer_call pair_call
piece_refusals = (
  λ numbers nulls protocol uri addr host name. outcome_refusal (forward_call numbers nulls protocol uri addr host name) (
    refl,
    (
      range_fault_lem first_method last_method numbers.method,
      (
        string_fault_lem StringField.Protocol nulls.protocol protocol,
        (
          string_fault_lem StringField.ReqUri nulls.req_uri uri,
          (
            string_fault_lem StringField.RemoteAddr nulls.remote_addr addr,
            (
              string_fault_lem StringField.RemoteHost nulls.remote_host host,
              (string_fault_lem StringField.ServerName nulls.server_name name, (refl, (refl, (refl, tt)))),
            ),
          ),
        ),
      ),
    ),
  ),
  λ status null message. outcome_refusal (send_headers_call status null message)
      (refl, (range_fault_lem least_status greatest_status status, (string_fault_lem StringField.Message null message, (refl, tt)))),
  λ r buffer code null value. coded_refusal r buffer code null value,
  λ r buffer name_null name value_null value. spelled_refusal r buffer name_null name value_null value,
  λ r buffer name null value. named_refusal r buffer name null value,
  λ r buffer code null value. attribute_refusal r buffer (text_fields code null value)
      (unless_fault (is_text (attribute_kind code)) attribute_wrong refl, (string_fault_lem StringField.AttributeValue null value, tt)),
  λ r buffer code value. attribute_refusal r buffer (integer_fields code value)
      (unless_fault (is_integer (attribute_kind code)) attribute_wrong refl, (refl, tt)),
  λ r buffer code name_null name value_null value. attribute_refusal r buffer (pair_fields code name_null name value_null value) (
    unless_fault (is_pair (attribute_kind code)) attribute_wrong refl,
    (string_fault_lem StringField.AttributeName name_null name, (string_fault_lem StringField.AttributeValue value_null value, tt)),
  ),
)
