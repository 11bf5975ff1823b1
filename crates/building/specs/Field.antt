-- Fields that are to be written, one behind the other: what each is judged to be, and its bytes.
-- Document 01, 'Building': a piece checks its own fields as a reader would; 'Bytes and numbers'.
-- Assumes nothing.
use Rattle.std.specs.Prelude.{◌≡◌, Bool, false, List, [], ◌∷◌, ◌++◌, ℕ, ◌+◌, min, length}
use Rattle.wire.specs.Refusal.{none}
use Rattle.wire.specs.Bytes.{integer_bytes}
use Rattle.wire.specs.Field.{string_bytes}
use Rattle.wire.specs.Packet.{packet_head}
use Rattle.wire.specs.declared.StringField.{StringField}
use Rattle.connection.specs.Connection.{max_packet}
use Rattle.connection.specs.Cycle.{direction_of}
use Rattle.connection.specs.declared.Kind.{Kind}
use Rattle.payload.specs.Code.{code_of}
use Rattle.building.specs.Fault.{string_fault, range_fault}

-- a field: its fault, 0 for none, and the bytes that it is written as
pub record Field : Type 0 where
  pub fault : ℕ
  pub bytes : List ℕ

-- a field that is always right
abbrev pub plain : List ℕ → Field
plain bytes = record { fault = none; bytes = bytes }

-- a byte from `low` to `high`
abbrev pub byte_within : ℕ → ℕ → ℕ → Field
byte_within low high n = record { fault = range_fault low high n; bytes = n ∷ [] }

-- an integer from `low` to `high`
abbrev pub integer_within : ℕ → ℕ → ℕ → Field
integer_within low high n = record { fault = range_fault low high n; bytes = integer_bytes n }

-- a string: null, or a text
abbrev pub string_field : StringField → Bool → List ℕ → Field
string_field field null text = record { fault = string_fault field null text; bytes = string_bytes null text }

-- two texts that say the same of a string: where it is null any two, else one and the same
abbrev pub SameText : Bool → List ℕ → List ℕ → Type 0
SameText null text other = null ≡ false → text ≡ other

-- the faults of fields, in the fields' order
abbrev pub faults_of : List Field → List ℕ
faults_of [] = []
faults_of (field ∷ later) = field.fault ∷ faults_of later

-- the bytes of fields
abbrev pub fields_bytes : List Field → List ℕ
fields_bytes [] = []
fields_bytes (field ∷ later) = field.bytes ++ fields_bytes later

-- the first bytes of a packet of a kind, up to its code
abbrev pub opening : Kind → ℕ → List ℕ
opening kind payload_length = packet_head (direction_of kind) payload_length ++ (code_of kind ∷ [])

-- a number of bytes as it is told: exact up to 8192; all that no packet can have is told as 8193
unfoldable pub size_told : ℕ → ℕ
size_told n = min n (max_packet + 1)

-- how many bytes a buffer needs for fields that begin at a place
abbrev pub needed_at : ℕ → List Field → ℕ
needed_at at these = size_told (at + length (fields_bytes these))
