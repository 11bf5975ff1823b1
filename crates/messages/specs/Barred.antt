-- A string with a zero or a line end in it is told as 6, in whichever field it stands, read and written; and that comes before the rule of a
-- name (8, 10) and that of a length (10).
-- Document 02, A3: no line ends in strings.
-- Assumes nothing.
use Rattle.std.specs.Prelude.{◌≡◌, Bool, true, false, List, ℕ, ◌+◌, ◌≤◌, length, get_or, Option}
use Rattle.wire.specs.Refusal.{string_wrong}
use Rattle.wire.specs.Bytes.{part, integer_in}
use Rattle.wire.specs.Field.{null_length, is_optional, holds_barred, string_at}
use Rattle.wire.specs.declared.StringField.{StringField}
use Rattle.wire.specs.Read.{StringRead}
use Rattle.packet.specs.declared.Direction.{Direction}
use Rattle.names.specs.Header.{begins_code}
use Rattle.headers.specs.Headers.{name_at, header_value_at}
use Rattle.headers.specs.Read.{NameRead, HeaderRead}
use Rattle.building.specs.Fault.{string_fault}
use Rattle.pieces.specs.Header.{spelled_name, value_fault}

-- a text stands at a place, whole with the byte behind it, and holds a zero or a line end
pub record BarredAt (s : List ℕ) (at : ℕ) : Type 0 where
  pub whole : at + 2 + (integer_in s at + 1) ≤ length s
  pub not_null : integer_in s at ≡ null_length → ⊥
  pub held : holds_barred (part s (at + 2) (integer_in s at)) ≡ true

-- told as 6
pub record BarredFirst : Type 0 where
  -- a string that is read, in every field
  pub read : (field : StringField) (s : List ℕ) (at : ℕ) → BarredAt s at → string_at s at (is_optional field) ≡ StringRead.Refused string_wrong
  -- a header's name that is read, whatever else is wrong with it
  pub read_name : (d : Direction) (s : List ℕ) (at : ℕ) → begins_code (get_or s at 0) ≡ false → BarredAt s at
      → name_at d s at ≡ NameRead.Refused string_wrong
  -- a header's value that is read, also one that would declare a length, whatever was declared before it
  pub read_value : (s : List ℕ) (at : ℕ) (is_length : Bool) (before : Option ℕ) → BarredAt s at
      → header_value_at s at is_length before ≡ HeaderRead.Refused string_wrong
  -- a string that is to be written, in every field
  pub written : (field : StringField) (bytes : List ℕ) → holds_barred bytes ≡ true → string_fault field false bytes ≡ string_wrong
  -- a header's name that is to be written
  pub written_name : (d : Direction) (bytes : List ℕ) → holds_barred bytes ≡ true → (spelled_name d false bytes).fault ≡ string_wrong
  -- a header's value that is to be written, also one that would declare a length
  pub written_value : (is_length : Bool) (bytes : List ℕ) → holds_barred bytes ≡ true → value_fault is_length false bytes ≡ string_wrong
