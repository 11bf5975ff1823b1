-- Fixed fields one after the other: each is read where the one before it ends; after a refusal none is read.
-- Document 01, 'Refusal numbers': fields left to right, first fault wins.
-- Assumes nothing.
use Rattle.std.specs.Prelude.{List, ℕ}
use Rattle.wire.specs.Pick.{pick, between}
use Rattle.wire.specs.Field.{byte_at, integer_at, boolean_at, string_at, is_optional, boolean_number}
use Rattle.wire.specs.declared.StringField.{StringField}
use Rattle.wire.specs.Read.{NumberRead, BooleanRead, StringRead}
use Rattle.packet.specs.declared.Place.{Place}
use Rattle.payload.specs.Read.{FieldRead}
use Rattle.wire.specs.Packet.{code_place, after_code_place}

-- the code, which was judged before: the first field is behind it
abbrev pub after_code : FieldRead
after_code = FieldRead.Field code_place 0 after_code_place

-- a field behind another
abbrev pub behind : (ℕ → FieldRead) → FieldRead → FieldRead
behind read (FieldRead.Refused n) = FieldRead.Refused n
behind read (FieldRead.Field at value next) = read next

-- a string as a field; it has no number, and 0 stands for that
abbrev pub string_as_field : ℕ → StringRead → FieldRead
string_as_field at (StringRead.Refused n) = FieldRead.Refused n
string_as_field at (StringRead.Null next) = FieldRead.Field at 0 next
string_as_field at (StringRead.Text start len next) = FieldRead.Field at 0 next

-- the string at a place, as a field
unfoldable pub string_field_at : List ℕ → StringField → ℕ → FieldRead
string_field_at s field at = string_as_field at (string_at s at (is_optional field))

-- the string behind a field
unfoldable pub string_after : List ℕ → StringField → FieldRead → FieldRead
string_after s field = behind (string_field_at s field)

-- a boolean as a field
abbrev pub boolean_as_field : ℕ → BooleanRead → FieldRead
boolean_as_field at (BooleanRead.Refused n) = FieldRead.Refused n
boolean_as_field at (BooleanRead.Boolean value next) = FieldRead.Field at (boolean_number value) next

-- the boolean at a place, as a field
unfoldable pub boolean_field_at : List ℕ → ℕ → FieldRead
boolean_field_at s at = boolean_as_field at (boolean_at s at)

-- the boolean behind a field
unfoldable pub boolean_after : List ℕ → FieldRead → FieldRead
boolean_after s = behind (boolean_field_at s)

-- a number as a field
abbrev pub number_as_field : ℕ → NumberRead → FieldRead
number_as_field at (NumberRead.Refused n) = FieldRead.Refused n
number_as_field at (NumberRead.Number value next) = FieldRead.Field at value next

-- the integer behind a field, which may be any
unfoldable pub any_integer_after : List ℕ → FieldRead → FieldRead
any_integer_after s = behind (λ at. number_as_field at (integer_at s at))

-- a number as a field, from `low` to `high`, else it is refused with `fault`
abbrev pub bounded : ℕ → ℕ → ℕ → ℕ → NumberRead → FieldRead
bounded at low high fault (NumberRead.Refused n) = FieldRead.Refused n
bounded at low high fault (NumberRead.Number value next) =
    pick (between low high value) (FieldRead.Field at value next) (FieldRead.Refused fault)

-- the byte behind a field, from `low` to `high`
unfoldable pub byte_after : List ℕ → ℕ → ℕ → ℕ → FieldRead → FieldRead
byte_after s low high fault = behind (λ at. bounded at low high fault (byte_at s at))

-- the integer behind a field, from `low` to `high`
unfoldable pub integer_after : List ℕ → ℕ → ℕ → ℕ → FieldRead → FieldRead
integer_after s low high fault = behind (λ at. bounded at low high fault (integer_at s at))

-- a field's place; 0 for a refused one, of which nothing is told
abbrev pub field_place : FieldRead → Place
field_place (FieldRead.Refused n) = record { 0 = 0 }
field_place (FieldRead.Field at value next) = record { 0 = at }

-- a field's number; 0 for a refused one, of which nothing is told
abbrev pub field_number : FieldRead → ℕ
field_number (FieldRead.Refused n) = 0
field_number (FieldRead.Field at value next) = value
