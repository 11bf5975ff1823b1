-- The fields of a packet: byte, integer, boolean and string; what reading one at a place answers, and what bytes it is.
-- The packet is a list that ends where the packet ends, so a field that runs past it is cut short (3).
-- Document 01, 'Bytes and numbers', and from 'Refusal numbers' the order in which a string's faults are judged: 3, 6, 3, 6. Document 02, A3: no
-- line ends in strings.
-- Assumes nothing.
use Rattle.std.specs.Prelude.{Bool, true, false, not, List, [], ◌∷◌, ◌++◌, ℕ, ◌+◌, leb, eqb, length, get_or}
use Rattle.wire.specs.Pick.{pick, both, either, any}
use Rattle.wire.specs.Refusal.{cut_short, string_wrong, out_of_range}
use Rattle.wire.specs.Bytes.{part, integer_in, integer_bytes}
use Rattle.wire.specs.Read.{NumberRead, BooleanRead, StringRead}
use Rattle.wire.specs.declared.StringField.{StringField}

-- a number that takes `width` bytes
abbrev pub number_at : ℕ → ℕ → List ℕ → ℕ → NumberRead
number_at width value s at = pick (leb (at + width) (length s)) (NumberRead.Number value (at + width)) (NumberRead.Refused cut_short)

-- the byte at a place
unfoldable pub byte_at : List ℕ → ℕ → NumberRead
byte_at s at = number_at 1 (get_or s at 0) s at

-- the integer at a place
unfoldable pub integer_at : List ℕ → ℕ → NumberRead
integer_at s at = number_at 2 (integer_in s at) s at

-- a byte read as a boolean: 0 or 1, anything else is 7
abbrev pub boolean_of : NumberRead → BooleanRead
boolean_of (NumberRead.Refused n) = BooleanRead.Refused n
boolean_of (NumberRead.Number b next) =
    pick (eqb b 0) (BooleanRead.Boolean false next) (pick (eqb b 1) (BooleanRead.Boolean true next) (BooleanRead.Refused out_of_range))

-- the boolean at a place
unfoldable pub boolean_at : List ℕ → ℕ → BooleanRead
boolean_at s at = boolean_of (byte_at s at)

-- a boolean as a number: 1 for true, 0 for false
abbrev pub boolean_number : Bool → ℕ
boolean_number true = 1
boolean_number false = 0

-- a boolean's byte
abbrev pub boolean_bytes : Bool → List ℕ
boolean_bytes value = boolean_number value ∷ []

-- the length that says null, with nothing after it
abbrev pub null_length : ℕ
null_length = 65535

-- the bytes that end a line
abbrev pub line_feed : ℕ
line_feed = 10

abbrev pub carriage_return : ℕ
carriage_return = 13

-- what no string may hold: a zero, and what ends a line. Names, values, attributes, messages and the fixed strings all go by this one; a body's
-- or a chunk's bytes are no string
abbrev pub barred : ℕ → Bool
barred b = either (eqb b 0) (either (eqb b line_feed) (eqb b carriage_return))

-- a text with such a byte in it
abbrev pub holds_barred : List ℕ → Bool
holds_barred = any barred

-- which strings may be null or empty: all but protocol, req_uri and the names of headers and attributes
abbrev pub is_optional : StringField → Bool
is_optional StringField.Protocol = false
is_optional StringField.ReqUri = false
is_optional StringField.RemoteAddr = true
is_optional StringField.RemoteHost = true
is_optional StringField.ServerName = true
is_optional StringField.HeaderName = false
is_optional StringField.HeaderValue = true
is_optional StringField.AttributeName = false
is_optional StringField.AttributeValue = true
is_optional StringField.Message = true

-- null or empty in a field that may be neither
abbrev pub lacks : Bool → Bool → ℕ → Bool
lacks optional null len = both (not optional) (either null (eqb len 0))

-- a string's bytes and its last zero, which start at a place: present (3), the last byte zero and no barred byte inside (6)
unfoldable pub text_at : List ℕ → ℕ → ℕ → StringRead
text_at s start len =
    pick (leb (start + (len + 1)) (length s))
    (pick (both (eqb (get_or s (start + len) 0) 0) (not (holds_barred (part s start len))))
    (StringRead.Text start len (start + len + 1))
    (StringRead.Refused string_wrong))
    (StringRead.Refused cut_short)

-- what follows a string's length: nothing for null, else its bytes
unfoldable pub after_length : List ℕ → Bool → ℕ → ℕ → StringRead
after_length s optional len start =
    pick (lacks optional (eqb len null_length) len)
    (StringRead.Refused string_wrong)
    (pick (eqb len null_length) (StringRead.Null start) (text_at s start len))

-- a string, by what its length reads as
abbrev pub string_of : List ℕ → Bool → NumberRead → StringRead
string_of s optional (NumberRead.Refused n) = StringRead.Refused n
string_of s optional (NumberRead.Number len start) = after_length s optional len start

-- the string at a place
unfoldable pub string_at : List ℕ → ℕ → Bool → StringRead
string_at s at optional = string_of s optional (integer_at s at)

-- a string's bytes: FF FF for null; else its length, its bytes and one zero
unfoldable pub string_bytes : Bool → List ℕ → List ℕ
string_bytes null text = pick null (integer_bytes null_length) (integer_bytes (length text) ++ (text ++ (0 ∷ [])))

-- a string that may stand in a field: it lacks nothing that the field asks for, and if it is not null it holds no barred byte
unfoldable pub string_allowed : Bool → Bool → List ℕ → Bool
string_allowed optional null text = both (not (lacks optional null (length text))) (either null (not (holds_barred text)))
