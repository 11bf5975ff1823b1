-- A header is a name and then a value string; headers stand one after the other.
-- Document 01, 'Server to container', Header, and 'Refusal numbers': where a name's and a length's faults are told.
-- Assumes nothing.
use Rattle.std.specs.Prelude.{Bool, true, false, List, [], ℕ, zero, suc, ◌+◌, leb, eqb, length, get_or, Option}
use Rattle.wire.specs.Pick.{pick, both}
use Rattle.wire.specs.Refusal.{none, cut_short, string_wrong}
use Rattle.wire.specs.Bytes.{part}
use Rattle.wire.specs.Field.{integer_at, string_at, is_optional}
use Rattle.packet.specs.declared.Direction.{Direction}
use Rattle.wire.specs.declared.StringField.{StringField}
use Rattle.wire.specs.Read.{NumberRead, StringRead}
use Rattle.names.specs.Header.{begins_code, code_fault, spelled_fault, is_request}
use Rattle.headers.specs.Length.{is_content_length, length_after}
use Rattle.headers.specs.Read.{LengthRead, NameRead, HeaderRead, HeadersRead}
use Rattle.places.specs.Entries.{Entries, ended, front}

-- a name, unless it has a fault
abbrev pub name_unless : ℕ → NameRead → NameRead
name_unless fault name = pick (eqb fault none) name (NameRead.Refused fault)

-- a name by its code, as read
unfoldable pub code_name_of : Direction → NumberRead → NameRead
code_name_of direction (NumberRead.Refused n) = NameRead.Refused n
code_name_of direction (NumberRead.Number code next) = name_unless (code_fault direction code) (NameRead.Code code next)

-- a name that is spelled out
unfoldable pub spelled_at : Direction → List ℕ → ℕ → ℕ → ℕ → NameRead
spelled_at direction s start len next = name_unless (spelled_fault direction (part s start len)) (NameRead.Spelled start len next)

-- the string of a spelled name, as read
abbrev pub spelled_of : Direction → List ℕ → StringRead → NameRead
spelled_of direction s (StringRead.Refused n) = NameRead.Refused n
spelled_of direction s (StringRead.Null next) = NameRead.Refused string_wrong
spelled_of direction s (StringRead.Text start len next) = spelled_at direction s start len next

-- the name at a place: two bytes present (3), then a code or a string
unfoldable pub name_at : Direction → List ℕ → ℕ → NameRead
name_at direction s at =
    pick (leb (at + 2) (length s))
    (pick (begins_code (get_or s at 0)) (code_name_of direction (integer_at s at)) (spelled_of direction s (string_at s at (is_optional StringField.HeaderName))))
    (NameRead.Refused cut_short)

-- whether a header with this code declares the length of the body: content-length in a request
abbrev pub declares : Direction → ℕ → Bool
declares direction code = both (is_request direction) (is_content_length code)

-- what is declared after a header's value; a value that declares nothing leaves it
unfoldable pub declared_after : Bool → Option ℕ → Bool → List ℕ → LengthRead
declared_after is_length before null text = pick is_length (length_after before null text) (LengthRead.Now before)

-- a header whose value was read, by what is declared then
abbrev pub header_valued : ℕ → ℕ → LengthRead → HeaderRead
header_valued at next (LengthRead.Refused n) = HeaderRead.Refused n
header_valued at next (LengthRead.Now declared) = HeaderRead.Header at declared next

-- the value's string, as read: its own faults come before those of the length that it declares
abbrev pub header_value_of : List ℕ → ℕ → Bool → Option ℕ → StringRead → HeaderRead
header_value_of s at is_length before (StringRead.Refused n) = HeaderRead.Refused n
header_value_of s at is_length before (StringRead.Null next) = header_valued at next (declared_after is_length before true [])
header_value_of s at is_length before (StringRead.Text start len next) = header_valued at next (declared_after is_length before false (part s start len))

-- the value at a place
unfoldable pub header_value_at : List ℕ → ℕ → Bool → Option ℕ → HeaderRead
header_value_at s at is_length before = header_value_of s at is_length before (string_at s at (is_optional StringField.HeaderValue))

-- a header: a name, as read, and the value behind it
abbrev pub header_of : Direction → List ℕ → Option ℕ → NameRead → HeaderRead
header_of direction s before (NameRead.Refused n) = HeaderRead.Refused n
header_of direction s before (NameRead.Code code next) = header_value_at s next (declares direction code) before
header_of direction s before (NameRead.Spelled start len next) = header_value_at s next false before

-- the header at a place, where those before it declare this
unfoldable pub header_at : Direction → List ℕ → ℕ → Option ℕ → HeaderRead
header_at direction s at before = header_of direction s before (name_at direction s at)

-- a header, as read at a place, and the later ones
abbrev pub header_then : ℕ → HeaderRead → (Option ℕ → ℕ → Entries HeadersRead) → Entries HeadersRead
header_then at (HeaderRead.Refused n) later = ended (HeadersRead.Refused n)
header_then at (HeaderRead.Header value declared next) later = front at value (later declared next)

-- so many headers from a place on, where those before them declare this
unfoldable pub headers_at : Direction → List ℕ → ℕ → ℕ → Option ℕ → Entries HeadersRead
headers_at direction s at zero declared = ended (HeadersRead.Headers declared at)
headers_at direction s at (suc count) declared =
    header_then at (header_at direction s at declared) (λ after next. headers_at direction s next count after)
