-- What stands behind the count of headers: the headers and, in a Forward, the attributes.
-- Document 01, 'Server to container', Forward Request, 'Container to server', Send Headers, and row 12 of 'Refusal numbers'.
-- Assumes nothing.
use Rattle.std.specs.Prelude.{List, [], ℕ, eqb, length, Option, None}
use Rattle.wire.specs.Pick.{pick}
use Rattle.wire.specs.Refusal.{left_over}
use Rattle.packet.specs.declared.Direction.{Direction}
use Rattle.headers.specs.Length.{declared_length}
use Rattle.places.specs.Entries.{Entries, ended, followed, ending, max_attributes}
use Rattle.headers.specs.Headers.{headers_at}
use Rattle.headers.specs.Read.{HeadersRead}
use Rattle.attributes.specs.Attributes.{attributes_at, AttributesRead}
use Rattle.payload.specs.Read.{FieldRead, ListsRead}

-- the headers behind their count
unfoldable pub headers_after : Direction → List ℕ → FieldRead → Entries HeadersRead
headers_after direction s (FieldRead.Refused n) = ended (HeadersRead.Refused n)
headers_after direction s (FieldRead.Field at count next) = headers_at direction s next count None

-- how a Forward ends: with its attributes, behind which nothing may stand (12)
abbrev pub lists_of : ℕ → Option ℕ → AttributesRead → ListsRead
lists_of size declared (AttributesRead.Refused n) = ListsRead.Refused n
lists_of size declared (AttributesRead.Attributes count next) =
    pick (eqb next size) (ListsRead.Lists (record { 0 = declared_length declared }) count) (ListsRead.Refused left_over)

-- the attributes behind the headers, where it is known what length the headers declare
unfoldable pub attributes_behind : List ℕ → Option ℕ → ℕ → Entries ListsRead
attributes_behind s declared at = ending (lists_of (length s) declared) (attributes_at s at max_attributes [])

-- what stands behind the headers, by how they end
abbrev pub behind_headers : List ℕ → HeadersRead → Entries ListsRead
behind_headers s (HeadersRead.Refused n) = ended (ListsRead.Refused n)
behind_headers s (HeadersRead.Headers declared next) = attributes_behind s declared next

-- a Forward's headers and then its attributes, behind the count of headers
unfoldable pub lists_at : List ℕ → FieldRead → Entries ListsRead
lists_at s count =
    followed (headers_after Direction.ToContainer s count) (behind_headers s (headers_after Direction.ToContainer s count).end)
