-- What the laws of reading headers say: what is answered lies inside a packet of n bytes.
-- Assumes nothing.
use Rattle.std.specs.Prelude.{◌≡◌, List, ℕ, ◌+◌, ◌≤◌, length}
use Rattle.headers.specs.Read.{NameRead, HeaderRead, HeadersRead}

-- a name at a place, with its end behind its code or behind its zero
abbrev pub NameInside : ℕ → ℕ → NameRead → Type 0
NameInside n at (NameRead.Refused k) = Unit
NameInside n at (NameRead.Code code next) = (next ≡ at + 2) × (next ≤ n)
NameInside n at (NameRead.Spelled start len next) = (start ≡ at + 2) × ((next ≡ start + len + 1) × (next ≤ n))

-- a header at a place: its name, then its value, then its end
abbrev pub HeaderInside : ℕ → ℕ → HeaderRead → Type 0
HeaderInside n at (HeaderRead.Refused k) = Unit
HeaderInside n at (HeaderRead.Header value declared next) = (at + 2 ≤ value) × ((value + 2 ≤ next) × (next ≤ n))

-- headers from a place on, by their places and their end: where none is refused, they have two places each and end behind that place
abbrev pub HeadersInside : ℕ → ℕ → ℕ → List ℕ → HeadersRead → Type 0
HeadersInside n at count places (HeadersRead.Refused k) = Unit
HeadersInside n at count places (HeadersRead.Headers declared next) =
    (length places ≡ count + count) × ((at ≤ next) × (at ≤ n → next ≤ n))
