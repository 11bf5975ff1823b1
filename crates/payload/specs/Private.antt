-- What the functions that read fixed fields ask of one another. Whoever reads the promises of the public calls needs none of these.
-- Assumes nothing.
use Rattle.std.specs.Prelude.{ℕ, ◌≤◌}
use Rattle.payload.specs.Read.{FieldRead}

-- a field whose place is at most this, or refused
abbrev pub Within : ℕ → FieldRead → Type 0
Within most (FieldRead.Refused n) = Unit
Within most (FieldRead.Field at value next) = at ≤ most

-- a field whose number is at most this, or refused
abbrev pub Counts : ℕ → FieldRead → Type 0
Counts most (FieldRead.Refused n) = Unit
Counts most (FieldRead.Field at value next) = value ≤ most
