-- What the functions that fill a table of places ask of their callers. Whoever reads the promises of the public calls needs none of these.
-- Assumes nothing.
use Rattle.std.specs.Prelude.{ℕ}

-- the greatest place that a table of 16-bit places can hold
abbrev pub max_place : ℕ
max_place = 65535
