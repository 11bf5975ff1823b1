-- A set of numbers, as the bits of a number: how code keeps a set in one word.
-- Assumes nothing.
use Rattle.std.specs.Prelude.{Bool, ℕ, ◌/◌, ◌%◌, ◌^◌, eqb}

-- whether k is in the set: its bit is 1
unfoldable pub bit : ℕ → ℕ → Bool
bit set k = eqb (set / 2 ^ k % 2) 1
