-- The set of codes that came before, as the bits of a number: how the loop keeps them. Whoever reads the promises of the public calls needs
-- none of these.
-- Document 01, 'What form to use where': the attribute codes seen.
-- Assumes nothing.
use Rattle.std.specs.Prelude.{ℕ, ◌^◌, leb}
use Rattle.std.specs.Int.Bits.{bit_or}
use Rattle.wire.specs.Pick.{pick}

-- how many numbers a set may hold: those below this
abbrev pub set_room : ℕ
set_room = 16

-- the set with k in it
unfoldable pub with_bit : ℕ → ℕ → ℕ
with_bit set k = pick (leb set_room k) set (bit_or set (2 ^ k))
