-- What the functions that look names up promise to one another for their own speed: sets of lengths and of first letters, and flags of the
-- token bytes. Whoever reads the promises of the public calls needs none of these.
-- Assumes nothing.
use Rattle.std.specs.Prelude.{◌≡◌, Bool, false, List, ℕ, ◌%◌, ◌<◌, get_or}
use Rattle.wire.specs.Pick.{all}
use Rattle.wire.specs.Bits.{bit}
use Rattle.names.specs.Names.{letter}
use Rattle.names.specs.Token.{token_byte}

-- the first letter of a text as it is compared, 0 where it has none
abbrev pub first_of : Bool → List ℕ → ℕ
first_of ignoring text = letter ignoring (get_or text 0 0)

-- a set, as the bits of a number, that has all of these
abbrev pub has_all : ℕ → List ℕ → Bool
has_all set numbers = all (bit set) numbers

-- the place of a text's first letter in the alphabet, the same for a capital and a small one
abbrev pub alphabet_place : List ℕ → ℕ
alphabet_place text = get_or text 0 0 % 32

-- flags that say of each of the 256 bytes whether it is a token byte
unfoldable pub TokenFlags : List Bool → Type 0
TokenFlags flags = (b : ℕ) → b < 256 → get_or flags b false ≡ token_byte b
