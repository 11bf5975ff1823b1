-- The word of a flag.
-- Assumes nothing.
use mathlib.Core.Path.{◌≡◌, refl}
use mathlib.Core.Bool.{Bool, true, false}
use Rattle.std.specs.Int.{from_bool}
use Rattle.wire.specs.Field.{boolean_number}

-- a flag as a word is the number of the boolean
pub flag_word : (flag : Bool) → from_bool flag ≡ boolean_number flag
flag_word true = refl
flag_word false = refl
