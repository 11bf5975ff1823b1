-- Flags and 16-bit numbers as words. A word above 65535 that is given for a 16-bit number stands for 65535: wherever document 01 has a
-- range for a number, 65535 is out of it, and is refused with the number that the word itself would be refused with.
-- The C boundary.
-- Assumes nothing.
use Rattle.std.specs.Prelude.{Bool, List, ℕ, leb, eqb, get_or}
use Rattle.wire.specs.Pick.{pick}
use Rattle.building.specs.Fault.{unless}
use Rattle.words.specs.Status as status

-- the word at a place
abbrev pub word : List ℕ → ℕ → ℕ
word words at = get_or words at 0

-- a word that is a flag, and the flag
abbrev pub last_flag : ℕ
last_flag = 1

abbrev pub is_flag : ℕ → Bool
is_flag n = leb n last_flag

abbrev pub flag_in : ℕ → Bool
flag_in n = eqb n last_flag

-- a word that is a 16-bit number, and the number that a word stands for
abbrev pub last_number : ℕ
last_number = 65535

abbrev pub is_number : ℕ → Bool
is_number n = leb n last_number

unfoldable pub capped : ℕ → ℕ
capped n = pick (is_number n) n last_number

-- the fault of an argument that has to be a flag, or a 16-bit number, where document 01 has no number for another
unfoldable pub flag_fault : ℕ → ℕ
flag_fault n = unless (is_flag n) status.argument

unfoldable pub number_fault : ℕ → ℕ
number_fault n = unless (is_number n) status.argument
