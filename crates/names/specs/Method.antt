-- The method of which the cycle takes note.
-- Document 02, A4.
-- Assumes nothing.
use Rattle.std.specs.Prelude.{Bool, ℕ, eqb}

-- the code of HEAD; the law `head_named` has its name from the list
abbrev pub head_method : ℕ
head_method = 3

-- whether a method's code is that of HEAD
abbrev pub is_head_method : ℕ → Bool
is_head_method n = eqb n head_method
