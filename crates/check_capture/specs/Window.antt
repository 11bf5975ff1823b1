-- The window through which a capture is read.
-- Assumes nothing.
use Rattle.std.specs.Prelude.{ℕ}

-- how many bytes it has
abbrev pub window_size : ℕ
window_size = 131072
