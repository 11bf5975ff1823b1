-- What the scan of a string for barred bytes promises to its own parts. No rule of the protocol stands here.
-- Assumes nothing.
use Rattle.std.specs.Prelude.{Bool, List, ℕ, ltb}
use Rattle.wire.specs.Pick.{any}

-- the number above those of all barred bytes
abbrev pub above_barred : ℕ
above_barred = 14

-- a byte below it: every barred byte is one (the law `none_barred`), and some others are
abbrev pub low : ℕ → Bool
low b = ltb b above_barred

-- a text with such a byte in it
abbrev pub holds_low : List ℕ → Bool
holds_low = any low
