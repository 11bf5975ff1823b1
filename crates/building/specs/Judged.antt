-- What reading answers where a string stands that was judged before it was written.
-- Document 01, 'Building': a piece checks its own fields as a reader would.
-- Assumes nothing.
use Rattle.std.specs.Prelude.{Bool, List, ℕ, eqb}
use Rattle.wire.specs.Pick.{pick}
use Rattle.wire.specs.Refusal.{none}
use Rattle.wire.specs.Facts.{written}
use Rattle.wire.specs.Read.{StringRead}

-- by the fault that was found: with none it is read, null or its text, behind a place; else it is refused with the fault
abbrev pub judged : ℕ → ℕ → Bool → List ℕ → StringRead
judged fault at null text = pick (eqb fault none) (written at null text) (StringRead.Refused fault)
