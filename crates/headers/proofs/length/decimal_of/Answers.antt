-- `length::decimal_of` meets its contract: where a byte is a digit, its value is added.
-- Assumes nothing.
use mathlib.Core.Path.{sym, ◌∙◌}
use Rattle.headers.proofs.ContentLength.{turn}
use Rattle.headers.proofs.length.decimal_of.Goals as goal

pub loop-b-preserved : goal.loop-b-preserved
loop-b-preserved c =
    turn _ _ _ _ c.loop-b.invariant c.loop-b-test.true (sym c.is_ascii_digit.ensures.value ∙ c.if-not-is_ascii_digit.false) c.from.ensures
