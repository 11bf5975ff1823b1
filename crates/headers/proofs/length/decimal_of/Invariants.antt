-- `length::decimal_of` meets its contract. The invariant, `Reading`: the sum so far, with the digits that are left, makes the number of the whole text.
-- Assumes nothing.
use Rattle.headers.proofs.ContentLength.{Reading}
use Rattle.headers.proofs.length.decimal_of.Given as goal

abbrev pub invariant-loop-b : goal.invariant-loop-b
invariant-loop-b l = Reading l.text l.sum l.b-index
