-- `token::is_token` meets its contract. The invariant: the flag and the test of the bytes still to come are the test of the whole text.
-- Assumes nothing.
use mathlib.Core.Path.{◌≡◌}
use lib.ListN.{drop}
use Rattle.wire.specs.Pick.{both}
use Rattle.names.specs.Token.{is_token}
use Rattle.names.proofs.token.is_token.Given as goal

abbrev pub invariant-loop-b : goal.invariant-loop-b
invariant-loop-b l = both l.good (is_token (drop l.b-index l.text)) ≡ is_token l.text
