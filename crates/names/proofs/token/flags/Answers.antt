-- `token::flags` meets its contract. That the table follows the rule at every one of its 256 entries is a test that antt computes, once
-- over the whole table.
-- Assumes nothing.
use mathlib.Core.Bool.{false}
use Rattle.names.specs.Token.{token_byte}
use Rattle.names.specs.Private.{TokenFlags}
use Rattle.names.proofs.Rule.{at}
use Rattle.names.proofs.token.flags.Goals as goal

pub returns : goal.returns
unfolding TokenFlags token_byte
returns c = λ b h. at token_byte 256 b false h
