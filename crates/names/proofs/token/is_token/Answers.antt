-- `token::is_token` meets its contract. The invariant: the flag and the test of the bytes still to come are the test of the whole text.
-- Assumes nothing.
use native.Mathlib.Omega.{arith}
use lib.ListN.{get_or}
use Rattle.wire.proofs.Scan.{all_step, all_end}
use Rattle.names.specs.Token.{token_byte}
use Rattle.names.specs.Private.{TokenFlags}
use Rattle.names.proofs.token.is_token.Goals as goal

pub loop-b-preserved : goal.loop-b-preserved
unfolding TokenFlags
loop-b-preserved c =
    let l = c.loop-b in
    let text = c.args.text.now in
    all_step token_byte text l.good l.b-index _ c.loop-b-test.true
    (c.flags-flags.ensures (get_or text l.b-index 0) (omega (arith, c.type_inv.text l.b-index))) l.invariant

pub returns : goal.returns
returns c =
    let l = c.loop-b in
    all_end token_byte c.args.text.now l.good l.b-index (omega arith) c.loop-b-test.false l.invariant
