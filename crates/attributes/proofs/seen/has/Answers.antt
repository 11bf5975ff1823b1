-- `seen::has` meets its contract: the code is shifted to the lowest bit and looked at there; a u16 has no bit at a code that is too great.
-- Assumes nothing.
use borrow.Author.Rules.{rules}
use borrow.Author.Tests.{le-ltb}
use mathlib.Core.Path.{sym, ◌∙◌}
use Prim.Native.Nat.{◌≤◌}
use Rattle.wire.proofs.Bits.{bit_shifted, bit_above}
use Rattle.attributes.specs.Private.{set_room}
use Rattle.attributes.proofs.seen.has.Goals as goal

pub returns-then-code-lt-BITS : goal.returns-then-code-lt-BITS
returns-then-code-lt-BITS c = bit_shifted c.args.set c.args.code

pub returns-else-code-lt-BITS : goal.returns-else-code-lt-BITS
returns-else-code-lt-BITS c =
    let high : set_room ≤ c.args.code = c.if-code-lt-BITS.false in
    le-ltb _ _ high ∙ sym (bit_above c.args.set c.args.code set_room (search rules) high)
