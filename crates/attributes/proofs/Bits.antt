-- Laws of the set of codes: what is in a set with one code more.
-- Assumes nothing.
use mathlib.Core.Path.{◌≡◌, ap, ◌∙◌}
use mathlib.Core.Bool.{Bool}
use Prim.Native.Nat.{ℕ, ◌*◌, ◌%◌, ◌^◌, ◌≤◌, ◌<◌}
use native.Mathlib.Omega.{arith}
use native.Mathlib.Nat.{one-mul}
use borrow.Author.Tests.{le-leb, lt-leb}
use lib.Bits.{bit_or}
use lib.Dec.{eqb}
use lib.Pow.{shl_exact}
use Rattle.wire.specs.Pick.{either}
use Rattle.wire.specs.Bits.{bit}
use Rattle.wire.proofs.Bits.{bit_or_lem, bit_power}
use Rattle.attributes.specs.Private.{set_room, with_bit}

-- a set does not change by a number that it cannot hold
pub with_high : (set k : ℕ) → set_room ≤ k → with_bit set k ≡ set
unfolding with_bit
with_high set k high = rw (le-leb set_room k high)

-- with one that it can hold it has its bit too
pub with_low : (set k : ℕ) → k < set_room → with_bit set k ≡ bit_or set (2 ^ k)
unfolding with_bit
with_low set k low = rw (lt-leb set_room k low)

-- 1 shifted by such a number is a power of two, which a u16 can hold
pub shifted : (k : ℕ) → k < set_room → 1 * 2 ^ k % 65536 ≡ 2 ^ k
shifted k h = shl_exact 1 k set_room (omega arith) (omega arith) ∙ one-mul (2 ^ k)

-- in a set with one code more are that code and what was there
pub bit_with : (set code j : ℕ) → code < set_room → bit (with_bit set code) j ≡ either (eqb code j) (bit set j)
bit_with set code j h =
    ap (λ (x : ℕ). bit x j) (with_low set code h) ∙ bit_or_lem set (2 ^ code) j ∙ ap (λ (x : Bool). either x (bit set j)) (bit_power code j)
