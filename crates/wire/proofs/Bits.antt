-- Laws of sets as the bits of a number: how code looks a bit up, that no bit is set above a number's own, and the bits of two sets together and of
-- a set of one.
-- Assumes nothing.
use native.Mathlib.Omega.{arith}
use native.Mathlib.Nat.{div-eq_of_lt, lt_of_lt_of_le, pow-suc}
use mathlib.Core.Path.{◌≡◌, refl, sym, ap, ◌∙◌}
use mathlib.Core.Bool.{Bool, true, false}
use Prim.Native.Nat.{ℕ, zero, suc, ◌+◌, ◌-◌, ◌/◌, ◌%◌, ◌^◌, ◌≤◌, ◌<◌}
use borrow.Author.Tests.{leb-true, leb-false, eq-eqb, ne_eqb}
use lib.Bits.{bit_and, bit_or, and_mask, or_shr, or_mod}
use lib.Dec.{leb, eqb}
use lib.Pow.{pow-add, pow-lt, pow_mono, shl-shr}
use Rattle.wire.specs.Pick.{either}
use Rattle.wire.specs.Bits.{bit}

-- the bit, shifted to the lowest place and looked at there
pub bit_shifted : (set k : ℕ) → eqb (bit_and (set / 2 ^ k) 1) 1 ≡ bit set k
unfolding bit
bit_shifted set k = ap (λ (x : ℕ). eqb x 1) (and_mask (set / 2 ^ k) 1)

-- a set of numbers below `room` has none from there on
pub bit_above : (set k room : ℕ) → set < 2 ^ room → room ≤ k → bit set k ≡ false
unfolding bit
bit_above set k room h l = ap (λ (x : ℕ). eqb (x % 2) 1) (div-eq_of_lt (lt_of_lt_of_le h (pow_mono l)))

-- nothing is in the empty set
pub bit_none : (k : ℕ) → bit 0 k ≡ false
bit_none k = bit_above 0 k 0 (omega arith) (omega arith)

-- of two bits, one is set where either is
or_bit : (a b : ℕ) → a < 2 → b < 2 → eqb (bit_or a b) 1 ≡ either (eqb b 1) (eqb a 1)
or_bit zero zero h k = refl
or_bit zero (suc zero) h k = refl
or_bit (suc zero) zero h k = refl
or_bit (suc zero) (suc zero) h k = refl
or_bit zero (suc (suc b)) h k = absurd (omega arith)
or_bit (suc zero) (suc (suc b)) h k = absurd (omega arith)
or_bit (suc (suc a)) b h k = absurd (omega arith)

-- in two sets together is what is in either
pub bit_or_lem : (a b k : ℕ) → bit (bit_or a b) k ≡ either (bit b k) (bit a k)
unfolding bit
bit_or_lem a b k =
    ap (λ (x : ℕ). eqb (x % 2) 1) (or_shr a b k)
    ∙ ap (λ (x : ℕ). eqb x 1) (or_mod (a / 2 ^ k) (b / 2 ^ k) 1)
    ∙ or_bit (a / 2 ^ k % 2) (b / 2 ^ k % 2) (omega arith) (omega arith)

-- a power of two shifted down to a lower one
halved : (m j : ℕ) → eqb (2 ^ (m + j) / 2 ^ j % 2) 1 ≡ eqb (m + j) j
halved m j = ap (λ (x : ℕ). eqb (x % 2) 1) (ap (λ (x : ℕ). x / 2 ^ j) (pow-add 2 m j) ∙ shl-shr (2 ^ m) j) ∙ go m
  where
    go : (m : ℕ) → eqb (2 ^ m % 2) 1 ≡ eqb (m + j) j
    go zero = sym (eq-eqb (0 + j) j (omega arith))
    go (suc m) =
        let even : 2 ^ suc m % 2 ≡ 0 = omega (arith, pow-suc 2 m) in
        ap (λ (x : ℕ). eqb x 1) even ∙ sym (ne_eqb (suc m + j) j (omega arith))

-- in a set of one is that one
pub bit_power : (k j : ℕ) → bit (2 ^ k) j ≡ eqb k j
unfolding bit
bit_power k j = go (leb j k) refl
  where
    go : (t : Bool) → leb j k ≡ t → eqb (2 ^ k / 2 ^ j % 2) 1 ≡ eqb k j
    go true e =
        let h : j ≤ k = leb-true j k e in
        let is : (k - j) + j ≡ k = omega arith in
        rw is at (halved (k - j) j)
    go false e =
        let h : k < j = leb-false j k e in
        ap (λ (x : ℕ). eqb (x % 2) 1) (div-eq_of_lt (pow-lt h)) ∙ sym (ne_eqb k j (omega arith))
