-- A Forward's fixed words: their fault by how many they are, and what is known without one.
-- Assumes nothing.
use native.Mathlib.Omega.{arith}
use borrow.Author.Tests.{eq-eqb, ne_eqb, eqb-true}
use mathlib.Core.Path.{◌≡◌, refl}
use mathlib.Core.Bool.{Bool, true, false}
use mathlib.Core.List.{List}
use Prim.Native.Nat.{ℕ}
use lib.Dec.{eqb}
use lib.ListN.{length}
use Rattle.wire.specs.Pick.{pick}
use Rattle.building.specs.Fault.{unless}
use Rattle.words.specs.Status as status
use Rattle.words.specs.FixedWords.{fixed_size, are_fixed, fixed_fault}

-- the fault by their number
pub fixed_short : (words : List ℕ) → (length words ≡ fixed_size → ⊥) → status.fixed_length ≡ fixed_fault words
unfolding fixed_fault
fixed_short words h = rw (ne_eqb (length words) fixed_size h)

pub fixed_judged : (words : List ℕ) → length words ≡ fixed_size → unless (are_fixed words) status.fixed_word ≡ fixed_fault words
unfolding fixed_fault
fixed_judged words h = rw (eq-eqb (length words) fixed_size h)

-- without fault they are all there
pub fixed_all : (words : List ℕ) → fixed_fault words ≡ 0 → length words ≡ fixed_size
unfolding fixed_fault
fixed_all words h = go (eqb (length words) fixed_size) refl h
  where
    go : (all : Bool) → eqb (length words) fixed_size ≡ all → pick all (unless (are_fixed words) status.fixed_word) status.fixed_length ≡ 0 → length words ≡ fixed_size
    go true e q = eqb-true (length words) fixed_size e
    go false e q = absurd (omega (arith, q))
