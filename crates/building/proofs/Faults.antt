-- Faults in a list: where the first of them is none, each is none; those of two lists are found one behind the other; and a number without
-- fault is at most what it may be.
-- Assumes nothing.
use native.Mathlib.Omega.{arith}
use borrow.Author.Tests.{leb-true}
use mathlib.Core.Path.{◌≡◌, refl, ap}
use mathlib.Core.Bool.{Bool, true, false}
use mathlib.Core.List.{List, [], ◌∷◌, ◌++◌}
use Prim.Native.Nat.{ℕ, ◌≤◌}
use lib.Dec.{leb}
use Rattle.wire.specs.Pick.{both}
use Rattle.wire.specs.Refusal.{out_of_range}
use Rattle.building.specs.Fault.{unless, or_else, fault_after, first_fault, range_fault}
use Rattle.building.specs.Field.{Field, faults_of}
use Rattle.building.proofs.Sizes.{or_first, or_second}

-- no fault in a list
abbrev pub Faultless : List ℕ → Type 0
Faultless [] = Unit
Faultless (fault ∷ later) = (fault ≡ 0) × Faultless later

-- that is so where none is found behind another one, which is none then
faultless_after : (before : ℕ) (faults : List ℕ) → fault_after before faults ≡ 0 → (before ≡ 0) × Faultless faults
faultless_after before [] h = (h, tt)
faultless_after before (fault ∷ later) h =
    let rest = faultless_after (or_else before fault) later h in
    (or_first before fault rest.0, (or_second before fault rest.0, rest.1))

-- and where none is found at all
pub faultless : (faults : List ℕ) → first_fault faults ≡ 0 → Faultless faults
faultless faults h = (faultless_after 0 faults h).1

-- the faults of two lists, one behind the other
pub faults_append : (before : ℕ) (these those : List ℕ) → fault_after before (these ++ those) ≡ fault_after (fault_after before these) those
faults_append before [] those = refl
faults_append before (fault ∷ later) those = faults_append (or_else before fault) later those

-- the faults of fields and of others behind them
pub faults_more : (these those : List Field) → faults_of (these ++ those) ≡ faults_of these ++ faults_of those
faults_more [] those = refl
faults_more (field ∷ later) those = ap (λ (l : List ℕ). field.fault ∷ l) (faults_more later those)

-- a number without fault is at most what it may be
pub range_most : (low high n : ℕ) → range_fault low high n ≡ 0 → n ≤ high
unfolding range_fault
range_most low high n h = go (leb low n) (leb n high) refl h
  where
    go : (t u : Bool) → leb n high ≡ u → unless (both t u) out_of_range ≡ 0 → n ≤ high
    go true true e q = leb-true n high e
    go true false e q = absurd (omega (arith, q))
    go false u e q = absurd (omega (arith, q))
