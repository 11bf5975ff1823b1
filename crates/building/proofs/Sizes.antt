-- Faults in a row, and sizes as they are told.
-- Assumes nothing.
use native.Mathlib.Omega.{arith}
use borrow.Author.Tests.{le-leb, leb-true, leb-false, eq-eqb, eqb-true}
use mathlib.Core.Path.{◌≡◌, refl, sym, ap, ◌∙◌}
use mathlib.Core.Bool.{Bool, true, false}
use mathlib.Core.List.{List, [], ◌∷◌}
use Prim.Native.Nat.{ℕ, ◌+◌, ◌<◌, ◌≤◌}
use lib.Dec.{leb, eqb}
use Rattle.wire.specs.Pick.{pick}
use lib.ListN.{length}
use Rattle.wire.specs.Field.{boolean_bytes}
use Rattle.wire.specs.Refusal.{none, buffer_too_short, too_long}
use Rattle.connection.specs.Connection.{max_packet}
use Rattle.building.specs.Fault.{unless, or_else, fault_after, fit_fault}
use Rattle.building.specs.Field.{size_told}

-- of two faults the first one is told
pub first_told : (fault later : ℕ) → eqb fault none ≡ false → or_else fault later ≡ fault
first_told fault later some = rw some

-- and the later one where there is no first
pub later_told : (fault later : ℕ) → eqb fault none ≡ true → or_else fault later ≡ later
later_told fault later first = rw first

-- no fault behind a fault
pub or_none : (fault : ℕ) → or_else fault 0 ≡ fault
or_none fault = go (eqb fault 0) refl
  where
    go : (t : Bool) → eqb fault 0 ≡ t → or_else fault 0 ≡ fault
    go true e = later_told fault 0 e ∙ sym (eqb-true fault 0 e)
    go false e = first_told fault 0 e

-- where there is no first fault of two, there is none of either
pub or_first : (fault later : ℕ) → or_else fault later ≡ 0 → fault ≡ 0
or_first fault later h = go (eqb fault 0) refl
  where
    go : (t : Bool) → eqb fault 0 ≡ t → fault ≡ 0
    go true e = eqb-true fault 0 e
    go false e = sym (first_told fault later e) ∙ h

pub or_second : (fault later : ℕ) → or_else fault later ≡ 0 → later ≡ 0
or_second fault later h = sym (later_told fault later (eq-eqb fault 0 (or_first fault later h))) ∙ h

-- a test without its fault holds
pub unless_none : (t : Bool) (fault : ℕ) → 0 < fault → unless t fault ≡ 0 → t ≡ true
unless_none true fault some h = refl
unless_none false fault some h = absurd (omega (arith, some, h))

-- a size up to 8193 is told as it is, a greater one as 8193
pub told_exact : (n : ℕ) → n ≤ max_packet + 1 → size_told n ≡ n
unfolding size_told
told_exact n h = omega arith

pub told_over : (n : ℕ) → max_packet + 1 ≤ n → size_told n ≡ max_packet + 1
unfolding size_told
told_over n h = omega arith

-- bytes fit the packet and the buffer as they do by the size that is told
pub fit_told : (n room : ℕ) → fit_fault (size_told n) room ≡ fit_fault n room
unfolding fit_fault
fit_told n room = go (leb n max_packet) refl
  where
    go : (t : Bool) → leb n max_packet ≡ t → fit_fault (size_told n) room ≡ fit_fault n room
    go true e = ap (λ (k : ℕ). fit_fault k room) (told_exact n (omega (arith, leb-true n max_packet e)))
    go false e =
        let h : max_packet < n = leb-false n max_packet e in
        let k : size_told n ≡ max_packet + 1 = told_over n (omega arith) in
        rw (k, e)

-- what no fault of fitting says
pub fit_none : (end room : ℕ) → fit_fault end room ≡ 0 → (end ≤ max_packet) × (end ≤ room)
unfolding fit_fault
fit_none end room h = go (leb end max_packet) (leb end room) refl refl h
  where
    go : (s t : Bool) → leb end max_packet ≡ s → leb end room ≡ t → pick s (unless t buffer_too_short) too_long ≡ 0 → (end ≤ max_packet) × (end ≤ room)
    go true true d e h = (leb-true end max_packet d, leb-true end room e)
    go true false d e h = omega (arith, h)
    go false t d e h = omega (arith, h)

-- and what says that there is none: a buffer as long as is told to be needed is long enough
pub fit_enough : (n room : ℕ) → size_told n ≤ max_packet → size_told n ≤ room → fit_fault n room ≡ 0
unfolding fit_fault
fit_enough n room h k = sym (fit_told n room) ∙ go (size_told n) h k
  where
    go : (m : ℕ) → m ≤ max_packet → m ≤ room → fit_fault m room ≡ 0
    go m h k = rw (le-leb m max_packet h, le-leb m room k)

-- the fault by the values of its tests
pub fit_by : (end room : ℕ) (s t : Bool) → leb end max_packet ≡ s → leb end room ≡ t → pick s (unless t buffer_too_short) too_long ≡ fit_fault end room
unfolding fit_fault
fit_by end room s t d e = rw (← d, ← e)

-- a boolean has one byte
pub boolean_one : (value : Bool) → length (boolean_bytes value) ≡ 1
boolean_one true = refl
boolean_one false = refl

-- a buffer of 8192 bytes is never too short
pub never_short : (end room : ℕ) → max_packet ≤ room → fit_fault end room ≡ buffer_too_short → ⊥
unfolding fit_fault
never_short end room h = go (leb end max_packet) (leb end room) refl refl
  where
    go : (s t : Bool) → leb end max_packet ≡ s → leb end room ≡ t → pick s (unless t buffer_too_short) too_long ≡ buffer_too_short → ⊥
    go true true d e k = omega (arith, k)
    go true false d e k = omega (arith, leb-true end max_packet d, leb-false end room e)
    go false t d e k = omega (arith, k)

-- where a list has no fault, none was found before it
pub first_none : (before : ℕ) (faults : List ℕ) → fault_after before faults ≡ 0 → before ≡ 0
first_none before [] h = h
first_none before (fault ∷ later) h = or_first before fault (first_none (or_else before fault) later h)
