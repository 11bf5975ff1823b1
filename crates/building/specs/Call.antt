-- A call that builds: what all of them have in common. It checks one thing after the other, at the very end whether the bytes fit;
-- where nothing is wrong it writes them, and else it leaves the buffer as it was.
-- Document 01, 'Building': the order of the checks, 2 and then 15 the last of them; 'Refusal numbers': a refusal changes nothing.
-- Assumes nothing.
use Rattle.std.specs.Prelude.{◌≡◌, true, List, [], ◌∷◌, ◌++◌, ℕ, ◌+◌, eqb, length}
use Rattle.wire.specs.Pick.{pick}
use Rattle.wire.specs.Refusal.{none, is_refusal}
use Rattle.wire.specs.Bytes.{over}
use Rattle.building.specs.Fault.{or_else, first_fault, fit_fault}

-- a call: the faults that it looks for before 2 and 15, in their order; the place and the bytes that it writes; what it answers
pub record Call (A : Type 0) : Type 0 where
  pub faults : List ℕ
  pub at : ℕ
  pub bytes : List ℕ
  pub answer : A

-- a call with one fault more, which its caller found: it is looked for behind the call's own, and before 2 and 15
abbrev pub with_fault : {A : Type 0} → Call A → ℕ → Call A
with_fault call fault = record {
  faults = call.faults ++ (fault ∷ []);
  at = call.at;
  bytes = call.bytes;
  answer = call.answer;
}

-- what a call comes to: refused with a number, or done with an answer
pub data Outcome (A : Type 0) : Type 0 where
  refused : ℕ → Outcome A
  done : A → Outcome A

-- the number that a call is refused with on a buffer with so much room, 0 for none
unfoldable pub refusal_of : {A : Type 0} → Call A → ℕ → ℕ
refusal_of call room = or_else (first_fault call.faults) (fit_fault (call.at + length call.bytes) room)

-- refused where there is a fault, else done
abbrev pub outcome_by : {A : Type 0} → ℕ → A → Outcome A
outcome_by fault answer = pick (eqb fault none) (done answer) (refused fault)

-- what a call comes to on a buffer with so much room
unfoldable pub outcome : {A : Type 0} → Call A → ℕ → Outcome A
outcome call room = outcome_by (refusal_of call room) call.answer

-- a call that is refused with numbers of document 01 only, whatever the room
abbrev pub Numbered : {A : Type 0} → Call A → Type 0
Numbered call = (room n : ℕ) → outcome call room ≡ refused n → is_refusal n ≡ true

-- the buffer after a call: where it is done, its bytes from their place on and all else as it was; where it is refused, all as it was
unfoldable pub buffer_after : {A : Type 0} → Call A → List ℕ → List ℕ
buffer_after call buffer =
    pick (eqb (refusal_of call (length buffer)) none) (over buffer call.at call.bytes) buffer
