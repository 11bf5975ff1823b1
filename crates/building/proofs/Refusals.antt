-- A call that builds is refused with a number of document 01, where each fault that it looks for is one: the faults that all calls share
-- are, and of faults in a list the first is one of them.
-- Assumes nothing.
use native.Mathlib.Omega.{arith}
use mathlib.Core.Path.{◌≡◌, refl, subst}
use mathlib.Core.Bool.{Bool, true, false}
use mathlib.Core.List.{List, [], ◌∷◌, ◌++◌}
use Prim.Native.Nat.{ℕ, ◌+◌}
use lib.Dec.{leb, eqb}
use lib.ListN.{length}
use Rattle.wire.specs.Pick.{pick, between}
use Rattle.wire.specs.Refusal.{none, too_long, string_wrong, out_of_range, buffer_too_short, is_refusal, is_fault}
use Rattle.wire.specs.Field.{is_optional, string_allowed}
use Rattle.wire.specs.declared.StringField.{StringField}
use Rattle.wire.proofs.Refusals.{fault_refusal}
use Rattle.connection.specs.Connection.{max_packet}
use Rattle.building.specs.Fault.{unless, or_else, fault_after, first_fault, AllFaults, string_fault, range_fault, fit_fault}
use Rattle.building.specs.Call.{Call, refused, done, refusal_of, outcome_by, outcome, Numbered}

-- the fault of a test
pub unless_fault : (t : Bool) (fault : ℕ) → is_fault fault ≡ true → is_fault (unless t fault) ≡ true
unless_fault true fault h = refl
unless_fault false fault h = h

-- one of two faults
pub or_fault : (fault later : ℕ) → is_fault fault ≡ true → is_fault later ≡ true → is_fault (or_else fault later) ≡ true
or_fault fault later h k = go (eqb fault none)
  where
    go : (t : Bool) → is_fault (pick t later fault) ≡ true
    go true = k
    go false = h

-- a string's, a number's, and that of what does not fit
pub string_fault_lem : (field : StringField) (null : Bool) (text : List ℕ) → is_fault (string_fault field null text) ≡ true
unfolding string_fault
string_fault_lem field null text = unless_fault (string_allowed (is_optional field) null text) string_wrong refl

pub range_fault_lem : (low high n : ℕ) → is_fault (range_fault low high n) ≡ true
unfolding range_fault
range_fault_lem low high n = unless_fault (between low high n) out_of_range refl

pub fit_fault_lem : (end room : ℕ) → is_fault (fit_fault end room) ≡ true
unfolding fit_fault
fit_fault_lem end room = go (leb end max_packet) (leb end room)
  where
    go : (t u : Bool) → is_fault (pick t (unless u buffer_too_short) too_long) ≡ true
    go true u = unless_fault u buffer_too_short refl
    go false u = refl

-- the faults of two lists
pub all_append : (these those : List ℕ) → AllFaults these → AllFaults those → AllFaults (these ++ those)
all_append [] those h k = k
all_append (fault ∷ later) those h k = (h.0, all_append later those h.1 k)

-- the first of a list
after_fault : (before : ℕ) (faults : List ℕ) → is_fault before ≡ true → AllFaults faults → is_fault (fault_after before faults) ≡ true
after_fault before [] h all = h
after_fault before (fault ∷ later) h all = after_fault (or_else before fault) later (or_fault before fault h all.0) all.1

pub first_fault_lem : (faults : List ℕ) → AllFaults faults → is_fault (first_fault faults) ≡ true
first_fault_lem faults all = after_fault none faults refl all

-- what a call comes to, by a fault
pub answered_refusal : {A : Type 0} (fault : ℕ) (answer : A) (n : ℕ) → is_fault fault ≡ true → outcome_by fault answer ≡ refused n
    → is_refusal n ≡ true
answered_refusal {A} fault answer n h e = go (eqb fault none) refl e
  where
    go : (t : Bool) → eqb fault none ≡ t → pick t (done answer) (refused fault) ≡ refused n → is_refusal n ≡ true
    go true f e = absurd (let z : ◌≡◌ {A = ℕ} 0 1 = cc in omega arith)
    go false f e = let same : fault ≡ n = cc in subst (λ (m : ℕ). is_refusal m ≡ true) same (fault_refusal fault h f)

-- a call whose own faults are numbers of document 01 or none is refused with such a number
pub outcome_refusal : {A : Type 0} (call : Call A) → AllFaults call.faults → Numbered call
unfolding outcome refusal_of
outcome_refusal call all room n e =
    let own : ℕ = first_fault call.faults in
    let fit : ℕ = fit_fault (call.at + length call.bytes) room in
    answered_refusal (or_else own fit) call.answer n
    (or_fault own fit (first_fault_lem call.faults all) (fit_fault_lem (call.at + length call.bytes) room)) e
