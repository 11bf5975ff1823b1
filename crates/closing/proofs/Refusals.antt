-- Closing is refused with numbers of document 01 only.
-- Assumes nothing.
use native.Mathlib.Omega.{arith}
use mathlib.Core.Path.{◌≡◌, refl, subst, ◌∙◌}
use mathlib.Core.Bool.{Bool, true, false}
use mathlib.Core.List.{List, [], ◌∷◌}
use Prim.Native.Nat.{ℕ}
use lib.Dec.{eqb}
use lib.ListN.{length}
use Rattle.wire.specs.Pick.{pick}
use Rattle.wire.specs.Refusal.{none, cut_short, not_now, record_wrong, is_refusal, is_fault}
use Rattle.wire.proofs.Refusals.{fault_refusal}
use Rattle.connection.specs.Cycle.{in_state}
use Rattle.connection.specs.declared.Connection.{Connection}
use Rattle.places.specs.Entries.{max_places}
use Rattle.building.specs.Fault.{unless, fit_fault}
use Rattle.building.specs.Call.{refused}
use Rattle.building.proofs.Refusals.{unless_fault, fit_fault_lem, first_fault_lem}
use Rattle.building_record.specs.declared.Building.{Building}
use Rattle.building_record.specs.Record.{built_kind, direction_in, is_possible}
use Rattle.reader.specs.Meaning as read
use Rattle.reading_laws.proofs.Refusals.{reading_refusal}
use Rattle.closing.specs.Closing.{closed_length, closing_fault, closed_packet, judgement, verdict, close_outcome}
use Rattle.closing.proofs.Laws.{read_there}

-- what is looked for first
found_fault : (c : Connection) (r : Building) (buffer : List ℕ) → is_fault (closing_fault c r buffer) ≡ true
unfolding closing_fault
found_fault c r buffer =
    first_fault_lem
    (unless (is_possible r buffer) record_wrong
    ∷ unless (in_state c (built_kind r.kind)) not_now
    ∷ fit_fault (closed_length r) (length buffer)
    ∷ []) (
      unless_fault (is_possible r buffer) record_wrong refl,
      (unless_fault (in_state c (built_kind r.kind)) not_now refl, (fit_fault_lem (closed_length r) (length buffer), tt)),
    )

-- what the judge answers
judge_refusal : (c : Connection) (r : Building) (packet : List ℕ) (size n : ℕ) (m : read.Meaning) → judgement c r packet ≡ m
    → verdict size m ≡ refused n → is_refusal n ≡ true
judge_refusal c r packet size n (read.needs k) j e =
    let same : cut_short ≡ n = cc in
    subst (λ (k : ℕ). is_refusal k ≡ true) same refl
judge_refusal c r packet size n (read.refused k) j e =
    let same : k ≡ n = cc in
    subst (λ (k : ℕ). is_refusal k ≡ true) same
    (reading_refusal (direction_in r) c packet max_places k (read_there c r packet (direction_in r) max_places refl (omega arith) ∙ j))
judge_refusal c r packet size n (read.accepted found taken next) j e = absurd (let z : ◌≡◌ {A = ℕ} 0 1 = cc in omega arith)

-- closing
pub close_refusal : (c : Connection) (r : Building) (buffer : List ℕ) (n : ℕ) → close_outcome c r buffer ≡ refused n → is_refusal n ≡ true
unfolding close_outcome
close_refusal c r buffer n e = go (closing_fault c r buffer) (eqb (closing_fault c r buffer) none) (found_fault c r buffer) refl e
  where
    go : (fault : ℕ) (t : Bool) → is_fault fault ≡ true → eqb fault none ≡ t
        → pick t (verdict (closed_length r) (judgement c r (closed_packet r buffer))) (refused fault) ≡ refused n → is_refusal n ≡ true
    go fault true h f q = judge_refusal c r (closed_packet r buffer) (closed_length r) n (judgement c r (closed_packet r buffer)) refl q
    go fault false h f q =
        let same : fault ≡ n = cc in
        subst (λ (k : ℕ). is_refusal k ≡ true) same (fault_refusal fault h f)
