-- What a call that sends comes to, by what `ready` answers: its answer, its buffer, and that the packet fits where it is written.
-- Assumes nothing.
use native.Mathlib.Omega.{arith}
use native.Mathlib.Nat.{zero-add}
use borrow.Author.Tests.{eqb-true, eqb-false}
use mathlib.Core.Path.{◌≡◌, refl, sym, ap, ◌∙◌}
use mathlib.Core.Bool.{Bool, true, false}
use mathlib.Core.List.{List, [], ◌∷◌, ◌++◌, append_assoc, append-nil}
use Prim.Native.Nat.{ℕ, ◌≤◌}
use lib.Dec.{eqb}
use lib.ListN.{length, length-append}
use Rattle.wire.specs.Pick.{pick}
use Rattle.wire.specs.Refusal.{none, number_of, not_now, body_size_wrong}
use Rattle.connection.specs.Connection.{max_packet}
use Rattle.wire.specs.Bytes.{over}
use Rattle.wire.specs.Packet.{Fits}
use Rattle.wire.specs.declared.refusal.Refusal.{Refusal}
use Rattle.std.specs.Prelude.{Result, Ok, Err}
use Rattle.connection.specs.Cycle.{move_kind, in_state, in_size, after, step_of}
use Rattle.connection.specs.declared.Connection.{Connection}
use Rattle.connection.specs.declared.Move.{Move}
use Rattle.connection.specs.Step.{Step}
use Rattle.building.specs.Fault.{unless, or_else, first_fault, fit_fault}
use Rattle.building.specs.Field.{size_told}
use Rattle.building.specs.Call.{Call, refused, done, outcome_by, refusal_of, outcome, buffer_after}
use Rattle.building.proofs.Sizes.{told_exact, or_second, fit_told, fit_none}
use Rattle.wire.proofs.Bytes.{over_over}
use Rattle.std.proofs.lemmas.Bool.Decides.{nat_tests}
use Rattle.building.proofs.Calls.{refused_keeps, refused_buffer, done_buffer, done_fits}
use Rattle.building.proofs.Answers.{written_none}
use Rattle.building.specs.Sent.{Written, sent_outcome, is_written}
use Rattle.writer.specs.Private.{ready_of}
use Rattle.writer.specs.Sending.{packet_of, sending_faults, sending}

-- what `ready` promises for the step of a move: 13, then 14, then whether the packet fits
ready_step : (c : Connection) (m : Move) (size room : ℕ)
    → ready_of (step_of c m) size room
    ≡ outcome_by (or_else (first_fault (sending_faults c m)) (fit_fault size room)) (record { size = size; connection = after c m })
unfolding step_of
ready_step c m size room = go (in_state c (move_kind m)) (in_size c m)
  where
    go : (a b : Bool) → ready_of (pick a (pick b (Step.Next (after c m)) (Step.Refused body_size_wrong)) (Step.Refused not_now)) size room
        ≡ outcome_by (or_else (first_fault (unless a not_now ∷ unless b body_size_wrong ∷ [])) (fit_fault size room))
        (record { size = size; connection = after c m })
    go true true = refl
    go true false = refl
    go false b = refl

-- the answer of a call matters only where there is no fault
answered_same : (fault : ℕ) (v w : Written) → (fault ≡ 0 → v ≡ w) → outcome_by fault v ≡ outcome_by fault w
answered_same fault v w e = go (eqb fault 0) refl
  where
    go : (t : Bool) → eqb fault 0 ≡ t → pick t (done v) (refused fault) ≡ pick t (done w) (refused fault)
    go true h = ap done (e (eqb-true fault 0 h))
    go false h = refl

-- where it promises that the packet is written, the packet fits
pub ready_fits : (step : Step) (size room : ℕ) (w : Written) → ready_of step size room ≡ done w → fit_fault size room ≡ none
ready_fits (Step.Refused n) size room w e = absurd (let z : ◌≡◌ {A = ℕ} 0 1 = cc in omega arith)
ready_fits (Step.Next d) size room w e = go (eqb (fit_fault size room) none) refl e
  where
    go : (t : Bool) → eqb (fit_fault size room) none ≡ t → pick t (done (record { size = size; connection = d })) (refused (fit_fault size room)) ≡ done w
        → fit_fault size room ≡ none
    go true h e = eqb-true (fit_fault size room) none h
    go false h e = absurd (let z : ◌≡◌ {A = ℕ} 0 1 = cc in omega arith)

-- an answer is a call's, and whether it says that the packet is written tells what becomes of the buffer: written, the packet fits and the
-- buffer with it is the call's; not written, the buffer as it was is the call's
pub record Sends (call : Call Written) (buffer : List ℕ) (r : Result Written Refusal) (written : Bool) : Type 0 where
  pub answer : sent_outcome r ≡ outcome call (length buffer)
  pub fits : written ≡ true → Fits call.at call.bytes buffer
  pub stands : written ≡ true → over buffer call.at call.bytes ≡ buffer_after call buffer
  pub kept : written ≡ false → buffer ≡ buffer_after call buffer

-- a call that makes a move: what `ready` promises for the size that is told of its packet is what it comes to, since a size that fits is told
-- as it is
module _ (call : Call Written) (c : Connection) (m : Move) (size : ℕ) (faults : call.faults ≡ sending_faults c m) (at : call.at ≡ 0)
    (answer : call.answer ≡ record { size = length call.bytes; connection = after c m }) (told : size ≡ size_told (length call.bytes)) where
  pub ready_outcome : (room : ℕ) → outcome call room ≡ ready_of (step_of c m) size room
  unfolding outcome refusal_of
  ready_outcome room =
      rw (faults, at, zero-add, answer)
      (sym (ready_step c m size room
      ∙ ap (λ (f : ℕ). outcome_by (or_else (first_fault (sending_faults c m)) f) (record { size = size; connection = after c m })) (ap (λ (n : ℕ). fit_fault n room) told ∙ fit_told (length call.bytes) room)
      ∙ answered_same (or_else (first_fault (sending_faults c m)) (fit_fault (length call.bytes) room)) _ _ (λ h.
      let fits : length call.bytes ≤ max_packet = (fit_none (length call.bytes) room (or_second (first_fault (sending_faults c m)) (fit_fault (length call.bytes) room) h)).0 in
      ap (λ (n : ℕ). record { size = n; connection = after c m }) (told ∙ told_exact (length call.bytes) (omega arith)))))

  -- and its answer is the call's, with all that it tells
  ready_sends : (buffer : List ℕ) (r : Result Written Refusal) (written : Bool) → sent_outcome r ≡ ready_of (step_of c m) size (length buffer)
      → written ≡ is_written r → Sends call buffer r written
  unfolding outcome
  ready_sends buffer r written ready is =
      let fault : ℕ = refusal_of call (length buffer) in
      let answered : sent_outcome r ≡ outcome call (length buffer) = ready ∙ sym (ready_outcome (length buffer)) in
      let none : eqb fault 0 ≡ written = sym (is ∙ written_none r fault call.answer answered) in
      record {
        answer = answered;
        fits = λ w. done_fits call buffer fault refl (eqb-true fault 0 (none ∙ w));
        stands = λ w. done_buffer call buffer fault refl (eqb-true fault 0 (none ∙ w));
        kept = λ w. refused_buffer call buffer fault refl (eqb-false fault 0 (none ∙ w));
      }

  -- so where `ready` promises that refusal, the buffer is as it was
  pub refused_stays : (buffer : List ℕ) (refusal : Refusal) → ready_of (step_of c m) size (length buffer) ≡ refused (number_of refusal)
      → buffer_after call buffer ≡ buffer
  refused_stays buffer refusal e = sym ((ready_sends buffer (Err refusal) false (sym e) refl).kept refl)

  -- whatever the number
  pub ready_keeps : (buffer : List ℕ) (n : ℕ) → ready_of (step_of c m) size (length buffer) ≡ refused n → buffer_after call buffer ≡ buffer
  ready_keeps buffer n e = refused_keeps call buffer n (ready_outcome (length buffer) ∙ e)

  -- where it promises that the packet is written, the packet fits
  pub written_fits : (buffer : List ℕ) (w : Written) → ready_of (step_of c m) size (length buffer) ≡ done w
      → (length call.bytes ≤ length buffer) × (length call.bytes ≤ max_packet)
  written_fits buffer w e = let fits = (ready_sends buffer (Ok w) true (sym e) refl).fits refl in (omega (arith, at, fits.0), omega (arith, at, fits.1))

  -- and stands in the buffer
  pub ready_writes : (buffer : List ℕ) (w : Written) → ready_of (step_of c m) size (length buffer) ≡ done w
      → buffer_after call buffer ≡ over buffer 0 call.bytes
  ready_writes buffer w e = sym ((ready_sends buffer (Ok w) true (sym e) refl).stands refl) ∙ ap (λ (n : ℕ). over buffer n call.bytes) at

-- the one law of the calls that send: so it is with what `ready` answers for the packet's step and the size that is told of it
pub sends : (c : Connection) (m : Move) (payload buffer : List ℕ) (step : Step) (size : ℕ) (r : Result Written Refusal) (written : Bool)
    → step ≡ step_of c m → size ≡ size_told (length (packet_of m payload)) → sent_outcome r ≡ ready_of step size (length buffer) → written ≡ is_written r
    → Sends (sending c m payload) buffer r written
sends c m payload buffer step size r written stepped told ready is =
    ready_sends (sending c m payload) c m size refl refl refl told buffer r written
    (ready ∙ ap (λ (s : Step). ready_of s size (length buffer)) stepped)
    is

-- what the calls of this crate cite
pub ruleset writing = (nat_tests, append_assoc, append-nil, length-append, over_over, ready_outcome, refused_stays, written_fits, ready_writes)
