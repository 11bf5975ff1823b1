-- A call's outcome and its buffer, by the fault that was found: what every call that builds cites at its returns.
-- Assumes nothing.
use native.Mathlib.Omega.{arith}
use borrow.Author.Tests.{le-leb, lt-leb, eq-eqb, ne_eqb, eqb-true}
use mathlib.Core.Path.{◌≡◌, refl, sym, ap, ◌∙◌}
use mathlib.Core.Bool.{Bool, true, false}
use mathlib.Core.List.{List, append_assoc, append-nil}
use Prim.Native.Nat.{ℕ, ◌+◌, ◌<◌, ◌≤◌}
use lib.Dec.{eqb}
use lib.ListN.{length, take, drop, length-append}
use Rattle.wire.specs.Pick.{pick}
use Rattle.wire.specs.Bytes.{part, over}
use Rattle.wire.proofs.Bytes.{length_over, over_before, over_behind, over_there}
use Rattle.wire.specs.Refusal.{none, buffer_too_short, too_long}
use Rattle.wire.specs.Packet.{Fits}
use Rattle.connection.specs.Connection.{max_packet}
use Rattle.std.proofs.lemmas.Bool.Decides.{nat_tests}
use Rattle.wire.proofs.Exits.{refused_some}
use Rattle.building.specs.Fault.{or_else, first_fault, fit_fault}
use Rattle.building.specs.Field.{size_told}
use Rattle.building.specs.Call.{Call, refused, done, refusal_of, outcome_by, outcome, buffer_after}
use Rattle.building.proofs.Sizes.{or_first, or_second, fit_told, fit_none, fit_by}

-- the fault that a call finds: its own faults, then whether the bytes fit, by the end that was told
pub found_by : {A : Type 0} (call : Call A) (room own fit end found : ℕ) → own ≡ first_fault call.faults → fit ≡ fit_fault end room
    → end ≡ size_told (call.at + length call.bytes) → found ≡ or_else own fit → found ≡ refusal_of call room
unfolding refusal_of
found_by call room own fit end found p q r s =
    s
    ∙ ap (λ (f : ℕ). or_else f fit) p
    ∙ ap (or_else (first_fault call.faults)) (q ∙ ap (λ (n : ℕ). fit_fault n room) r ∙ fit_told (call.at + length call.bytes) room)

module _ {A : Type 0} (call : Call A) (buffer : List ℕ) (found : ℕ) (is : found ≡ refusal_of call (length buffer)) where
  -- there is a fault
  pub refused_answer : (found ≡ 0 → ⊥) → refused found ≡ outcome call (length buffer)
  unfolding outcome
  refused_answer h = rw (← is, ne_eqb found 0 h)

  pub refused_buffer : (found ≡ 0 → ⊥) → buffer ≡ buffer_after call buffer
  unfolding buffer_after
  refused_buffer h = rw (← is, ne_eqb found 0 h)

  -- there is none
  pub done_answer : (answer : A) → answer ≡ call.answer → found ≡ 0 → done answer ≡ outcome call (length buffer)
  unfolding outcome
  done_answer answer e h = rw (← is, eq-eqb found 0 h, e)

  pub done_buffer : found ≡ 0 → over buffer call.at call.bytes ≡ buffer_after call buffer
  unfolding buffer_after
  done_buffer h = rw (← is, eq-eqb found 0 h)

  -- then none of the call's own faults is there
  pub done_own : found ≡ 0 → first_fault call.faults ≡ 0
  unfolding refusal_of
  done_own h = or_first (first_fault call.faults) (fit_fault (call.at + length call.bytes) (length buffer)) (sym is ∙ h)

  -- and the bytes fit
  pub done_fits : found ≡ 0 → Fits call.at call.bytes buffer
  unfolding refusal_of
  done_fits h =
      let end : ℕ = call.at + length call.bytes in
      let both = fit_none end (length buffer) (or_second (first_fault call.faults) (fit_fault end (length buffer)) (sym is ∙ h)) in
      (both.1, both.0)

-- a call with a fault of its own is refused with the first of them, and the buffer is as it was
module _ {A : Type 0} (call : Call A) (some : eqb (first_fault call.faults) none ≡ false) where
  pub own_answer : (room : ℕ) → outcome call room ≡ refused (first_fault call.faults)
  unfolding outcome refusal_of
  own_answer room = rw (some, some)

  pub own_buffer : (buffer : List ℕ) → buffer_after call buffer ≡ buffer
  unfolding buffer_after refusal_of
  own_buffer buffer = rw (some, some)

-- one that has none is refused where its bytes do not fit, by the end that was told, and the buffer is as it was
module _ {A : Type 0} (call : Call A) (end : ℕ) (own : first_fault call.faults ≡ none) (told : end ≡ size_told (call.at + length call.bytes)) where
  fit_is : (room : ℕ) → fit_fault end room ≡ refusal_of call room
  fit_is room = found_by call room none (fit_fault end room) end (fit_fault end room) (sym own) refl told refl

  pub fit_answer : (room : ℕ) → eqb (fit_fault end room) none ≡ false → outcome call room ≡ refused (fit_fault end room)
  unfolding outcome
  fit_answer room some = rw (← fit_is room, some)

  pub fit_buffer : (buffer : List ℕ) → eqb (fit_fault end (length buffer)) none ≡ false → buffer_after call buffer ≡ buffer
  unfolding buffer_after
  fit_buffer buffer some = rw (← fit_is (length buffer), some)

  -- where they fit, the call is done, and its bytes are written
  pub done_answered : (room : ℕ) → fit_fault end room ≡ none → outcome call room ≡ done call.answer
  unfolding outcome
  done_answered room fits = rw (← fit_is room, fits)

  pub done_written : (buffer : List ℕ) → fit_fault end (length buffer) ≡ none → buffer_after call buffer ≡ over buffer call.at call.bytes
  unfolding buffer_after
  done_written buffer fits = rw (← fit_is (length buffer), fits)

-- a call's outcome tells what becomes of the buffer: it is refused, and the buffer is as it was
pub refused_keeps : {A : Type 0} (call : Call A) (buffer : List ℕ) (n : ℕ) → outcome call (length buffer) ≡ refused n → buffer_after call buffer ≡ buffer
unfolding outcome buffer_after
refused_keeps call buffer n e = go (eqb (refusal_of call (length buffer)) none) e
  where
    go : (t : Bool) → pick t (done call.answer) (refused (refusal_of call (length buffer))) ≡ refused n → pick t (over buffer call.at call.bytes) buffer ≡ buffer
    go true e = absurd (let z : ◌≡◌ {A = ℕ} 0 1 = cc in omega arith)
    go false e = refl

-- or it is done, and then it has no fault
pub done_faultless : {A : Type 0} (call : Call A) (room : ℕ) (answer : A) → outcome call room ≡ done answer → refusal_of call room ≡ none
unfolding outcome
done_faultless call room answer e = go (eqb (refusal_of call room) none) refl e
  where
    go : (t : Bool) → eqb (refusal_of call room) none ≡ t → pick t (done call.answer) (refused (refusal_of call room)) ≡ done answer → refusal_of call room ≡ none
    go true h e = eqb-true (refusal_of call room) none h
    go false h e = absurd (let z : ◌≡◌ {A = ℕ} 0 1 = cc in omega arith)

-- the buffer after a call by the number that it is refused with, 0 for none
after_by : {A : Type 0} (call : Call A) (buffer : List ℕ) (t : Bool) → eqb (refusal_of call (length buffer)) 0 ≡ t
    → buffer_after call buffer ≡ pick t (over buffer call.at call.bytes) buffer
unfolding buffer_after
after_by call buffer t e = rw e

-- a call keeps the buffer's length
pub after_length_lem : {A : Type 0} (call : Call A) (buffer : List ℕ) → length (buffer_after call buffer) ≡ length buffer
after_length_lem call buffer = go (eqb (refusal_of call (length buffer)) 0) refl
  where
    go : (t : Bool) → eqb (refusal_of call (length buffer)) 0 ≡ t → length (buffer_after call buffer) ≡ length buffer
    go true e =
        ap length (after_by call buffer true e)
        ∙ length_over buffer call.at call.bytes (done_fits call buffer (refusal_of call (length buffer)) refl (eqb-true _ 0 e)).0
    go false e = ap length (after_by call buffer false e)

-- where a call is done
module _ {A : Type 0} (call : Call A) (buffer : List ℕ) (none : refusal_of call (length buffer) ≡ 0) where
  pub after_written : buffer_after call buffer ≡ over buffer call.at call.bytes
  after_written = after_by call buffer true (eq-eqb (refusal_of call (length buffer)) 0 none)

  within : call.at + length call.bytes ≤ length buffer
  within = (done_fits call buffer (refusal_of call (length buffer)) refl none).0

  -- its bytes stand at their place
  pub after_there : part (buffer_after call buffer) call.at (length call.bytes) ≡ call.bytes
  after_there = rw after_written (over_there buffer call.at call.bytes within)

  -- all before them is as it was
  pub after_before : take call.at (buffer_after call buffer) ≡ take call.at buffer
  after_before = rw after_written (over_before buffer call.at call.bytes within)

  -- and all behind them
  pub after_behind : drop (call.at + length call.bytes) (buffer_after call buffer) ≡ drop (call.at + length call.bytes) buffer
  after_behind = rw after_written (over_behind buffer call.at call.bytes within)

-- a call that has no fault of its own, by whether its bytes fit
outcome_by_lem : {A : Type 0} (call : Call A) (room fit : ℕ) → first_fault call.faults ≡ 0 → fit_fault (call.at + length call.bytes) room ≡ fit
    → outcome call room ≡ outcome_by fit call.answer
unfolding outcome refusal_of
outcome_by_lem call room fit own e = rw (own, e)

-- what fits exactly, or more loosely, is done
pub fits_done : {A : Type 0} (call : Call A) (room : ℕ) → first_fault call.faults ≡ 0 → call.at + length call.bytes ≤ max_packet
    → call.at + length call.bytes ≤ room → outcome call room ≡ done call.answer
fits_done call room own within fits =
    outcome_by_lem call room 0 own (sym (fit_by (call.at + length call.bytes) room true true (le-leb _ max_packet within) (le-leb _ room fits)))

-- with one byte less, or fewer still, it is 15
pub short_refused : {A : Type 0} (call : Call A) (room : ℕ) → first_fault call.faults ≡ 0 → call.at + length call.bytes ≤ max_packet
    → room < call.at + length call.bytes → outcome call room ≡ refused buffer_too_short
short_refused call room own within short =
    outcome_by_lem call room buffer_too_short own (sym (fit_by (call.at + length call.bytes) room true false (le-leb _ max_packet within) (lt-leb _ room short)))

-- past 8192 it is 2, whatever the buffer
pub long_refused : {A : Type 0} (call : Call A) (room : ℕ) → first_fault call.faults ≡ 0 → max_packet < call.at + length call.bytes
    → outcome call room ≡ refused too_long
long_refused call room own long =
    outcome_by_lem call room too_long own (sym (fit_by (call.at + length call.bytes) room false _ (lt-leb _ max_packet long) refl))

-- what a call that looks for its faults, then whether its bytes fit, and then writes, needs at its returns
pub ruleset calls = (nat_tests, append_assoc, append-nil, length-append, refused_some, own_answer, own_buffer, fit_answer, fit_buffer, done_answered, done_written)
