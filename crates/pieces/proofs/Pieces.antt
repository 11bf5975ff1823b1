-- What a piece has come to before it writes, and what follows of it: there is a fault, or there is none and its bytes fit.
-- Assumes nothing.
use native.Mathlib.Omega.{arith}
use borrow.Author.Tests.{ltb-true}
use mathlib.Core.Path.{◌≡◌, sym, ap, ◌∙◌}
use mathlib.Core.List.{List, [], ◌∷◌}
use Prim.Native.Nat.{ℕ, ◌+◌, ◌≤◌, ◌<◌}
use lib.Dec.{ltb}
use lib.ListN.{length}
use Rattle.wire.specs.Bytes.{over}
use Rattle.wire.specs.Refusal.{too_many}
use Rattle.wire.specs.Packet.{Fits}
use Rattle.connection.specs.Connection.{max_packet}
use Rattle.places.specs.Entries.{max_headers}
use Rattle.building.specs.Fault.{or_else, fault_after, first_fault, fit_fault}
use Rattle.building.specs.Field.{Field, faults_of, size_told}
use Rattle.building.specs.Call.{Call, refused, done, refusal_of, outcome, buffer_after}
use Rattle.building.proofs.Sizes.{or_second, told_exact, unless_none}
use Rattle.building.proofs.Faults.{faults_append}
use Rattle.building.proofs.Calls.{found_by, refused_answer, refused_buffer, done_answer, done_buffer, done_own, done_fits}
use Rattle.building_record.specs.declared.Building.{Building}
use Rattle.building_record.specs.Record.{header_now, count_fault}
use Rattle.pieces.specs.Header.{header_call}

-- what a call has come to before it writes: the end that was told, and the fault that was found
pub record Checked (call : Call Building) (buffer : List ℕ) (end found : ℕ) : Type 0 where
  pub told : end ≡ size_told (call.at + length call.bytes)
  pub is : found ≡ refusal_of call (length buffer)

-- it is known by the call's own faults, by whether the end fits, and by the first fault of the two
pub checked : {call : Call Building} {buffer : List ℕ} {end found own fit : ℕ} → own ≡ first_fault call.faults
    → fit ≡ fit_fault end (length buffer) → end ≡ size_told (call.at + length call.bytes) → found ≡ or_else own fit
    → Checked call buffer end found
checked {call} {buffer} {end} {found} {own} {fit} p q r s =
    record { told = r; is = found_by call (length buffer) own fit end found p q r s }

-- and then
module _ {call : Call Building} {buffer : List ℕ} {end found : ℕ} (known : Checked call buffer end found) where
  -- there is a fault
  pub refused_both : (found ≡ 0 → ⊥) → (refused found ≡ outcome call (length buffer)) × (buffer ≡ buffer_after call buffer)
  refused_both h = (refused_answer call buffer found known.is h, refused_buffer call buffer found known.is h)

  -- there is none: the bytes fit where they are to be written
  pub row_fits : {bytes : List ℕ} {place : ℕ} → found ≡ 0 → call.bytes ≡ bytes → place ≡ call.at → Fits place bytes buffer
  row_fits h e f = rw (f, ← e) (done_fits call buffer found known.is h)

  -- the end that was told is theirs, and in the packet
  pub end_exact : found ≡ 0 → end ≡ call.at + length call.bytes
  end_exact h = known.told ∙ told_exact (call.at + length call.bytes) (omega (arith, (done_fits call buffer found known.is h).1))

  pub end_fits : found ≡ 0 → end ≤ max_packet
  end_fits h = omega (arith, end_exact h, (done_fits call buffer found known.is h).1)

  -- and where they are written, the call is done
  pub done_both : (make : ℕ → Building) {answer : Building} {bytes after : List ℕ} {place : ℕ} → found ≡ 0
      → call.answer ≡ make (call.at + length call.bytes) → answer ≡ make end → call.bytes ≡ bytes → place ≡ call.at
      → after ≡ over buffer place bytes → (done answer ≡ outcome call (length buffer)) × (after ≡ buffer_after call buffer)
  done_both make {answer} {bytes} h r s e f w = (
    done_answer call buffer found known.is answer (s ∙ ap make (end_exact h) ∙ sym r) h,
    w ∙ ap (λ (p : ℕ). over buffer p bytes) f ∙ ap (over buffer call.at) (sym e) ∙ done_buffer call buffer found known.is h,
  )

-- where a header has no fault of its own, one more may come
one_more : (r : Building) (buffer : List ℕ) (own : List Field) → first_fault (header_call r buffer own).faults ≡ 0 → r.headers < max_headers
unfolding count_fault
one_more r buffer own h =
    let first : ℕ = fault_after (header_now r buffer) (faults_of own) in
    let last : or_else first (count_fault r) ≡ 0 = sym (faults_append (header_now r buffer) (faults_of own) (count_fault r ∷ [])) ∙ h in
    ltb-true r.headers max_headers (unless_none (ltb r.headers max_headers) too_many (omega arith) (or_second first (count_fault r) last))

-- where no fault of a header is found, one more may come
pub header_room : {r : Building} {buffer : List ℕ} {end found : ℕ} (own : List Field) → Checked (header_call r buffer own) buffer end found
    → found ≡ 0 → (end ≤ max_packet) × (r.headers < max_headers)
header_room {r} {buffer} {end} {found} own known h =
    (end_fits known h, one_more r buffer own (done_own (header_call r buffer own) buffer found known.is h))
