-- A record that a call answers is possible: over the buffer as the call leaves it, no later piece finds it impossible.
-- Assumes nothing.
use native.Mathlib.Omega.{arith}
use mathlib.Core.Path.{◌≡◌, refl, sym, ap, ◌∙◌}
use mathlib.Core.Bool.{true, not}
use mathlib.Core.List.{List, [], ◌∷◌, ◌++◌}
use Prim.Native.Nat.{ℕ, ◌+◌, ◌≤◌, ◌<◌}
use lib.ListN.{length, get_or, length-append}
use lib.Seq.{get_or-take}
use Rattle.wire.specs.Pick.{both}
use Rattle.wire.specs.Bytes.{over, integer_bytes}
use Rattle.wire.specs.Packet.{packet_head, after_code_place, code_place}
use Rattle.wire.proofs.Tests.{both_first}
use Rattle.wire.proofs.Field.{head_four}
use Rattle.wire.specs.Refusal.{record_wrong}
use Rattle.connection.specs.Cycle.{direction_of}
use Rattle.places.specs.Entries.{max_headers}
use Rattle.payload.specs.Code.{code_of}
use Rattle.building.specs.Field.{Field, opening, faults_of, fields_bytes}
use Rattle.building.specs.Call.{Call, refusal_of, buffer_after}
use Rattle.building.proofs.Sizes.{first_none, unless_none}
use Rattle.building.proofs.Rows.{bytes_append}
use Rattle.building.proofs.Calls.{done_own, done_fits, after_length_lem, after_written, after_before}
use Rattle.building_record.specs.declared.Building.{Building}
use Rattle.building_record.specs.declared.BuildingKind.{BuildingKind}
use Rattle.building_record.specs.Record.{built_kind, is_possible, header_now, attribute_now, count_fault, with_header, with_attribute, is_forward, Possible, count_size}
use Rattle.pieces.specs.Fixed.{unset, fixed, fixed_call}
use Rattle.pieces.specs.Header.{header_call}
use Rattle.pieces.specs.Attribute.{attribute_call}
use Rattle.building_record.proofs.Laws.{possible_yes, yes_possible}
use Rattle.pieces.proofs.Pieces.{Checked, header_room}

-- a byte in front of what a call writes
byte_kept : {A : Type 0} (call : Call A) (buffer : List ℕ) (i : ℕ) → refusal_of call (length buffer) ≡ 0 → i < call.at
    → get_or (buffer_after call buffer) i 0 ≡ get_or buffer i 0
byte_kept call buffer i none h =
    sym (get_or-take call.at (buffer_after call buffer) i 0 h)
    ∙ ap (λ (l : List ℕ). get_or l i 0) (after_before call buffer none)
    ∙ get_or-take call.at buffer i 0 h

-- a piece that begins at the next place of a possible record, and the record behind it
module _ (r s : Building) (buffer : List ℕ) (call : Call Building) (can : Possible r buffer) (none : refusal_of call (length buffer) ≡ 0) where
  behind_possible : call.at ≡ r.next.0 → s.next.0 ≡ call.at + length call.bytes → s.count ≡ r.count → s.kind ≡ r.kind
      → s.headers ≤ max_headers → Possible s (buffer_after call buffer)
  behind_possible at next count kind few =
      let fits = done_fits call buffer (refusal_of call (length buffer)) refl none in
      let long : length (buffer_after call buffer) ≡ length buffer = after_length_lem call buffer in
      let place : s.count.0 ≡ r.count.0 = ap (λ c. c.0) count in
      record {
        within = omega (arith, fits.1, next);
        inside = omega (arith, fits.0, next, long);
        behind = omega (arith, can.behind, place);
        apart = omega (arith, can.apart, place, next, at);
        few = few;
        code = byte_kept call buffer code_place none (omega (arith, can.behind, can.apart, at)) ∙ can.code ∙ ap (λ k. code_of (built_kind k)) (sym kind);
      }

-- the record behind a header
pub header_possible : (r : Building) (buffer : List ℕ) (own : List Field) → refusal_of (header_call r buffer own) (length buffer) ≡ 0
    → is_possible (with_header r (r.next.0 + length (fields_bytes own))) (buffer_after (header_call r buffer own) buffer) ≡ true
unfolding header_now
header_possible r buffer own none =
    let call : Call Building = header_call r buffer own in
    let known : Checked call buffer _ _ = record { told = refl; is = refl } in
    let ok : is_possible r buffer ≡ true =
    both_first (is_possible r buffer) (not r.attributes)
    (unless_none (both (is_possible r buffer) (not r.attributes)) record_wrong (omega arith)
    (first_none (header_now r buffer) (faults_of own ++ (count_fault r ∷ [])) (done_own call buffer (refusal_of call (length buffer)) refl none))) in
    yes_possible (with_header r (r.next.0 + length (fields_bytes own))) (buffer_after call buffer)
    (behind_possible r (with_header r (r.next.0 + length (fields_bytes own))) buffer call (possible_yes r buffer ok) none refl refl refl refl
    (omega (arith, (header_room own known none).1)))

-- the record behind an attribute
pub attribute_possible : (r : Building) (buffer : List ℕ) (own : List Field) → refusal_of (attribute_call r buffer own) (length buffer) ≡ 0
    → is_possible (with_attribute r (r.next.0 + length (fields_bytes own))) (buffer_after (attribute_call r buffer own) buffer) ≡ true
unfolding attribute_now
attribute_possible r buffer own none =
    let call : Call Building = attribute_call r buffer own in
    let ok : is_possible r buffer ≡ true =
    both_first (is_possible r buffer) (is_forward r.kind)
    (unless_none (both (is_possible r buffer) (is_forward r.kind)) record_wrong (omega arith)
    (first_none (attribute_now r buffer) (faults_of own) (done_own call buffer (refusal_of call (length buffer)) refl none))) in
    let can : Possible r buffer = possible_yes r buffer ok in
    yes_possible (with_attribute r (r.next.0 + length (fields_bytes own))) (buffer_after call buffer)
    (behind_possible r (with_attribute r (r.next.0 + length (fields_bytes own))) buffer call can none refl refl refl refl can.few)

-- the fixed fields are longer than the code's place and the count
fixed_length_lem : (kind : BuildingKind) (own : List Field) → after_code_place + count_size ≤ length (fields_bytes (fixed kind own))
fixed_length_lem kind own =
    let first : List ℕ = opening (built_kind kind) 0 in
    let four : List ℕ = packet_head (direction_of (built_kind kind)) 0 in
    omega (
      arith,
      length-append first (fields_bytes (own ++ (unset ∷ []))),
      length-append four (code_of (built_kind kind) ∷ []),
      head_four (direction_of (built_kind kind)) 0,
      ap length (bytes_append own (unset ∷ [])),
      length-append (fields_bytes own) (integer_bytes 0),
    )

-- they have the packet's code at its place
fixed_code : (kind : BuildingKind) (own : List Field) (buffer : List ℕ)
    → get_or (over buffer 0 (fields_bytes (fixed kind own))) code_place 0 ≡ code_of (built_kind kind)
unfolding over
fixed_code BuildingKind.Forward own buffer = refl
fixed_code BuildingKind.SendHeaders own buffer = refl

-- the first record of a packet
pub begun_possible : (kind : BuildingKind) (buffer : List ℕ) (own : List Field) → refusal_of (fixed_call kind own) (length buffer) ≡ 0
    → is_possible (fixed_call kind own).answer (buffer_after (fixed_call kind own) buffer) ≡ true
begun_possible kind buffer own none =
    let call : Call Building = fixed_call kind own in
    let fits = done_fits call buffer (refusal_of call (length buffer)) refl none in
    let long : length (buffer_after call buffer) ≡ length buffer = after_length_lem call buffer in
    let least : after_code_place + count_size ≤ length (fields_bytes (fixed kind own)) = fixed_length_lem kind own in
    yes_possible call.answer (buffer_after call buffer)
    (record {
      within = omega (arith, fits.1);
      inside = omega (arith, fits.0, long);
      behind = omega (arith, least);
      apart = omega (arith, least);
      few = omega arith;
      code = ap (λ (l : List ℕ). get_or l code_place 0) (after_written call buffer none) ∙ fixed_code kind own buffer;
    })
