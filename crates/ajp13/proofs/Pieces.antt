-- A piece over words: the faults of its arguments, and what is left where it is done, and where not.
-- Assumes nothing.
use native.Mathlib.Omega.{arith}
use borrow.Author.Tests.{eqb-true, eqb-false}
use mathlib.Core.Path.{◌≡◌, refl, ap, ◌∙◌}
use mathlib.Core.Bool.{Bool, true, false}
use mathlib.Core.List.{List, [], ◌∷◌}
use Prim.Native.Nat.{ℕ}
use lib.Dec.{eqb}
use lib.ListN.{length}
use Rattle.wire.specs.Pick.{pick}
use Rattle.wire.specs.Bytes.{over}
use Rattle.building.specs.Fault.{or_else, first_fault}
use Rattle.building.specs.Call.{Call, refused, done, refusal_of, outcome, buffer_after}
use Rattle.building_record.specs.Record.{is_possible}
use Rattle.building_record.specs.declared.Building.{Building}
use Rattle.building_record.proofs.Laws.{possible_yes}
use Rattle.pieces.specs.Attribute.{integer_call}
use Rattle.words.specs.Number.{capped, number_fault}
use Rattle.words.specs.BuildingWords.{building_fault, building_in, building_words}
use Rattle.words.proofs.Records.{building_back, capped_same, number_within}
use Rattle.answers.specs.Told.{PieceEffect, piece_leaves, after_adding}
use Rattle.ajp13.specs.Piece.{Piece, piece_effect}
use Rattle.ajp13.specs.Private.{record_piece}

-- the faults of two arguments, one behind the other
pub two_given : (building buffer : List ℕ) (first second : ℕ) (call : Call Building)
    → piece_effect (record_piece building (or_else first second) call) building buffer
    ≡ piece_effect (record { faults = building_fault building ∷ first ∷ second ∷ []; call = call }) building buffer
unfolding piece_effect
two_given building buffer first second call = go (eqb (building_fault building) 0) refl
  where
    by : ℕ → PieceEffect
    by fault = pick (eqb fault 0) (after_adding (outcome call (length buffer)) building (buffer_after call buffer)) (piece_leaves fault building buffer)

    go : (t : Bool) → eqb (building_fault building) 0 ≡ t
        → by (or_else (building_fault building) (or_else first second)) ≡ by (or_else (or_else (building_fault building) first) second)
    go true e = rw e refl
    go false e = rw (e, e, e) refl

-- a number that is given for an integer: where it is no 16-bit number the call has that fault, and nothing else counts
pub integer_given : (building buffer : List ℕ) (r : Building) (over : List ℕ) (code value : ℕ)
    → piece_effect (record_piece building (number_fault value) (integer_call r over code (capped value))) building buffer
    ≡ piece_effect (record_piece building (number_fault value) (integer_call r over code value)) building buffer
unfolding piece_effect
integer_given building buffer r over code value = go (eqb (number_fault value) 0) refl
  where
    by : ℕ → ℕ → PieceEffect
    by fault n =
        pick (eqb fault 0)
        (after_adding (outcome (integer_call r over code n) (length buffer)) building (buffer_after (integer_call r over code n) buffer))
        (piece_leaves fault building buffer)

    either_way : (t : Bool) → eqb (building_fault building) 0 ≡ t → eqb (number_fault value) 0 ≡ false
        → by (or_else (building_fault building) (number_fault value)) (capped value) ≡ by (or_else (building_fault building) (number_fault value)) value
    either_way true q e = rw (q, e) refl
    either_way false q e = rw (q, q) refl

    go : (t : Bool) → eqb (number_fault value) 0 ≡ t
        → by (or_else (building_fault building) (number_fault value)) (capped value) ≡ by (or_else (building_fault building) (number_fault value)) value
    go true e =
        ap (by (or_else (building_fault building) (number_fault value))) (capped_same value (number_within value (eqb-true (number_fault value) 0 e)))
    go false e = either_way (eqb (building_fault building) 0) refl e

-- the words of a record that is possible say the record: its numbers fit
pub possible_back : (r : Building) (buffer : List ℕ) → is_possible r buffer ≡ true → building_in (building_words r) ≡ r
possible_back r buffer e =
    let p = possible_yes r buffer e in
    building_back r (omega (arith, p.within)) (omega (arith, p.within, p.apart)) (omega (arith, p.few))

-- what is left where the piece is done, and where not
module _ (piece : Piece) (building buffer : List ℕ) where
  -- the refusal of the call, and what is left by whether there is a fault and a refusal
  abbrev refusal : ℕ
  refusal = refusal_of piece.call (length buffer)

  abbrev by : Bool → Bool → PieceEffect
  by none added =
      pick none
      (after_adding (pick added (done piece.call.answer) (refused refusal)) building
      (pick added (over buffer piece.call.at piece.call.bytes) buffer))
      (piece_leaves (first_fault piece.faults) building buffer)

  -- an error and a refusal leave all as it was
  pub piece_kept : ((piece_effect piece building buffer).status ≡ 0 → ⊥)
      → ((piece_effect piece building buffer).building ≡ building) × ((piece_effect piece building buffer).buffer ≡ buffer)
  unfolding piece_effect outcome buffer_after
  piece_kept h = go (eqb (first_fault piece.faults) 0) (eqb refusal 0) h
    where
      go : (none added : Bool) → ((by none added).status ≡ 0 → ⊥) → ((by none added).building ≡ building) × ((by none added).buffer ≡ buffer)
      go true true k = absurd (k refl)
      go true false k = (refl, refl)
      go false added k = (refl, refl)

  -- where it is done, the words are those of the next record, and the piece's bytes stand in the buffer
  pub piece_done : (piece_effect piece building buffer).status ≡ 0
      → ((piece_effect piece building buffer).building ≡ building_words piece.call.answer)
      × ((piece_effect piece building buffer).buffer ≡ over buffer piece.call.at piece.call.bytes)
  unfolding piece_effect outcome buffer_after
  piece_done h = go (eqb (first_fault piece.faults) 0) (eqb refusal 0) refl refl h
    where
      go : (none added : Bool) → eqb (first_fault piece.faults) 0 ≡ none → eqb refusal 0 ≡ added → (by none added).status ≡ 0
          → ((by none added).building ≡ building_words piece.call.answer)
          × ((by none added).buffer ≡ over buffer piece.call.at piece.call.bytes)
      go true true p q k = (refl, refl)
      go true false p q k = absurd (eqb-false refusal 0 q k)
      go false added p q k = absurd (eqb-false (first_fault piece.faults) 0 p k)

  -- so the record that the next piece takes from the words is the one that the library's call answered, where that is possible
  pub piece_next : (after : List ℕ) → is_possible piece.call.answer after ≡ true → (piece_effect piece building buffer).status ≡ 0
      → building_in (piece_effect piece building buffer).building ≡ piece.call.answer
  piece_next after e h = ap building_in (piece_done h).0 ∙ possible_back piece.call.answer after e
