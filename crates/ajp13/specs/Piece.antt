-- The pieces of a Forward and of a Send Headers over words: what each looks for first, what it returns, and what it leaves in the arrays
-- lent to it. An error and a refusal leave all as it was.
-- The C boundary.
-- Assumes nothing.
use Rattle.std.specs.Prelude.{List, [], ◌∷◌, ℕ, eqb, length}
use Rattle.wire.specs.Pick.{pick}
use Rattle.wire.specs.Refusal.{none}
use Rattle.building.specs.Fault.{first_fault}
use Rattle.building.specs.Call.{Call, with_fault, outcome, buffer_after}
use Rattle.pieces.specs.Fixed.{forward_call, send_headers_call}
use Rattle.pieces.specs.Header.{coded_call, spelled_call, named_call}
use Rattle.pieces.specs.Attribute.{text_call, integer_call, pair_call}
use Rattle.building_record.specs.declared.Building.{Building}
use Rattle.words.specs.Number.{flag_in, capped, flag_fault, number_fault}
use Rattle.words.specs.BuildingWords.{building_room, building_fault, building_in}
use Rattle.words.specs.FixedWords.{fixed_fault, ssl_fault, numbers_in, nulls_in}
use Rattle.answers.specs.Told.{PieceEffect, piece_leaves, after_adding}

-- a piece: the faults that are looked for first, in their order, and then the call that adds it
pub record Piece : Type 0 where
  pub faults : List ℕ
  pub call : Call Building

-- by the fault that is found first: with none it leaves what the call comes to, else that fault and all as it was
unfoldable pub piece_effect : Piece → List ℕ → List ℕ → PieceEffect
piece_effect piece building buffer =
    pick (eqb (first_fault piece.faults) none)
    (after_adding (outcome piece.call (length buffer)) building (buffer_after piece.call buffer))
    (piece_leaves (first_fault piece.faults) building buffer)

-- the first piece of each packet: of the building record's words only their number is looked at. is_ssl is the last field that may be out of
-- range, so that its fault comes behind the others
unfoldable pub forward_piece : List ℕ → List ℕ → List ℕ → List ℕ → List ℕ → List ℕ → List ℕ → Piece
forward_piece building fixed protocol uri addr host name = record {
  faults = building_room building ∷ fixed_fault fixed ∷ [];
  call = with_fault (forward_call (numbers_in fixed) (nulls_in fixed) protocol uri addr host name) (ssl_fault fixed);
}

unfoldable pub send_headers_piece : List ℕ → ℕ → List ℕ → ℕ → Piece
send_headers_piece building http_status message null = record {
  faults = building_room building ∷ flag_fault null ∷ [];
  call = send_headers_call (capped http_status) (flag_in null) message;
}

-- headers
unfoldable pub coded_piece : List ℕ → List ℕ → ℕ → List ℕ → ℕ → Piece
coded_piece building buffer code value null = record {
  faults = building_fault building ∷ flag_fault null ∷ [];
  call = coded_call (building_in building) buffer (capped code) (flag_in null) value;
}

unfoldable pub spelled_piece : List ℕ → List ℕ → List ℕ → ℕ → List ℕ → ℕ → Piece
spelled_piece building buffer name noname value novalue = record {
  faults = building_fault building ∷ flag_fault noname ∷ flag_fault novalue ∷ [];
  call = spelled_call (building_in building) buffer (flag_in noname) name (flag_in novalue) value;
}

unfoldable pub named_piece : List ℕ → List ℕ → List ℕ → List ℕ → ℕ → Piece
named_piece building buffer name value null = record {
  faults = building_fault building ∷ flag_fault null ∷ [];
  call = named_call (building_in building) buffer name (flag_in null) value;
}

-- attributes
unfoldable pub text_piece : List ℕ → List ℕ → ℕ → List ℕ → ℕ → Piece
text_piece building buffer code value null = record {
  faults = building_fault building ∷ flag_fault null ∷ [];
  call = text_call (building_in building) buffer (capped code) (flag_in null) value;
}

unfoldable pub integer_piece : List ℕ → List ℕ → ℕ → ℕ → Piece
integer_piece building buffer code value = record {
  faults = building_fault building ∷ number_fault value ∷ [];
  call = integer_call (building_in building) buffer (capped code) value;
}

unfoldable pub pair_piece : List ℕ → List ℕ → ℕ → List ℕ → ℕ → List ℕ → ℕ → Piece
pair_piece building buffer code name noname value novalue = record {
  faults = building_fault building ∷ flag_fault noname ∷ flag_fault novalue ∷ [];
  call = pair_call (building_in building) buffer (capped code) (flag_in noname) name (flag_in novalue) value;
}
