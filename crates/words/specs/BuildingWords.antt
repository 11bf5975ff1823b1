-- A building record as five words, both ways. A fault is an error's number, 0 for none: an array of another length, a kind that is not built
-- in pieces, or a mark that is no flag. The numbers of a record may be any words: where one is too great the record is impossible, and it is
-- document 01 that says so (16).
-- The C boundary.
-- Assumes nothing.
use Rattle.std.specs.Prelude.{Bool, List, [], ◌∷◌, ℕ, eqb, length}
use Rattle.wire.specs.Pick.{pick, both, either}
use Rattle.wire.specs.Field.{boolean_number}
use Rattle.connection.specs.declared.Kind.{Kind}
use Rattle.building.specs.Fault.{unless}
use Rattle.building_record.specs.Record as building
use Rattle.building_record.specs.declared.BuildingKind.{BuildingKind}
use Rattle.building_record.specs.declared.Building.{Building}
use Rattle.words.specs.Status as status
use Rattle.words.specs.Number.{word, is_flag, flag_in, capped}
use Rattle.words.specs.Kinds.{kind_word}

-- the packet in pieces that a word is
abbrev pub is_forward_word : ℕ → Bool
is_forward_word n = eqb n (kind_word Kind.Forward)

abbrev pub is_send_headers_word : ℕ → Bool
is_send_headers_word n = eqb n (kind_word Kind.SendHeaders)

unfoldable pub building_kind_in : ℕ → BuildingKind
building_kind_in n = pick (is_forward_word n) BuildingKind.Forward BuildingKind.SendHeaders

-- how many words a building record has, and where each stands
abbrev pub building_size : ℕ
building_size = 5

abbrev pub kind_place : ℕ
kind_place = 0

abbrev pub next_place : ℕ
next_place = 1

abbrev pub count_place : ℕ
count_place = 2

abbrev pub so_far_place : ℕ
so_far_place = 3

abbrev pub attributes_place : ℕ
attributes_place = 4

-- the words of a building record: a packet that is built in pieces, any numbers, and whether attributes began
abbrev pub are_building : List ℕ → Bool
are_building words =
    both (either (is_forward_word (word words kind_place)) (is_send_headers_word (word words kind_place))) (is_flag (word words attributes_place))

-- the fault of an array that is to take a building record, and of the words of one
unfoldable pub building_room : List ℕ → ℕ
building_room words = unless (eqb (length words) building_size) status.building_length

unfoldable pub building_fault : List ℕ → ℕ
building_fault words =
    pick (eqb (length words) building_size) (unless (are_building words) status.building_word) status.building_length

-- the building record that words are, and a record's words
unfoldable pub building_in : List ℕ → Building
building_in words =
    building.building_fields
    (building_kind_in (word words kind_place))
    (capped (word words next_place))
    (capped (word words count_place))
    (capped (word words so_far_place))
    (flag_in (word words attributes_place))

unfoldable pub building_words : Building → List ℕ
building_words r =
    kind_word (building.built_kind r.kind) ∷ r.next.0 ∷ r.count.0 ∷ r.headers ∷ boolean_number r.attributes ∷ []
