-- How long the listed names are: antt computes their lengths.
-- Assumes nothing.
use borrow.Author.Tests.{leb-true}
use mathlib.Core.Bool.{true}
use mathlib.Core.Path.{◌≡◌, refl}
use mathlib.Core.List.{List, [], ◌∷◌, map}
use Prim.Native.Nat.{ℕ, zero, suc, ◌≤◌}
use lib.ListN.{length, get_or}
use lib.Dec.{leb, lit≤}
use Rattle.wire.specs.Pick.{all}
use Rattle.names.specs.declared.NameList.{NameList}
use Rattle.names.specs.Names.{method_names, request_names, response_names, attribute_names, names_in}
use Rattle.names.specs.Row.{name_room}
use Rattle.wire.proofs.Tests.{both_first, both_second}

-- where the lengths of a list of names are all within the room, so is the length of the name at any place
within_room : (names : List (List ℕ)) (k : ℕ) → all (λ n. leb n name_room) (map length names) ≡ true
    → length (get_or names k []) ≤ name_room
unfolding all
within_room [] k h = lit≤ tt
within_room (name ∷ names) zero h = leb-true (length name) name_room (both_first (leb (length name) name_room) _ h)
within_room (name ∷ names) (suc k) h = within_room names k (both_second (leb (length name) name_room) _ h)

-- every listed name has as many bytes as there is room for, or fewer: antt computes the lengths
pub all_short : (list : NameList) → all (λ n. leb n name_room) (map length (names_in list)) ≡ true
unfolding all method_names request_names response_names attribute_names
all_short NameList.Methods = refl
all_short NameList.RequestHeaders = refl
all_short NameList.ResponseHeaders = refl
all_short NameList.Attributes = refl

pub name_room_lem : (list : NameList) (k : ℕ) → length (get_or (names_in list) k []) ≤ name_room
name_room_lem list k = within_room (names_in list) k (all_short list)
