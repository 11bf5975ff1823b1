-- The faults of a name and of an attribute's code are numbers of document 01, or none.
-- Assumes nothing.
use mathlib.Core.Path.{◌≡◌, refl}
use mathlib.Core.Bool.{Bool, true, false, not}
use mathlib.Core.List.{List}
use Prim.Native.Nat.{ℕ}
use Rattle.wire.specs.Pick.{pick, both}
use Rattle.wire.specs.Refusal.{none, name_wrong, attribute_wrong, content_length_wrong, is_fault}
use Rattle.packet.specs.declared.Direction.{Direction}
use Rattle.names.specs.Names.{is_listed, code_in}
use Rattle.names.specs.Token.{is_token}
use Rattle.names.specs.Header.{header_names, code_fault, is_found, is_transfer_encoding, is_request, unlisted_fault, spelled_fault}
use Rattle.names.specs.Attribute.{attribute_kind, may_repeat, is_served, attribute_fault}

-- a choice between two faults is one
fault_of : (t : Bool) (a b : ℕ) → is_fault a ≡ true → is_fault b ≡ true → is_fault (pick t a b) ≡ true
fault_of true a b h k = h
fault_of false a b h k = k

-- a header name's code
pub code_fault_lem : (direction : Direction) (n : ℕ) → is_fault (code_fault direction n) ≡ true
unfolding code_fault
code_fault_lem direction n = fault_of (is_listed (header_names direction) n) none name_wrong refl refl

-- a header name that is spelled
pub spelled_fault_lem : (direction : Direction) (text : List ℕ) → is_fault (spelled_fault direction text) ≡ true
unfolding spelled_fault unlisted_fault
spelled_fault_lem direction text =
    let unlisted = pick (both (is_request direction) (is_transfer_encoding text)) content_length_wrong none in
    let listed = is_found (code_in (header_names direction) text) in
    fault_of (is_token text) (pick listed name_wrong unlisted) name_wrong
    (fault_of listed name_wrong unlisted refl (fault_of (both (is_request direction) (is_transfer_encoding text)) content_length_wrong none refl refl)) refl

-- an attribute's code
pub attribute_fault_lem : (code : ℕ) (seen : Bool) → is_fault (attribute_fault code seen) ≡ true
unfolding attribute_fault
attribute_fault_lem code seen =
    let again = both seen (not (may_repeat code)) in
    fault_of (is_served (attribute_kind code)) (pick again attribute_wrong none) attribute_wrong (fault_of again attribute_wrong none refl refl) refl
