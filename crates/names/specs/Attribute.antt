-- The attribute codes: what value each has, and which may repeat. Their names are in `Names`. They come in any order, and the name
-- that 0A brings with it need not be a token.
-- Document 01, 'Server to container', Attribute codes, and row 9 of its refusals.
-- Assumes nothing.
use Rattle.std.specs.Prelude.{Bool, true, false, not, ℕ, eqb}
use Rattle.wire.specs.Pick.{pick, both, between}
use Rattle.wire.specs.Refusal.{none, attribute_wrong}
use Rattle.packet.specs.declared.AttributeKind.{AttributeKind}

-- 03 to 09, 0C and 0D have a string; 0A a name string and a value string; 0B an integer; 01, 02 and the rest are not served
unfoldable pub attribute_kind : ℕ → AttributeKind
attribute_kind code =
    pick (between 3 9 code) AttributeKind.Text
    (pick (eqb code 10) AttributeKind.Pair
    (pick (eqb code 11) AttributeKind.Integer (pick (between 12 13 code) AttributeKind.Text AttributeKind.NotServed)))

-- only 0A may repeat
unfoldable pub may_repeat : ℕ → Bool
may_repeat code = eqb code 10

-- an attribute with a value of this kind is served
abbrev pub is_served : AttributeKind → Bool
is_served AttributeKind.NotServed = false
is_served AttributeKind.Text = true
is_served AttributeKind.Integer = true
is_served AttributeKind.Pair = true

-- a code that is not served is 9, and so is one that was seen before and may not repeat
unfoldable pub attribute_fault : ℕ → Bool → ℕ
attribute_fault code seen =
    pick (is_served (attribute_kind code)) (pick (both seen (not (may_repeat code))) attribute_wrong none) attribute_wrong
