-- An attribute is a code and then a value; attributes stand one after the other, up to FF.
-- Document 01, 'Server to container', Attribute codes, and 'Refusal numbers': where their faults are told.
-- Assumes nothing.
use Rattle.std.specs.Prelude.{Bool, true, false, List, ◌∷◌, ℕ, zero, suc, ◌+◌, leb, eqb, length, get_or, Result, Ok, Err, Option, Some, None}
use Rattle.wire.specs.Pick.{pick, one_of}
use Rattle.wire.specs.Refusal.{none, cut_short, string_wrong, attribute_wrong, too_many, number_of}
use Rattle.wire.specs.Field.{integer_at, string_at, is_optional}
use Rattle.wire.specs.declared.StringField.{StringField}
use Rattle.wire.specs.Read.{NumberRead, StringRead}
use Rattle.names.specs.Attribute.{attribute_kind, attribute_fault}
use Rattle.packet.specs.declared.AttributeKind.{AttributeKind}
use Rattle.places.specs.Entries.{Entries, ended, front}
use Rattle.wire.specs.declared.read.Field.{Field}
use Rattle.wire.specs.declared.refusal.Refusal.{Refusal}
use Rattle.attributes.specs.declared.ReadAttribute.{ReadAttribute}

-- an attribute's value: refused, or its place and the place after it
pub data ValueRead : Type 0 where
  Refused : ℕ → ValueRead
  Value : ℕ → ℕ → ValueRead

-- an attribute: refused; the byte behind the last one, with the place after it; or its code, its value's place and the place after it
pub data AttributeRead : Type 0 where
  Refused : ℕ → AttributeRead
  Last : ℕ → AttributeRead
  Attribute : ℕ → ℕ → ℕ → AttributeRead

-- the attributes: refused, or how many they are and the place after the byte behind the last one
pub data AttributesRead : Type 0 where
  Refused : ℕ → AttributesRead
  Attributes : ℕ → ℕ → AttributesRead

-- what the answer of a call that reads a value says
abbrev pub value_meaning : Result (Field ℕ) Refusal → ValueRead
value_meaning (Err refusal) = ValueRead.Refused (number_of refusal)
value_meaning (Ok field) = ValueRead.Value field.value field.next

-- an attribute, None for the byte behind the last one, and the place after it
abbrev pub found_meaning : Option ReadAttribute → ℕ → AttributeRead
found_meaning None next = AttributeRead.Last next
found_meaning (Some found) next = AttributeRead.Attribute found.code found.value next

-- of one that reads an attribute
abbrev pub attribute_meaning : Result (Field (Option ReadAttribute)) Refusal → AttributeRead
attribute_meaning (Err refusal) = AttributeRead.Refused (number_of refusal)
attribute_meaning (Ok field) = found_meaning field.value field.next

-- of one that reads all of them
abbrev pub attributes_meaning : Result (Field ℕ) Refusal → AttributesRead
attributes_meaning (Err refusal) = AttributesRead.Refused (number_of refusal)
attributes_meaning (Ok field) = AttributesRead.Attributes field.value field.next

-- the byte behind the last attribute
abbrev pub last_mark : ℕ
last_mark = 0xFF

-- a value that is a string, as read at a place
abbrev pub text_value_of : ℕ → StringRead → ValueRead
text_value_of at (StringRead.Refused n) = ValueRead.Refused n
text_value_of at (StringRead.Null next) = ValueRead.Value at next
text_value_of at (StringRead.Text start len next) = ValueRead.Value at next

-- the string value at a place
unfoldable pub text_value_at : List ℕ → ℕ → ValueRead
text_value_at s at = text_value_of at (string_at s at (is_optional StringField.AttributeValue))

-- a value that is an integer, as read at a place
abbrev pub integer_value_of : ℕ → NumberRead → ValueRead
integer_value_of at (NumberRead.Refused n) = ValueRead.Refused n
integer_value_of at (NumberRead.Number value next) = ValueRead.Value at next

-- the integer value at a place
unfoldable pub integer_value_at : List ℕ → ℕ → ValueRead
integer_value_at s at = integer_value_of at (integer_at s at)

-- a value behind its name, by the name's string as read
abbrev pub pair_value_of : List ℕ → StringRead → ValueRead
pair_value_of s (StringRead.Refused n) = ValueRead.Refused n
pair_value_of s (StringRead.Null next) = ValueRead.Refused string_wrong
pair_value_of s (StringRead.Text start len next) = text_value_at s next

-- a name string and then a value string, whose place is the value's
unfoldable pub pair_value_at : List ℕ → ℕ → ValueRead
pair_value_at s at = pair_value_of s (string_at s at (is_optional StringField.AttributeName))

-- the value at a place, by the kind of value that its code has
abbrev pub attribute_value_at : List ℕ → ℕ → AttributeKind → ValueRead
attribute_value_at s at AttributeKind.NotServed = ValueRead.Refused attribute_wrong
attribute_value_at s at AttributeKind.Text = text_value_at s at
attribute_value_at s at AttributeKind.Integer = integer_value_at s at
attribute_value_at s at AttributeKind.Pair = pair_value_at s at

-- an attribute with this code, by its value as read
abbrev pub with_value : ℕ → ValueRead → AttributeRead
with_value code (ValueRead.Refused n) = AttributeRead.Refused n
with_value code (ValueRead.Value at next) = AttributeRead.Attribute code at next

-- an attribute with this code, whose value begins at a place; `again` where the code came before
unfoldable pub coded_at : List ℕ → ℕ → ℕ → Bool → AttributeRead
coded_at s at code again =
    pick (eqb (attribute_fault code again) none)
    (with_value code (attribute_value_at s at (attribute_kind code)))
    (AttributeRead.Refused (attribute_fault code again))

-- the attribute at a place, where some codes came before; `full` where no more may come: 11, before its code is judged
unfoldable pub attribute_at : List ℕ → ℕ → Bool → (ℕ → Bool) → AttributeRead
attribute_at s at full seen =
    pick (leb (at + 1) (length s))
    (pick (eqb (get_or s at 0) last_mark) (AttributeRead.Last (at + 1))
    (pick full (AttributeRead.Refused too_many) (coded_at s (at + 1) (get_or s at 0) (seen (get_or s at 0)))))
    (AttributeRead.Refused cut_short)

-- an attribute, as read at a place, and the later ones; `count` came before
abbrev pub attribute_then : ℕ → ℕ → AttributeRead → (ℕ → ℕ → Entries AttributesRead) → Entries AttributesRead
attribute_then at count (AttributeRead.Refused n) later = ended (AttributesRead.Refused n)
attribute_then at count (AttributeRead.Last next) later = ended (AttributesRead.Attributes count next)
attribute_then at count (AttributeRead.Attribute code value next) later = front at value (later code next)

-- attributes from a place on, up to FF, at most `most`; the codes that came before are listed. Where no more may come, an attribute is
-- never answered (the law `full_none`), so what would follow it is not looked at
unfoldable pub attributes_at : List ℕ → ℕ → ℕ → List ℕ → Entries AttributesRead
attributes_at s at zero codes =
    attribute_then at (length codes) (attribute_at s at true (one_of codes)) (λ code next. ended (AttributesRead.Refused too_many))
attributes_at s at (suc most) codes =
    attribute_then at (length codes) (attribute_at s at false (one_of codes)) (λ code next. attributes_at s next most (code ∷ codes))
