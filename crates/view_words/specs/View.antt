-- What the calls that show the fields of a packet tell: a string as three words, and the numbers of codes and kinds.
-- The C boundary.
-- Assumes nothing.
use Rattle.std.specs.Prelude.{List, [], ◌∷◌, ℕ, ◌+◌, leb, eqb, length}
use Rattle.wire.specs.Pick.{pick}
use Rattle.packet.specs.declared.AttributeKind.{AttributeKind}
use Rattle.building.specs.Fault.{unless, or_else}
use Rattle.views.specs.View.{null_view, text_view}
use Rattle.packet.specs.declared.HeaderName.{HeaderName}
use Rattle.words.specs.Status as status
use Rattle.words.specs.Number.{number_fault}
use Rattle.wire.specs.Field.{boolean_number}

-- the words of a string: how many, and where each stands
abbrev pub text_size : ℕ
text_size = 3

abbrev pub text_start_place : ℕ
text_start_place = 0

abbrev pub text_length_place : ℕ
text_length_place = 1

abbrev pub text_null_place : ℕ
text_null_place = 2

-- how many bytes a string's length takes in front of its bytes
abbrev pub length_size : ℕ
length_size = 2

-- where the bytes of the string at a place start: behind its length, or at the packet's end where that is nearer
unfoldable pub text_start : List ℕ → ℕ → ℕ
text_start packet at = pick (leb (at + length_size) (length packet)) (at + length_size) (length packet)

-- the string at a place: where its bytes start, how many they are, 1 for null
unfoldable pub text_words : List ℕ → ℕ → List ℕ
text_words packet at = text_start packet at ∷ length (text_view packet at) ∷ boolean_number (null_view packet at) ∷ []

-- the fault of a call that tells a string: by the array lent for it, and by the place
unfoldable pub text_fault : ℕ → List ℕ → ℕ
text_fault place text = or_else (unless (eqb (length text) text_size) status.answer_length) (number_fault place)

-- the array after it
unfoldable pub text_after : ℕ → List ℕ → List ℕ → List ℕ
text_after place text told = pick (eqb (text_fault place text) status.done) told text

-- the number of a header's name: its code, or 0 where it is spelled
abbrev pub name_number : HeaderName → ℕ
name_number (HeaderName.Code code) = code
name_number HeaderName.Spelled = 0

-- the number of the kind of value that an attribute has
abbrev pub kind_number : AttributeKind → ℕ
kind_number AttributeKind.NotServed = 0
kind_number AttributeKind.Text = 1
kind_number AttributeKind.Integer = 2
kind_number AttributeKind.Pair = 3
