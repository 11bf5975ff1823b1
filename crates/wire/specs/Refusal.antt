-- The refusal numbers of documents 01 and 02, each under a name, in the order of their tables. `refusal` in src/ has the same list.
-- Assumes nothing.
use Rattle.std.specs.Prelude.{Bool, List, [], ◌∷◌, ℕ, eqb}
use Rattle.wire.specs.Pick.{either, one_of}
use Rattle.wire.specs.declared.refusal.Refusal.{Refusal}

-- no fault
abbrev pub none : ℕ
none = 0

-- the first two bytes are not those of the direction
abbrev pub leading_wrong : ℕ
leading_wrong = 1

-- a payload of over 8188 bytes
abbrev pub too_long : ℕ
too_long = 2

-- the payload runs out within a field, or where its code should be
abbrev pub cut_short : ℕ
cut_short = 3

-- a code that the direction does not have
abbrev pub code_wrong : ℕ
code_wrong = 4

-- 7 or 8 from a server
abbrev pub code_not_served : ℕ
code_not_served = 5

-- a string that lacks what its field asks for, holds a byte that it may not, or does not end in zero; a chunk
-- that does not end in zero
abbrev pub string_wrong : ℕ
string_wrong = 6

-- a number that no method, no boolean or no status has
abbrev pub out_of_range : ℕ
out_of_range = 7

-- a header name: an unlisted code, no token, or a listed name that is spelled
abbrev pub name_wrong : ℕ
name_wrong = 8

-- an attribute code that is not served, or comes again and may not
abbrev pub attribute_wrong : ℕ
attribute_wrong = 9

-- content-length with a bad value, null, or for the second time; transfer-encoding
abbrev pub content_length_wrong : ℕ
content_length_wrong = 10

-- more than 100 headers, or than 64 attributes
abbrev pub too_many : ℕ
too_many = 11

-- bytes behind the last field
abbrev pub left_over : ℕ
left_over = 12

-- a packet that the state does not allow
abbrev pub not_now : ℕ
not_now = 13

-- a body packet of a size that the cycle does not allow
abbrev pub body_size_wrong : ℕ
body_size_wrong = 14

-- too little room in the table or the buffer that the caller lent
abbrev pub buffer_too_short : ℕ
buffer_too_short = 15

-- a header behind an attribute, an attribute on Send Headers, or an impossible building record
abbrev pub record_wrong : ℕ
record_wrong = 16

-- a capture's last packet is not whole
abbrev pub unfinished_packet : ℕ
unfinished_packet = 17

-- a capture of over 4294967295 bytes, of which those that are judged show no other fault
abbrev pub capture_too_long : ℕ
capture_too_long = 18

-- all of them, in the order of the table; a later number joins at the end
abbrev pub refusals : List ℕ
refusals =
    leading_wrong
    ∷ too_long
    ∷ cut_short
    ∷ code_wrong
    ∷ code_not_served
    ∷ string_wrong
    ∷ out_of_range
    ∷ name_wrong
    ∷ attribute_wrong
    ∷ content_length_wrong
    ∷ too_many
    ∷ left_over
    ∷ not_now
    ∷ body_size_wrong
    ∷ buffer_too_short
    ∷ record_wrong
    ∷ unfinished_packet
    ∷ capture_too_long
    ∷ []

-- none and all of them
abbrev pub faults : List ℕ
faults = none ∷ refusals

-- a number of the tables of refusals
abbrev pub is_refusal : ℕ → Bool
is_refusal n = one_of refusals n

-- a fault: none, or such a number
abbrev pub is_fault : ℕ → Bool
is_fault n = either (eqb n none) (is_refusal n)

-- the number of a refusal, as the code names it
abbrev pub number_of : Refusal → ℕ
number_of Refusal.LeadingWrong = leading_wrong
number_of Refusal.TooLong = too_long
number_of Refusal.CutShort = cut_short
number_of Refusal.CodeWrong = code_wrong
number_of Refusal.CodeNotServed = code_not_served
number_of Refusal.StringWrong = string_wrong
number_of Refusal.OutOfRange = out_of_range
number_of Refusal.NameWrong = name_wrong
number_of Refusal.AttributeWrong = attribute_wrong
number_of Refusal.ContentLengthWrong = content_length_wrong
number_of Refusal.TooMany = too_many
number_of Refusal.LeftOver = left_over
number_of Refusal.NotNow = not_now
number_of Refusal.BodySizeWrong = body_size_wrong
number_of Refusal.BufferTooShort = buffer_too_short
number_of Refusal.RecordWrong = record_wrong
number_of Refusal.UnfinishedPacket = unfinished_packet
number_of Refusal.CaptureTooLong = capture_too_long
