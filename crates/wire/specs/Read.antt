-- What reading a field at a place answers, in document 01's terms: refused with a number, or what was read and the place after it. Beside
-- each is what the code's answer says of it.
-- Assumes nothing.
use Rattle.std.specs.Prelude.{Bool, ℕ, Result, Ok, Err, Option, Some, None}
use Rattle.wire.specs.Refusal.{none, number_of}
use Rattle.wire.specs.declared.refusal.Refusal.{Refusal}
use Rattle.wire.specs.declared.read.Field.{Field}
use Rattle.wire.specs.declared.read.Span.{Span}

-- a byte or an integer: refused, or its value and the place after it
pub data NumberRead : Type 0 where
  Refused : ℕ → NumberRead
  Number : ℕ → ℕ → NumberRead

-- a boolean: refused, or its value and the place after it
pub data BooleanRead : Type 0 where
  Refused : ℕ → BooleanRead
  Boolean : Bool → ℕ → BooleanRead

-- a string: refused; null, with the place after it; or where its bytes start, how many they are and the place after it
pub data StringRead : Type 0 where
  Refused : ℕ → StringRead
  Null : ℕ → StringRead
  Text : ℕ → ℕ → ℕ → StringRead

-- what the answer of a call that reads a number says
abbrev pub number_meaning : Result (Field ℕ) Refusal → NumberRead
number_meaning (Err refusal) = NumberRead.Refused (number_of refusal)
number_meaning (Ok field) = NumberRead.Number field.value field.next

-- a boolean
abbrev pub boolean_meaning : Result (Field Bool) Refusal → BooleanRead
boolean_meaning (Err refusal) = BooleanRead.Refused (number_of refusal)
boolean_meaning (Ok field) = BooleanRead.Boolean field.value field.next

-- a string's bytes, None for null, and the place after it
abbrev pub text_meaning : Option Span → ℕ → StringRead
text_meaning None next = StringRead.Null next
text_meaning (Some span) next = StringRead.Text span.start span.len next

-- a string
abbrev pub string_meaning : Result (Field (Option Span)) Refusal → StringRead
string_meaning (Err refusal) = StringRead.Refused (number_of refusal)
string_meaning (Ok field) = text_meaning field.value field.next

-- what a call that looks for a fault says: the number of the refusal, or none
abbrev pub fault_number : Result Unit Refusal → ℕ
fault_number (Err refusal) = number_of refusal
fault_number (Ok nothing) = none
