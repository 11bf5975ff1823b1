-- What reading a header answers, in document 01's terms: refused with a number, or what was read and the place after it. Beside each is what the
-- code's answer says of it.
-- Assumes nothing.
use Rattle.std.specs.Prelude.{ℕ, Option, Result, Ok, Err}
use Rattle.wire.specs.Refusal.{number_of}
use Rattle.wire.specs.declared.refusal.Refusal.{Refusal}
use Rattle.wire.specs.declared.read.Field.{Field}
use Rattle.headers.specs.declared.ReadName.{ReadName}
use Rattle.headers.specs.declared.ReadHeader.{ReadHeader}

-- what a content-length's value makes of what was declared: refused, or what is declared now
pub data LengthRead : Type 0 where
  Refused : ℕ → LengthRead
  Now : Option ℕ → LengthRead

-- a header's name: refused; its code and the place after it; or where its bytes start, how many they are and the place after it
pub data NameRead : Type 0 where
  Refused : ℕ → NameRead
  Code : ℕ → ℕ → NameRead
  Spelled : ℕ → ℕ → ℕ → NameRead

-- a header: refused, or its value's place, what is declared after it, and the place after it
pub data HeaderRead : Type 0 where
  Refused : ℕ → HeaderRead
  Header : ℕ → Option ℕ → ℕ → HeaderRead

-- the headers: refused, or what they declare and the place after the last one
pub data HeadersRead : Type 0 where
  Refused : ℕ → HeadersRead
  Headers : Option ℕ → ℕ → HeadersRead

-- what the answer of a call that reads a declared length says
abbrev pub length_meaning : Result (Option ℕ) Refusal → LengthRead
length_meaning (Err refusal) = LengthRead.Refused (number_of refusal)
length_meaning (Ok declared) = LengthRead.Now declared

-- a name that was read, and the place after it
abbrev pub named : ReadName → ℕ → NameRead
named (ReadName.Code code) next = NameRead.Code code next
named (ReadName.Spelled span) next = NameRead.Spelled span.start span.len next

-- a name
abbrev pub name_meaning : Result (Field ReadName) Refusal → NameRead
name_meaning (Err refusal) = NameRead.Refused (number_of refusal)
name_meaning (Ok field) = named field.value field.next

-- a header
abbrev pub header_meaning : Result ReadHeader Refusal → HeaderRead
header_meaning (Err refusal) = HeaderRead.Refused (number_of refusal)
header_meaning (Ok header) = HeaderRead.Header header.value header.declared header.next

-- the headers
abbrev pub headers_meaning : Result (Field (Option ℕ)) Refusal → HeadersRead
headers_meaning (Err refusal) = HeadersRead.Refused (number_of refusal)
headers_meaning (Ok field) = HeadersRead.Headers field.value field.next
