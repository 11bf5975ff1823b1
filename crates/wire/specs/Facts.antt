-- What the laws of reading and writing say: what is answered lies inside the packet, what a string is that was read, what one that was
-- written reads as, and what no string holds.
-- Assumes nothing.
use Rattle.std.specs.Prelude.{◌≡◌, Bool, true, false, List, ℕ, ◌+◌, ◌≤◌, ◌<◌, length, get_or}
use Rattle.wire.specs.Pick.{pick}
use Rattle.wire.specs.Bytes.{part, integer_in}
use Rattle.wire.specs.Field.{null_length, string_allowed}
use Rattle.wire.specs.Read.{NumberRead, BooleanRead, StringRead}

-- a number of a width at a place lies inside a packet of n bytes
abbrev pub NumberInside : ℕ → ℕ → ℕ → NumberRead → Type 0
NumberInside n at width (NumberRead.Refused k) = Unit
NumberInside n at width (NumberRead.Number value next) = (next ≡ at + width) × (next ≤ n)

-- so does a boolean at a place
abbrev pub BooleanInside : ℕ → ℕ → BooleanRead → Type 0
BooleanInside n at (BooleanRead.Refused k) = Unit
BooleanInside n at (BooleanRead.Boolean value next) = (next ≡ at + 1) × (next ≤ n)

-- a string whose length is at a place: null ends behind it; a text starts behind it, and ends behind its zero
abbrev pub StringInside : ℕ → ℕ → StringRead → Type 0
StringInside n at (StringRead.Refused k) = Unit
StringInside n at (StringRead.Null next) = (next ≡ at + 2) × (next ≤ n)
StringInside n at (StringRead.Text start len next) = (start ≡ at + 2) × ((next ≡ start + len + 1) × (next ≤ n))

-- what a string that reads as a text is
pub record TextRead (s : List ℕ) (at : ℕ) (optional : Bool) (start len next : ℕ) : Type 0 where
  pub starts : start ≡ at + 2
  pub ends : next ≡ start + len + 1
  pub fits : next ≤ length s
  pub length_is : len ≡ integer_in s at
  pub not_null : len ≡ null_length → ⊥
  pub zero_last : get_or s (start + len) 0 ≡ 0
  pub may_stand : string_allowed optional false (part s start len) ≡ true

-- what a string that reads as null is
pub record NullRead (s : List ℕ) (at : ℕ) (optional : Bool) (next : ℕ) : Type 0 where
  pub ends : next ≡ at + 2
  pub fits : next ≤ length s
  pub length_is : integer_in s at ≡ null_length
  pub may_stand : optional ≡ true

-- every element is a byte's value
abbrev pub Bytes : List ℕ → Type 0
Bytes s = (i : ℕ) → get_or s i 0 < 256

-- what reading a string that was written answers
abbrev pub written : ℕ → Bool → List ℕ → StringRead
written at null text = pick null (StringRead.Null (at + 2)) (StringRead.Text (at + 2) (length text) (at + 2 + length text + 1))

-- a byte that ends neither a string nor a line: not 0, not 10 (line feed), not 13 (carriage return)
abbrev pub ClearByte : ℕ → Type 0
ClearByte b = (b ≡ 0 → ⊥) × (b ≡ 10 → ⊥) × (b ≡ 13 → ⊥)

-- a text with none but such bytes, at every place
abbrev pub Clear : List ℕ → Type 0
Clear text = (i : ℕ) → i < length text → ClearByte (get_or text i 0)
