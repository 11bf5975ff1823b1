-- The declared length of a request's body: the value of content-length.
-- Document 01, 'Server to container', Header, and row 10 of its refusals.
-- Assumes nothing.
use Rattle.std.specs.Prelude.{Bool, List, [], ◌∷◌, ℕ, ◌+◌, ◌-◌, ◌*◌, leb, eqb, length, Option, Some, None}
use Rattle.wire.specs.Pick.{pick, between}
use Rattle.wire.specs.Refusal.{content_length_wrong}
use Rattle.headers.specs.Read.{LengthRead}

-- the greatest length that can be declared
abbrev pub max_declared : ℕ
max_declared = 4294967295

-- the most digits that declare it
abbrev pub max_digits : ℕ
max_digits = 10

-- a number that can be declared
abbrev pub within : ℕ → Option ℕ
within n = pick (leb n max_declared) (Some n) None

-- digits behind those that make n
unfoldable pub digits : ℕ → List ℕ → Option ℕ
digits n [] = within n
digits n (b ∷ bs) = pick (between 48 57 b) (digits (n * 10 + (b - 48)) bs) None

-- 1 to 10 digits
unfoldable pub decimal_of : List ℕ → Option ℕ
decimal_of text = pick (between 1 max_digits (length text)) (digits 0 text) None

-- what a number declares; a bad one is 10
abbrev pub decimal_declared : Option ℕ → LengthRead
decimal_declared (Some n) = LengthRead.Now (Some n)
decimal_declared None = LengthRead.Refused content_length_wrong

-- the code of content-length in a request
abbrev pub content_length_code : ℕ
content_length_code = 0xA008

-- whether a request header's code is that of content-length
abbrev pub is_content_length : ℕ → Bool
is_content_length n = eqb n content_length_code

-- what a content-length declares, by what was declared before it: once, and not by null
abbrev pub length_after : Option ℕ → Bool → List ℕ → LengthRead
length_after None null text = pick null (LengthRead.Refused content_length_wrong) (decimal_declared (decimal_of text))
length_after (Some n) null text = LengthRead.Refused content_length_wrong

-- the length then; 0 where none was declared
abbrev pub declared_length : Option ℕ → ℕ
declared_length None = 0
declared_length (Some n) = n
