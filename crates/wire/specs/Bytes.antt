-- Parts of a list of bytes, bytes laid over a list, and numbers as two bytes.
-- Document 01, 'Bytes and numbers': an integer has two bytes, the high one before the low one.
-- Assumes nothing.
use Rattle.std.specs.Prelude.{List, [], ◌∷◌, ◌++◌, ℕ, ◌+◌, ◌*◌, ◌/◌, ◌%◌, length, get_or, take, drop}

-- the elements from a place on, `len` of them, or as many as there are
unfoldable pub part : List ℕ → ℕ → ℕ → List ℕ
part s start len = take len (drop start s)

-- the list with these bytes from a place on
unfoldable pub over : List ℕ → ℕ → List ℕ → List ℕ
over buffer at bytes = take at buffer ++ (bytes ++ drop (at + length bytes) buffer)

-- the integer at a place
unfoldable pub integer_in : List ℕ → ℕ → ℕ
integer_in s at = get_or s at 0 * 256 + get_or s (at + 1) 0

-- an integer's bytes
abbrev pub integer_bytes : ℕ → List ℕ
integer_bytes n = (n / 256 % 256) ∷ (n % 256) ∷ []
