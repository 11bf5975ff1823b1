-- Which bytes a header name may hold: those of an RFC 9110 token, 77 of the 256.
-- Document 01, 'Server to container', Header.
-- Assumes nothing.
use Rattle.std.specs.Prelude.{Bool, List, [], ◌∷◌, ℕ}
use Rattle.wire.specs.Pick.{either, between, one_of, all}

-- ! # $ % & ' * + - . ^ _ ` | ~
abbrev pub marks : List ℕ
marks = 33 ∷ 35 ∷ 36 ∷ 37 ∷ 38 ∷ 39 ∷ 42 ∷ 43 ∷ 45 ∷ 46 ∷ 94 ∷ 95 ∷ 96 ∷ 124 ∷ 126 ∷ []

-- a mark, a digit or a letter
unfoldable pub token_byte : ℕ → Bool
token_byte b = either (one_of marks b) (either (between 48 57 b) (either (between 65 90 b) (between 97 122 b)))

-- every byte is one of these
abbrev pub is_token : List ℕ → Bool
is_token = all token_byte
