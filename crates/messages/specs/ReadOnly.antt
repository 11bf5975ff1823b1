-- Packets that are read and not written: writing the message that such a packet shows does not give its bytes, so demand 2's way back leaves
-- it out (`RoundTrips`).
-- Document 02, A2: the other empty packet.
-- Assumes nothing.
use Rattle.std.specs.Prelude.{◌≡◌, Bool, true, false, List, [], ◌∷◌, ℕ, eqb}
use Rattle.wire.specs.Pick.{both}
use Rattle.messages.specs.Message.{Message, cping, cpong, forward, body, get_body, send_headers, body_chunk, end}

-- the two forms of an empty body packet: without a payload, the one that is written; and with a size of 0, which is only read
abbrev pub short_empty : List ℕ
short_empty =
    0x12 ∷ 0x34 ∷ 0x00 ∷ 0x00 ∷ []

abbrev pub long_empty : List ℕ
long_empty =
    0x12 ∷ 0x34 ∷ 0x00 ∷ 0x02 ∷ 0x00 ∷ 0x00 ∷ []

-- two packets have the same bytes
unfoldable pub same_bytes : List ℕ → List ℕ → Bool
same_bytes [] [] = true
same_bytes [] (y ∷ ys) = false
same_bytes (x ∷ xs) [] = false
same_bytes (x ∷ xs) (y ∷ ys) = both (eqb x y) (same_bytes xs ys)

-- whether a packet that shows this message and has these bytes is read and not written: of all packets, the long form of an empty body packet
abbrev pub is_read_only : Message → List ℕ → Bool
is_read_only cping s = false
is_read_only cpong s = false
is_read_only (forward request) s = false
is_read_only (body bytes) s = same_bytes s long_empty
is_read_only (get_body asked) s = false
is_read_only (send_headers response) s = false
is_read_only (body_chunk bytes) s = false
is_read_only (end reuse) s = false

-- a packet that shows this message and has these bytes is read and not written exactly where they are the long form's
pub record OnlyLong (m : Message) (s : List ℕ) : Type 0 where
  pub only : is_read_only m s ≡ true → s ≡ long_empty
  pub long : s ≡ long_empty → is_read_only m s ≡ true
