-- A packet: two leading bytes, which tell its direction, then the payload's length, then the payload.
-- Document 01, 'Bytes and numbers'.
-- Assumes nothing.
use Rattle.std.specs.Prelude.{List, [], ◌∷◌, ◌++◌, ℕ, ◌+◌, ◌≤◌, length}
use Rattle.wire.specs.Bytes.{integer_bytes}
use Rattle.packet.specs.declared.Direction.{Direction}

-- the most bytes of a packet
abbrev pub max_packet : ℕ
max_packet = 8192

-- bytes at a place fit a buffer and a packet
abbrev pub Fits : ℕ → List ℕ → List ℕ → Type 0
Fits at bytes buffer = (at + length bytes ≤ length buffer) × (at + length bytes ≤ max_packet)

-- 12 34 leads to the container, 41 42 to the server
abbrev pub leading : Direction → List ℕ
leading Direction.ToContainer = 0x12 ∷ 0x34 ∷ []
leading Direction.ToServer = 0x41 ∷ 0x42 ∷ []

-- where a packet's length is: behind the two leading bytes
abbrev pub length_place : ℕ
length_place = 2

-- where its payload is: behind the two bytes of the length
abbrev pub payload_place : ℕ
payload_place = 4

-- where its code is: it is the payload's first byte
abbrev pub code_place : ℕ
code_place = payload_place

-- where the first field behind the code is
abbrev pub after_code_place : ℕ
after_code_place = 5

-- a packet's first four bytes
abbrev pub packet_head : Direction → ℕ → List ℕ
packet_head direction payload_length = leading direction ++ integer_bytes payload_length

-- a whole packet
abbrev pub packet : Direction → List ℕ → List ℕ
packet direction payload = packet_head direction (length payload) ++ payload
