-- What the laws of captures say.
-- Assumes nothing.
use Rattle.std.specs.Prelude.{◌≡◌, List, ℕ, ◌≤◌, length}
use Rattle.wire.specs.Bytes.{part}
use Rattle.wire.specs.Packet.{payload_place, max_packet}
use Rattle.packet.specs.declared.Packet.{Packet}
use Rattle.connection.specs.declared.Connection.{Connection}
use Rattle.reader.specs.Meaning.{accepted}
use Rattle.capture.specs.Course.{Seen, first_in}

-- an accepted packet has at least 4 bytes and at most 8192, and all of them are there
pub record TakenInside (s : List ℕ) (taken : ℕ) : Type 0 where
  pub some : payload_place ≤ taken
  pub most : taken ≤ max_packet
  pub there : taken ≤ length s

-- a figure that is at most the number of a packet's bytes, of whatever packet is accepted
abbrev pub AtMostBytes : (Seen → ℕ) → Type 0
AtMostBytes figure =
    (c : Connection) (s : List ℕ) (packet : Packet) (taken : ℕ) (next : Connection) → first_in c s ≡ accepted packet taken next
    → figure (record { packet = packet; bytes = part s 0 taken }) ≤ taken
