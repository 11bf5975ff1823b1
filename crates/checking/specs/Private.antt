-- What the checker's own functions promise to one another. Whoever reads the promises of the public calls needs none of these.
-- Assumes nothing.
use Rattle.std.specs.Prelude.{ℕ, ◌+◌, ◌≤◌}
use Rattle.wire.specs.Refusal.{none}
use Rattle.packet.specs.declared.Packet.{Packet}
use Rattle.connection.specs.declared.Connection.{Connection}
use Rattle.checking.specs.declared.Checking.{Checking}
use Rattle.checking.specs.Checking.{requests_in, body_in}

-- figures that can be: none is above the place
pub record FiguresCount (k : Checking) : Type 0 where
  pub packets_few : k.packets ≤ k.place
  pub requests_few : k.requests ≤ k.place
  pub body_few : k.body ≤ k.place

-- with them, a packet that was accepted: it takes some bytes, and no figure of it is above their number
pub record PacketCounts (k : Checking) (packet : Packet) (taken : ℕ) : Type 0 where
  pub figures : FiguresCount k
  pub some : 1 ≤ taken
  pub requests_within : requests_in packet ≤ taken
  pub body_within : body_in packet ≤ taken

-- a check after one packet more
abbrev pub counted : Checking → Packet → ℕ → Connection → Checking
counted k packet taken next = record {
  connection = next;
  packets = k.packets + 1;
  requests = k.requests + requests_in packet;
  body = k.body + body_in packet;
  place = k.place + taken;
  refusal = none;
}
