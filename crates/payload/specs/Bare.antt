-- CPing and CPong.
-- Document 01, 'Server to container', CPing, and 'Container to server', CPong.
-- Assumes nothing.
use Rattle.std.specs.Prelude.{List, ℕ, length}
use Rattle.packet.specs.declared.Packet.{Packet}
use Rattle.payload.specs.Read.{PacketRead}
use Rattle.payload.specs.Packet.{finished}
use Rattle.wire.specs.Packet.{after_code_place}

-- CPing and CPong: the code alone
abbrev pub bare_at : List ℕ → Packet → PacketRead
bare_at s found = finished (length s) after_code_place found
