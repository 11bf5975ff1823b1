-- The call that `read_at` makes for `read::ajp13_words_read_at_server`.
-- Assumes nothing.
use Rattle.packet.specs.declared.Packet.{Packet}
use Rattle.ajp13.proofs.read.ajp13_words_read_at_server.Given as goal

abbrev pub ghost-read_at : goal.ghost-read_at
ghost-read_at a = Packet.BodyChunk
