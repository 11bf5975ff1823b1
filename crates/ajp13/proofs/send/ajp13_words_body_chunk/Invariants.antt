-- The call that `send` makes for `send::ajp13_words_body_chunk`.
-- Assumes nothing.
use Rattle.writer.specs.Sending.{chunk_call}
use Rattle.ajp13.proofs.send.ajp13_words_body_chunk.Given as goal

abbrev pub ghost-send : goal.ghost-send
ghost-send a = λ c. chunk_call c a.sends.0.now
