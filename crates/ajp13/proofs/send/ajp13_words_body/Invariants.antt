-- The call that `send` makes for `send::ajp13_words_body`.
-- Assumes nothing.
use Rattle.writer.specs.Sending.{body_call}
use Rattle.ajp13.proofs.send.ajp13_words_body.Given as goal

abbrev pub ghost-send : goal.ghost-send
ghost-send a = λ c. body_call c a.sends.0.now
