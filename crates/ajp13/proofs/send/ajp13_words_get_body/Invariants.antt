-- The call that `send` makes for `send::ajp13_words_get_body`.
-- Assumes nothing.
use Rattle.writer.specs.Sending.{get_call}
use Rattle.words.specs.Number.{capped}
use Rattle.ajp13.proofs.send.ajp13_words_get_body.Given as goal

abbrev pub ghost-send : goal.ghost-send
ghost-send a = λ c. get_call c (capped a.sends.0.now)
