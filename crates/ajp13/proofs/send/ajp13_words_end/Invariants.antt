-- The call that `send` makes for `send::ajp13_words_end`.
-- Assumes nothing.
use Rattle.ajp13.specs.Sending.{end_of}
use Rattle.ajp13.proofs.send.ajp13_words_end.Given as goal

abbrev pub ghost-send : goal.ghost-send
ghost-send a = λ c. end_of c a.sends.0.now
