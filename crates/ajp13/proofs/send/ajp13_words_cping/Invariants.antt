-- The call that `send` makes for `send::ajp13_words_cping`.
-- Assumes nothing.
use Rattle.writer.specs.Sending.{cping_call}
use Rattle.ajp13.proofs.send.ajp13_words_cping.Given as goal

abbrev pub ghost-send : goal.ghost-send
ghost-send a = cping_call
