-- The call that `send` makes for `send::ajp13_words_cpong`.
-- Assumes nothing.
use Rattle.writer.specs.Sending.{cpong_call}
use Rattle.ajp13.proofs.send.ajp13_words_cpong.Given as goal

abbrev pub ghost-send : goal.ghost-send
ghost-send a = cpong_call
