-- The call that `add` makes for `piece::ajp13_words_header_named`.
-- Assumes nothing.
use Rattle.pieces.specs.Header.{named_call}
use Rattle.words.specs.Number.{flag_in}
use Rattle.ajp13.proofs.piece.ajp13_words_header_named.Given as goal

abbrev pub ghost-add : goal.ghost-add
ghost-add a = λ r buffer. named_call r buffer a.adds.0.now (flag_in a.adds.1.now) a.adds.2.now
