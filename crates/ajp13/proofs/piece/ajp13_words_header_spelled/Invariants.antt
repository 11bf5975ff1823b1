-- The call that `add` makes for `piece::ajp13_words_header_spelled`.
-- Assumes nothing.
use Rattle.pieces.specs.Header.{spelled_call}
use Rattle.words.specs.Number.{flag_in}
use Rattle.ajp13.proofs.piece.ajp13_words_header_spelled.Given as goal

abbrev pub ghost-add : goal.ghost-add
ghost-add a = λ r buffer. spelled_call r buffer (flag_in a.adds.0.now) a.adds.1.now (flag_in a.adds.2.now) a.adds.3.now
