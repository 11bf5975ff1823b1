-- The call that `add` makes for `piece::ajp13_words_attribute_integer`.
-- Assumes nothing.
use Rattle.pieces.specs.Attribute.{integer_call}
use Rattle.words.specs.Number.{capped}
use Rattle.ajp13.proofs.piece.ajp13_words_attribute_integer.Given as goal

abbrev pub ghost-add : goal.ghost-add
ghost-add a = λ r buffer. integer_call r buffer (capped a.adds.0.now) (capped a.adds.1.now)
