-- The call that `add` makes for `piece::ajp13_words_attribute_pair`.
-- Assumes nothing.
use Rattle.pieces.specs.Attribute.{pair_call}
use Rattle.words.specs.Number.{flag_in, capped}
use Rattle.ajp13.proofs.piece.ajp13_words_attribute_pair.Given as goal

abbrev pub ghost-add : goal.ghost-add
ghost-add a = λ r buffer. pair_call r buffer (capped a.adds.0.now) (flag_in a.adds.1.now) a.adds.2.now (flag_in a.adds.3.now) a.adds.4.now
