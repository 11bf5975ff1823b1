-- `piece::ajp13_words_header_spelled` meets its contract: the closure that it passes answers what the library's call says.
-- Assumes nothing.
use contract.BorrowLft.{⊑_meet, ⊑_static}
use Rattle.std.proofs.Common.{arith}
use Rattle.words.proofs.Texts.{spelled_given}
use Rattle.ajp13.proofs.piece.ajp13_words_header_spelled.Goals as goal

pub add-requires : goal.add-requires
add-requires c κs within = (
  search (⊑_meet, ⊑_static, within.0, within.1.0, within.1.1.0, within.1.1.1.0) depth 12,
  record { callable = λ r b. tt; answers = λ r b left added called. grind (arith, spelled_given) },
)
