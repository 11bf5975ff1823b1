-- `piece::ajp13_words_header_named` meets its contract: the closure that it passes answers what the library's call says.
-- Assumes nothing.
use contract.BorrowLft.{⊑_meet, ⊑_static}
use Rattle.std.proofs.Common.{arith}
use Rattle.words.proofs.Texts.{named_given}
use Rattle.ajp13.proofs.piece.ajp13_words_header_named.Goals as goal

pub add-requires : goal.add-requires
add-requires c κs within = (
  search (⊑_meet, ⊑_static, within.0, within.1.0, within.1.1.0) depth 12,
  record { callable = λ r b. tt; answers = λ r b left added called. grind (arith, named_given) },
)
