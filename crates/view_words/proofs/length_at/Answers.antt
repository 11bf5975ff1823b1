-- `length_at` meets its contract, by what is read at the index.
-- Assumes nothing.
use mathlib.Core.Path.{sym}
use Rattle.views.proofs.Laws.{number_is}
use Rattle.view_words.proofs.length_at.Goals as goal

pub returns-in-Ok : goal.returns-in-Ok
returns-in-Ok c = number_is _ _ _ (sym c.in-Ok.ensures)

pub returns-in-Err : goal.returns-in-Err
returns-in-Err c = number_is _ _ _ (sym c.in-Err.ensures)
