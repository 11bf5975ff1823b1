-- `checking::check` meets its contract.
-- Assumes nothing.
use mathlib.Core.Path.{◌∙◌}
use Rattle.checking.proofs.Parts.{checked_is}
use Rattle.checking.proofs.check.Goals as goal

pub returns : goal.returns
returns c = c.finish.ensures ∙ rw (c.go_on.ensures, c.begin.ensures) (checked_is _)
