-- `Checking::go_on` meets its contract.
-- Assumes nothing.
use mathlib.Core.Path.{sym, ◌∙◌}
use Rattle.checking.proofs.Laws.{goes_on_by, gone_on_is, room_is}
use borrow.Author.Rules.{rules}
use Rattle.checking.proofs.Checking.go_on.Goals as goal

pub run-requires : goal.run-requires
run-requires c = let going = goes_on_by _ (sym c.goes_on.ensures ∙ c.if-not-goes_on.false) in (room_is _ _ _ (search rules) c.part_of.ensures, going)

pub returns : goal.returns
returns c = c.run.ensures ∙ gone_on_is _ _ _ (sym c.goes_on.ensures ∙ c.if-not-goes_on.false) c.part_of.ensures
