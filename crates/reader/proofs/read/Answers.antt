-- `reader::read` meets its contract: a whole packet is no longer than a packet may be.
-- Assumes nothing.
use mathlib.Core.Path.{sym, ap, ◌∙◌}
use Rattle.reader.specs.Frame.{extent_meaning}
use Rattle.reader.proofs.Framing.{whole_fits}
use Rattle.reader.proofs.read.Goals as goal

pub invariant_of-read : goal.invariant_of-read
invariant_of-read c = record { fits = whole_fits _ _ _ _ (sym c.in_ok-n.ensures ∙ ap extent_meaning c.in-Whole.is) c.part_of.ensures }
