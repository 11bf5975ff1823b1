-- `short_ways::read_body` meets its contract, by what is read and by the step.
-- Assumes nothing.
use mathlib.Core.Path.{refl, ◌∙◌}
use Rattle.packet.specs.declared.Direction.{Direction}
use Rattle.packet.specs.declared.Packet.{Packet}
use Rattle.connection.specs.declared.Kind.{Kind}
use Rattle.wire.proofs.Exits.{exits}
use Rattle.short_ways.specs.Short.{part_meaning}
use Rattle.short_ways.proofs.ShortWays.{size_none, size_some, short_body, short_other, short_refused, short_stepped}
use Rattle.short_ways.proofs.read_body.Goals as goal

pub returns-in_default : goal.returns-in_default
returns-in_default c = short_other Direction.ToContainer _ _ _ refl (size_none _ c.in_default.ensures)

pub returns-in_err-found : goal.returns-in_err-found
returns-in_err-found c =
    let size = size_some _ _ c.in-Some.ensures in
    exits (part_meaning Packet.Body) _ _ c.from_residual.ensures.1
    ∙ short_refused Direction.ToContainer _ _ Kind.Body _ _ _ size.0 size.1 (short_body _ _ _ size.0 size.1) c.part_of-body.ensures refl _ c.in_err-found.ensures

pub returns : goal.returns
returns c =
    let size = size_some _ _ c.in-Some.ensures in
    short_stepped Direction.ToContainer _ _ Kind.Body _ _ _ size.0 size.1 (short_body _ _ _ size.0 size.1) c.part_of-body.ensures refl _ _ c.in_ok-found.ensures
    c.stepped.ensures
