-- `headers::headers` meets its contract. The invariant is `Reading`.
-- Assumes nothing.
use mathlib.Core.Path.{sym, ◌∙◌}
use Rattle.std.proofs.Common.{rules}
use Rattle.wire.proofs.Exits.{exits}
use Rattle.headers.specs.Read.{headers_meaning}
use Rattle.headers.proofs.Laws.{reading_stop, reading_done}
use Rattle.headers.proofs.headers.Goals as goal

pub returns-in_err-header-clause-value : goal.returns-in_err-header-clause-value
returns-in_err-header-clause-value c =
    exits headers_meaning _ _ c.from_residual.ensures.1
    ∙ (reading_stop _ _ _ _ _ _ _ _ _ c.loop-i.invariant _ (search rules) (sym c.in_err-header.ensures)).0

pub returns-in_err-header-clause-table_after : goal.returns-in_err-header-clause-table_after
returns-in_err-header-clause-table_after c =
    (reading_stop _ _ _ _ _ _ _ _ _ c.loop-i.invariant _ (search rules) (sym c.in_err-header.ensures)).1

pub returns-clause-value : goal.returns-clause-value
returns-clause-value c = (reading_done _ _ _ _ _ _ _ _ _ c.loop-i.invariant (search rules)).0

pub returns-clause-table_after : goal.returns-clause-table_after
returns-clause-table_after c = (reading_done _ _ _ _ _ _ _ _ _ c.loop-i.invariant (search rules)).1
