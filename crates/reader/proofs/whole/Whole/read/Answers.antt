-- `Whole::read` meets its contract, by the kind and by whether it is allowed.
-- Assumes nothing.
use mathlib.Core.Path.{sym, ◌∙◌}
use Rattle.reader.proofs.Laws.{whole_kind}
use Rattle.reader.proofs.whole.Whole.read.Goals as goal

pub returns : goal.returns
returns c =
    let all = whole_kind _ _ _ c.args.table.now _ c.context.ensures _ _ _
    (sym c.in_ok-kind.ensures)
    (sym c.allows.ensures ∙ c.if-not-allows.false)
    (rw c.context.ensures (c.fields.ensures.result_value, c.fields.ensures.table_after)) in
    record { result_value = all.0; table_after = all.1 }
