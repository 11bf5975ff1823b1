-- `Whole::forward` meets its contract: where the packet is accepted, the table has its places.
-- Assumes nothing.
use Rattle.connection.specs.declared.Kind.{Kind}
use Rattle.reader.proofs.Laws.{listed_is}
use Rattle.reader.proofs.whole.Whole.forward.Goals as goal

pub returns-clause-table_after : goal.returns-clause-table_after
returns-clause-table_after c =
    listed_is _ _ Kind.Forward _ _ c.args.table.now _ _ _ c.in_ok-packet.ensures.value c.in_ok-packet.ensures.table_after
    c.accept_with_places.ensures.table_after
