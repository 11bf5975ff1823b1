-- `lists::lists` meets its contract: the attributes' places stand behind the headers', two for each header that is counted.
-- Assumes nothing.
use mathlib.Core.Path.{refl}
use Rattle.std.proofs.Common.{rules}
use Rattle.payload.proofs.Listing.{lists_read}
use Rattle.payload.proofs.lists.lists.Goals as goal

pub returns-in-Err-clause-table_after : goal.returns-in-Err-clause-table_after
returns-in-Err-clause-table_after g c =
    rw c.in_ok-count.was
    (lists_read _ _ _ _ c.headers_after.ensures.table_after _ _ _ _ _ c.in_ok-headers.ensures.value refl (search rules)
    c.attributes_behind.ensures.value c.attributes_behind.ensures.table_after).1

pub returns-in-Ok-clause-table_after : goal.returns-in-Ok-clause-table_after
returns-in-Ok-clause-table_after g c =
    rw c.in_ok-count.was
    (lists_read _ _ _ _ c.headers_after.ensures.table_after _ _ _ _ _ c.in_ok-headers.ensures.value refl (search rules)
    c.attributes_behind.ensures.value c.attributes_behind.ensures.table_after).1
