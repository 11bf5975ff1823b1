-- `wire::finds_barred` meets its contract: the fold goes over every byte.
-- Assumes nothing.
use mathlib.Core.Path.{◌∙◌}
use mathlib.Core.Bool.{false}
use borrow.Author.Rules.{rules}
use Rattle.std.proofs.lemmas.Iterator.{YieldsList-from_slice}
use Rattle.std.proofs.lemmas.Iterator.Consumers.{fold_from_yields_List}
use Rattle.wire.specs.Pick.{either}
use Rattle.wire.specs.Field.{barred}
use Rattle.wire.proofs.Scan.{any_fold}
use Rattle.wire.proofs.finds_barred.Goals as goal

pub returns : goal.returns
returns c =
    let text = c.args.text.now in
    fold_from_yields_List _ (λ found b. either found (barred b)) false _ c.fold.ensures.ran (YieldsList-from_slice text (cc)) (λ found b r q k. search rules)
    ∙ any_fold barred false text
