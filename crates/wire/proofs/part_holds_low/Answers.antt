-- `wire::part_holds_low` meets its contract: the fold goes over every byte of the part.
-- Assumes nothing.
use mathlib.Core.Path.{refl, ◌∙◌}
use mathlib.Core.Bool.{false}
use borrow.Author.Rules.{rules}
use Prim.Native.Nat.{◌+◌}
use Rattle.std.proofs.lemmas.Iterator.{YieldsList-from_slice}
use Rattle.std.proofs.lemmas.Iterator.Consumers.{fold_from_yields_List}
use Rattle.wire.specs.Bytes.{part}
use Rattle.wire.specs.Pick.{either}
use Rattle.wire.specs.Private.{low}
use Rattle.wire.proofs.Bytes.{part_to}
use Rattle.wire.proofs.Scan.{any_fold}
use Rattle.wire.proofs.part_holds_low.Goals as goal

pub returns : goal.returns
returns c =
    let a = c.args in
    let text = a.text.now in
    let block = part text a.at a.count in
    let same = part_to text a.at (a.at + a.count) a.count refl in
    fold_from_yields_List _ (λ found b. either found (low b)) false _ c.fold.ensures.ran (YieldsList-from_slice block (c.iter.ensures.rest ∙ same)) (λ found b r q k. search rules)
    ∙ any_fold low false block
