-- `attributes::attributes` meets its contract. The invariant is `Reading`; it is put to use at each return.
-- Assumes nothing.
use borrow.Author.Rules.{rules}
use native.Mathlib.Omega.{arith}
use mathlib.Core.Path.{◌≡◌, refl, sym, ap, ◌∙◌}
use Rattle.places.specs.Entries.{max_attributes}
use Rattle.wire.proofs.Exits.{exits}
use Rattle.attributes.specs.Attributes.{AttributesRead, attributes_meaning}
use Rattle.attributes.proofs.Laws.{attribute_inside, full_none, found_is, start, turn, stop, last}
use Rattle.attributes.proofs.attributes.Goals as goal

pub loop-count-init : goal.loop-count-init
loop-count-init c = start _ _ _ _

pub returns-in_err-read : goal.returns-in_err-read
returns-in_err-read c =
    let all = stop _ _ _ _ _ _ _ _ c.loop-count.invariant _ _ (search rules) (sym c.in_err-read.ensures) refl in
    record { value = exits attributes_meaning _ _ c.from_residual.ensures.1 ∙ all.0; table_after = all.1 }

pub returns-in_default : goal.returns-in_default
returns-in_default c =
    let all = stop _ _ _ _ _ _ _ _ c.loop-count.invariant _ _ (search rules) (found_is _ _ _ _ c.in_ok-read.ensures c.in_default.is) refl in
    record { value = all.0; table_after = all.1 }

pub overflow_cast-place : goal.overflow_cast-place
overflow_cast-place c = omega (arith, attribute_inside _ _ _ _ _ (found_is _ _ _ _ c.in_ok-read.ensures c.in-Some.is))

pub overflow_cast-value : goal.overflow_cast-value
overflow_cast-value c = omega (arith, attribute_inside _ _ _ _ _ (found_is _ _ _ _ c.in_ok-read.ensures c.in-Some.is))

pub loop-count-preserved : goal.loop-count-preserved
loop-count-preserved c =
    rw (c.insert.ensures, c.put_pair.ensures)
    (turn _ _ _ _ _ _ _ _ c.loop-count.invariant _ _ _ (search rules) (search rules) (found_is _ _ _ _ c.in_ok-read.ensures c.in-Some.is))

pub returns-in_err-more : goal.returns-in_err-more
returns-in_err-more c =
    let all = last _ _ _ _ _ _ _ _ c.loop-count.invariant _ _ (search rules) (sym c.in_err-more.ensures) refl in
    record { value = exits attributes_meaning _ _ c.from_residual-in_err-more.ensures.1 ∙ all.0; table_after = all.1 }

pub returns-in-None : goal.returns-in-None
returns-in-None c =
    let full : c.loop-count.count ≡ max_attributes = omega (arith, c.loop-count.invariant.low) in
    let all = last _ _ _ _ _ _ _ _ c.loop-count.invariant _ _ (search rules) (found_is _ _ _ _ c.in_ok-more.ensures c.in-None.is) refl in
    record { value = ap (λ count. AttributesRead.Attributes count c.in_ok-more.field-0.next) (sym full) ∙ all.0; table_after = all.1 }

pub returns-in-Some-more : goal.returns-in-Some-more
returns-in-Some-more c = absurd (full_none _ _ _ _ _ _ (found_is _ _ _ _ c.in_ok-more.ensures c.in-Some-more.is))
