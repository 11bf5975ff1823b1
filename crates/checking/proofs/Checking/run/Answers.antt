-- `Checking::run` meets its contract. The invariant is `Running`.
-- Assumes nothing.
use native.Mathlib.Omega.{arith}
use mathlib.Core.Path.{sym}
use Rattle.checking.proofs.Laws.{running_start, running_needs, running_refused, running_done, running_turn, turn_inside, turn_smaller}
use borrow.Author.Rules.{rules}
use Rattle.checking.proofs.Checking.run.Goals as goal

pub loop-left-init : goal.loop-left-init
loop-left-init c = running_start _ _ c.requires.1.0 c.requires.1.1

pub counted-checking-requires : goal.counted-checking-requires
counted-checking-requires c =
    let inside = turn_inside _ _ _ _ c.loop-left.invariant _ _ _ _ c.in-Ok-Accepted.ensures c.in-Ok-Accepted.field-0-is in
    (omega (arith, inside.0, c.loop-left.invariant.place_is, c.requires.0), inside.1)

pub slice_bounds-left-count : goal.slice_bounds-left-count
slice_bounds-left-count c = (turn_inside _ _ _ _ c.loop-left.invariant _ _ _ _ c.in-Ok-Accepted.ensures c.in-Ok-Accepted.field-0-is).0

pub slice_bounds-left-start : goal.slice_bounds-left-start
slice_bounds-left-start c =
    let inside = turn_inside _ _ _ _ c.loop-left.invariant _ _ _ _ c.in-Ok-Accepted.ensures c.in-Ok-Accepted.field-0-is in
    omega (arith, inside.0)

pub loop-left-smaller : goal.loop-left-smaller
loop-left-smaller c = turn_smaller _ _ _ _ c.loop-left.invariant _ _ _ _ c.in-Ok-Accepted.ensures c.in-Ok-Accepted.field-0-is

pub loop-left-preserved : goal.loop-left-preserved
loop-left-preserved c =
    rw c.counted-checking.ensures
    (running_turn _ _ _ _ c.loop-left.invariant _ _ _ _ c.in-Ok-Accepted.ensures c.in-Ok-Accepted.field-0-is)

pub returns-in-Ok-Needs : goal.returns-in-Ok-Needs
returns-in-Ok-Needs c = running_needs _ _ _ _ c.loop-left.invariant _ _ c.in-Ok-Needs.ensures c.in-Ok-Needs.field-0-is

pub returns-in-Err : goal.returns-in-Err
returns-in-Err c = rw c.number.ensures (running_refused _ _ _ _ c.loop-left.invariant _ (sym c.in-Err.ensures))

pub returns : goal.returns
returns c = running_done _ _ _ _ c.loop-left.invariant (search rules)
