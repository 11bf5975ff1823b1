-- `wire::blocks_hold_low` meets its contract. The invariant: none of the bytes before the block is low.
-- Assumes nothing.
use mathlib.Core.Path.{◌≡◌, sym, ◌∙◌}
use mathlib.Core.Bool.{false}
use Prim.Native.Nat.{◌+◌, ◌-◌}
use native.Mathlib.Omega.{arith}
use lib.ListN.{length}
use Rattle.wire.specs.Bytes.{part}
use Rattle.wire.specs.Private.{low, holds_low}
use Rattle.wire.proofs.Blocks.{any_none, any_more, any_within, any_last}
use Rattle.wire.proofs.blocks_hold_low.Goals as goal
use Rattle.wire.proofs.blocks_hold_low.Goals.{else-loop-at-test, then-loop-at-test+else-part_holds_low+else-count-last}

pub loop-at-init : goal.loop-at-init
loop-at-init c = any_none low c.args.text.now

pub returns-then-part_holds_low : goal.returns-then-part_holds_low
returns-then-part_holds_low c =
    let a = c.args in
    sym (any_within low a.text.now c.loop-at.at a.count (sym c.part_holds_low.ensures ∙ c.if-part_holds_low.true))

pub loop-at-preserved : goal.loop-at-preserved
loop-at-preserved c =
    let none_here = sym c.part_holds_low.ensures ∙ c.if-part_holds_low.false in
    any_more low c.args.text.now c.loop-at.at c.args.count c.loop-at.invariant none_here

pub returns : goal.returns
returns c =
    let a = c.args in
    let text = a.text.now in
    let last = length text - a.count in
    c.part_holds_low-2.ensures ∙ elim c.loop-at-test.branch [
      | else-loop-at-test w ↦ any_last low text c.loop-at.at last a.count (omega arith) (omega arith) c.loop-at.invariant
      | then-loop-at-test+else-part_holds_low+else-count-last w ↦
          let none_here : holds_low (part text c.loop-at.at a.count) ≡ false = sym w.part_holds_low.ensures ∙ w.if-part_holds_low.false in
          let before = any_more low text c.loop-at.at a.count c.loop-at.invariant none_here in
          any_last low text (c.loop-at.at + a.count) last a.count (omega arith) (omega arith) before
    ]
