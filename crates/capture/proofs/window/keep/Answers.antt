-- `window::keep` meets its contract: the bytes are copied over the window's front.
-- Assumes nothing.
use native.Mathlib.Omega.{arith}
use native.Mathlib.Nat.{zero-add}
use mathlib.Core.Path.{◌≡◌, ◌∙◌}
use Prim.Native.Nat.{◌+◌, ◌-◌}
use lib.ListN.{length}
use Rattle.wire.specs.Bytes.{part, over}
use Rattle.wire.proofs.Bytes.{length_part}
use Rattle.capture.proofs.window.keep.Goals as goal

pub returns : goal.returns
unfolding over part
returns c =
    let a = c.args in
    let many : a.from + a.count - a.from ≡ a.count = omega arith in
    let size : length (part a.window.now a.from a.count) ≡ a.count = length_part a.window.now a.from a.count c.requires in
    c.copy_within.ensures.after ∙ rw (many, size, zero-add)
