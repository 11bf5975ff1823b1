-- `closing::set` meets its contract: each write is over what the one before it left, and what stood there was saved just before it.
-- Assumes nothing.
use native.Mathlib.Omega.{arith}
use Rattle.std.proofs.Common.{rules}
use Rattle.std.proofs.lemmas.Grind.{common_steps}
use Rattle.closing.specs.Closing.{closed}
use Rattle.closing.proofs.Setting.{last_mark_lem, saved}
use Rattle.closing.proofs.set.Goals as goal

pub returns-clause-buffer_value : goal.returns-clause-buffer_value
returns-clause-buffer_value c =
    saved c.args.building c.args.buffer.now c.requires _ c.integer.new.buffer c.integer-2.new.buffer (λ i. search rules) (λ i. search rules)
    (grind (arith, common_steps)) (grind (arith, common_steps)) (grind (arith, common_steps)) (grind (arith, common_steps)) (grind (arith, common_steps))

pub returns-clause-buffer_after : goal.returns-clause-buffer_after
unfolding closed
returns-clause-buffer_after c = grind (arith, common_steps, last_mark_lem)
