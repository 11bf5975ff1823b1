-- The definitions of the cycle by the values of their tests. Each law has its tests as variables: a proof that knows a test puts its
-- value there, and one whose branch does not reach a test says `refl`.
-- Assumes nothing.
use mathlib.Core.Path.{◌≡◌, refl, sym}
use mathlib.Core.Bool.{Bool, true}
use Prim.Native.Nat.{min}
use Rattle.wire.specs.Pick.{pick}
use Rattle.wire.specs.Refusal.{not_now, body_size_wrong}
use Rattle.connection.specs.declared.Connection.{Connection}
use Rattle.connection.specs.declared.Move.{Move}
use Rattle.connection.specs.Step.{Step}
use Rattle.connection.specs.Connection.{max_body, body_due}
use Rattle.connection.specs.Cycle.{move_kind, in_state, largest_body, in_size, after, sized_step, step_of}

-- the most that a body packet may hold, by whether one is due
pub largest_by : (c : Connection) (t : Bool) → body_due c ≡ t
    → largest_body c ≡ pick t (min c.asked (min max_body c.left.0)) 0
unfolding largest_body
largest_by c t e = rw e

-- a step, by whether the state and the size allow it
pub step_by : (c : Connection) (m : Move) (a b : Bool) → in_state c (move_kind m) ≡ a → in_size c m ≡ b
    → step_of c m ≡ pick a (pick b (Step.Next (after c m)) (Step.Refused body_size_wrong)) (Step.Refused not_now)
unfolding step_of
step_by c m a b d e = rw (d, e)

-- where the kind is allowed now, by whether the size is
pub step_now : (c : Connection) (m : Move) → in_state c (move_kind m) ≡ true → sized_step c m ≡ step_of c m
step_now c m e = sym (step_by c m true (in_size c m) e refl)
