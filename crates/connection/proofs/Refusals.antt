-- What a step refuses with is a number of document 01.
-- Assumes nothing.
use mathlib.Core.Path.{◌≡◌, refl, subst}
use mathlib.Core.Bool.{Bool, true, false}
use Prim.Native.Nat.{ℕ}
use Rattle.wire.specs.Pick.{pick}
use Rattle.wire.specs.Refusal.{not_now, body_size_wrong, is_refusal}
use Rattle.connection.specs.declared.Connection.{Connection}
use Rattle.connection.specs.declared.Move.{Move}
use Rattle.connection.specs.Step.{Step}
use Rattle.connection.specs.Cycle.{move_kind, in_state, in_size, after, step_of}

-- a step, where it is refused
abbrev StepRefusal : Step → Type 0
StepRefusal (Step.Refused n) = is_refusal n ≡ true
StepRefusal (Step.Next c) = Unit

-- a step is refused with a number of document 01
pub step_refusal : (c : Connection) (m : Move) (n : ℕ) → step_of c m ≡ Step.Refused n → is_refusal n ≡ true
unfolding step_of
step_refusal c m n e = subst StepRefusal e (go (in_state c (move_kind m)) (in_size c m))
  where
    go : (t u : Bool) → StepRefusal (pick t (pick u (Step.Next (after c m)) (Step.Refused body_size_wrong)) (Step.Refused not_now))
    go true true = tt
    go true false = refl
    go false u = refl
