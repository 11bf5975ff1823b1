-- What an answer says of a packet, by the fault of its call.
-- Assumes nothing.
use native.Mathlib.Omega.{arith}
use mathlib.Core.Path.{◌≡◌, refl}
use mathlib.Core.Bool.{Bool, true, false}
use Prim.Native.Nat.{ℕ}
use lib.Dec.{eqb}
use Rattle.std.specs.Prelude.{Result, Ok, Err}
use Rattle.wire.specs.Pick.{pick}
use Rattle.wire.specs.declared.refusal.Refusal.{Refusal}
use Rattle.building.specs.Call.{refused, done, outcome_by}
use Rattle.building.specs.Sent.{Written, sent_outcome, is_written}

-- an answer says that the packet is written exactly where there is no fault
pub written_none : (r : Result Written Refusal) (fault : ℕ) (w : Written) → sent_outcome r ≡ outcome_by fault w → is_written r ≡ eqb fault 0
written_none r fault w e = go r (eqb fault 0) e
  where
    go : (r : Result Written Refusal) (t : Bool) → sent_outcome r ≡ pick t (done w) (refused fault) → is_written r ≡ t
    go (Err refusal) true e = absurd (let z : ◌≡◌ {A = ℕ} 0 1 = cc in omega arith)
    go (Err refusal) false e = refl
    go (Ok written) true e = refl
    go (Ok written) false e = absurd (let z : ◌≡◌ {A = ℕ} 0 1 = cc in omega arith)
