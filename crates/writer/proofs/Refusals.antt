-- Every call of the writer is refused with numbers of document 01 only.
-- Assumes nothing.
use mathlib.Core.Path.{refl}
use mathlib.Core.Bool.{Bool}
use mathlib.Core.List.{List}
use Prim.Native.Nat.{ℕ}
use lib.ListN.{length}
use Rattle.wire.specs.Refusal.{not_now, body_size_wrong}
use Rattle.connection.specs.Cycle.{move_kind, in_state, in_size}
use Rattle.connection.specs.declared.Connection.{Connection}
use Rattle.connection.specs.declared.Move.{Move}
use Rattle.building.specs.Call.{Numbered}
use Rattle.building.proofs.Refusals.{unless_fault, outcome_refusal}
use Rattle.writer.specs.Sending.{sending, bare_payload, body_payload, chunk_payload, get_payload, end_payload, bare_call, cping_call, cpong_call, body_call, chunk_call, get_call, end_call}

-- 13 and 14 are looked for, whatever the move
sending_refusal : (c : Connection) (m : Move) (payload : List ℕ) → Numbered (sending c m payload)
sending_refusal c m payload =
    outcome_refusal (sending c m payload)
    (unless_fault (in_state c (move_kind m)) not_now refl, (unless_fault (in_size c m) body_size_wrong refl, tt))

-- the calls, one by one
pub sent_refusals : (c : Connection)
    → Numbered (cping_call c)
    × Numbered (cpong_call c)
    × ((bytes : List ℕ) → Numbered (body_call c bytes))
    × ((bytes : List ℕ) → Numbered (chunk_call c bytes))
    × ((asked : ℕ) → Numbered (get_call c asked))
    × ((reuse : Bool) → Numbered (end_call c reuse))
unfolding bare_call body_call chunk_call get_call end_call
sent_refusals c = (
  sending_refusal c Move.CPing (bare_payload Move.CPing),
  sending_refusal c Move.CPong (bare_payload Move.CPong),
  λ bytes. sending_refusal c (Move.Body (length bytes)) (body_payload bytes),
  λ bytes. sending_refusal c (Move.BodyChunk (length bytes)) (chunk_payload bytes),
  λ asked. sending_refusal c (Move.GetBody asked) (get_payload asked),
  λ reuse. sending_refusal c (Move.End reuse) (end_payload reuse),
)
