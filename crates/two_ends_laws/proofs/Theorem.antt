-- Demand 3, the theorem on two ends and their pipes: what document 01 demands holds after every list of events. Each event keeps what
-- `Kept` says, and that gives each sentence.
-- Assumes nothing.
use native.Mathlib.Omega.{arith}
use mathlib.Core.Path.{◌≡◌, refl, sym, ap, ◌∙◌}
use mathlib.Core.Bool.{false≢true}
use mathlib.Core.List.{List, [], ◌∷◌}
use Prim.Native.Nat.{ℕ}
use Rattle.packet.specs.declared.Direction.{Direction}
use Rattle.connection.specs.Cycle.{after}
use Rattle.connection.specs.declared.State.{State}
use Rattle.connection.specs.declared.Connection.{Connection}
use Rattle.connection.specs.declared.Move.{Move}
use Rattle.connection.proofs.Commute.{idle_mute, server_not_idle}
use Rattle.two_ends_laws.specs.Ends.{PipePacket}
use Rattle.two_ends_laws.specs.Past.{World, start, Event, send, deliver, happen, run, requests}
use Rattle.two_ends_laws.specs.Claims.{Holds}
use Rattle.two_ends_laws.proofs.Moves.{AllAllowed, after_all}
use Rattle.two_ends_laws.proofs.Meeting.{Pipe, empty, next}
use Rattle.two_ends_laws.proofs.Counting.{counted_within}
use Rattle.two_ends_laws.proofs.Invariant.{Kept, kept_start, send_keeps, deliver_keeps}

-- a pipe with nothing in it makes no moves
no_moves : {direction : Direction} {packets : List PipePacket} {moves : List Move} (c : Connection) → Pipe direction packets moves → packets ≡ []
    → after_all c moves ≡ c
no_moves c empty e = refl
no_moves c (next first later) e = absurd (let z : ◌≡◌ {A = ℕ} 0 1 = cc in omega arith)

-- an end that is Idle has nothing on its way to it from the container
idle_waits : {packets : List PipePacket} {moves : List Move} (c : Connection) → Pipe Direction.ToServer packets moves → AllAllowed c moves
    → c.state ≡ State.Idle → packets ≡ []
idle_waits c empty all e = refl
idle_waits c (next {m = m} first later) all e = absurd (false≢true (sym (idle_mute c m first.way e) ∙ all.0))

-- an end that what is on its way from the server brings to Idle is Idle, and nothing is on the way
idle_was : {packets : List PipePacket} {moves : List Move} (c : Connection) → Pipe Direction.ToContainer packets moves
    → (after_all c moves).state ≡ State.Idle → (packets ≡ []) × (c.state ≡ State.Idle)
idle_was c empty e = (refl, e)
idle_was c (next {m = m} first later) e = absurd (server_not_idle c m first.way (idle_was (after c m) later e).1)

module _ (w : World) (kept : Kept w) where
  -- both pipes empty: the two connections are equal
  both_equal : w.ends.to_container ≡ [] → w.ends.to_server ≡ [] → w.ends.at_server ≡ w.ends.at_container
  both_equal p q =
      sym (no_moves w.ends.at_server kept.meeting.on_way_back q) ∙ sym kept.meeting.meets
      ∙ no_moves w.ends.at_container kept.meeting.on_way p

  -- the server's end Idle: both pipes are empty and the container's end is Idle
  both_idle : w.ends.at_server.state ≡ State.Idle
      → (w.ends.to_container ≡ []) × (w.ends.to_server ≡ []) × (w.ends.at_container.state ≡ State.Idle)
  both_idle e =
      let back : w.ends.to_server ≡ [] = idle_waits w.ends.at_server kept.meeting.on_way_back kept.meeting.sender_allows e in
      let same : after_all w.ends.at_container kept.meeting.moves ≡ w.ends.at_server =
      kept.meeting.meets ∙ no_moves w.ends.at_server kept.meeting.on_way_back back in
      let out = idle_was w.ends.at_container kept.meeting.on_way (ap (λ (c : Connection). c.state) same ∙ e) in
      (out.0, back, out.1)

  -- every sentence of the demand
  kept_holds : Holds w
  kept_holds = record {
    taken = kept.taken;
    unchanged = kept.unchanged;
    equal = both_equal;
    idle = both_idle;
    bytes = kept.bytes;
    within = counted_within w.ends.at_container (requests w.past) kept.counted;
  }

-- each event keeps it
pub happen_keeps : (event : Event) (w : World) → Kept w → Kept (happen event w)
happen_keeps (send call) w kept = send_keeps call w kept
happen_keeps (deliver direction d) w kept = deliver_keeps direction d w kept

-- so does a list of events
pub run_keeps : (events : List Event) (w : World) → Kept w → Kept (run events w)
run_keeps [] w kept = kept
run_keeps (event ∷ later) w kept = run_keeps later (happen event w) (happen_keeps event w kept)

-- demand 3: from two fresh ends and empty pipes, whatever happens
pub two_ends : (events : List Event) → Holds (run events start)
two_ends events = kept_holds (run events start) (run_keeps events start kept_start)
