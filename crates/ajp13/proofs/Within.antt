-- The bytes that are told of are no more than a packet may have, so that they fit a word.
-- Assumes nothing.
use borrow.Author.Tests.{eqb-true}
use mathlib.Core.Bool.{Bool}
use mathlib.Core.Bool.{true}
use mathlib.Core.Bool.{false}
use lib.Dec.{eqb}
use lib.ListN.{length}
use Rattle.wire.specs.Pick.{pick}
use Rattle.wire.specs.Packet.{Fits}
use Rattle.connection.specs.declared.Move.{Move}
use Rattle.building.specs.Call.{Call}
use Rattle.building.specs.Call.{refusal_of}
use Rattle.building.specs.Call.{outcome}
use Rattle.building.proofs.Calls.{done_fits}
use Rattle.writer.specs.Sending.{packet_of}
use Rattle.writer.specs.Sending.{sending}
use native.Mathlib.Omega.{arith}
use mathlib.Core.Path.{◌≡◌, refl}
use mathlib.Core.List.{List}
use Prim.Native.Nat.{ℕ, ◌≤◌}
use Rattle.packet.specs.declared.Direction.{Direction}
use Rattle.connection.specs.Connection.{max_packet}
use Rattle.connection.specs.declared.Connection.{Connection}
use Rattle.building.specs.Call.{Outcome, refused, done}
use Rattle.building_record.specs.declared.Building.{Building}
use Rattle.reader.specs.Frame.{FrameRead}
use Rattle.reader.specs.Meaning as read
use Rattle.reader.specs.Reading.{reading}
use Rattle.reader.proofs.Framing.{frame_inside}
use Rattle.reading_laws.proofs.Acceptance.{accepted_is, needs_more}
use Rattle.building.specs.Sent.{Written}
use Rattle.closing.specs.Closing.{closed_length, close_outcome}
use Rattle.closing.proofs.Laws.{close_done}
use Rattle.answers.specs.Private.{ReadWithin, SentWithin}

-- what reading tells: how many bytes are needed, or were taken
pub read_within : (direction : Direction) (c : Connection) (s : List ℕ) (room : ℕ) → ReadWithin (reading direction c s room)
read_within direction c s room = go (reading direction c s room) refl
  where
    go : (m : read.Meaning) → reading direction c s room ≡ m → ReadWithin m
    go (read.needs n) e = (needs_more direction c s room n e).1
    go (read.refused n) e = tt
    go (read.accepted packet taken after) e =
        (frame_inside direction s (FrameRead.Whole taken) (accepted_is direction c s room packet taken after e).whole_is).1.0

-- what sending a packet tells: its length
pub sent_within : (c : Connection) (m : Move) (payload buffer : List ℕ) → SentWithin (outcome (sending c m payload) (length buffer))
unfolding outcome
sent_within c m payload buffer = go (eqb (refusal_of call (length buffer)) 0) refl
  where
    call : Call Written
    call = sending c m payload

    go : (t : Bool) → eqb (refusal_of call (length buffer)) 0 ≡ t
        → SentWithin (pick t (done call.answer) (refused (refusal_of call (length buffer))))
    go true e =
        let fits : Fits 0 (packet_of m payload) buffer = done_fits call buffer (refusal_of call (length buffer)) refl (eqb-true _ 0 e) in
        omega arith
    go false e = tt

-- what closing one tells
pub close_within : (c : Connection) (r : Building) (buffer : List ℕ) → SentWithin (close_outcome c r buffer)
close_within c r buffer = go (close_outcome c r buffer) refl
  where
    go : (o : Outcome Written) → close_outcome c r buffer ≡ o → SentWithin o
    go (refused n) e = tt
    go (done w) e =
        let d = close_done c r buffer w e in
        let within : closed_length r ≤ max_packet = d.ready.within in
        omega (arith, d.size_is)
