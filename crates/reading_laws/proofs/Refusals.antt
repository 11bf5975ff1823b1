-- What reading refuses with is a number of document 01: each step of reading refuses with one.
-- Assumes nothing.
use mathlib.Core.Path.{◌≡◌, refl, subst}
use mathlib.Core.Bool.{Bool, true, false}
use mathlib.Core.List.{List}
use Prim.Native.Nat.{ℕ, ◌+◌}
use lib.Dec.{leb, ltb}
use lib.ListN.{length}
use Rattle.wire.specs.Pick.{pick}
use Rattle.wire.specs.Refusal.{leading_wrong, too_long, not_now, buffer_too_short, is_refusal}
use Rattle.wire.specs.Bytes.{part}
use Rattle.wire.specs.Field.{integer_at}
use Rattle.wire.specs.Read.{NumberRead}
use Rattle.packet.specs.declared.Direction.{Direction}
use Rattle.packet.specs.declared.Packet.{Packet}
use Rattle.connection.specs.Connection.{max_payload}
use Rattle.connection.specs.Cycle.{in_state, step_of}
use Rattle.connection.specs.declared.Kind.{Kind}
use Rattle.connection.specs.declared.Connection.{Connection}
use Rattle.connection.specs.Step.{Step}
use Rattle.connection.proofs.Refusals.{step_refusal}
use Rattle.payload.specs.Code.{kind_at}
use Rattle.payload.specs.Kinds.{packet_at, packet_move}
use Rattle.payload.specs.declared.Context.{Context}
use Rattle.payload.specs.Read.{KindRead, PacketRead}
use Rattle.payload.proofs.Refusals.{kind_refusal, packet_refusal}
use Rattle.reader.specs.Frame.{FrameRead, leading_differs, length_at, frame_of, frame_at}
use Rattle.reader.specs.Meaning.{Meaning, needs, refused, accepted, places_needed}
use Rattle.reader.specs.Reading.{parsed_of, parse_whole, parse_frame, parse, context_of, stepped, accepting, judging, with_room, reading}
use Rattle.wire.specs.Packet.{payload_place, length_place}

-- an answer that refuses, if it does, with a number of document 01
abbrev Numbered : Meaning → Type 0
Numbered (needs n) = Unit
Numbered (refused n) = is_refusal n ≡ true
Numbered (accepted packet taken next) = Unit

-- so a frame
abbrev FrameNumbered : FrameRead → Type 0
FrameNumbered (FrameRead.Needs n) = Unit
FrameNumbered (FrameRead.Refused n) = is_refusal n ≡ true
FrameNumbered (FrameRead.Whole n) = Unit

frame_numbered : (direction : Direction) (s : List ℕ) → FrameNumbered (frame_at direction s)
unfolding frame_at length_at
frame_numbered direction s = go (leading_differs direction s) (integer_at s length_place)
  where
    by : (payload : ℕ) (fits lacks : Bool)
        → FrameNumbered
        (pick fits (pick lacks (FrameRead.Needs (payload_place + payload)) (FrameRead.Whole (payload_place + payload))) (FrameRead.Refused too_long))
    by payload true true = tt
    by payload true false = tt
    by payload false lacks = refl

    go : (differ : Bool) (r : NumberRead) → FrameNumbered (pick differ (FrameRead.Refused leading_wrong) (frame_of (length s) r))
    go true r = refl
    go false (NumberRead.Refused n) = tt
    go false (NumberRead.Number payload next) = by payload (leb payload max_payload) (ltb (length s) (payload_place + payload))

-- the table has room or has not
room_numbered : (room : ℕ) (m : Meaning) → Numbered m → Numbered (with_room room m)
room_numbered room (needs n) h = tt
room_numbered room (refused n) h = h
room_numbered room (accepted packet taken next) h = go (leb (places_needed packet) room)
  where
    go : (enough : Bool) → Numbered (pick enough (accepted packet taken next) (refused buffer_too_short))
    go true = tt
    go false = refl

-- the fields are refused, or the step is
accepting_numbered : (context : Context) (c : Connection) (kind : Kind) (s : List ℕ) → Numbered (accepting c (length s) (packet_at context kind s).end)
unfolding accepting
accepting_numbered context c kind s = go (packet_at context kind s).end refl
  where
    by : (packet : Packet) (r : Step) → step_of c (packet_move packet) ≡ r → Numbered (stepped packet (length s) r)
    by packet (Step.Refused n) e = step_refusal c (packet_move packet) n e
    by packet (Step.Next after) e = tt

    go : (r : PacketRead) → (packet_at context kind s).end ≡ r → Numbered (accepting c (length s) r)
    go (PacketRead.Refused n) e = packet_refusal context kind s n e
    go (PacketRead.Packet packet) e = by packet (step_of c (packet_move packet)) refl

-- a packet by its kind
kind_numbered : (context : Context) (c : Connection) (s : List ℕ) → Numbered (judging c (parsed_of context s (kind_at context s)))
kind_numbered context c s = go (kind_at context s) refl
  where
    by : (kind : Kind) (t : Bool) → Numbered (pick t (accepting c (length s) (packet_at context kind s).end) (refused not_now))
    by kind true = accepting_numbered context c kind s
    by kind false = refl

    go : (r : KindRead) → kind_at context s ≡ r → Numbered (judging c (parsed_of context s r))
    go (KindRead.Refused n) e = kind_refusal context s n e
    go (KindRead.Kind kind) e = by kind (in_state c kind)

-- what reading refuses with is a number of document 01
pub reading_refusal : (direction : Direction) (c : Connection) (s : List ℕ) (room n : ℕ) → reading direction c s room ≡ refused n
    → is_refusal n ≡ true
unfolding reading parse parse_whole
reading_refusal direction c s room n e =
    subst Numbered e (room_numbered room (judging c (parse (context_of direction c) s)) (go (frame_at direction s) (frame_numbered direction s)))
  where
    go : (f : FrameRead) → FrameNumbered f → Numbered (judging c (parse_frame (context_of direction c) s f))
    go (FrameRead.Needs k) h = tt
    go (FrameRead.Refused k) h = h
    go (FrameRead.Whole k) h = kind_numbered (context_of direction c) c (part s 0 k)
