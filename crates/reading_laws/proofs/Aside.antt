-- With 328 places or more the table is aside: reading answers what the packet is judged to be, since no packet asks for more.
-- Assumes nothing.
use native.Mathlib.Omega.{arith}
use borrow.Author.Tests.{le-leb}
use mathlib.Core.Path.{◌≡◌, refl, ap, ◌∙◌}
use mathlib.Core.Bool.{Bool}
use mathlib.Core.List.{List}
use Prim.Native.Nat.{ℕ, ◌≤◌}
use Rattle.wire.specs.Pick.{pick}
use Rattle.wire.specs.Refusal.{buffer_too_short}
use Rattle.wire.specs.Bytes.{part}
use Rattle.packet.specs.declared.Direction.{Direction}
use Rattle.packet.specs.declared.Packet.{Packet}
use Rattle.connection.specs.declared.Connection.{Connection}
use Rattle.places.specs.Entries.{max_places}
use Rattle.reader.specs.Meaning.{Meaning, needs, refused, accepted, places_needed}
use Rattle.reader.specs.Reading.{parse, context_of, judging, with_room, reading}
use Rattle.reading_laws.specs.Acceptance.{Acceptance}
use Rattle.reading_laws.proofs.Acceptance.{accepted_is}
use Rattle.reading_laws.proofs.Inside.{packet_inside}

-- a table that has room for the places that are asked for
room_enough : (packet : Packet) (taken : ℕ) (next : Connection) (room : ℕ) → places_needed packet ≤ room
    → with_room room (accepted packet taken next) ≡ accepted packet taken next
room_enough packet taken next room h =
    ap (λ (enough : Bool). pick enough (accepted packet taken next) (refused buffer_too_short)) (le-leb (places_needed packet) room h)

module _ (d : Direction) (c : Connection) (s : List ℕ) where
  -- what bytes are judged to be
  abbrev judged : Meaning
  judged = judging c (parse (context_of d c) s)

  -- a packet that passes asks for no more than 328 places
  few_places : (packet : Packet) (taken : ℕ) (next : Connection) → judged ≡ accepted packet taken next → places_needed packet ≤ max_places
  unfolding reading
  few_places packet taken next e =
      let room : ℕ = places_needed packet in
      let a : Acceptance d c s room packet taken next =
      accepted_is d c s room packet taken next (ap (with_room room) e ∙ room_enough packet taken next room (omega arith)) in
      (packet_inside (context_of d c) a.kind (part s 0 taken) packet a.fields_are).places_most

  -- reading with 328 places or more is judging with the table aside
  pub aside : (room : ℕ) → max_places ≤ room → reading d c s room ≡ judging c (parse (context_of d c) s)
  unfolding reading
  aside room h = go judged refl
    where
      go : (m : Meaning) → judged ≡ m → with_room room m ≡ m
      go (needs n) e = refl
      go (refused n) e = refl
      go (accepted packet taken next) e = room_enough packet taken next room (omega (arith, few_places packet taken next e))
