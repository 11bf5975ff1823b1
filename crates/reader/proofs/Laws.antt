-- Laws of reading: what each definition says by the answers it goes by.
-- Assumes nothing.
use mathlib.Core.Path.{◌≡◌, refl, sym, ap, ◌∙◌}
use mathlib.Core.Bool.{Bool, true, false}
use mathlib.Core.List.{List, []}
use Prim.Native.Nat.{ℕ, ◌+◌}
use native.Mathlib.Omega.{arith}
use borrow.Author.Tests.{le-leb}
use lib.Dec.{leb}
use lib.ListN.{length, take, drop}
use lib.Seq.{take_at}
use Rattle.wire.specs.Pick.{pick}
use Rattle.wire.specs.Refusal.{buffer_too_short}
use Rattle.wire.specs.Bytes.{part, over}
use Rattle.wire.proofs.Bytes.{over_none}
use Rattle.packet.specs.declared.Direction.{Direction}
use Rattle.places.specs.Entries.{ended}
use Rattle.connection.specs.Cycle.{in_state, sized_step}
use Rattle.connection.specs.declared.Kind.{Kind}
use Rattle.connection.specs.declared.Connection.{Connection}
use Rattle.connection.specs.Step.{Step}
use Rattle.connection.proofs.Laws.{step_now}
use Rattle.payload.specs.Code.{kind_at}
use Rattle.payload.specs.Kinds.{packet_at, packet_move}
use Rattle.payload.specs.declared.Context.{Context}
use Rattle.payload.specs.Read.{KindRead, PacketRead}
use Rattle.payload.proofs.Parsed.{parsed_kind, move_kind_lem}
use Rattle.reader.specs.Frame.{FrameRead, frame_at}
use Rattle.reader.specs.Meaning.{Meaning, needs, refused, accepted, places_needed}
use Rattle.reader.specs.Reading.{parse_whole, parse, context_of, stepped, accepting, with_room, reading, filled, table_after}
use Rattle.reader.specs.Private.{needed, table_given, sizing, allowed_reading, allowed_table, whole_of, table_whole}
use Rattle.reader.proofs.Below.{PlacesFit, places_fit}

-- a packet of a kind that is allowed now is stepped by its size alone
pub sizing_now : (context : Context) (c : Connection) (kind : Kind) (s : List ℕ) (taken : ℕ) → in_state c kind ≡ true
    → sizing c taken (packet_at context kind s).end ≡ accepting c taken (packet_at context kind s).end
unfolding sizing accepting
sizing_now context c kind s taken q = go (packet_at context kind s).end refl
  where
    go : (end : PacketRead) → (packet_at context kind s).end ≡ end → sizing c taken end ≡ accepting c taken end
    go (PacketRead.Refused n) e = refl
    go (PacketRead.Packet p) e =
        ap (stepped p taken) (step_now c (packet_move p) (ap (in_state c) (move_kind_lem p ∙ parsed_kind context kind s p e) ∙ q))

-- an answer that asks for so many places
abbrev pub NeedsPlaces : ℕ → Meaning → Type 0
NeedsPlaces many (needs n) = Unit
NeedsPlaces many (refused n) = Unit
NeedsPlaces many (accepted packet taken after) = many ≡ places_needed packet

-- the step leaves the places that a packet asks for
sizing_places : (c : Connection) (taken many : ℕ) (end : PacketRead) → PlacesFit many end → NeedsPlaces many (sizing c taken end)
unfolding sizing
sizing_places c taken many (PacketRead.Refused n) h = tt
sizing_places c taken many (PacketRead.Packet packet) h = go (sized_step c (packet_move packet))
  where
    go : (step : Step) → NeedsPlaces many (stepped packet taken step)
    go (Step.Refused n) = tt
    go (Step.Next after) = h.0

-- the first places of a list in which they were laid from its start on
take_laid : (blank places : List ℕ) → take (length places) (over blank 0 places) ≡ places
unfolding over
take_laid blank places = take_at places (drop (0 + length places) blank) (length places) refl

-- the table is filled with a packet's own places
fill_own : (m : Meaning) (room : ℕ) (places blank table : List ℕ) → NeedsPlaces (length places) m
    → filled (with_room room m) (take (needed m) (over blank 0 places)) table ≡ filled (with_room room m) places table
fill_own (needs n) room places blank table h = refl
fill_own (refused n) room places blank table h = refl
fill_own (accepted packet taken after) room places blank table h = go (leb (places_needed packet) room)
  where
    go : (enough : Bool)
        → filled (pick enough (accepted packet taken after) (refused buffer_too_short)) (take (places_needed packet) (over blank 0 places)) table
        ≡ filled (pick enough (accepted packet taken after) (refused buffer_too_short)) places table
    go true = ap (over table 0) (ap (λ (n : ℕ). take n (over blank 0 places)) (sym h) ∙ take_laid blank places)
    go false = refl

-- a packet with headers that was read: the table is filled from a list of the reader's own with its places
pub listed_is : (context : Context) (c : Connection) (kind : Kind) (s blank table : List ℕ) (found : PacketRead) (places exit : List ℕ)
    → found ≡ (packet_at context kind s).end → places ≡ over blank 0 (packet_at context kind s).places
    → exit ≡ table_given (sizing c (length s) found) places table → exit ≡ allowed_table context c kind s table
unfolding allowed_reading allowed_table table_given
listed_is context c kind s blank table found places exit p q e =
    let own = sizing c (length s) (packet_at context kind s).end in
    let fit = sizing_places c (length s) (length (packet_at context kind s).places) (packet_at context kind s).end (places_fit context s kind) in
    e
    ∙ ap (λ (f : PacketRead). let m = sizing c (length s) f in filled (with_room (length table) m) (take (needed m) places) table) p
    ∙ ap (λ (l : List ℕ). filled (with_room (length table) own) (take (needed own) l) table) q
    ∙ fill_own own (length table) (packet_at context kind s).places blank table fit

-- an answer that asks for no places is not refused for the table, and leaves it
none_needed : (m : Meaning) (table : List ℕ) → NeedsPlaces 0 m
    → (m ≡ with_room (length table) m) × (table ≡ filled (with_room (length table) m) [] table)
none_needed (needs n) table h = (refl, refl)
none_needed (refused n) table h = (refl, refl)
none_needed (accepted packet taken after) table h =
    let e : leb (places_needed packet) (length table) ≡ true = le-leb (places_needed packet) (length table) (omega (arith, h)) in
    rw e (refl, sym (over_none table 0))

-- a packet without headers: it was stepped by, and the table is as it was
pub plain_is : (context : Context) (c : Connection) (given kind : Kind) (s table : List ℕ) (end found : PacketRead) (r : Meaning)
    → given ≡ kind → packet_at context kind s ≡ ended end → found ≡ end → r ≡ sizing c (length s) found
    → (r ≡ allowed_reading context c given s (length table)) × (table ≡ allowed_table context c given s table)
unfolding allowed_reading allowed_table
plain_is context c given kind s table end found r k p q e =
    let fit : PlacesFit 0 end = rw p at (places_fit context s kind) in
    let kept = none_needed (sizing c (length s) end) table (sizing_places c (length s) 0 end fit) in
    rw (k, p) (e ∙ ap (sizing c (length s)) q ∙ kept.0, kept.1)

module _ (direction : Direction) (c : Connection) (s table : List ℕ) where
  -- a whole packet, by what is known of it beside its bytes
  module _ (context : Context) (is : context ≡ context_of direction c) where
    -- a kind that is allowed
    pub whole_kind : (kind : Kind) (r : Meaning) (exit : List ℕ) → kind_at context s ≡ KindRead.Kind kind
        → in_state c kind ≡ true → (r ≡ allowed_reading context c kind s (length table)) × (exit ≡ allowed_table context c kind s table)
        → (r ≡ whole_of direction c s (length table)) × (exit ≡ table_whole direction c s table)
    unfolding whole_of table_whole parse_whole allowed_reading allowed_table
    whole_kind kind r exit e q h = rw (← is, e, q, ← sizing_now context c kind s (length s) q) h

  -- the packet is whole
  pub read_whole : (n : ℕ) (packet : List ℕ) (r : Meaning) (exit : List ℕ) → frame_at direction s ≡ FrameRead.Whole n → packet ≡ part s 0 n
      → (r ≡ whole_of direction c packet (length table)) × (exit ≡ table_whole direction c packet table)
      → (r ≡ reading direction c s (length table)) × (exit ≡ table_after direction c s table)
  unfolding table_after reading parse whole_of table_whole
  read_whole n packet r exit e p h = rw e (rw p at h)
