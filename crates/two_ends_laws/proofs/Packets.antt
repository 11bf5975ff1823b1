-- A packet that parses, in a pipe: it makes the move that it says, and whoever accepts it is handed the body bytes that the pipe counts. A
-- body packet's bytes are all that stands behind its size, and an empty one has none.
-- Assumes nothing.
use native.Mathlib.Omega.{arith}
use borrow.Author.Tests.{eqb-true}
use mathlib.Core.Path.{◌≡◌, refl, sym, ap, subst, ◌∙◌}
use mathlib.Core.Bool.{Bool, true, false}
use mathlib.Core.List.{List, [], ◌++◌}
use Prim.Native.Nat.{ℕ, ◌+◌, ◌≤◌}
use lib.Dec.{eqb}
use lib.ListN.{length, drop, length-drop, drop_of_length-le}
use Rattle.wire.specs.Pick.{pick}
use Rattle.wire.specs.Bytes.{part}
use Rattle.wire.specs.Packet.{payload_place}
use Rattle.packet.specs.declared.Direction.{Direction}
use Rattle.wire.proofs.Bytes.{part_middle}
use Rattle.wire.proofs.Parts.{rest_part}
use Rattle.connection.specs.Cycle.{direction_of}
use Rattle.connection.specs.declared.Move.{Move}
use Rattle.places.specs.Entries.{max_places}
use Rattle.payload.specs.Body.{body_start, body_at}
use Rattle.payload.specs.Packet.{part_from}
use Rattle.payload.specs.Kinds.{packet_at, packet_kind, packet_move}
use Rattle.packet.specs.declared.Packet as payload
use Rattle.payload.specs.Read.{PacketRead}
use Rattle.packet.specs.declared.Part.{Part}
use Rattle.payload.proofs.Handed as handed
use Rattle.payload.proofs.Parsed.{move_kind_lem}
use Rattle.reading_laws.proofs.Shown.{bytes_lent}
use Rattle.messages.proofs.Parses.{is_body, context_for, Parses, parses_accepted, parses_places}
use Rattle.messages.proofs.OneCall.{BodyRead, empty, sized, body_read}
use Rattle.two_ends_laws.specs.Ends.{PipePacket}
use Rattle.two_ends_laws.specs.Past.{body_part, RequestBody, gets, count_packet}
use Rattle.two_ends_laws.specs.Readable.{Carries, counting, Readable}

-- the part that a body packet tells of is all that stands behind its size
abbrev Behind : List ℕ → Part → Type 0
Behind s p = (part s p.start.0 p.len ≡ drop body_start s) × (length (drop body_start s) ≡ p.len)

-- whether it has no payload or tells its size, which may be 0
body_behind : (s : List ℕ) (p : Part) → BodyRead s p → Behind s p
unfolding part
body_behind s p (empty e) =
    let none : drop body_start s ≡ [] = drop_of_length-le s {i = body_start} (omega (arith, e)) in
    (sym none, ap length none)
body_behind s p (sized n e size) = go (eqb n 0) refl
  where
    behind : length (drop body_start s) ≡ n
    behind = omega (arith, length-drop body_start s, size)

    go : (t : Bool) → eqb n 0 ≡ t → Behind s (part_from (pick t payload_place body_start) n)
    go true none =
        let zero : n ≡ 0 = eqb-true n 0 none in
        let all : drop body_start s ≡ [] = drop_of_length-le s {i = body_start} (omega (arith, size, zero)) in
        (ap (part s payload_place) zero ∙ sym all, behind)
    go false some = (sym (rest_part s body_start n size), behind)

-- with bytes behind the packet too
body_handed_lem : (s rest : List ℕ) (p : Part) → body_at s ≡ PacketRead.Packet (payload.Packet.Body p)
    → part (s ++ rest) p.start.0 p.len ≡ drop body_start s
body_handed_lem s rest p e =
    let first : part (s ++ rest) 0 (length s) ≡ s = part_middle [] s rest in
    let inside : p.start.0 + p.len ≤ length s = handed.body_inside s p e in
    bytes_lent (s ++ rest) (length s) p.start.0 p.len (rw first (omega arith))
    ∙ ap (λ (l : List ℕ). part l p.start.0 p.len) first ∙ (body_behind s p (body_read s p e)).0

-- the body bytes that a pipe counts for a packet
abbrev held_by : payload.Packet → List ℕ → List ℕ
held_by p bytes = pick (is_body (packet_kind p)) (drop body_start bytes) []

-- how many they are, by the packet
carried : (p : payload.Packet) (bytes : List ℕ) → (packet_at (context_for (packet_kind p)) (packet_kind p) bytes).end ≡ PacketRead.Packet p → Carries (packet_move p) (held_by p bytes)
carried payload.Packet.CPing bytes e = refl
carried payload.Packet.CPong bytes e = refl
carried (payload.Packet.Forward f) bytes e = refl
carried (payload.Packet.Body p) bytes e = (body_behind bytes p (body_read bytes p e)).1
carried (payload.Packet.GetBody asked) bytes e = refl
carried (payload.Packet.SendHeaders h) bytes e = refl
carried (payload.Packet.BodyChunk p) bytes e = refl
carried (payload.Packet.End reuse) bytes e = refl

-- they are what is handed out
handed_out : (p : payload.Packet) (bytes rest : List ℕ) → (packet_at (context_for (packet_kind p)) (packet_kind p) bytes).end ≡ PacketRead.Packet p
    → body_part (bytes ++ rest) p ≡ held_by p bytes
handed_out payload.Packet.CPing bytes rest e = refl
handed_out payload.Packet.CPong bytes rest e = refl
handed_out (payload.Packet.Forward f) bytes rest e = refl
handed_out (payload.Packet.Body p) bytes rest e = body_handed_lem bytes rest p e
handed_out (payload.Packet.GetBody asked) bytes rest e = refl
handed_out (payload.Packet.SendHeaders h) bytes rest e = refl
handed_out (payload.Packet.BodyChunk p) bytes rest e = refl
handed_out (payload.Packet.End reuse) bytes rest e = refl

-- and what is counted
counted_as : (p : payload.Packet) (bytes rest : List ℕ) (before : List RequestBody) → (packet_at (context_for (packet_kind p)) (packet_kind p) bytes).end ≡ PacketRead.Packet p
    → count_packet (bytes ++ rest) p before ≡ counting (packet_move p) (held_by p bytes) before
counted_as payload.Packet.CPing bytes rest before e = refl
counted_as payload.Packet.CPong bytes rest before e = refl
counted_as (payload.Packet.Forward f) bytes rest before e = refl
counted_as (payload.Packet.Body p) bytes rest before e = ap (λ (l : List ℕ). gets l before) (body_handed_lem bytes rest p e)
counted_as (payload.Packet.GetBody asked) bytes rest before e = refl
counted_as (payload.Packet.SendHeaders h) bytes rest before e = refl
counted_as (payload.Packet.BodyChunk p) bytes rest before e = refl
counted_as (payload.Packet.End reuse) bytes rest before e = refl

-- a packet in a pipe that makes a move and tells this
pub record ReadableAs (direction : Direction) (packet : PipePacket) (m : Move) (t : payload.Packet) : Type 0 where
  pub readable : Readable direction packet m
  pub tells_is : readable.tells ≡ t

-- a packet that parses, in a pipe, where it is a body packet exactly if a body call wrote it
pub readable_as : {direction : Direction} {bytes : List ℕ} {p : payload.Packet} → Parses direction bytes p → (of_body : Bool)
    → is_body (packet_kind p) ≡ of_body → ReadableAs direction (record { bytes = bytes; of_body = of_body }) (packet_move p) p
readable_as {direction} {bytes} {p} parses of_body same =
    subst (λ (b : Bool). ReadableAs direction (record { bytes = bytes; of_body = b }) (packet_move p) p) same
    (record {
      readable = record {
        way = ap direction_of (move_kind_lem p) ∙ parses.way;
        carries = carried p bytes parses.fields_are;
        tells = p;
        makes = refl;
        handed = λ rest. handed_out p bytes rest parses.fields_are;
        counts = λ rest before. counted_as p bytes rest before parses.fields_are;
        reads = λ c rest f. parses_accepted parses c f rest max_places (parses_places parses);
      };
      tells_is = refl;
    })
