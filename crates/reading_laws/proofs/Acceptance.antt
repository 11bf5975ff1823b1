-- When a packet is accepted, and what is handed out then: exactly when its frame is whole, its fields are read, the connection allows it and
-- the table has room. What is parsed depends on the connection only by what it tells of a packet beside its bytes.
-- Assumes nothing.
use mathlib.Core.Path.{◌≡◌, refl, sym, ap, ◌∙◌, subst}
use mathlib.Core.Bool.{Bool, true, false}
use mathlib.Core.List.{List}
use Prim.Native.Nat.{ℕ, ◌≤◌}
use native.Mathlib.Nat.{zero-add}
use borrow.Author.Tests.{leb-true, le-leb}
use lib.Dec.{leb}
use lib.ListN.{length}
use Rattle.wire.specs.Pick.{pick}
use Rattle.wire.specs.Refusal.{not_now, body_size_wrong, buffer_too_short}
use Rattle.wire.specs.Bytes.{part, over}
use Rattle.packet.specs.declared.Direction.{Direction}
use Rattle.wire.proofs.Tests.{both_first, both_second}
use Rattle.wire.proofs.Bytes.{length_part}
use Rattle.connection.specs.Cycle.{move_kind, in_state, in_size, allowed, after, step_of}
use Rattle.connection.specs.declared.Kind.{Kind}
use Rattle.connection.specs.declared.Connection.{Connection}
use Rattle.connection.specs.Step.{Step}
use Rattle.connection.proofs.Laws.{step_by}
use Rattle.places.specs.Entries.{max_places}
use Rattle.payload.specs.Code.{kind_at}
use Rattle.payload.specs.Kinds.{packet_at, packet_move}
use Rattle.payload.specs.declared.Context.{Context}
use Rattle.payload.specs.Read.{KindRead, PacketRead}
use Rattle.packet.specs.declared.Packet.{Packet}
use Rattle.payload.proofs.Parsed.{parsed_kind, move_kind_lem}
use Rattle.reader.specs.Frame.{FrameRead, frame_at}
use Rattle.reader.specs.Meaning.{Meaning, needs, refused, accepted, places_needed}
use Rattle.reader.specs.Reading.{parsed_of, parse_whole, parse_frame, parse, context_of, stepped, accepting, judging, with_room, reading, table_after}
use Rattle.reader.proofs.Framing.{frame_inside}
use Rattle.reader.proofs.Below.{places_fit}
use Rattle.reading_laws.specs.Acceptance.{Acceptance, Answered, NeedsMore}

-- what is behind an answer, where it accepts
abbrev Accepts : Direction → Connection → List ℕ → ℕ → Meaning → Type 0
Accepts direction c s room (needs n) = Unit
Accepts direction c s room (refused n) = Unit
Accepts direction c s room (accepted packet taken next) = Acceptance direction c s room packet taken next

-- the kind of a packet's move is the kind that it was read as
move_is : (context : Context) (kind : Kind) (s : List ℕ) (packet : Packet) → (packet_at context kind s).end ≡ PacketRead.Packet packet
    → move_kind (packet_move packet) ≡ kind
move_is context kind s packet e = move_kind_lem packet ∙ parsed_kind context kind s packet e

module _ (direction : Direction) (c : Connection) (s : List ℕ) where
  -- a whole packet has its length
  taken_is : (n : ℕ) → frame_at direction s ≡ FrameRead.Whole n → length (part s 0 n) ≡ n
  taken_is n e =
      let inside = frame_inside direction s (FrameRead.Whole n) e in
      length_part s 0 n (rw (zero-add n) inside.1.1)

  module _ (room : ℕ) where
    -- from what is read to the answer
    pub accepted_by : (kind : Kind) (packet : Packet) (taken : ℕ) → frame_at direction s ≡ FrameRead.Whole taken
        → kind_at (context_of direction c) (part s 0 taken) ≡ KindRead.Kind kind
        → (packet_at (context_of direction c) kind (part s 0 taken)).end ≡ PacketRead.Packet packet → allowed c (packet_move packet) ≡ true → places_needed packet ≤ room
        → reading direction c s room ≡ accepted packet taken (after c (packet_move packet))
    unfolding reading parse parse_whole accepting
    accepted_by kind packet taken w k f a h =
        let m = packet_move packet in
        let in_state_lem : in_state c (move_kind m) ≡ true = both_first (in_state c (move_kind m)) (in_size c m) a in
        let in_kind : in_state c kind ≡ true = ap (in_state c) (sym (move_is (context_of direction c) kind (part s 0 taken) packet f)) ∙ in_state_lem in
        let step : step_of c m ≡ Step.Next (after c m) = step_by c m true true in_state_lem (both_second (in_state c (move_kind m)) (in_size c m) a) in
        rw (w, k, in_kind, f, step, le-leb (places_needed packet) room h, taken_is taken w)

    accepts : Accepts direction c s room (reading direction c s room)
    unfolding reading parse parse_whole accepting
    accepts = by_frame (frame_at direction s) refl
      where
        by_room : (n : ℕ) (kind : Kind) (packet : Packet) → frame_at direction s ≡ FrameRead.Whole n
            → kind_at (context_of direction c) (part s 0 n) ≡ KindRead.Kind kind
            → (packet_at (context_of direction c) kind (part s 0 n)).end ≡ PacketRead.Packet packet → allowed c (packet_move packet) ≡ true
            → (enough : Bool) → leb (places_needed packet) room ≡ enough
            → Accepts direction c s room
            (pick enough (accepted packet (length (part s 0 n)) (after c (packet_move packet))) (refused buffer_too_short))
        by_room n kind packet w k f a false e = tt
        by_room n kind packet w k f a true e =
            subst (λ (taken : ℕ). Acceptance direction c s room packet taken (after c (packet_move packet))) (sym (taken_is n w))
            (record {
              kind = kind;
              whole_is = w;
              kind_is = k;
              fields_are = f;
              allows = a;
              steps = refl;
              has_room = leb-true (places_needed packet) room e;
            })

        by_size : (n : ℕ) (kind : Kind) (packet : Packet) → frame_at direction s ≡ FrameRead.Whole n
            → kind_at (context_of direction c) (part s 0 n) ≡ KindRead.Kind kind
            → (packet_at (context_of direction c) kind (part s 0 n)).end ≡ PacketRead.Packet packet → in_state c (move_kind (packet_move packet)) ≡ true
            → (size : Bool) → in_size c (packet_move packet) ≡ size
            → Accepts direction c s room
            (with_room room (stepped packet (length (part s 0 n)) (pick size (Step.Next (after c (packet_move packet))) (Step.Refused body_size_wrong))))
        by_size n kind packet w k f a false e = tt
        by_size n kind packet w k f a true e =
            by_room n kind packet w k f (rw (a, e)) (leb (places_needed packet) room) refl

        by_fields : (n : ℕ) (kind : Kind) → frame_at direction s ≡ FrameRead.Whole n
            → kind_at (context_of direction c) (part s 0 n) ≡ KindRead.Kind kind → in_state c kind ≡ true
            → (r : PacketRead) → (packet_at (context_of direction c) kind (part s 0 n)).end ≡ r → Accepts direction c s room (with_room room (accepting c (length (part s 0 n)) r))
        by_fields n kind w k a (PacketRead.Refused number) e = tt
        by_fields n kind w k a (PacketRead.Packet packet) e =
            let m = packet_move packet in
            let in_state_lem : in_state c (move_kind m) ≡ true = ap (in_state c) (move_is (context_of direction c) kind (part s 0 n) packet e) ∙ a in
            subst (λ (step : Step). Accepts direction c s room (with_room room (stepped packet (length (part s 0 n)) step)))
            (sym (step_by c m true (in_size c m) in_state_lem refl))
            (by_size n kind packet w k e in_state_lem (in_size c m) refl)

        by_state : (n : ℕ) (kind : Kind) → frame_at direction s ≡ FrameRead.Whole n
            → kind_at (context_of direction c) (part s 0 n) ≡ KindRead.Kind kind → (t : Bool) → in_state c kind ≡ t
            → Accepts direction c s room (with_room room (pick t (accepting c (length (part s 0 n)) (packet_at (context_of direction c) kind (part s 0 n)).end) (refused not_now)))
        by_state n kind w k false e = tt
        by_state n kind w k true e = by_fields n kind w k e (packet_at (context_of direction c) kind (part s 0 n)).end refl

        by_kind : (n : ℕ) → frame_at direction s ≡ FrameRead.Whole n → (r : KindRead)
            → kind_at (context_of direction c) (part s 0 n) ≡ r → Accepts direction c s room (with_room room (judging c (parsed_of (context_of direction c) (part s 0 n) r)))
        by_kind n w (KindRead.Refused number) e = tt
        by_kind n w (KindRead.Kind kind) e = by_state n kind w e (in_state c kind) refl

        by_frame : (f : FrameRead) → frame_at direction s ≡ f
            → Accepts direction c s room (with_room room (judging c (parse_frame (context_of direction c) s f)))
        by_frame (FrameRead.Needs n) e = tt
        by_frame (FrameRead.Refused n) e = tt
        by_frame (FrameRead.Whole n) e = by_kind n e (kind_at (context_of direction c) (part s 0 n)) refl

    -- from the answer to what was read
    pub accepted_is : (packet : Packet) (taken : ℕ) (next : Connection) → reading direction c s room ≡ accepted packet taken next
        → Acceptance direction c s room packet taken next
    accepted_is packet taken next e = subst (Accepts direction c s room) e accepts

-- two connections that accept the same bytes, and know the same of them beside the bytes, are handed the same packet
pub same_packet : (direction : Direction) (c e : Connection) (s : List ℕ) (room more : ℕ) (packet found : Packet) (taken used : ℕ)
    (next other : Connection) → context_of direction c ≡ context_of direction e → reading direction c s room ≡ accepted packet taken next
    → reading direction e s more ≡ accepted found used other → (packet ≡ found) × (taken ≡ used)
same_packet direction c e s room more packet found taken used next other b p q =
    let a = accepted_is direction c s room packet taken next p in
    let o = accepted_is direction e s more found used other q in
    let w : FrameRead.Whole taken ≡ FrameRead.Whole used = sym a.whole_is ∙ o.whole_is in
    let n : taken ≡ used = cc in
    let k : KindRead.Kind a.kind ≡ KindRead.Kind o.kind =
    sym a.kind_is ∙ ap (λ (context : Context). kind_at context (part s 0 taken)) b
    ∙ ap (λ (m : ℕ). kind_at (context_of direction e) (part s 0 m)) n ∙ o.kind_is in
    let i : a.kind ≡ o.kind = cc in
    let f : PacketRead.Packet packet ≡ PacketRead.Packet found =
    sym a.fields_are ∙ ap (λ (context : Context). (packet_at context a.kind (part s 0 taken)).end) b
    ∙ ap (λ (kind : Kind). (packet_at (context_of direction e) kind (part s 0 taken)).end) i
    ∙ ap (λ (m : ℕ). (packet_at (context_of direction e) o.kind (part s 0 m)).end) n ∙ o.fields_are in
    (cc, n)

-- an accepted packet fills the table with its own places, as many as it asks for
pub accepted_fills : (direction : Direction) (c : Connection) (s table : List ℕ) (packet : Packet) (taken : ℕ) (next : Connection)
    (e : reading direction c s (length table) ≡ accepted packet taken next)
    → let a = accepted_is direction c s (length table) packet taken next e in
    let places = (packet_at (context_of direction c) a.kind (part s 0 taken)).places in
    (table_after direction c s table ≡ over table 0 places) × ((length places ≡ places_needed packet) × (places_needed packet ≤ max_places))
unfolding table_after parse parse_whole
accepted_fills direction c s table packet taken next e =
    let a = accepted_is direction c s (length table) packet taken next e in
    let fit = rw a.fields_are at (places_fit (context_of direction c) (part s 0 taken) a.kind) in
    (rw (e, a.whole_is, a.kind_is), (fit.0, rw (sym fit.0) fit.1))

-- a refusal and a "needs" leave the table
pub refused_keeps : (direction : Direction) (c : Connection) (s table : List ℕ) (n : ℕ) → reading direction c s (length table) ≡ refused n
    → table_after direction c s table ≡ table
unfolding table_after
refused_keeps direction c s table n e = rw e

pub needs_keeps : (direction : Direction) (c : Connection) (s table : List ℕ) (n : ℕ) → reading direction c s (length table) ≡ needs n
    → table_after direction c s table ≡ table
unfolding table_after
needs_keeps direction c s table n e = rw e

-- how many bytes an answer asks for, where it asks
abbrev Asks : ℕ → Meaning → Type 0
Asks size (needs n) = NeedsMore size n
Asks size (refused n) = Unit
Asks size (accepted packet taken next) = Unit

-- a packet that was read is not answered with "needs"
pub accepting_answers : (c : Connection) (taken : ℕ) (r : PacketRead) → Answered (accepting c taken r)
unfolding accepting
accepting_answers c taken (PacketRead.Refused n) = tt
accepting_answers c taken (PacketRead.Packet packet) = go (step_of c (packet_move packet))
  where
    go : (step : Step) → Answered (stepped packet taken step)
    go (Step.Refused n) = tt
    go (Step.Next next) = tt

-- a "needs" asks for more bytes than there are, and for no more than a packet may have
pub needs_more : (direction : Direction) (c : Connection) (s : List ℕ) (room n : ℕ) → reading direction c s room ≡ needs n
    → NeedsMore (length s) n
unfolding reading parse parse_whole
needs_more direction c s room n e = subst (Asks (length s)) e (by_frame (frame_at direction s) refl)
  where
    lent : (m : Meaning) → Answered m → Asks (length s) (with_room room m)
    lent (needs k) h = absurd h
    lent (refused k) h = tt
    lent (accepted packet taken next) h = go (leb (places_needed packet) room)
      where
        go : (enough : Bool) → Asks (length s) (pick enough (accepted packet taken next) (refused buffer_too_short))
        go true = tt
        go false = tt

    by_state : (t : Bool) (m : Meaning) → Answered m → Asks (length s) (with_room room (pick t m (refused not_now)))
    by_state true m h = lent m h
    by_state false m h = tt

    by_kind : (packet : List ℕ) (r : KindRead) → Asks (length s) (with_room room (judging c (parsed_of (context_of direction c) packet r)))
    by_kind packet (KindRead.Refused k) = tt
    by_kind packet (KindRead.Kind kind) = by_state (in_state c kind) (accepting c (length packet) (packet_at (context_of direction c) kind packet).end) (accepting_answers c (length packet) (packet_at (context_of direction c) kind packet).end)

    by_frame : (f : FrameRead) → frame_at direction s ≡ f → Asks (length s) (with_room room (judging c (parse_frame (context_of direction c) s f)))
    by_frame (FrameRead.Needs k) q = frame_inside direction s (FrameRead.Needs k) q
    by_frame (FrameRead.Refused k) q = tt
    by_frame (FrameRead.Whole k) q = by_kind (part s 0 k) (kind_at (context_of direction c) (part s 0 k))
