-- A whole packet apart from any connection: its frame, the kind that it is read as, and what its fields say. Every connection that allows
-- its move accepts it, whatever stands behind it, and every packet that is accepted is such a one: of the moves that a connection allows,
-- a body packet is exactly the one that is read as such.
-- Assumes nothing.
use native.Mathlib.Omega.{arith}
use native.Mathlib.Nat.{zero-add}
use borrow.Author.Tests.{leb-true, eqb-true}
use mathlib.Core.Path.{◌≡◌, refl, sym, ap, ◌∙◌, subst}
use mathlib.Core.Bool.{Bool, true, false, false≢true}
use mathlib.Core.List.{List, ◌∷◌, ◌++◌}
use Prim.Native.Nat.{ℕ, ◌+◌, ◌≤◌}
use lib.Dec.{leb, eqb}
use lib.ListN.{length, get_or, drop}
use lib.Seq.{take-length, drop-cons}
use Rattle.wire.specs.Pick.{pick, both, either}
use Rattle.wire.specs.Refusal.{code_not_served, code_wrong, cut_short, body_size_wrong}
use Rattle.wire.specs.Bytes.{part}
use Rattle.wire.specs.Field.{byte_at}
use Rattle.wire.specs.Packet.{packet_head, packet, after_code_place, code_place}
use Rattle.packet.specs.declared.Direction.{Direction}
use Rattle.wire.specs.Read.{NumberRead}
use Rattle.wire.proofs.Tests.{both_first}
use Rattle.wire.proofs.Field.{head_four}
use Rattle.wire.proofs.Bytes.{length_part}
use Rattle.wire.proofs.RoundTrip.{byte_written}
use Rattle.wire.specs.Facts.{Bytes}
use Rattle.connection.specs.Connection.{is_idle, is_busy, body_due, max_packet, max_payload}
use Rattle.connection.specs.Cycle.{move_kind, direction_of, in_state, in_size, allowed, after}
use Rattle.connection.specs.declared.State.{State}
use Rattle.connection.specs.declared.Kind.{Kind}
use Rattle.connection.specs.declared.Move.{Move}
use Rattle.connection.specs.declared.Connection.{Connection}
use Rattle.connection.proofs.Laws.{step_by}
use Rattle.places.specs.Entries.{max_places}
use Rattle.payload.specs.Code.{code_of, code_kind, kind_of_code, kind_at, ping_code, shutdown_code}
use Rattle.payload.specs.Kinds.{packet_at, packet_kind, packet_move}
use Rattle.payload.specs.declared.Context.{Context}
use Rattle.payload.specs.Read.{KindRead, PacketRead}
use Rattle.packet.specs.declared.Packet.{Packet}
use Rattle.payload.proofs.Laws.{kind_is, code_found, kind_direction}
use Rattle.payload.proofs.Parsed.{parsed_kind, move_kind_lem}
use Rattle.building_record.specs.Record as building
use Rattle.building_record.specs.declared.BuildingKind.{BuildingKind}
use Rattle.reader.specs.Frame.{frame_at, FrameRead}
use Rattle.reader.specs.Meaning.{refused, accepted, places_needed}
use Rattle.reader.specs.Reading.{parse_whole, parse, read_as_body, context_of, accepting, reading}
use Rattle.reader.proofs.Framing.{frame_inside}
use Rattle.reading_laws.proofs.Acceptance.{accepted_by, accepted_is}
use Rattle.reading_laws.specs.Acceptance.{Answered}
use Rattle.reading_laws.proofs.Later.{later_answer}
use Rattle.reading_laws.proofs.Inside.{packet_inside}
use Rattle.messages.proofs.Frames.{part_whole, frame_written, head_kept}

-- a body packet's kind
abbrev pub is_body : Kind → Bool
is_body Kind.CPing = false
is_body Kind.CPong = false
is_body Kind.Forward = false
is_body Kind.Body = true
is_body Kind.GetBody = false
is_body Kind.SendHeaders = false
is_body Kind.BodyChunk = false
is_body Kind.End = false

-- what is known beside its bytes of a packet of a kind: its way, and that it is read as a body packet where it is one
abbrev pub context_for : Kind → Context
context_for kind = record { direction = direction_of kind; body = is_body kind }

-- bytes are a whole packet of a direction that says this, read as a body packet where it is one and by its code otherwise
pub record Parses (d : Direction) (s : List ℕ) (p : Packet) : Type 0 where
  pub way : direction_of (packet_kind p) ≡ d
  pub whole_is : frame_at d s ≡ FrameRead.Whole (length s)
  pub kind_is : kind_at (context_for (packet_kind p)) s ≡ KindRead.Kind (packet_kind p)
  pub fields_are : (packet_at (context_for (packet_kind p)) (packet_kind p) s).end ≡ PacketRead.Packet p

-- no body packet is due where a connection is Idle
idle_none : (state : State) (due : Bool) → both (is_idle state) true ≡ true → both (is_busy state) due ≡ false
idle_none State.Idle due e = refl
idle_none State.Pinged due e = refl
idle_none State.Busy due e = absurd (false≢true e)
idle_none State.Closed due e = refl

-- of the moves that a connection allows, the body packet is exactly the one that is read as such at the end to which it goes
as_body : (c : Connection) (m : Move) → allowed c m ≡ true → read_as_body (direction_of (move_kind m)) c ≡ is_body (move_kind m)
as_body c Move.CPing e = idle_none c.state c.due e
as_body c Move.CPong e = refl
as_body c (Move.Forward f) e = idle_none c.state c.due e
as_body c (Move.Body k) e = both_first (body_due c) (in_size c (Move.Body k)) e
as_body c (Move.GetBody r) e = refl
as_body c Move.SendHeaders e = refl
as_body c (Move.BodyChunk k) e = refl
as_body c (Move.End reuse) e = refl

-- so is a packet whose move is allowed
pub packet_as_body : (c : Connection) (d : Direction) (p : Packet) → direction_of (packet_kind p) ≡ d → allowed c (packet_move p) ≡ true
    → read_as_body d c ≡ is_body (packet_kind p)
packet_as_body c d p way a = rw (← way, ← move_kind_lem p) (as_body c (packet_move p) a)

-- and that is all that is known of it beside its bytes
pub packet_context : (c : Connection) (d : Direction) (p : Packet) → direction_of (packet_kind p) ≡ d → allowed c (packet_move p) ≡ true
    → context_of d c ≡ context_for (packet_kind p)
packet_context c d p way a =
    subst (λ (x : Direction). context_of x c ≡ context_for (packet_kind p)) way
    (ap (λ (body : Bool). record { direction = direction_of (packet_kind p); body = body }) (packet_as_body c (direction_of (packet_kind p)) p refl a))

-- a state that allows a packet in pieces has no body packet due at the end to which it goes
pub none_due : (c : Connection) (kind : BuildingKind) → in_state c (building.built_kind kind) ≡ true
    → read_as_body (direction_of (building.built_kind kind)) c ≡ false
none_due c BuildingKind.Forward e = idle_none c.state c.due (rw e)
none_due c BuildingKind.SendHeaders e = refl

-- a packet that parses is accepted by every connection that allows its move
pub parses_alone : {d : Direction} {s : List ℕ} {p : Packet} → Parses d s p → (c : Connection) → allowed c (packet_move p) ≡ true
    → (room : ℕ) → places_needed p ≤ room → reading d c s room ≡ accepted p (length s) (after c (packet_move p))
unfolding part
parses_alone {d} {s} {p} r c a room h =
    let all : part s 0 (length s) ≡ s = take-length s in
    let known : context_for (packet_kind p) ≡ context_of d c = sym (packet_context c d p r.way a) in
    accepted_by d c s room (packet_kind p) p (length s) r.whole_is
    (rw all (subst (λ (x : Context). kind_at x s ≡ KindRead.Kind (packet_kind p)) known r.kind_is))
    (rw all (subst (λ (x : Context). (packet_at x (packet_kind p) s).end ≡ PacketRead.Packet p) known r.fields_are)) a h

-- a whole packet of a kind that is allowed now, alone: refused with the fault of its fields
pub fields_refused : (d : Direction) (c : Connection) (s : List ℕ) (room : ℕ) (kind : Kind) (n : ℕ) → frame_at d s ≡ FrameRead.Whole (length s)
    → kind_at (context_of d c) s ≡ KindRead.Kind kind → in_state c kind ≡ true → (packet_at (context_of d c) kind s).end ≡ PacketRead.Refused n
    → reading d c s room ≡ refused n
unfolding reading parse parse_whole accepting part
fields_refused d c s room kind n whole is now e = rw (whole, take-length s, is, now, e)

-- or with 14, where its fields have none and its size is not allowed
pub size_refused : (d : Direction) (c : Connection) (s : List ℕ) (room : ℕ) (kind : Kind) (p : Packet) → frame_at d s ≡ FrameRead.Whole (length s)
    → kind_at (context_of d c) s ≡ KindRead.Kind kind → in_state c kind ≡ true → (packet_at (context_of d c) kind s).end ≡ PacketRead.Packet p
    → in_size c (packet_move p) ≡ false → reading d c s room ≡ refused body_size_wrong
unfolding reading parse parse_whole accepting part
size_refused d c s room kind p whole is now e f =
    let state : in_state c (move_kind (packet_move p)) ≡ true = ap (in_state c) (move_kind_lem p ∙ parsed_kind (context_of d c) kind s p e) ∙ now in
    rw (whole, take-length s, is, now, e, step_by c (packet_move p) true false state f)

-- a refusal stays what it is, whatever stands behind the packet
pub refused_more : (d : Direction) (c : Connection) (s rest : List ℕ) (room n : ℕ) → reading d c s room ≡ refused n
    → reading d c (s ++ rest) room ≡ refused n
refused_more d c s rest room n alone = later_answer s rest d c room (subst Answered (sym alone) tt) ∙ alone

-- whatever stands behind it
pub parses_accepted : {d : Direction} {s : List ℕ} {p : Packet} → Parses d s p → (c : Connection) → allowed c (packet_move p) ≡ true
    → (rest : List ℕ) (room : ℕ) → places_needed p ≤ room
    → reading d c (s ++ rest) room ≡ accepted p (length s) (after c (packet_move p))
parses_accepted {d} {s} {p} r c a rest room h =
    let alone = parses_alone r c a room h in
    later_answer s rest d c room (subst Answered (sym alone) tt) ∙ alone

-- it has at most 8192 bytes
pub parses_most : {d : Direction} {s : List ℕ} {p : Packet} → Parses d s p → length s ≤ max_packet
parses_most {d} {s} r = (frame_inside d s (FrameRead.Whole (length s)) r.whole_is).1.0

-- it asks for at most 328 places
pub parses_places : {d : Direction} {s : List ℕ} {p : Packet} → Parses d s p → places_needed p ≤ max_places
parses_places {d} {s} {p} r = (packet_inside (context_for (packet_kind p)) (packet_kind p) s p r.fields_are).places_most

-- what an accepted packet is
pub record AcceptedAs (d : Direction) (c : Connection) (s : List ℕ) (packet : Packet) (n : ℕ) (next : Connection) : Type 0 where
  pub parses : Parses d (part s 0 n) packet
  pub allows : allowed c (packet_move packet) ≡ true
  pub steps : next ≡ after c (packet_move packet)
  pub size : n ≡ length (part s 0 n)

-- a packet that is read as a body packet is one, and goes to the container; every other one goes the way that it was read in
read_way : (d : Direction) (c : Connection) (s : List ℕ) (kind : Kind) → kind_at (context_of d c) s ≡ KindRead.Kind kind → direction_of kind ≡ d
read_way Direction.ToServer c s kind e = kind_direction (context_of Direction.ToServer c) s kind e refl
read_way Direction.ToContainer c s kind e = go (body_due c) refl
  where
    go : (t : Bool) → body_due c ≡ t → direction_of kind ≡ Direction.ToContainer
    go false q = kind_direction (context_of Direction.ToContainer c) s kind e q
    go true q =
        let k : KindRead.Kind Kind.Body ≡ KindRead.Kind kind = sym (kind_is (context_of Direction.ToContainer c) true s (byte_at s code_place) q refl) ∙ e in
        let b : Kind.Body ≡ kind = cc in
        ap direction_of (sym b)

-- a packet that is accepted parses
pub accepted_parses : (d : Direction) (c : Connection) (s : List ℕ) (room : ℕ) (p : Packet) (n : ℕ) (next : Connection)
    → reading d c s room ≡ accepted p n next → AcceptedAs d c s p n next
accepted_parses d c s room p n next e =
    let a = accepted_is d c s room p n next e in
    let inside = frame_inside d s (FrameRead.Whole n) a.whole_is in
    let there : n ≤ length s = inside.1.1 in
    let size : length (part s 0 n) ≡ n = length_part s 0 n (rw (zero-add n) there) in
    let kind : packet_kind p ≡ a.kind = parsed_kind (context_of d c) a.kind (part s 0 n) p a.fields_are in
    let way : direction_of (packet_kind p) ≡ d = ap direction_of kind ∙ read_way d c (part s 0 n) a.kind a.kind_is in
    let known : context_of d c ≡ context_for (packet_kind p) = packet_context c d p way a.allows in
    record {
      parses = record {
        way = way;
        whole_is = part_whole d s n a.whole_is ∙ ap FrameRead.Whole (sym size);
        kind_is = subst (λ (x : Context). kind_at x (part s 0 n) ≡ KindRead.Kind (packet_kind p)) known (rw kind a.kind_is);
        fields_are = subst (λ (x : Context). (packet_at x (packet_kind p) (part s 0 n)).end ≡ PacketRead.Packet p) known (rw kind a.fields_are);
      };
      allows = a.allows;
      steps = a.steps;
      size = sym size;
    }

-- where all of some bytes is accepted, it is these bytes that parse
pub all_parses : (d : Direction) (c : Connection) (s : List ℕ) (room : ℕ) (p : Packet) (next : Connection)
    → reading d c s room ≡ accepted p (length s) next → Parses d s p
unfolding part
all_parses d c s room p next e =
    subst (λ (l : List ℕ). Parses d l p) (take-length s) (accepted_parses d c s room p (length s) next e).parses

-- a packet that was written with a kind's code first in its payload is of that kind; a body packet has no code
pub kind_written : (k : Kind) (rest : List ℕ) → is_body k ≡ false
    → kind_at (context_for k) (packet (direction_of k) (code_of k ∷ rest)) ≡ KindRead.Kind k
kind_written k rest e =
    let d : Direction = direction_of k in
    let code : ℕ = code_of k in
    let before : List ℕ = packet_head d (length (code ∷ rest)) in
    let read : byte_at (packet d (code ∷ rest)) code_place ≡ NumberRead.Number code after_code_place =
    subst (λ (at : ℕ). byte_at (before ++ (code ∷ rest)) at ≡ NumberRead.Number code (at + 1)) (head_four d (length (code ∷ rest)))
    (byte_written before rest code) in
    kind_is (context_for k) false (packet d (code ∷ rest)) (NumberRead.Number code after_code_place) e read
    ∙ code_found k (λ q. false≢true (sym e ∙ ap is_body q))

-- a code that is of a kind is that kind's
code_of_kind : (d : Direction) (code : ℕ) (k : Kind) → code_kind d code ≡ KindRead.Kind k → code ≡ code_of k
unfolding code_kind
code_of_kind Direction.ToContainer code k = go (eqb code (code_of Kind.Forward)) (eqb code (code_of Kind.CPing)) (either (eqb code shutdown_code) (eqb code ping_code)) refl refl
  where
    go : (a b u : Bool) → eqb code (code_of Kind.Forward) ≡ a → eqb code (code_of Kind.CPing) ≡ b
        → pick a (KindRead.Kind Kind.Forward)
        (pick b (KindRead.Kind Kind.CPing) (pick u (KindRead.Refused code_not_served) (KindRead.Refused code_wrong))) ≡ KindRead.Kind k → code ≡ code_of k
    go true b u p q e = let z : Kind.Forward ≡ k = cc in eqb-true code (code_of Kind.Forward) p ∙ ap code_of z
    go false true u p q e = let z : Kind.CPing ≡ k = cc in eqb-true code (code_of Kind.CPing) q ∙ ap code_of z
    go false false true p q e = cc
    go false false false p q e = cc
code_of_kind Direction.ToServer code k =
    go (eqb code (code_of Kind.BodyChunk)) (eqb code (code_of Kind.SendHeaders)) (eqb code (code_of Kind.End)) (eqb code (code_of Kind.GetBody)) (eqb code (code_of Kind.CPong)) refl refl refl refl refl
  where
    go : (a b c d e : Bool) → eqb code (code_of Kind.BodyChunk) ≡ a → eqb code (code_of Kind.SendHeaders) ≡ b → eqb code (code_of Kind.End) ≡ c → eqb code (code_of Kind.GetBody) ≡ d → eqb code (code_of Kind.CPong) ≡ e
        → pick a (KindRead.Kind Kind.BodyChunk)
        (pick b (KindRead.Kind Kind.SendHeaders)
        (pick c (KindRead.Kind Kind.End)
        (pick d (KindRead.Kind Kind.GetBody) (pick e (KindRead.Kind Kind.CPong) (KindRead.Refused code_wrong))))) ≡ KindRead.Kind k → code ≡ code_of k
    go true b c d e p q r s t f = let z : Kind.BodyChunk ≡ k = cc in eqb-true code (code_of Kind.BodyChunk) p ∙ ap code_of z
    go false true c d e p q r s t f = let z : Kind.SendHeaders ≡ k = cc in eqb-true code (code_of Kind.SendHeaders) q ∙ ap code_of z
    go false false true d e p q r s t f = let z : Kind.End ≡ k = cc in eqb-true code (code_of Kind.End) r ∙ ap code_of z
    go false false false true e p q r s t f = let z : Kind.GetBody ≡ k = cc in eqb-true code (code_of Kind.GetBody) s ∙ ap code_of z
    go false false false false true p q r s t f = let z : Kind.CPong ≡ k = cc in eqb-true code (code_of Kind.CPong) t ∙ ap code_of z
    go false false false false false p q r s t f = cc

-- a packet that is not a body packet has its code behind its head
code_kept : (s : List ℕ) (k : Kind) → is_body k ≡ false → kind_at (context_for k) s ≡ KindRead.Kind k
    → (after_code_place ≤ length s) × (get_or s code_place 0 ≡ code_of k)
unfolding byte_at
code_kept s k b e = go (leb after_code_place (length s)) refl (sym (kind_is (context_for k) false s (byte_at s code_place) b refl) ∙ e)
  where
    go : (t : Bool) → leb after_code_place (length s) ≡ t
        → kind_of_code (direction_of k) (pick t (NumberRead.Number (get_or s code_place 0) after_code_place) (NumberRead.Refused cut_short)) ≡ KindRead.Kind k
        → (after_code_place ≤ length s) × (get_or s code_place 0 ≡ code_of k)
    go true p q = (leb-true after_code_place (length s) p, code_of_kind (direction_of k) (get_or s code_place 0) k q)
    go false p q = absurd (let z : ◌≡◌ {A = ℕ} 0 1 = cc in omega arith)

-- so it is its head, its code and what stands behind that
pub coded_kept : {d : Direction} {s : List ℕ} {p : Packet} → Parses d s p → is_body (packet_kind p) ≡ false → Bytes s
    → s ≡ packet (direction_of (packet_kind p)) (code_of (packet_kind p) ∷ drop after_code_place s)
coded_kept {d} {s} {p} r b bytes =
    let code = code_kept s (packet_kind p) b r.kind_is in
    let behind : drop code_place s ≡ code_of (packet_kind p) ∷ drop after_code_place s = drop-cons s code_place 0 (omega (arith, code.0)) ∙ ap (λ (n : ℕ). n ∷ drop after_code_place s) code.1 in
    head_kept d s (length s) bytes r.whole_is refl ∙ ap (packet d) behind
    ∙ ap (λ (way : Direction). packet way (code_of (packet_kind p) ∷ drop after_code_place s)) (sym r.way)

-- a packet that was written with its code first in its payload parses where its fields are read
pub coded_parses : (p : Packet) (rest : List ℕ) → is_body (packet_kind p) ≡ false → length rest + 1 ≤ max_payload
    → (packet_at (context_for (packet_kind p)) (packet_kind p) (packet (direction_of (packet_kind p)) (code_of (packet_kind p) ∷ rest))).end ≡ PacketRead.Packet p
    → Parses (direction_of (packet_kind p)) (packet (direction_of (packet_kind p)) (code_of (packet_kind p) ∷ rest)) p
coded_parses p rest b most fields =
    let k : Kind = packet_kind p in
    record {
      way = refl;
      whole_is = frame_written (direction_of k) (code_of k ∷ rest) (omega arith);
      kind_is = kind_written k rest b;
      fields_are = fields;
    }
