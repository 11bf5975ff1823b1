-- The two round trips of packets in pieces. What was written in pieces stands as the message's bytes (`PiecesWritten`), and the judge at closing
-- was reading itself, so it parses; that it shows the message is `PiecesShown`. What was read has the bytes of the message that it shows, and no
-- piece of it has a fault (`PiecesKept`), so its pieces are written as they stood, and the judge says what reading said.
-- Assumes nothing.
use native.Mathlib.Omega.{arith}
use mathlib.Core.Path.{◌≡◌, refl, sym, ap, subst, ◌∙◌}
use mathlib.Core.Bool.{Bool, true, false}
use mathlib.Core.List.{List, ◌∷◌}
use Prim.Native.Nat.{ℕ, ◌≤◌}
use lib.ListN.{length, drop}
use Rattle.wire.specs.Bytes.{part}
use Rattle.wire.specs.Packet.{packet}
use Rattle.packet.specs.declared.Direction.{Direction}
use Rattle.wire.proofs.Tests.{both_first}
use Rattle.wire.proofs.Parts.{stands_there}
use Rattle.connection.specs.Cycle.{direction_of, in_state, allowed, after}
use Rattle.connection.specs.declared.Kind.{Kind}
use Rattle.connection.specs.declared.Connection.{Connection}
use Rattle.places.specs.Entries.{max_places}
use Rattle.payload.specs.Code.{code_of, kind_at}
use Rattle.payload.specs.Kinds.{packet_kind, packet_move}
use Rattle.payload.specs.declared.Context.{Context}
use Rattle.payload.specs.Read.{KindRead}
use Rattle.packet.specs.declared.Part.{Part}
use Rattle.packet.specs.declared.Forward.{Forward}
use Rattle.packet.specs.declared.SendHeaders.{SendHeaders}
use Rattle.packet.specs.declared.Packet.{Packet}
use Rattle.building.specs.Field.{Field}
use Rattle.building_record.specs.Record as building
use Rattle.building_record.specs.declared.BuildingKind.{BuildingKind}
use Rattle.building.specs.Sent.{Written}
use Rattle.reader.specs.Meaning.{accepted}
use Rattle.reader.specs.Reading.{parse, context_of, judging, reading}
use Rattle.reading_laws.proofs.Aside.{aside}
use Rattle.messages.specs.Message.{Request, Response, Message, forward, send_headers, Header, Attribute, message_direction}
use Rattle.messages.specs.Bytes.{payload_of, message_bytes}
use Rattle.messages.specs.Writing.{writing}
use Rattle.messages.specs.RoundTrips.{WrittenBack}
use Rattle.messages.specs.Shown.{message_shown}
use Rattle.messages.proofs.Parses.{is_body, context_for, Parses, packet_context, none_due, parses_alone, parses_most, parses_places, accepted_parses, all_parses, kind_written}
use Rattle.messages.proofs.Tables.{forward_table, send_headers_table}
use Rattle.messages.proofs.RoundTrip.{Forth, Back, own_way, Shows, Stands, stands_back}
use Rattle.messages.proofs.PiecesWritten.{PiecesWritten, Writes, forward_written, forward_writes, send_headers_written, send_headers_writes}
use Rattle.messages.proofs.PiecesShown.{forward_shown_lem, send_headers_shown_lem}
use Rattle.messages.proofs.PiecesKept.{PiecesKept, forward_kept, send_headers_kept}

-- this holds of every packet of a kind
abbrev OfKind : (Packet → Type 0) → Kind → Type 0
OfKind P Kind.CPing = P Packet.CPing
OfKind P Kind.CPong = P Packet.CPong
OfKind P Kind.Forward = (f : Forward) → P (Packet.Forward f)
OfKind P Kind.Body = (p : Part) → P (Packet.Body p)
OfKind P Kind.GetBody = (asked : ℕ) → P (Packet.GetBody asked)
OfKind P Kind.SendHeaders = (h : SendHeaders) → P (Packet.SendHeaders h)
OfKind P Kind.BodyChunk = (p : Part) → P (Packet.BodyChunk p)
OfKind P Kind.End = (reuse : Bool) → P (Packet.End reuse)

-- then it holds of each packet of that kind
of_kind : (P : Packet → Type 0) (p : Packet) → OfKind P (packet_kind p) → P p
of_kind P Packet.CPing h = h
of_kind P Packet.CPong h = h
of_kind P (Packet.Forward f) h = h f
of_kind P (Packet.Body p) h = h p
of_kind P (Packet.GetBody asked) h = h asked
of_kind P (Packet.SendHeaders response) h = h response
of_kind P (Packet.BodyChunk p) h = h p
of_kind P (Packet.End reuse) h = h reuse

-- a packet in pieces is no body packet
not_body : (kind : BuildingKind) → is_body (building.built_kind kind) ≡ false
not_body BuildingKind.Forward = refl
not_body BuildingKind.SendHeaders = refl

-- a packet with the code of a packet in pieces is of that kind, where its state allows that kind: no body packet is due then
kind_found : (c : Connection) (kind : BuildingKind) (rest : List ℕ) (p : Packet) → (let k = building.built_kind kind in
    Parses (direction_of k) (packet (direction_of k) (code_of k ∷ rest)) p → allowed c (packet_move p) ≡ true → in_state c k ≡ true → packet_kind p ≡ k)
kind_found c kind rest p r a in_state_lem =
    let k : Kind = building.built_kind kind in
    let same : context_for (packet_kind p) ≡ context_for k =
    sym (packet_context c (direction_of k) p r.way a)
    ∙ ap (λ (body : Bool). record { direction = direction_of k; body = body }) (none_due c kind in_state_lem ∙ sym (not_body kind)) in
    let found : KindRead.Kind (packet_kind p) ≡ KindRead.Kind k =
    sym r.kind_is ∙ ap (λ (x : Context). kind_at x (packet (direction_of k) (code_of k ∷ rest))) same
    ∙ kind_written k rest (not_body kind) in
    cc

-- a packet that was written in pieces stands there: it was judged good, so it parses, and as a packet of its kind it shows the message
pieces_stand : {c : Connection} {own : List Field} {headers : List Header} {attributes : List Attribute} {buffer left : List ℕ} {w : Written}
    (kind : BuildingKind) (m : Message) (rest : List ℕ) → (let d = direction_of (building.built_kind kind) in
    message_bytes m ≡ packet d (code_of (building.built_kind kind) ∷ rest) → d ≡ message_direction m
    → PiecesWritten c kind own headers attributes (message_bytes m) buffer w left
    → OfKind (λ p. Parses d (message_bytes m) p → Shows p (message_bytes m) m) (building.built_kind kind)
    → Stands m c w left)
pieces_stand {c} {buffer = buffer} {left = left} {w = w} kind m rest bytes way k each =
    let d : Direction = direction_of (building.built_kind kind) in
    let whole : List ℕ = message_bytes m in
    let p : Packet = k.found in
    let reads : reading d c whole max_places ≡ accepted p (length whole) w.connection = aside d c whole max_places (omega arith) ∙ k.judged in
    let a = accepted_parses d c whole max_places p (length whole) w.connection reads in
    let r : Parses d whole p = all_parses d c whole max_places p w.connection reads in
    let is : packet_kind p ≡ building.built_kind kind = kind_found c kind rest p (subst (λ (s : List ℕ). Parses d s p) bytes r) a.allows k.state in
    let Showing : Packet → Type 0 = λ q. Parses d whole q → Shows q whole m in
    let shows : Shows p whole m = of_kind Showing p (subst (OfKind Showing) (sym is) each) r in
    let there : whole ≡ part left 0 w.size = sym (stands_there whole buffer left w.size k.size k.is k.fits) in
    record {
      packet = p;
      size = ap length (sym there) ∙ sym k.size;
      parses = subst (λ (x : Direction). Parses x (part left 0 w.size) p) way (subst (λ (s : List ℕ). Parses d s p) there r);
      allows = a.allows;
      steps = sym a.steps;
      shows = subst (λ (s : List ℕ). Shows p s m) there shows;
    }

-- forth: a Forward that was written reads back
pub forward_forth : (request : Request) → Forth (forward request)
unfolding message_bytes
forward_forth request c buffer w left fit e =
    let k = forward_written c request buffer w left e in
    stands_back
    (pieces_stand BuildingKind.Forward (forward request) (drop 1 (payload_of (forward request))) refl refl k
    (λ f r.
    forward_shown_lem request k.own_fine k.headers_fine k.attributes_fine fit.1 fit.3 k.few k.within f r.fields_are))

-- and so does a Send Headers
pub send_headers_forth : (response : Response) → Forth (send_headers response)
unfolding message_bytes
send_headers_forth response c buffer w left fit e =
    let k = send_headers_written c response buffer w left e in
    stands_back
    (pieces_stand BuildingKind.SendHeaders (send_headers response) (drop 1 (payload_of (send_headers response))) refl refl k
    (λ h r. send_headers_shown_lem response k.own_fine k.headers_fine k.few k.within h r.fields_are))

-- a packet that parses is judged good by a connection that allows its move
parses_judged : {d : Direction} {s : List ℕ} {p : Packet} → Parses d s p → (c : Connection) → allowed c (packet_move p) ≡ true
    → judging c (parse (context_of d c) s) ≡ accepted p (length s) (after c (packet_move p))
parses_judged {d} {s} r c a = sym (aside d c s max_places (omega arith)) ∙ parses_alone r c a max_places (parses_places r)

-- a packet in pieces whose fields are kept is written back as its bytes
kept_back : {c : Connection} {s buffer : List ℕ} {p : Packet} {m : Message} {own : List Field} {headers : List Header}
    {attributes : List Attribute} (kind : BuildingKind) → (let d = direction_of (building.built_kind kind) in
    Parses d s p → allowed c (packet_move p) ≡ true → in_state c (building.built_kind kind) ≡ true → length s ≤ length buffer
    → PiecesKept d s m own headers attributes → Writes c kind own headers attributes (message_bytes m) buffer (writing c m buffer)
    → WrittenBack d c s buffer m (length s) (after c (packet_move p)))
kept_back {c} {s} {buffer} {p} {m} kind r a in_state_lem fits kept writes =
    let d : Direction = direction_of (building.built_kind kind) in
    let size : length (message_bytes m) ≡ length s = ap length kept.bytes_are in
    let judged : judging c (parse (context_of d c) (message_bytes m)) ≡ accepted p (length s) (after c (packet_move p)) =
    ap (λ (l : List ℕ). judging c (parse (context_of d c) l)) kept.bytes_are ∙ parses_judged r c a in
    let written =
    writes p (length s) (after c (packet_move p)) kept.own_fine kept.headers_fine kept.attributes_fine kept.few
    (omega (arith, parses_most r, size)) (omega (arith, size)) in_state_lem judged in
    record {
      written = rw kept.bytes_are at written;
      fit = kept.fit;
      way = kept.way_is;
    }

-- back: a Forward that was read is written as its bytes
pub forward_back : (f : Forward) → Back (Packet.Forward f)
unfolding message_shown
forward_back f d c s table bytes r a room written buffer fits =
    own_way
    (λ q.
    let places = forward_table s table f q.fields_are in
    let kept = forward_kept s f bytes q in
    rw (places.0, places.1)
    (kept_back BuildingKind.Forward q a (both_first (in_state c Kind.Forward) true a) fits kept.2
    (rw kept.1 (forward_writes c kept.0 buffer))))
    r

-- and so is a Send Headers
pub send_headers_back : (h : SendHeaders) → Back (Packet.SendHeaders h)
unfolding message_shown
send_headers_back h d c s table bytes r a room written buffer fits =
    own_way
    (λ q.
    let kept = send_headers_kept s h bytes q in
    rw (send_headers_table s table h q.fields_are)
    (kept_back BuildingKind.SendHeaders q a (both_first (in_state c Kind.SendHeaders) true a) fits kept.2
    (rw kept.1 (send_headers_writes c kept.0 buffer))))
    r
