-- What each send owes: where it is done, the packet that it wrote makes the move of its call, the connection allowed it and is the one after
-- it now, and whoever allows the move at the other end reads the packet. A packet of one call parses as what was written; a packet that was
-- closed has been judged by the sender's own connection.
-- Assumes nothing.
use native.Mathlib.Omega.{arith}
use borrow.Author.Tests.{ne_eqb}
use mathlib.Core.Path.{◌≡◌, refl, sym, ap, subst, ◌∙◌}
use mathlib.Core.Bool.{Bool, true, false}
use mathlib.Core.List.{List, [], ◌∷◌}
use Prim.Native.Nat.{ℕ}
use lib.Dec.{eqb}
use lib.ListN.{length, drop, length-append}
use Rattle.wire.specs.Pick.{pick}
use Rattle.wire.specs.Bytes.{part}
use Rattle.packet.specs.declared.Direction.{Direction}
use Rattle.connection.specs.Cycle.{allowed, after}
use Rattle.connection.specs.declared.Connection.{Connection}
use Rattle.connection.specs.declared.Kind.{Kind}
use Rattle.connection.specs.declared.Move.{Move}
use Rattle.connection.proofs.Commute.{body_within}
use Rattle.places.specs.Entries.{max_places}
use Rattle.payload.specs.Body.{body_start, body_of_size}
use Rattle.payload.specs.Kinds.{packet_kind, packet_move}
use Rattle.packet.specs.declared.Packet as payload
use Rattle.building.specs.Call.{done}
use Rattle.building_record.specs.Record as pieces
use Rattle.building_record.specs.declared.BuildingKind.{BuildingKind}
use Rattle.building_record.specs.declared.Building.{Building}
use Rattle.building.specs.Sent.{Written}
use Rattle.writer.specs.Sending.{packet_of, bare_payload, body_payload, chunk_payload, get_payload, end_payload, bare_call, body_call, chunk_call, get_call, end_call}
use Rattle.reader.specs.Meaning.{accepted}
use Rattle.reader.specs.Reading.{read_as_body, reading}
use Rattle.closing.specs.Closing.{closed_packet, close_outcome, close_buffer}
use Rattle.closing.specs.Done.{CloseDone}
use Rattle.closing.proofs.Laws.{close_done}
use Rattle.messages.specs.Bytes.{message_bytes}
use Rattle.messages.proofs.Parses.{is_body, Parses, packet_as_body, none_due, AcceptedAs, accepted_parses, all_parses}
use Rattle.messages.proofs.OneCall as one
use Rattle.messages.proofs.OneCall.{OneWritten, done_written, cping_parses, cpong_parses, body_parses, chunk_parses, get_parses, end_parses}
use Rattle.sends.specs.Send.{record_of, Send, cping, body, close_forward, cpong, body_chunk, get_body, end, close_send_headers, call_direction, outcome_of, buffer_of, is_body_call, body_given}
use Rattle.two_ends_laws.specs.Past.{held_in}
use Rattle.two_ends_laws.specs.Made.{forward_told, move_of, packet_by, Made}
use Rattle.two_ends_laws.proofs.Packets.{ReadableAs, readable_as}

-- a packet that parses, sent by a call whose move it makes
made : (c : Connection) (call : Send) (bytes : List ℕ) (next : Connection) (p : payload.Packet) → Parses (call_direction call) bytes p
    → is_body (packet_kind p) ≡ is_body_call call → held_in (packet_by call bytes) ≡ body_given call → allowed c (packet_move p) ≡ true
    → next ≡ after c (packet_move p) → packet_move p ≡ move_of call p → Made c call bytes next
made c call bytes next p parses same holds allows steps is =
    let shown : ReadableAs (call_direction call) (packet_by call bytes) (packet_move p) p = readable_as parses (is_body_call call) same in
    record {
      move = packet_move p;
      allows = allows;
      steps = steps;
      readable = shown.readable;
      move_is = is ∙ ap (move_of call) (sym shown.tells_is);
      holds = holds;
    }

-- a packet that one call wrote
one_made : {c : Connection} {m : Move} {own buffer left : List ℕ} {w : Written} (call : Send) (p : payload.Packet)
    → OneWritten c m own buffer w left → packet_move p ≡ m → m ≡ move_of call p → Parses (call_direction call) (packet_of m own) p
    → is_body (packet_kind p) ≡ is_body_call call → held_in (packet_by call (packet_of m own)) ≡ body_given call
    → Made c call (part left 0 w.size) w.connection
one_made {c} {w = w} call p wrote e is parses same holds =
    subst (λ (bytes : List ℕ). Made c call bytes w.connection) (sym wrote.stands)
    (made c call _ w.connection p parses same holds (ap (allowed c) e ∙ wrote.allows) (wrote.steps ∙ ap (after c) (sym e)) (e ∙ is))

-- a Forward and a Send Headers, by their kinds: the moves that they make
forward_move_lem : (p : payload.Packet) → packet_kind p ≡ Kind.Forward → packet_move p ≡ Move.Forward (forward_told p)
forward_move_lem payload.Packet.CPing e = absurd (let z : ◌≡◌ {A = ℕ} 0 1 = cc in omega arith)
forward_move_lem payload.Packet.CPong e = absurd (let z : ◌≡◌ {A = ℕ} 0 1 = cc in omega arith)
forward_move_lem (payload.Packet.Forward f) e = refl
forward_move_lem (payload.Packet.Body p) e = absurd (let z : ◌≡◌ {A = ℕ} 0 1 = cc in omega arith)
forward_move_lem (payload.Packet.GetBody asked) e = absurd (let z : ◌≡◌ {A = ℕ} 0 1 = cc in omega arith)
forward_move_lem (payload.Packet.SendHeaders h) e = absurd (let z : ◌≡◌ {A = ℕ} 0 1 = cc in omega arith)
forward_move_lem (payload.Packet.BodyChunk p) e = absurd (let z : ◌≡◌ {A = ℕ} 0 1 = cc in omega arith)
forward_move_lem (payload.Packet.End reuse) e = absurd (let z : ◌≡◌ {A = ℕ} 0 1 = cc in omega arith)

headers_move : (p : payload.Packet) → packet_kind p ≡ Kind.SendHeaders → packet_move p ≡ Move.SendHeaders
headers_move payload.Packet.CPing e = absurd (let z : ◌≡◌ {A = ℕ} 0 1 = cc in omega arith)
headers_move payload.Packet.CPong e = absurd (let z : ◌≡◌ {A = ℕ} 0 1 = cc in omega arith)
headers_move (payload.Packet.Forward f) e = absurd (let z : ◌≡◌ {A = ℕ} 0 1 = cc in omega arith)
headers_move (payload.Packet.Body p) e = absurd (let z : ◌≡◌ {A = ℕ} 0 1 = cc in omega arith)
headers_move (payload.Packet.GetBody asked) e = absurd (let z : ◌≡◌ {A = ℕ} 0 1 = cc in omega arith)
headers_move (payload.Packet.SendHeaders h) e = refl
headers_move (payload.Packet.BodyChunk p) e = absurd (let z : ◌≡◌ {A = ℕ} 0 1 = cc in omega arith)
headers_move (payload.Packet.End reuse) e = absurd (let z : ◌≡◌ {A = ℕ} 0 1 = cc in omega arith)

-- a list with a byte in it is not empty
some_bytes : (byte : ℕ) (later : List ℕ) → eqb (length (byte ∷ later)) 0 ≡ false
some_bytes byte later = ne_eqb (length (byte ∷ later)) 0 (λ e. omega arith)

-- behind its size a body packet that was written holds the bytes that were given
body_held : (bytes : List ℕ) → drop body_start (packet_of (Move.Body (length bytes)) (body_payload bytes)) ≡ bytes
body_held [] = refl
body_held (byte ∷ later) = rw (some_bytes byte later)

-- a packet that the sender's own connection accepts at the end to which it goes
judged_made : (c : Connection) (call : Send) (bytes : List ℕ) (p : payload.Packet) (next : Connection)
    → reading (call_direction call) c bytes max_places ≡ accepted p (length bytes) next → read_as_body (call_direction call) c ≡ is_body_call call
    → held_in (packet_by call bytes) ≡ body_given call → packet_move p ≡ move_of call p → Made c call bytes next
judged_made c call bytes p next e same holds moves =
    let found : AcceptedAs (call_direction call) c bytes p (length bytes) next = accepted_parses (call_direction call) c bytes max_places p (length bytes) next e in
    let parses : Parses (call_direction call) bytes p = all_parses (call_direction call) c bytes max_places p next e in
    made c call bytes next p parses (sym (packet_as_body c (call_direction call) p parses.way found.allows) ∙ same) holds
    found.allows found.steps moves

-- a packet that was closed
close_made : (c : Connection) (call : Send) (r : Building) (buffer : List ℕ) (w : Written) → close_outcome c r buffer ≡ done w
    → call_direction call ≡ pieces.direction_in r → is_body_call call ≡ false → body_given call ≡ []
    → ((p : payload.Packet) → packet_kind p ≡ pieces.built_kind r.kind → packet_move p ≡ move_of call p)
    → Made c call (part (close_buffer c r buffer) 0 w.size) w.connection
close_made c call r buffer w e way other none moves =
    let d : CloseDone c r buffer w = close_done c r buffer w e in
    let bytes : List ℕ = closed_packet r buffer in
    let reads : reading (call_direction call) c bytes max_places ≡ accepted d.packet (length bytes) w.connection =
    ap (λ (x : Direction). reading x c bytes max_places) way ∙ d.reads max_places (omega arith)
    ∙ ap (λ (n : ℕ). accepted d.packet n w.connection) (sym d.packet_size) in
    let same : read_as_body (call_direction call) c ≡ is_body_call call =
    ap (λ (x : Direction). read_as_body x c) way ∙ none_due c r.kind d.ready.allowed ∙ sym other in
    let holds : held_in (packet_by call bytes) ≡ body_given call = ap (λ (t : Bool). pick t (drop body_start bytes) []) other ∙ sym none in
    subst (λ (l : List ℕ). Made c call l w.connection) (sym d.packet_is)
    (judged_made c call bytes d.packet w.connection reads same holds (moves d.packet d.kind_is))

-- what every send owes
pub send_made : (c : Connection) (call : Send) (w : Written) → outcome_of c call ≡ done w
    → Made c call (part (buffer_of c call) 0 w.size) w.connection
unfolding bare_call body_call chunk_call get_call end_call message_bytes
send_made c (cping buffer) w e =
    one_made (cping buffer) payload.Packet.CPing (done_written c Move.CPing (bare_payload Move.CPing) buffer w e) refl refl cping_parses refl refl
send_made c (body buffer bytes) w e =
    let wrote = done_written c (Move.Body (length bytes)) (body_payload bytes) buffer w e in
    one_made (body buffer bytes) (payload.Packet.Body (body_of_size (length bytes))) wrote refl refl
    (body_parses bytes (body_within c (length bytes) wrote.allows).of_packet) refl (body_held bytes)
send_made c (close_forward r buffer) w e =
    close_made c (close_forward r buffer) (record_of BuildingKind.Forward r) buffer w e refl refl refl forward_move_lem
send_made c (cpong buffer) w e =
    one_made (cpong buffer) payload.Packet.CPong (done_written c Move.CPong (bare_payload Move.CPong) buffer w e) refl refl cpong_parses refl refl
send_made c (body_chunk buffer bytes) w e =
    let wrote = done_written c (Move.BodyChunk (length bytes)) (chunk_payload bytes) buffer w e in
    one_made (body_chunk buffer bytes) (payload.Packet.BodyChunk (one.chunk_part bytes)) wrote refl refl
    (chunk_parses bytes (omega (arith, wrote.most, length-append bytes (0 ∷ [])))) refl refl
send_made c (get_body buffer asked small) w e =
    one_made (get_body buffer asked small) (payload.Packet.GetBody asked) (done_written c (Move.GetBody asked) (get_payload asked) buffer w e)
    refl refl (get_parses asked small) refl refl
send_made c (end buffer reuse) w e =
    one_made (end buffer reuse) (payload.Packet.End reuse) (done_written c (Move.End reuse) (end_payload reuse) buffer w e)
    refl refl (end_parses reuse) refl refl
send_made c (close_send_headers r buffer) w e =
    close_made c (close_send_headers r buffer) (record_of BuildingKind.SendHeaders r) buffer w e refl refl refl headers_move
