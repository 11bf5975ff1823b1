-- The packets that one call writes, there and back. The call is done exactly where the connection allows its move and the packet fits, and
-- then the packet stands in the buffer. Each of these packets parses as what was written, and each packet of these kinds that parses has
-- the bytes that are written for the message that it shows, but for the long form of an empty body packet.
-- Assumes nothing.
use native.Mathlib.Omega.{arith}
use borrow.Author.Tests.{le-ltb, eq-eqb, eqb-true}
use mathlib.Core.Path.{◌≡◌, refl, sym, ap, subst, ◌∙◌}
use mathlib.Core.Bool.{Bool, true, false, false≢true}
use mathlib.Core.List.{List, [], ◌∷◌, ◌++◌}
use Prim.Native.Nat.{ℕ, ◌+◌, ◌≤◌, ◌<◌}
use lib.Dec.{leb, eqb}
use lib.ListN.{length, get_or, drop, length-append}
use lib.Seq.{take-length, get_or-append_seam, get_or-append-add}
use Rattle.wire.specs.Pick.{pick}
use Rattle.wire.specs.Bytes.{part, over, integer_in, integer_bytes}
use Rattle.wire.specs.Field.{byte_at, integer_at, boolean_at, boolean_bytes}
use Rattle.wire.specs.Packet.{packet_head, packet, payload_place, after_code_place}
use Rattle.packet.specs.declared.Direction.{Direction}
use Rattle.wire.specs.Read.{NumberRead}
use Rattle.wire.proofs.Tests.{both_first, both_second}
use Rattle.wire.proofs.Bytes.{length_part, part_middle, part_add}
use Rattle.wire.proofs.RoundTrip.{integer_written, integer_kept}
use Rattle.wire.specs.Facts.{Bytes}
use Rattle.wire.proofs.Parts.{part_zero, rest_part, stands_there}
use Rattle.wire.specs.Refusal.{cut_short, body_size_wrong, not_now}
use Rattle.connection.specs.Cycle.{move_kind, direction_of, in_state, in_size, allowed, after}
use Rattle.connection.specs.declared.Connection.{Connection}
use Rattle.connection.specs.declared.Kind.{Kind}
use Rattle.connection.specs.declared.Move.{Move}
use Rattle.connection.specs.Connection.{max_body, max_packet}
use Rattle.payload.specs.Kinds.{packet_kind, packet_move}
use Rattle.payload.specs.Packet.{part_from}
use Rattle.payload.specs.Code.{code_of, kind_at}
use Rattle.payload.specs.End.{end_at}
use Rattle.payload.specs.Body.{body_start, body_of_size, body_at}
use Rattle.payload.specs.BodyChunk.{chunk_start}
use Rattle.packet.specs.declared.Part.{Part}
use Rattle.packet.specs.declared.Packet.{Packet}
use Rattle.payload.specs.Read.{PacketRead}
use Rattle.payload.proofs.Laws.{get_is, chunk_is, chunk_closed, body_is, body_sized, sized_by}
use Rattle.payload.specs.Handed.{BareHanded}
use Rattle.payload.proofs.Handed.{bare_handed, get_handed, end_handed, body_handed_lem, chunk_handed}
use Rattle.building.specs.Field.{opening}
use Rattle.building.specs.Call.{Call, refused, done, refusal_of, outcome_by, outcome, buffer_after}
use Rattle.building.proofs.Sizes.{unless_none}
use Rattle.building.proofs.Calls.{done_own, done_fits, after_written, fits_done}
use Rattle.building.proofs.Faults.{faultless}
use Rattle.building.specs.Sent.{Written}
use Rattle.writer.specs.Sending.{packet_of, sending_faults, sending, body_payload, chunk_payload, bare_call, body_call, chunk_call, get_call, end_call}
use Rattle.messages.specs.Message as messages
use Rattle.messages.specs.Message.{Message, cping, cpong, forward, body, get_body, send_headers, body_chunk, end, message_direction, Fit}
use Rattle.messages.specs.Bytes.{payload_of, message_bytes}
use Rattle.messages.specs.Writing.{wrote, wrote_by, one_call, writing}
use Rattle.messages.specs.Shown.{message_shown}
use Rattle.messages.specs.ReadOnly.{long_empty, same_bytes, is_read_only}
use Rattle.messages.proofs.SameBytes.{same_self}
use Rattle.messages.proofs.Frames.{frame_written, head_kept}
use Rattle.messages.proofs.Parses.{is_body, Parses, parses_most, coded_parses, coded_kept}
use Rattle.messages.proofs.Tables.{table_of}
use Rattle.messages.proofs.FieldsKept.{Held, held_none, held_byte, held_part, held_join, held_rest, integer_held, boolean_held}
use Rattle.messages.proofs.RoundTrip.{Forth, Back, wrote_done, Shows, Stands, stands_back}

-- a call that is done: there was no fault, and its answer is the one given
answered_done : (fault : ℕ) (v w : Written) → outcome_by fault v ≡ done w → (fault ≡ 0) × (v ≡ w)
answered_done fault v w = go (eqb fault 0) refl
  where
    go : (t : Bool) → eqb fault 0 ≡ t → pick t (done v) (refused fault) ≡ done w → (fault ≡ 0) × (v ≡ w)
    go true p e = (eqb-true fault 0 p, cc)
    go false p e = absurd (let z : ◌≡◌ {A = ℕ} 0 1 = cc in omega arith)

-- what a call that wrote a packet has done
pub record OneWritten (c : Connection) (m : Move) (payload buffer : List ℕ) (w : Written) (left : List ℕ) : Type 0 where
  pub allows : allowed c m ≡ true
  pub most : length (packet_of m payload) ≤ max_packet
  pub room : length (packet_of m payload) ≤ length buffer
  pub size : w.size ≡ length (packet_of m payload)
  pub steps : w.connection ≡ after c m
  pub buffer_is : left ≡ over buffer 0 (packet_of m payload)
  pub stands : part left 0 w.size ≡ packet_of m payload

module _ (c : Connection) (m : Move) (payload buffer : List ℕ) where
  -- by what the call comes to
  pub done_written : (w : Written) → outcome (sending c m payload) (length buffer) ≡ done w
      → OneWritten c m payload buffer w (buffer_after (sending c m payload) buffer)
  unfolding outcome
  done_written w e =
      let call : Call Written = sending c m payload in
      let d = answered_done (refusal_of call (length buffer)) call.answer w e in
      let fine = faultless (sending_faults c m) (done_own call buffer (refusal_of call (length buffer)) refl d.0) in
      let state : in_state c (move_kind m) ≡ true = unless_none (in_state c (move_kind m)) not_now (omega arith) fine.0 in
      let size : in_size c m ≡ true = unless_none (in_size c m) body_size_wrong (omega arith) fine.1.0 in
      let fits = done_fits call buffer (refusal_of call (length buffer)) refl d.0 in
      let own : List ℕ = packet_of m payload in
      let length_is : w.size ≡ length own = ap (λ (v : Written). v.size) (sym d.1) in
      let buffer_is : buffer_after call buffer ≡ over buffer 0 own = after_written call buffer d.0 in
      record {
        allows = rw (state, size);
        most = omega (arith, fits.1);
        room = omega (arith, fits.0);
        size = length_is;
        steps = ap (λ (v : Written). v.connection) (sym d.1);
        buffer_is = buffer_is;
        stands = stands_there own buffer (buffer_after call buffer) w.size length_is buffer_is (omega (arith, fits.0));
      }

  -- and by what it leaves
  pub one_written : (w : Written) (left : List ℕ) → one_call (sending c m payload) buffer ≡ wrote w left → OneWritten c m payload buffer w left
  one_written w left e =
      let call : Call Written = sending c m payload in
      let d = wrote_done (buffer_after call buffer) (outcome call (length buffer)) e in
      subst (OneWritten c m payload buffer w) d.1 (done_written w d.0)

  -- the call is done where the connection allows its move and the packet fits, and then it leaves the packet at the start of the buffer
  pub one_done : allowed c m ≡ true → length (packet_of m payload) ≤ max_packet → length (packet_of m payload) ≤ length buffer
      → one_call (sending c m payload) buffer
      ≡ wrote (record { size = length (packet_of m payload); connection = after c m }) (over buffer 0 (packet_of m payload))
  one_done a most room =
      let call : Call Written = sending c m payload in
      let state : in_state c (move_kind m) ≡ true = both_first (in_state c (move_kind m)) (in_size c m) a in
      let size : in_size c m ≡ true = both_second (in_state c (move_kind m)) (in_size c m) a in
      let e : outcome call (length buffer) ≡ done call.answer = fits_done call (length buffer) (rw (state, size)) (omega arith) (omega arith) in
      ap (wrote_by (buffer_after call buffer)) e ∙ ap (wrote call.answer) (done_written call.answer e).buffer_is

-- CPing parses
pub cping_parses : Parses Direction.ToContainer (message_bytes cping) Packet.CPing
unfolding message_bytes
cping_parses = coded_parses Packet.CPing [] refl (omega arith) refl

-- CPong parses
pub cpong_parses : Parses Direction.ToServer (message_bytes cpong) Packet.CPong
unfolding message_bytes
cpong_parses = coded_parses Packet.CPong [] refl (omega arith) refl

-- so does a Get Body Chunk, with what it asks for
pub get_parses : (asked : ℕ) → asked < 65536 → Parses Direction.ToServer (message_bytes (get_body asked)) (Packet.GetBody asked)
unfolding message_bytes
get_parses asked small =
    coded_parses (Packet.GetBody asked) (integer_bytes asked) refl (omega arith)
    (get_is _ (NumberRead.Number asked (after_code_place + 2)) (integer_written (opening Kind.GetBody 3) [] asked small))

-- and an End, with whether the connection is used again
pub end_parses : (reuse : Bool) → Parses Direction.ToServer (message_bytes (end reuse)) (Packet.End reuse)
unfolding message_bytes end_at boolean_at byte_at
end_parses true = coded_parses (Packet.End true) (boolean_bytes true) refl (omega arith) refl
end_parses false = coded_parses (Packet.End false) (boolean_bytes false) refl (omega arith) refl

-- where the bytes of a chunk stand
abbrev pub chunk_part : List ℕ → Part
chunk_part bytes = part_from chunk_start (length bytes)

-- a chunk parses
pub chunk_parses : (bytes : List ℕ) → length bytes + 1 + chunk_start ≤ max_packet
    → Parses Direction.ToServer (message_bytes (body_chunk bytes)) (Packet.BodyChunk (chunk_part bytes))
unfolding message_bytes
chunk_parses bytes most =
    let n : ℕ = length bytes in
    let rest : List ℕ = bytes ++ (0 ∷ []) in
    let s : List ℕ = packet Direction.ToServer (payload_of (body_chunk bytes)) in
    let front : List ℕ = opening Kind.BodyChunk (length (payload_of (body_chunk bytes))) in
    let behind : length rest ≡ n + 1 = length-append bytes (0 ∷ []) in
    let zero : get_or s (chunk_start + n) 0 ≡ 0 = get_or-append-add (front ++ integer_bytes n) rest n 0 ∙ get_or-append_seam bytes 0 [] 0 in
    let size : eqb (chunk_start + n + 1) (length s) ≡ true = eq-eqb (chunk_start + n + 1) (length s) (omega arith) in
    coded_parses (Packet.BodyChunk (chunk_part bytes)) (integer_bytes n ++ rest) refl (omega arith)
    (chunk_is s (NumberRead.Number n chunk_start) (integer_written front rest n (omega arith))
    ∙ sym (chunk_closed s n (omega arith) zero)
    ∙ rw size)

-- and its bytes stand there
chunk_stands : (bytes : List ℕ) → part (message_bytes (body_chunk bytes)) chunk_start (length bytes) ≡ bytes
unfolding message_bytes
chunk_stands bytes =
    part_middle (opening Kind.BodyChunk (length (payload_of (body_chunk bytes))) ++ integer_bytes (length bytes)) bytes (0 ∷ [])

-- a body packet with a size, which may be 0
sized_fields : (bytes : List ℕ) → length bytes ≤ max_body
    → body_at (packet Direction.ToContainer (integer_bytes (length bytes) ++ bytes)) ≡ PacketRead.Packet (Packet.Body (body_of_size (length bytes)))
sized_fields bytes most =
    let n : ℕ = length bytes in
    let s : List ℕ = packet Direction.ToContainer (integer_bytes n ++ bytes) in
    body_sized s (NumberRead.Number n body_start) (omega arith)
    (integer_written (packet_head Direction.ToContainer (length (integer_bytes n ++ bytes))) bytes n (omega arith))
    ∙ sym (sized_by (length s) n false false (le-ltb (length s) (body_start + n) (omega arith)) (le-ltb (body_start + n) (length s) (omega arith)))

-- it parses
pub sized_parses : (bytes : List ℕ) → length bytes ≤ max_body
    → Parses Direction.ToContainer (packet Direction.ToContainer (integer_bytes (length bytes) ++ bytes)) (Packet.Body (body_of_size (length bytes)))
unfolding kind_at
sized_parses bytes most = record {
  way = refl;
  whole_is = frame_written Direction.ToContainer (integer_bytes (length bytes) ++ bytes) (omega arith);
  kind_is = refl;
  fields_are = sized_fields bytes most;
}

-- so does the one without a payload
pub empty_parses : Parses Direction.ToContainer (packet Direction.ToContainer []) (Packet.Body (body_of_size 0))
unfolding kind_at
empty_parses = record {
  way = refl;
  whole_is = frame_written Direction.ToContainer [] (omega arith);
  kind_is = refl;
  fields_are = body_is (packet Direction.ToContainer []) true _ refl refl;
}

-- a body packet as it is written parses
pub body_parses : (bytes : List ℕ) → length bytes ≤ max_body
    → Parses Direction.ToContainer (message_bytes (body bytes)) (Packet.Body (body_of_size (length bytes)))
unfolding message_bytes
body_parses bytes most = go (eqb (length bytes) 0) refl
  where
    go : (t : Bool) → eqb (length bytes) 0 ≡ t
        → Parses Direction.ToContainer (packet Direction.ToContainer (pick t [] (integer_bytes (length bytes) ++ bytes)))
        (Packet.Body (body_of_size (length bytes)))
    go true e =
        subst (λ (n : ℕ). Parses Direction.ToContainer (packet Direction.ToContainer []) (Packet.Body (body_of_size n)))
        (sym (eqb-true (length bytes) 0 e)) empty_parses
    go false e = sized_parses bytes most

-- a list without elements
none_there : (l : List ℕ) → length l ≡ 0 → l ≡ []
none_there [] e = refl
none_there (x ∷ l) e = absurd (omega (arith, e))

-- and its bytes stand there
body_stands : (bytes : List ℕ) → part (message_bytes (body bytes)) (body_of_size (length bytes)).start.0 (length bytes) ≡ bytes
unfolding message_bytes part
body_stands bytes = go (eqb (length bytes) 0) refl
  where
    go : (t : Bool) → eqb (length bytes) 0 ≡ t
        → part (packet Direction.ToContainer (pick t [] (integer_bytes (length bytes) ++ bytes))) (pick t payload_place body_start) (length bytes) ≡ bytes
    go true e =
        subst (λ (l : List ℕ). part (packet Direction.ToContainer []) payload_place (length l) ≡ l)
        (sym (none_there bytes (eqb-true (length bytes) 0 e))) refl
    go false e = take-length bytes

-- bytes whose body packet fits a packet's size
body_most : (bytes : List ℕ) → length (message_bytes (body bytes)) ≤ max_packet → length bytes ≤ max_body
unfolding message_bytes
body_most bytes = go (eqb (length bytes) 0) refl
  where
    go : (t : Bool) → eqb (length bytes) 0 ≡ t → length (packet Direction.ToContainer (pick t [] (integer_bytes (length bytes) ++ bytes))) ≤ max_packet
        → length bytes ≤ max_body
    go true e h = omega (arith, eqb-true (length bytes) 0 e)
    go false e h = omega arith

-- bytes whose chunk does
pub chunk_most : (bytes : List ℕ) → length (message_bytes (body_chunk bytes)) ≤ max_packet → length bytes + 1 + chunk_start ≤ max_packet
unfolding message_bytes
chunk_most bytes h = omega (arith, h, length-append bytes (0 ∷ []))

-- a message is written by one call: the call that makes a packet's move with the message's payload
pub record Calls (m : Message) (p : Packet) : Type 0 where
  pub call_is : (c : Connection) (buffer : List ℕ) → writing c m buffer ≡ one_call (sending c (packet_move p) (payload_of m)) buffer
  pub bytes_are : packet_of (packet_move p) (payload_of m) ≡ message_bytes m

-- CPing is
cping_calls : Calls cping Packet.CPing
unfolding writing bare_call message_bytes
cping_calls = record { call_is = λ c buffer. refl; bytes_are = refl }

-- CPong is
cpong_calls : Calls cpong Packet.CPong
unfolding writing bare_call message_bytes
cpong_calls = record { call_is = λ c buffer. refl; bytes_are = refl }

-- so is Get Body Chunk
get_calls : (asked : ℕ) → Calls (get_body asked) (Packet.GetBody asked)
unfolding writing get_call message_bytes
get_calls asked = record { call_is = λ c buffer. refl; bytes_are = refl }

-- and End
end_calls : (reuse : Bool) → Calls (end reuse) (Packet.End reuse)
unfolding writing end_call message_bytes
end_calls reuse = record { call_is = λ c buffer. refl; bytes_are = refl }

-- a body packet is, with as many bytes as the part has
pub body_calls : (bytes : List ℕ) (p : Part) → length bytes ≡ p.len → Calls (body bytes) (Packet.Body p)
unfolding writing body_call message_bytes
body_calls bytes p e = record {
  call_is = λ c buffer. ap (λ (k : ℕ). one_call (sending c (Move.Body k) (body_payload bytes)) buffer) e;
  bytes_are = refl;
}

-- and so is a chunk
chunk_calls : (bytes : List ℕ) (p : Part) → length bytes ≡ p.len → Calls (body_chunk bytes) (Packet.BodyChunk p)
unfolding writing chunk_call message_bytes
chunk_calls bytes p e = record {
  call_is = λ c buffer. ap (λ (k : ℕ). one_call (sending c (Move.BodyChunk k) (chunk_payload bytes)) buffer) e;
  bytes_are = refl;
}

-- a kind that one call writes
abbrev pub IsOne : Kind → Type 0
IsOne Kind.CPing = Unit
IsOne Kind.CPong = Unit
IsOne Kind.Forward = ⊥
IsOne Kind.Body = Unit
IsOne Kind.GetBody = Unit
IsOne Kind.SendHeaders = ⊥
IsOne Kind.BodyChunk = Unit
IsOne Kind.End = Unit

-- a message of such a kind as a packet: it is written by its call, parses where it fits, and shows the message
pub record OnePacket (m : Message) : Type 0 where
  pub packet : Packet
  pub calls : Calls m packet
  pub parses : length (message_bytes m) ≤ max_packet → Parses (message_direction m) (message_bytes m) packet
  pub shows : Shows packet (message_bytes m) m

-- each such message has such a packet
pub one_packet : (m : Message) → IsOne (messages.message_kind m) → Fit m → OnePacket m
unfolding message_shown
one_packet cping one fit = record {
  packet = Packet.CPing;
  calls = cping_calls;
  parses = λ h. cping_parses;
  shows = record { asks = refl; shown = λ table. refl };
}
one_packet cpong one fit = record {
  packet = Packet.CPong;
  calls = cpong_calls;
  parses = λ h. cpong_parses;
  shows = record { asks = refl; shown = λ table. refl };
}
one_packet (forward request) one fit = absurd one
one_packet (body bytes) one fit = record {
  packet = Packet.Body (body_of_size (length bytes));
  calls = body_calls bytes (body_of_size (length bytes)) refl;
  parses = λ h. body_parses bytes (body_most bytes h);
  shows = record { asks = refl; shown = λ table. ap body (body_stands bytes) };
}
one_packet (get_body asked) one fit = record {
  packet = Packet.GetBody asked;
  calls = get_calls asked;
  parses = λ h. get_parses asked fit;
  shows = record { asks = refl; shown = λ table. refl };
}
one_packet (send_headers response) one fit = absurd one
one_packet (body_chunk bytes) one fit = record {
  packet = Packet.BodyChunk (chunk_part bytes);
  calls = chunk_calls bytes (chunk_part bytes) refl;
  parses = λ h. chunk_parses bytes (chunk_most bytes h);
  shows = record { asks = refl; shown = λ table. ap body_chunk (chunk_stands bytes) };
}
one_packet (end reuse) one fit = record {
  packet = Packet.End reuse;
  calls = end_calls reuse;
  parses = λ h. end_parses reuse;
  shows = record { asks = refl; shown = λ table. refl };
}

-- what a call wrote stands at the start of the buffer
one_stands : {m : Message} (k : OnePacket m) {c : Connection} {buffer left : List ℕ} {w : Written}
    → OneWritten c (packet_move k.packet) (payload_of m) buffer w left → Stands m c w left
one_stands {m} k {c} {buffer} {left} {w} o =
    let own : message_bytes m ≡ part left 0 w.size = sym (o.stands ∙ k.calls.bytes_are) in
    record {
      packet = k.packet;
      size = ap length o.stands ∙ sym o.size;
      parses = rw (← own) (k.parses (rw k.calls.bytes_are at o.most));
      allows = o.allows;
      steps = sym o.steps;
      shows = rw (← own) k.shows;
    }

-- and reads back
pub one_forth : (m : Message) → IsOne (messages.message_kind m) → Forth m
one_forth m one c buffer w left fit e =
    let k = one_packet m one fit in
    stands_back (one_stands k (one_written c (packet_move k.packet) (payload_of m) buffer w left (sym (k.calls.call_is c buffer) ∙ e)))

-- what a body packet was read from: nothing behind the packet's head, or a size and so many bytes, which may be none
pub data BodyRead (s : List ℕ) : Part → Type 0 where
  empty : length s ≡ payload_place → BodyRead s (body_of_size 0)
  sized : (n : ℕ) → integer_in s payload_place ≡ n → length s ≡ body_start + n → BodyRead s (body_of_size n)

-- a part, by its start and its length
part_same : (p : Part) (start len : ℕ) → p.start.0 ≡ start → p.len ≡ len → part_from start len ≡ p
part_same p start len e f = rw (← e, ← f)

-- a body packet was read from one of the two
pub body_read : (s : List ℕ) (p : Part) → body_at s ≡ PacketRead.Packet (Packet.Body p) → BodyRead s p
unfolding integer_at
body_read s p e =
    let h = body_handed_lem s p e in
    go (eqb (length s) payload_place) (leb body_start (length s)) h.behind refl h.size_read h.rest h.start_is
  where
    go : (t u : Bool) (behind : ℕ) → eqb (length s) payload_place ≡ t
        → pick t (NumberRead.Number 0 payload_place) (pick u (NumberRead.Number (integer_in s payload_place) body_start) (NumberRead.Refused cut_short))
        ≡ NumberRead.Number p.len behind
        → behind + p.len ≡ length s → p.start.0 ≡ pick (eqb p.len 0) payload_place behind → BodyRead s p
    go true u behind none read all starts =
        let long : p.len ≡ 0 = cc in
        let first : p.start.0 ≡ payload_place = starts ∙ ap (λ (n : ℕ). pick (eqb n 0) payload_place behind) long in
        subst (BodyRead s) (part_same p payload_place 0 first long) (empty (eqb-true (length s) payload_place none))
    go false true behind some read all starts =
        let long : p.len ≡ integer_in s payload_place = cc in
        let place : behind ≡ body_start = cc in
        let first : p.start.0 ≡ pick (eqb (integer_in s payload_place) 0) payload_place body_start = starts ∙ rw (long, place) in
        subst (BodyRead s) (part_same p (pick (eqb (integer_in s payload_place) 0) payload_place body_start) (integer_in s payload_place) first long)
        (sized (integer_in s payload_place) refl (omega (arith, long, place, all)))
    go false false behind some read all starts = absurd (let z : ◌≡◌ {A = ℕ} 0 1 = cc in omega arith)

-- behind its head a body packet that tells its size has the size and the bytes
sized_payload : (s : List ℕ) (n : ℕ) → Bytes s → integer_in s payload_place ≡ n → length s ≡ body_start + n
    → drop payload_place s ≡ integer_bytes n ++ part s body_start n
sized_payload s n bytes e size =
    rest_part s payload_place (2 + n) (omega (arith, size)) ∙ part_add s payload_place 2 n
    ∙ rw (integer_kept s payload_place bytes (omega (arith, size)), e)

-- the long form of an empty body packet is a size of 0 and nothing behind it
long_is : (s : List ℕ) → Bytes s → s ≡ packet Direction.ToContainer (drop payload_place s) → integer_in s payload_place ≡ 0
    → length s ≡ body_start → s ≡ long_empty
long_is s bytes head e size =
    head ∙ ap (packet Direction.ToContainer) (sized_payload s 0 bytes e size ∙ ap (λ (l : List ℕ). integer_bytes 0 ++ l) (part_zero s body_start))

-- the payload of a body packet is that of its bytes, unless it is the long form of an empty one
body_payload_lem : {s : List ℕ} {p : Part} → Bytes s → s ≡ packet Direction.ToContainer (drop payload_place s) → same_bytes s long_empty ≡ false
    → BodyRead s p → (drop payload_place s ≡ body_payload (part s p.start.0 p.len)) × (length (part s p.start.0 p.len) ≡ p.len)
body_payload_lem {s} bytes head other (empty e) =
    rw (part_zero s payload_place) (rest_part s payload_place 0 (omega (arith, e)) ∙ part_zero s payload_place, refl)
body_payload_lem {s} bytes head other (sized n e size) = go (eqb n 0) refl
  where
    go : (t : Bool) → eqb n 0 ≡ t
        → (drop payload_place s ≡ body_payload (part s (pick t payload_place body_start) n)) × (length (part s (pick t payload_place body_start) n) ≡ n)
    go true none =
        let zero : n ≡ 0 = eqb-true n 0 none in
        let same : s ≡ long_empty = long_is s bytes head (e ∙ zero) (omega (arith, size, zero)) in
        absurd (false≢true (sym other ∙ ap (λ (l : List ℕ). same_bytes l long_empty) same ∙ same_self long_empty))
    go false some =
        let long : length (part s body_start n) ≡ n = length_part s body_start n (omega (arith, size)) in
        (sized_payload s n bytes e size ∙ rw (long, some), long)

-- a packet with a code, and these bytes behind it
behind_kept : {d : Direction} {s : List ℕ} {p : Packet} → Parses d s p → is_body (packet_kind p) ≡ false → Bytes s
    → (behind : List ℕ) → Held s after_code_place (length s) behind → s ≡ packet (direction_of (packet_kind p)) (code_of (packet_kind p) ∷ behind)
behind_kept {d} {s} {p} r b bytes behind h =
    coded_kept r b bytes ∙ ap (λ (l : List ℕ). packet (direction_of (packet_kind p)) (code_of (packet_kind p) ∷ l)) (held_rest s after_code_place behind h)

-- nothing stands behind the code
bare_held : (s : List ℕ) → BareHanded s [] → Held s after_code_place (length s) []
bare_held s h = subst (λ (at : ℕ). Held s at (length s) []) h.ends (held_none s (length s) (omega arith))

module _ {d : Direction} {s : List ℕ} (bytes : Bytes s) where
  -- the bytes of CPing
  cping_kept : Parses d s Packet.CPing → s ≡ message_bytes cping
  unfolding message_bytes
  cping_kept r = behind_kept r refl bytes [] (bare_held s (bare_handed s Packet.CPing r.fields_are))

  -- of CPong
  cpong_kept : Parses d s Packet.CPong → s ≡ message_bytes cpong
  unfolding message_bytes
  cpong_kept r = behind_kept r refl bytes [] (bare_held s (bare_handed s Packet.CPong r.fields_are))

  -- of a Get Body Chunk, which asks for an integer
  get_kept : (asked : ℕ) → Parses d s (Packet.GetBody asked) → (s ≡ message_bytes (get_body asked)) × (asked < 65536)
  unfolding message_bytes
  get_kept asked r =
      let k = integer_held s after_code_place asked (length s) bytes (get_handed s asked r.fields_are).asked_read in
      (behind_kept r refl bytes (integer_bytes asked) k.0, k.1)

  -- of an End
  end_kept : (reuse : Bool) → Parses d s (Packet.End reuse) → s ≡ message_bytes (end reuse)
  unfolding message_bytes
  end_kept reuse r =
      behind_kept r refl bytes (boolean_bytes reuse)
      (boolean_held s after_code_place reuse (length s) (end_handed s reuse r.fields_are).reuse_read)

  -- of a chunk
  chunk_kept : (p : Part) → Parses d s (Packet.BodyChunk p)
      → (s ≡ message_bytes (body_chunk (part s p.start.0 p.len))) × (length (part s p.start.0 p.len) ≡ p.len)
  unfolding message_bytes
  chunk_kept p r =
      let h = chunk_handed s p r.fields_are in
      let start : ℕ = p.start.0 in
      let n : ℕ = p.len in
      let size : length (part s start n) ≡ n = length_part s start n (omega (arith, h.rest)) in
      let zero : Held s (start + n) (length s) (0 ∷ []) =
      rw (← h.rest, ← h.closed) (held_byte s (start + n) (omega (arith, h.rest))) in
      let own = held_join (held_part s start n (omega (arith, h.rest))) zero in
      let behind : Held s after_code_place (length s) (integer_bytes (length (part s start n)) ++ (part s start n ++ (0 ∷ []))) =
      rw size (held_join (integer_held s after_code_place n start bytes h.size_read).0 own) in
      (behind_kept r refl bytes _ behind, size)

  -- a body packet is its head and its payload
  body_head : (p : Part) → Parses d s (Packet.Body p) → s ≡ packet Direction.ToContainer (drop payload_place s)
  body_head p r =
      head_kept d s (length s) bytes r.whole_is refl ∙ ap (λ (way : Direction). packet way (drop payload_place s)) (sym r.way)

  -- of a body packet other than the long form of an empty one
  body_kept : (p : Part) → Parses d s (Packet.Body p) → same_bytes s long_empty ≡ false
      → (s ≡ message_bytes (body (part s p.start.0 p.len))) × (length (part s p.start.0 p.len) ≡ p.len)
  unfolding message_bytes
  body_kept p r other =
      let head = body_head p r in
      let f = body_payload_lem bytes head other (body_read s p r.fields_are) in
      (head ∙ ap (packet Direction.ToContainer) f.0, f.1)

-- a packet of such a kind as a message: it has the message's bytes, and its call writes it
record OneShown (d : Direction) (s : List ℕ) (p : Packet) (m : Message) : Type 0 where
  pub calls : Calls m p
  pub kept : s ≡ message_bytes m
  pub fit : Fit m
  pub way : message_direction m ≡ d

-- each such packet that is not only read shows such a message
one_shown : (d : Direction) (s table : List ℕ) (p : Packet) → IsOne (packet_kind p) → Bytes s → Parses d s p
    → is_read_only (message_shown p s table) s ≡ false → OneShown d s p (message_shown p s table)
unfolding message_shown
one_shown d s table Packet.CPing one bytes r written = record { calls = cping_calls; kept = cping_kept bytes r; fit = tt; way = r.way }
one_shown d s table Packet.CPong one bytes r written = record { calls = cpong_calls; kept = cpong_kept bytes r; fit = tt; way = r.way }
one_shown d s table (Packet.Forward f) one bytes r written = absurd one
one_shown d s table (Packet.Body p) one bytes r written =
    let k = body_kept bytes p r written in
    record { calls = body_calls (part s p.start.0 p.len) p k.1; kept = k.0; fit = tt; way = r.way }
one_shown d s table (Packet.GetBody asked) one bytes r written =
    let k = get_kept bytes asked r in
    record { calls = get_calls asked; kept = k.0; fit = k.1; way = r.way }
one_shown d s table (Packet.SendHeaders h) one bytes r written = absurd one
one_shown d s table (Packet.BodyChunk p) one bytes r written =
    let k = chunk_kept bytes p r in
    record { calls = chunk_calls (part s p.start.0 p.len) p k.1; kept = k.0; fit = tt; way = r.way }
one_shown d s table (Packet.End reuse) one bytes r written = record { calls = end_calls reuse; kept = end_kept bytes reuse r; fit = tt; way = r.way }

-- a packet that one call writes, once read, is written back
pub one_back : (p : Packet) → IsOne (packet_kind p) → Back p
one_back p one d c s table bytes r a places written buffer room =
    let m : Message = message_shown p s (table_of p s table) in
    let k = one_shown d s (table_of p s table) p one bytes r written in
    let same : packet_of (packet_move p) (payload_of m) ≡ s = k.calls.bytes_are ∙ sym k.kept in
    let most : length (packet_of (packet_move p) (payload_of m)) ≤ max_packet = rw same (parses_most r) in
    let fits : length (packet_of (packet_move p) (payload_of m)) ≤ length buffer = rw same room in
    record {
      written = k.calls.call_is c buffer ∙ one_done c (packet_move p) (payload_of m) buffer a most fits
          ∙ ap (λ (l : List ℕ). wrote (record { size = length l; connection = after c (packet_move p) }) (over buffer 0 l)) same;
      fit = k.fit;
      way = k.way;
    }
