-- A packet that is written in pieces is, byte for byte, the packet of its message, and it is written wherever no piece has a fault, it fits and
-- it is judged good: the pieces write all of it but the count, the length and the last byte, and closing sets these where they belong.
-- Assumes nothing.
use native.Mathlib.Omega.{arith}
use native.Mathlib.Nat.{zero-add}
use mathlib.Core.Path.{◌≡◌, refl, sym, ap, subst, ◌∙◌}
use mathlib.Core.Bool.{Bool, true, false}
use mathlib.Core.List.{List, [], ◌∷◌, ◌++◌, append_assoc}
use Prim.Native.Nat.{ℕ, ◌+◌, ◌-◌, ◌≤◌}
use lib.ListN.{length, length-append}
use Rattle.wire.specs.Bytes.{over, part, integer_bytes}
use Rattle.wire.specs.Packet.{leading, packet_head, packet, after_code_place, payload_place}
use Rattle.packet.specs.declared.Direction.{Direction}
use Rattle.packet.specs.declared.Packet.{Packet}
use Rattle.wire.proofs.Bytes.{length_over, over_over, over_there}
use Rattle.wire.proofs.Field.{length_leading, head_four}
use Rattle.wire.proofs.Parts.{over_inside}
use Rattle.connection.specs.Cycle.{direction_of, in_state}
use Rattle.connection.specs.declared.Connection.{Connection}
use Rattle.connection.specs.Connection.{max_packet}
use Rattle.places.specs.Entries.{max_headers}
use Rattle.payload.specs.Code.{code_of}
use Rattle.building.specs.Field.{Field, opening, fields_bytes}
use Rattle.building.proofs.Rows.{bytes_append}
use Rattle.building_record.specs.Record.{built_kind, building_fields}
use Rattle.pieces.specs.Fixed.{unset, fixed, fixed_call, forward_call, send_headers_call}
use Rattle.building_record.specs.declared.BuildingKind.{BuildingKind}
use Rattle.building_record.specs.declared.Building.{Building}
use Rattle.building_record.proofs.Laws.{possible_yes}
use Rattle.building.specs.Sent.{Written}
use Rattle.reader.specs.Meaning.{accepted}
use Rattle.reader.specs.Reading.{parse, context_of, judging}
use Rattle.closing.specs.Closing.{last_bytes, closed_length, closed, closed_packet, judgement, close_outcome, close_buffer}
use Rattle.closing.specs.Done.{Ready, CloseDone}
use Rattle.closing.proofs.Laws.{close_done, done_close}
use Rattle.messages.specs.Message.{Header, Attribute, Request, Response, forward, send_headers}
use Rattle.messages.specs.Bytes.{headers_bytes, attributes_bytes, request_fields, response_fields, pieces_payload, message_bytes}
use Rattle.messages.specs.Writing.{Built, piece, add_headers, add_attributes, Wrote, wrote, wrote_by, close_built, in_pieces, writing}
use Rattle.messages.proofs.Fine.{FieldsFine, HeadersFine, AttributesFine}
use Rattle.messages.proofs.Fixed.{opening_five}
use Rattle.messages.proofs.RoundTrip.{unwritten_never, wrote_done}
use Rattle.messages.proofs.PieceByPiece.{Unstopped, Reached, reached_same, fixed_unstopped, fixed_fits, headers_before, headers_unstopped, headers_fit, attributes_before, came_after, Takes, attributes_unstopped, attributes_fit}

-- a packet without its last bytes, by its length, its own fields' bytes, its count and what stands behind that
abbrev unclosed : BuildingKind → List ℕ → ℕ → ℕ → List ℕ → List ℕ
unclosed kind own size count rest =
    leading (direction_of (built_kind kind)) ++ (integer_bytes size ++ (code_of (built_kind kind) ∷ (own ++ (integer_bytes count ++ rest))))

module _ (kind : BuildingKind) (own rest buffer : List ℕ) where
  -- how long it is goes neither by the length that it tells nor by its count
  unclosed_length : (size count : ℕ) → length (unclosed kind own size count rest) ≡ after_code_place + 2 + length own + length rest
  unclosed_length size count =
      let d : Direction = direction_of (built_kind kind) in
      omega (
        arith,
        length_leading d,
        length-append (leading d) (integer_bytes size ++ (code_of (built_kind kind) ∷ (own ++ (integer_bytes count ++ rest)))),
        length-append own (integer_bytes count ++ rest),
      )

  -- the count is set
  count_set : (count : ℕ) → over (over buffer 0 (unclosed kind own 0 0 rest)) (after_code_place + length own) (integer_bytes count)
      ≡ over buffer 0 (unclosed kind own 0 count rest)
  count_set count =
      let d : Direction = direction_of (built_kind kind) in
      let front : List ℕ = leading d ++ (integer_bytes 0 ++ (code_of (built_kind kind) ∷ own)) in
      let place : after_code_place + length own ≡ length front =
      omega (arith, length_leading d, length-append (leading d) (integer_bytes 0 ++ (code_of (built_kind kind) ∷ own))) in
      let parted : (n : ℕ) → front ++ (integer_bytes n ++ rest) ≡ unclosed kind own 0 n rest =
      λ n. append_assoc (leading d) (integer_bytes 0 ++ (code_of (built_kind kind) ∷ own)) (integer_bytes n ++ rest) in
      ap (λ (l : List ℕ). over (over buffer 0 l) (after_code_place + length own) (integer_bytes count)) (sym (parted 0))
      ∙ over_inside buffer front (integer_bytes 0) (integer_bytes count) rest (after_code_place + length own) place refl
      ∙ ap (over buffer 0) (parted count)

  -- the length is set
  size_set : (size count : ℕ) → over (over buffer 0 (unclosed kind own 0 count rest)) 2 (integer_bytes size)
      ≡ over buffer 0 (unclosed kind own size count rest)
  size_set size count =
      over_inside buffer (leading (direction_of (built_kind kind))) (integer_bytes 0) (integer_bytes size)
      (code_of (built_kind kind) ∷ (own ++ (integer_bytes count ++ rest))) 2 (sym (length_leading (direction_of (built_kind kind)))) refl

  -- and with both set the last bytes are written
  all_set : (next count headers : ℕ) (came : Bool) → next ≡ length (unclosed kind own 0 0 rest) → count ≡ after_code_place + length own
      → length (unclosed kind own 0 0 rest) ≤ length buffer
      → closed (building_fields kind next count headers came) (over buffer 0 (unclosed kind own 0 0 rest))
      ≡ over buffer 0 (unclosed kind own (next + length (last_bytes kind) - payload_place) headers rest ++ last_bytes kind)
  unfolding closed
  all_set next count headers came behind place fits =
      let size : ℕ = next + length (last_bytes kind) - payload_place in
      let last : List ℕ = last_bytes kind in
      let end : next ≡ 0 + length (unclosed kind own size headers rest) =
      omega (arith, unclosed_length 0 0, unclosed_length size headers) in
      ap (λ (i : ℕ). over (over (over (over buffer 0 (unclosed kind own 0 0 rest)) i (integer_bytes headers)) 2 (integer_bytes size)) next last) place
      ∙ ap (λ (l : List ℕ). over (over l 2 (integer_bytes size)) next last) (count_set headers)
      ∙ ap (λ (l : List ℕ). over l next last) (size_set size headers)
      ∙ over_over buffer 0 next (unclosed kind own size headers rest) last end (omega arith)

-- the packet of a message in pieces
abbrev whole_packet : BuildingKind → List Field → List Header → List Attribute → List ℕ
whole_packet kind own headers attributes = packet (direction_of (built_kind kind)) (pieces_payload kind own headers attributes)

-- the bytes behind its count, without the last ones
abbrev lists_bytes : BuildingKind → List Header → List Attribute → List ℕ
lists_bytes kind headers attributes = headers_bytes (direction_of (built_kind kind)) headers ++ attributes_bytes attributes

-- what all pieces write
abbrev pieces_bytes : BuildingKind → List Field → List Header → List Attribute → List ℕ
pieces_bytes kind own headers attributes = unclosed kind (fields_bytes own) 0 0 (lists_bytes kind headers attributes)

-- where the count is: it is the last two bytes of the fixed fields
abbrev count_place : BuildingKind → List Field → ℕ
count_place kind own = length (fields_bytes (fixed kind own)) - 2

-- the record behind all pieces
abbrev behind_all : BuildingKind → List Field → List Header → List Attribute → Bool → Building
behind_all kind own headers attributes came =
    building_fields kind (length (pieces_bytes kind own headers attributes)) (count_place kind own) (length headers) came

module _ (kind : BuildingKind) (own : List Field) (headers : List Header) (attributes : List Attribute) where
  -- the packet is what is set, and the last bytes
  whole_parts : unclosed kind (fields_bytes own) (length (pieces_payload kind own headers attributes)) (length headers) (lists_bytes kind headers attributes) ++ last_bytes kind
      ≡ whole_packet kind own headers attributes
  whole_parts = simp append_assoc

  -- how long it is
  whole_length : length (pieces_bytes kind own headers attributes) + length (last_bytes kind) ≡ length (whole_packet kind own headers attributes)
  whole_length =
      let size : ℕ = length (pieces_payload kind own headers attributes) in
      omega (
        arith,
        ap length whole_parts,
        length-append (unclosed kind (fields_bytes own) size (length headers) (lists_bytes kind headers attributes)) (last_bytes kind),
        unclosed_length kind (fields_bytes own) (lists_bytes kind headers attributes) [] 0 0,
        unclosed_length kind (fields_bytes own) (lists_bytes kind headers attributes) [] size (length headers),
      )

  -- and how long its payload is
  payload_length_lem : length (whole_packet kind own headers attributes) - payload_place ≡ length (pieces_payload kind own headers attributes)
  payload_length_lem =
      let d : Direction = direction_of (built_kind kind) in
      let payload : List ℕ = pieces_payload kind own headers attributes in
      omega (arith, length-append (packet_head d (length payload)) payload, head_four d (length payload))

  -- what the pieces wrote
  pieces_parts : fields_bytes (fixed kind own) ++ headers_bytes (direction_of (built_kind kind)) headers ++ attributes_bytes attributes
      ≡ pieces_bytes kind own headers attributes
  pieces_parts = rw (bytes_append own (unset ∷ [])) (simp append_assoc)

  -- where their count is
  count_place_lem : count_place kind own ≡ after_code_place + length (fields_bytes own)
  count_place_lem =
      omega (
        arith,
        opening_five kind 0,
        length-append (opening (built_kind kind) 0) (fields_bytes (own ++ (unset ∷ []))),
        ap length (bytes_append own (unset ∷ [])),
        length-append (fields_bytes own) (integer_bytes 0),
      )

  -- closing makes the packet of them
  closed_bytes : (buffer : List ℕ) (came : Bool) → length (pieces_bytes kind own headers attributes) ≤ length buffer
      → closed (behind_all kind own headers attributes came) (over buffer 0 (pieces_bytes kind own headers attributes)) ≡ over buffer 0 (whole_packet kind own headers attributes)
  closed_bytes buffer came fits =
      let next : ℕ = length (pieces_bytes kind own headers attributes) in
      let size : next + length (last_bytes kind) - payload_place ≡ length (pieces_payload kind own headers attributes) =
      omega (arith, whole_length, payload_length_lem) in
      all_set kind (fields_bytes own) (lists_bytes kind headers attributes) buffer next (count_place kind own) (length headers) came refl count_place_lem fits
      ∙ ap (λ (n : ℕ). over buffer 0 (unclosed kind (fields_bytes own) n (length headers) (lists_bytes kind headers attributes) ++ last_bytes kind)) size
      ∙ ap (over buffer 0) whole_parts

  -- and where it fits it stands there
  closed_packet_lem : (buffer : List ℕ) (came : Bool) → length (whole_packet kind own headers attributes) ≤ length buffer
      → closed_packet (behind_all kind own headers attributes came) (over buffer 0 (pieces_bytes kind own headers attributes)) ≡ whole_packet kind own headers attributes
  unfolding closed_packet
  closed_packet_lem buffer came fits =
      let whole : List ℕ = whole_packet kind own headers attributes in
      ap (λ (l : List ℕ). part l 0 (closed_length (behind_all kind own headers attributes came))) (closed_bytes buffer came (omega (arith, whole_length)))
      ∙ ap (part (over buffer 0 whole) 0) whole_length
      ∙ over_there buffer 0 whole (omega arith)

-- what writing a packet in pieces says: no piece has a fault, the packet fits, it stands from the buffer's first place on and all else is as
-- it was, and it is judged good
pub record PiecesWritten (c : Connection) (kind : BuildingKind) (own : List Field) (headers : List Header) (attributes : List Attribute)
    (whole buffer : List ℕ) (w : Written) (after : List ℕ) : Type 0 where
  pub own_fine : FieldsFine own
  pub headers_fine : HeadersFine (direction_of (built_kind kind)) headers
  pub attributes_fine : AttributesFine attributes
  pub few : length headers ≤ max_headers
  pub within : length whole ≤ max_packet
  pub fits : length whole ≤ length buffer
  pub size : w.size ≡ length whole
  pub is : after ≡ over buffer 0 whole
  pub state : in_state c (built_kind kind) ≡ true
  pub found : Packet
  pub judged : judging c (parse (context_of (direction_of (built_kind kind)) c) whole)
      ≡ accepted found (length whole) w.connection

-- and the other way: where no piece has a fault, all fit, and the packet is judged good, it is written
abbrev pub Writes : Connection → BuildingKind → List Field → List Header → List Attribute → List ℕ → List ℕ → Wrote → Type 0
Writes c kind own headers attributes whole buffer answer = (p : Packet) (taken : ℕ) (next : Connection) → FieldsFine own
    → HeadersFine (direction_of (built_kind kind)) headers → AttributesFine attributes → length headers ≤ max_headers → length whole ≤ max_packet
    → length whole ≤ length buffer → in_state c (built_kind kind) ≡ true
    → judging c (parse (context_of (direction_of (built_kind kind)) c) whole) ≡ accepted p taken next
    → answer ≡ wrote (record { size = length whole; connection = next }) (over buffer 0 whole)

module _ (c : Connection) (kind : BuildingKind) (own : List Field) (headers : List Header) (attributes : List Attribute) (buffer : List ℕ) where
  -- all pieces, as the specification adds them
  abbrev all_pieces : Built
  all_pieces = add_attributes (add_headers (piece (fixed_call kind own) buffer) headers) attributes

  -- where none of them is refused, none has a fault, and they are written
  all_unstopped : Unstopped all_pieces
      → FieldsFine own
      × HeadersFine (direction_of (built_kind kind)) headers
      × AttributesFine attributes
      × Reached all_pieces kind (count_place kind own) (length headers) (came_after false attributes) buffer (pieces_bytes kind own headers attributes)
  all_unstopped h =
      let behind : Unstopped (add_headers (piece (fixed_call kind own) buffer) headers) = attributes_before attributes h in
      let first = fixed_unstopped kind own buffer (headers_before headers behind) in
      let second = headers_unstopped headers first.1 behind in
      let third = attributes_unstopped attributes second.1 h in (
        first.0,
        second.0,
        third.0,
        reached_same (zero-add (length headers)) (pieces_parts kind own headers attributes) third.1,
      )

  -- where none has a fault, and all fit, they are
  all_fit : FieldsFine own → HeadersFine (direction_of (built_kind kind)) headers → AttributesFine attributes → Takes kind attributes
      → length headers ≤ max_headers → length (pieces_bytes kind own headers attributes) ≤ max_packet → length (pieces_bytes kind own headers attributes) ≤ length buffer
      → Reached all_pieces kind (count_place kind own) (length headers) (came_after false attributes) buffer (pieces_bytes kind own headers attributes)
  all_fit own_fine headers_fine attributes_fine takes few within fits =
      let a : List ℕ = fields_bytes (fixed kind own) in
      let b : List ℕ = headers_bytes (direction_of (built_kind kind)) headers in
      let d : List ℕ = attributes_bytes attributes in
      let all : length (a ++ b ++ d) ≡ length (pieces_bytes kind own headers attributes) = ap length (pieces_parts kind own headers attributes) in
      let three : length (a ++ b ++ d) ≡ length (a ++ b) + length d = length-append (a ++ b) d in
      let two : length (a ++ b) ≡ length a + length b = length-append a b in
      let first = fixed_fits kind own buffer own_fine (omega arith) (omega arith) in
      let second = headers_fit headers first headers_fine (omega arith) (omega arith) (omega arith) in
      let third = attributes_fit attributes second takes attributes_fine (omega arith) (omega arith) in
      reached_same (zero-add (length headers)) (pieces_parts kind own headers attributes) third

  -- a packet that was written in pieces is its message's packet
  pieces_written : (w : Written) (after : List ℕ) → in_pieces c (fixed_call kind own) headers attributes buffer ≡ wrote w after
      → PiecesWritten c kind own headers attributes (whole_packet kind own headers attributes) buffer w after
  unfolding judgement
  pieces_written w after e =
      let came : Bool = came_after false attributes in
      let d : Direction = direction_of (built_kind kind) in
      let whole : List ℕ = whole_packet kind own headers attributes in
      let r : Building = behind_all kind own headers attributes came in
      let x : List ℕ = over buffer 0 (pieces_bytes kind own headers attributes) in
      let found = all_unstopped (λ n q. unwritten_never n (sym (ap (close_built c) q) ∙ e)) in
      let here : Reached all_pieces kind (count_place kind own) (length headers) came buffer (pieces_bytes kind own headers attributes) = found.3 in
      let shut = wrote_done (close_buffer c r x) (close_outcome c r x) (sym (ap (close_built c) here.is) ∙ e) in
      let closes : CloseDone c r x w = close_done c r x w shut.0 in
      let size : closed_length r ≡ length whole = whole_length kind own headers attributes in
      let same : length x ≡ length buffer = length_over buffer 0 (pieces_bytes kind own headers attributes) (omega (arith, here.room)) in
      let fits : length whole ≤ length buffer = omega (arith, closes.ready.inside) in
      record {
        own_fine = found.0;
        headers_fine = found.1;
        attributes_fine = found.2;
        few = (possible_yes r x here.possible).few;
        within = omega (arith, closes.ready.within);
        fits = fits;
        size = closes.size_is ∙ size;
        is = sym shut.1 ∙ closes.buffer_is ∙ closed_bytes kind own headers attributes buffer came here.room;
        state = closes.ready.allowed;
        found = closes.packet;
        judged =
            subst (λ (n : ℕ). judging c (parse (context_of d c) whole) ≡ accepted closes.packet n w.connection) size
            (subst (λ (l : List ℕ). judging c (parse (context_of d c) l) ≡ accepted closes.packet (closed_length r) w.connection)
            (closed_packet_lem kind own headers attributes buffer came fits) closes.judged_is);
      }

  -- and the other way
  pieces_write : Takes kind attributes
      → Writes c kind own headers attributes (whole_packet kind own headers attributes) buffer (in_pieces c (fixed_call kind own) headers attributes buffer)
  unfolding judgement
  pieces_write takes p taken next own_fine headers_fine attributes_fine few within fits state judged =
      let came : Bool = came_after false attributes in
      let d : Direction = direction_of (built_kind kind) in
      let whole : List ℕ = whole_packet kind own headers attributes in
      let r : Building = behind_all kind own headers attributes came in
      let x : List ℕ = over buffer 0 (pieces_bytes kind own headers attributes) in
      let size : closed_length r ≡ length whole = whole_length kind own headers attributes in
      let here : Reached all_pieces kind (count_place kind own) (length headers) came buffer (pieces_bytes kind own headers attributes) =
      all_fit own_fine headers_fine attributes_fine takes few (omega arith) (omega arith) in
      let same : length x ≡ length buffer = length_over buffer 0 (pieces_bytes kind own headers attributes) (omega (arith, here.room)) in
      let w : Written = record { size = closed_length r; connection = next } in
      let ready : Ready c r x = record {
        possible = here.possible;
        allowed = state;
        within = omega arith;
        inside = omega arith;
      } in
      let closes =
      done_close c r x ready p taken next
      (ap (λ (l : List ℕ). judging c (parse (context_of d c) l)) (closed_packet_lem kind own headers attributes buffer came fits) ∙ judged) in
      ap (close_built c) here.is
      ∙ ap (wrote_by (close_buffer c r x)) closes.0
      ∙ ap (wrote w) (closes.1 ∙ closed_bytes kind own headers attributes buffer came here.room)
      ∙ ap (λ (n : ℕ). wrote (record { size = n; connection = next }) (over buffer 0 whole)) size

-- a Forward
module _ (c : Connection) (request : Request) (buffer : List ℕ) where
  -- what writing it says
  pub forward_written : (w : Written) (after : List ℕ) → writing c (forward request) buffer ≡ wrote w after
      → PiecesWritten c BuildingKind.Forward (request_fields request) request.headers request.attributes (message_bytes (forward request)) buffer w after
  unfolding writing message_bytes forward_call
  forward_written = pieces_written c BuildingKind.Forward (request_fields request) request.headers request.attributes buffer

  -- and when it is written
  pub forward_writes : Writes c BuildingKind.Forward (request_fields request) request.headers request.attributes (message_bytes (forward request)) buffer
      (writing c (forward request) buffer)
  unfolding writing message_bytes forward_call
  forward_writes = pieces_write c BuildingKind.Forward (request_fields request) request.headers request.attributes buffer tt

-- a Send Headers
module _ (c : Connection) (response : Response) (buffer : List ℕ) where
  -- what writing it says
  pub send_headers_written : (w : Written) (after : List ℕ) → writing c (send_headers response) buffer ≡ wrote w after
      → PiecesWritten c BuildingKind.SendHeaders (response_fields response) response.headers [] (message_bytes (send_headers response)) buffer w after
  unfolding writing message_bytes send_headers_call
  send_headers_written = pieces_written c BuildingKind.SendHeaders (response_fields response) response.headers [] buffer

  -- and when it is written
  pub send_headers_writes : Writes c BuildingKind.SendHeaders (response_fields response) response.headers [] (message_bytes (send_headers response)) buffer
      (writing c (send_headers response) buffer)
  unfolding writing message_bytes send_headers_call
  send_headers_writes = pieces_write c BuildingKind.SendHeaders (response_fields response) response.headers [] buffer refl
