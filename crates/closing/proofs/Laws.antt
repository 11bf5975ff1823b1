-- Laws of closing. The packet is judged as the end to which it goes would read it with a table that is long enough, and the length that is
-- set is the packet's: so "needs" is never the answer, and a packet that is closed is one that this end accepts, all of it.
-- Assumes nothing.
use native.Mathlib.Omega.{arith}
use borrow.Author.Tests.{le-leb, le-ltb, eq-eqb, eqb-true}
use mathlib.Core.Path.{◌≡◌, refl, sym, ap, subst, ◌∙◌}
use mathlib.Core.Bool.{Bool, true, false, false≢true}
use mathlib.Core.List.{List}
use Prim.Native.Nat.{ℕ, ◌+◌, ◌-◌, ◌≤◌}
use lib.Dec.{eqb}
use lib.ListN.{length, get_or, take, drop}
use lib.Seq.{take-length}
use Rattle.wire.specs.Pick.{pick, both}
use Rattle.wire.specs.Bytes.{part, integer_in}
use Rattle.wire.specs.Field.{byte_at, integer_at}
use Rattle.packet.specs.declared.Direction.{Direction}
use Rattle.packet.specs.declared.Packet.{Packet}
use Rattle.wire.specs.Read.{NumberRead}
use Rattle.wire.proofs.Field.{number_read}
use Rattle.wire.specs.Refusal.{none, number_of, leading_wrong, not_now, record_wrong}
use Rattle.connection.specs.Cycle.{direction_of, in_state}
use Rattle.connection.specs.declared.State.{State}
use Rattle.connection.specs.declared.Connection.{Connection}
use Rattle.connection.specs.declared.Kind.{Kind}
use Rattle.connection.specs.Connection.{max_packet, max_payload, is_idle, is_busy}
use Rattle.places.specs.Entries.{max_headers, max_places}
use Rattle.payload.specs.Code.{code_of, code_kind, kind_at}
use Rattle.payload.specs.Kinds.{packet_at, packet_kind}
use Rattle.payload.specs.declared.Context.{Context}
use Rattle.payload.specs.Read.{KindRead}
use Rattle.payload.specs.Read.{PacketRead}
use Rattle.payload.proofs.Laws.{kind_is}
use Rattle.payload.proofs.Parsed.{parsed_kind}
use Rattle.building.specs.Fault.{unless, or_else, fit_fault}
use Rattle.building.specs.Call.{Outcome, refused, done}
use Rattle.building.proofs.Sizes.{or_first, or_second, unless_none, fit_none, fit_by}
use Rattle.building_record.specs.declared.BuildingKind.{BuildingKind}
use Rattle.building_record.specs.declared.Building.{Building}
use Rattle.building_record.specs.Record.{built_kind, direction_in, is_possible}
use Rattle.building_record.proofs.Laws.{possible_yes}
use Rattle.std.proofs.lemmas.Bool.Decides.{nat_tests}
use Rattle.wire.proofs.Exits.{refused_some}
use Rattle.wire.proofs.Bytes.{over_none}
use Rattle.std.specs.Prelude.{Result, Ok, Err}
use Rattle.std.specs.Result.{is_err}
use Rattle.wire.specs.declared.refusal.Refusal.{Refusal}
use Rattle.building.specs.Sent.{Written, sent_outcome}
use Rattle.reader.specs.Frame.{FrameRead}
use Rattle.reader.specs.Frame.{leading_differs, length_at, frame_of, frame_at}
use Rattle.reader.specs.Meaning as read
use Rattle.reader.specs.Reading.{parsed_of, parse_whole, parse_frame, parse, read_as_body, context_of, accepting, judging, reading}
use Rattle.reader.proofs.Framing.{length_is}
use Rattle.reading_laws.specs.Acceptance.{Answered}
use Rattle.reading_laws.proofs.Acceptance.{accepted_is, accepting_answers}
use Rattle.reading_laws.proofs.Aside.{aside}
use Rattle.closing.specs.Closing.{closed_length, closing_fault, closed, closed_packet, judgement, verdict, close_outcome, where_done, close_buffer}
use Rattle.closing.specs.Done.{Ready, CloseDone}
use Rattle.closing.specs.Private.{Closable}
use Rattle.closing.proofs.Setting.{set_length, packet_length, packet_payload, packet_code, set_behind}
use Rattle.wire.specs.Packet.{code_place, payload_place, length_place}

module _ (c : Connection) (r : Building) (buffer : List ℕ) where
  -- no fault is found exactly where that holds
  pub fault_ready : closing_fault c r buffer ≡ 0 → Ready c r buffer
  unfolding closing_fault
  fault_ready none =
      let possible : ℕ = unless (is_possible r buffer) record_wrong in
      let state : ℕ = unless (in_state c (built_kind r.kind)) not_now in
      let fit : ℕ = fit_fault (closed_length r) (length buffer) in
      let first : or_else possible state ≡ 0 = or_first (or_else possible state) fit none in
      let fits = fit_none (closed_length r) (length buffer) (or_second (or_else possible state) fit none) in
      record {
        possible = unless_none (is_possible r buffer) record_wrong (omega arith) (or_first possible state first);
        allowed = unless_none (in_state c (built_kind r.kind)) not_now (omega arith) (or_second possible state first);
        within = fits.0;
        inside = fits.1;
      }

  pub ready_fault : Ready c r buffer → closing_fault c r buffer ≡ 0
  unfolding closing_fault
  ready_fault h =
      rw (h.possible, h.allowed)
      (sym (fit_by (closed_length r) (length buffer) true true (le-leb (closed_length r) max_packet h.within) (le-leb (closed_length r) (length buffer) h.inside)))

  -- and then the packet can be closed
  pub ready_closable : Ready c r buffer → Closable r buffer
  ready_closable h =
      let can = possible_yes r buffer h.possible in
      record {
        behind = can.behind;
        apart = can.apart;
        within = h.within;
        inside = h.inside;
      }

  pub found_closable : none ≡ closing_fault c r buffer → Closable r buffer
  found_closable h = ready_closable (fault_ready (sym h))

-- a packet whose fields were read is not answered with "needs"
accepting_whole : (c : Connection) (taken n : ℕ) (r : PacketRead) → accepting c taken r ≡ read.needs n → ⊥
accepting_whole c taken n r e = subst Answered e (accepting_answers c taken r)

-- nor is a whole packet
whole_answered : (context : Context) (c : Connection) (s : List ℕ) (n : ℕ) → judging c (parse_whole context s) ≡ read.needs n → ⊥
unfolding parse_whole
whole_answered context c s n = by_kind (kind_at context s)
  where
    by_state : (kind : Kind) (allowed : Bool) → pick allowed (accepting c (length s) (packet_at context kind s).end) (read.refused not_now) ≡ read.needs n → ⊥
    by_state kind true e = accepting_whole c (length s) n (packet_at context kind s).end e
    by_state kind false e = let z : ◌≡◌ {A = ℕ} 0 1 = cc in omega arith

    by_kind : (k : KindRead) → judging c (parsed_of context s k) ≡ read.needs n → ⊥
    by_kind (KindRead.Refused k) e = let z : ◌≡◌ {A = ℕ} 0 1 = cc in omega arith
    by_kind (KindRead.Kind kind) e = by_state kind (in_state c kind) e

-- the frame of a packet that is closed: its leading bytes are wrong, or it is whole, with the packet's length
module _ (r : Building) (buffer : List ℕ) (can : Closable r buffer) (d : Direction) where
  abbrev framed : Bool → FrameRead
  framed differ = pick differ (FrameRead.Refused leading_wrong) (FrameRead.Whole (closed_length r))

  closed_frame : frame_at d (closed_packet r buffer) ≡ framed (leading_differs d (closed_packet r buffer))
  unfolding frame_at integer_at
  closed_frame =
      let s : List ℕ = closed_packet r buffer in
      let size : length s ≡ closed_length r = packet_length r buffer can in
      let least : 6 ≤ closed_length r = omega (arith, can.behind, can.apart) in
      let whole : payload_place + (closed_length r - payload_place) ≡ closed_length r = omega arith in
      let payload : integer_at s length_place ≡ NumberRead.Number (closed_length r - payload_place) payload_place =
      sym (number_read 2 (integer_in s length_place) s length_place (omega arith)) ∙ ap (λ (n : ℕ). NumberRead.Number n payload_place) (packet_payload r buffer can) in
      let sized : length_at (length s) (closed_length r - payload_place) ≡ FrameRead.Whole (closed_length r) =
      sym (length_is (length s) (closed_length r - payload_place) true false
      (le-leb (closed_length r - payload_place) max_payload (omega (arith, can.within))) (le-ltb (length s) (payload_place + (closed_length r - payload_place)) (omega arith)))
      ∙ ap FrameRead.Whole whole in
      ap (λ (f : FrameRead). pick (leading_differs d s) (FrameRead.Refused leading_wrong) f) (ap (frame_of (length s)) payload ∙ sized)

  -- so "needs" is not the answer
  frame_answered : (c : Connection) (n : ℕ) → judging c (parse (context_of d c) (closed_packet r buffer)) ≡ read.needs n → ⊥
  unfolding parse
  frame_answered c n e =
      go (leading_differs d (closed_packet r buffer)) (ap (λ (f : FrameRead). judging c (parse_frame (context_of d c) (closed_packet r buffer) f)) (sym closed_frame) ∙ e)
    where
      go : (differ : Bool) → judging c (parse_frame (context_of d c) (closed_packet r buffer) (framed differ)) ≡ read.needs n → ⊥
      go true q = let z : ◌≡◌ {A = ℕ} 0 1 = cc in omega arith
      go false q = whole_answered (context_of d c) c (part (closed_packet r buffer) 0 (closed_length r)) n q

  -- and where it is whole, all of it is taken
  frame_taken : (taken : ℕ) → frame_at d (closed_packet r buffer) ≡ FrameRead.Whole taken → taken ≡ closed_length r
  frame_taken taken e = go (leading_differs d (closed_packet r buffer)) (sym closed_frame ∙ e)
    where
      go : (differ : Bool) → framed differ ≡ FrameRead.Whole taken → taken ≡ closed_length r
      go true q = absurd (let z : ◌≡◌ {A = ℕ} 0 1 = cc in omega arith)
      go false q = cc

-- a state that allows a packet in pieces has no body packet due at the end to which it goes
none_due : (c : Connection) (kind : BuildingKind) → in_state c (built_kind kind) ≡ true → read_as_body (direction_of (built_kind kind)) c ≡ false
none_due c BuildingKind.Forward e = by c.state e
  where
    by : (state : State) → is_idle state ≡ true → both (is_busy state) c.due ≡ false
    by State.Idle e = refl
    by State.Pinged e = refl
    by State.Busy e = absurd (false≢true e)
    by State.Closed e = refl
none_due c BuildingKind.SendHeaders e = refl

-- the kind that has a record's code, or no kind's code
code_of_kind : (kind : BuildingKind) (t : Bool) (found : Kind)
    → code_kind (direction_of (built_kind kind)) (pick t 0 (code_of (built_kind kind))) ≡ KindRead.Kind found → found ≡ built_kind kind
unfolding code_kind
code_of_kind BuildingKind.Forward true found e = absurd (let z : ◌≡◌ {A = ℕ} 0 1 = cc in omega arith)
code_of_kind BuildingKind.Forward false found e = cc
code_of_kind BuildingKind.SendHeaders true found e = absurd (let z : ◌≡◌ {A = ℕ} 0 1 = cc in omega arith)
code_of_kind BuildingKind.SendHeaders false found e = cc

module _ (r : Building) (buffer : List ℕ) (can : Closable r buffer) where
  -- where all of a packet that is closed is taken, that is the packet
  all_taken : (taken : ℕ) → taken ≡ closed_length r → part (closed_packet r buffer) 0 taken ≡ closed_packet r buffer
  unfolding part
  all_taken taken e = ap (λ (n : ℕ). take n (closed_packet r buffer)) (e ∙ sym (packet_length r buffer can)) ∙ take-length (closed_packet r buffer)

  -- by its code it is of the record's kind
  code_kind_lem : r.headers ≤ max_headers → get_or buffer code_place 0 ≡ code_of (built_kind r.kind) → (c : Connection) → read_as_body (direction_in r) c ≡ false
      → (found : Kind) → kind_at (context_of (direction_in r) c) (closed_packet r buffer) ≡ KindRead.Kind found → found ≡ built_kind r.kind
  unfolding byte_at
  code_kind_lem few is c none found e =
      let s : List ℕ = closed_packet r buffer in
      let there : byte_at s code_place ≡ NumberRead.Number (get_or s code_place 0) (code_place + 1) =
      sym (number_read 1 (get_or s code_place 0) s code_place (omega (arith, packet_length r buffer can, can.behind, can.apart))) in
      code_of_kind r.kind (eqb r.count.0 code_place) found
      (ap (code_kind (direction_in r)) (sym (packet_code r buffer can (code_of (built_kind r.kind)) few is))
      ∙ sym (kind_is (context_of (direction_in r) c) false s _ none there) ∙ e)

module _ (c : Connection) (r : Building) (buffer : List ℕ) where
  -- "needs" is never the judge's answer to a packet that is closed
  pub closed_whole : closing_fault c r buffer ≡ 0 → (n : ℕ) → judgement c r (closed_packet r buffer) ≡ read.needs n → ⊥
  unfolding judgement
  closed_whole none n e =
      frame_answered r buffer (ready_closable c r buffer (fault_ready c r buffer none)) (direction_in r) c n e

  -- where a packet that is closed passes, all of it is taken
  closed_taken : Ready c r buffer → (packet : Packet) (taken : ℕ) (next : Connection)
      → judgement c r (closed_packet r buffer) ≡ read.accepted packet taken next → taken ≡ closed_length r
  unfolding judgement
  closed_taken ready packet taken next e =
      let s : List ℕ = closed_packet r buffer in
      let reads : reading (direction_in r) c s max_places ≡ read.accepted packet taken next = aside (direction_in r) c s max_places (omega arith) ∙ e in
      frame_taken r buffer (ready_closable c r buffer ready) (direction_in r) taken (accepted_is (direction_in r) c s max_places packet taken next reads).whole_is

  -- the packet that passes is of the record's kind: its code is the record's, or what stands there is no code at all
  closed_kind : Ready c r buffer → (packet : Packet) (taken : ℕ) (next : Connection)
      → judgement c r (closed_packet r buffer) ≡ read.accepted packet taken next → packet_kind packet ≡ built_kind r.kind
  unfolding judgement
  closed_kind ready packet taken next e =
      let s : List ℕ = closed_packet r buffer in
      let can = possible_yes r buffer ready.possible in
      let reads : reading (direction_in r) c s max_places ≡ read.accepted packet taken next = aside (direction_in r) c s max_places (omega arith) ∙ e in
      let a = accepted_is (direction_in r) c s max_places packet taken next reads in
      let all : part s 0 taken ≡ s = all_taken r buffer (ready_closable c r buffer ready) taken (closed_taken ready packet taken next e) in
      let code : kind_at (context_of (direction_in r) c) s ≡ KindRead.Kind a.kind = ap (kind_at (context_of (direction_in r) c)) (sym all) ∙ a.kind_is in
      parsed_kind (context_of (direction_in r) c) a.kind (part s 0 taken) packet a.fields_are
      ∙ code_kind_lem r buffer (ready_closable c r buffer ready) can.few can.code c (none_due c r.kind ready.allowed) a.kind code

  -- the bytes that `read_there` is given are read in the packet's direction as they are judged
  pub read_there : (d : Direction) (room : ℕ) → d ≡ direction_in r → max_places ≤ room → reading d c buffer room ≡ judgement c r buffer
  unfolding judgement
  read_there d room e h = ap (λ (x : Direction). reading x c buffer room) e ∙ aside (direction_in r) c buffer room h

  -- closing with a fault that is found is refused with it
  pub found_refused : eqb (closing_fault c r buffer) none ≡ false → close_outcome c r buffer ≡ refused (closing_fault c r buffer)
  unfolding close_outcome
  found_refused some = rw some

  -- where there is none, it is what the judge says
  pub found_judged : closing_fault c r buffer ≡ none → close_outcome c r buffer ≡ verdict (closed_length r) (judgement c r (closed_packet r buffer))
  unfolding close_outcome
  found_judged h = rw (eq-eqb (closing_fault c r buffer) none h)

  -- the judge is shown the packet, all of it
  pub found_answer : {size : ℕ} {set : List ℕ} {answer : Outcome Written} → none ≡ closing_fault c r buffer → size ≡ closed_length r
      → set ≡ closed r buffer → answer ≡ verdict (length (take size set)) (judgement c r (take size set)) → answer ≡ close_outcome c r buffer
  unfolding closed_packet part
  found_answer {size} {set} {answer} h p q e =
      let packet : take size set ≡ closed_packet r buffer = rw (p, q) refl in
      let all : length (closed_packet r buffer) ≡ closed_length r = packet_length r buffer (found_closable c r buffer h) in
      e ∙ ap (λ (l : List ℕ). verdict (length l) (judgement c r l)) packet ∙ ap (λ (n : ℕ). verdict n (judgement c r (closed_packet r buffer))) all
      ∙ sym (found_judged (sym h))

  -- the buffer by what closing comes to
  pub outcome_buffer : (o : Outcome Written) → o ≡ close_outcome c r buffer → where_done o (closed r buffer) buffer ≡ close_buffer c r buffer
  unfolding close_buffer
  outcome_buffer o e = ap (λ (x : Outcome Written). where_done x (closed r buffer) buffer) e

  -- the record that holds where the judge accepts
  done_by : Ready c r buffer → (packet : Packet) (taken : ℕ) (w : Written) → close_outcome c r buffer ≡ done w → w.size ≡ closed_length r
      → judgement c r (closed_packet r buffer) ≡ read.accepted packet taken w.connection → CloseDone c r buffer w
  unfolding judgement closed_packet
  done_by ready packet taken w o size e =
      let stands : close_buffer c r buffer ≡ closed r buffer = sym (outcome_buffer (done w) (sym o)) in
      let all : judgement c r (closed_packet r buffer) ≡ read.accepted packet (closed_length r) w.connection =
      e ∙ ap (λ (n : ℕ). read.accepted packet n w.connection) (closed_taken ready packet taken w.connection e) in
      record {
        ready = ready;
        size_is = size;
        buffer_is = stands;
        packet_is = ap (λ (l : List ℕ). part l 0 w.size) stands ∙ ap (part (closed r buffer) 0) size;
        packet_size = packet_length r buffer (ready_closable c r buffer ready);
        packet = packet;
        kind_is = closed_kind ready packet taken w.connection e;
        judged_is = all;
        reads = λ room h. aside (direction_in r) c (closed_packet r buffer) room h ∙ all;
      }

  -- so it is wherever closing is done
  pub close_done : (w : Written) → close_outcome c r buffer ≡ done w → CloseDone c r buffer w
  unfolding close_outcome
  close_done w e = by_fault (eqb (closing_fault c r buffer) 0) refl e
    where
      by_judge : Ready c r buffer → (m : read.Meaning) → judgement c r (closed_packet r buffer) ≡ m → verdict (closed_length r) m ≡ done w → CloseDone c r buffer w
      by_judge ready (read.needs n) j q = absurd (let z : ◌≡◌ {A = ℕ} 0 1 = cc in omega arith)
      by_judge ready (read.refused n) j q = absurd (let z : ◌≡◌ {A = ℕ} 0 1 = cc in omega arith)
      by_judge ready (read.accepted packet taken next) j q =
          let is : record { size = closed_length r; connection = next } ≡ w = cc in
          done_by ready packet taken w e (ap (λ (x : Written). x.size) (sym is)) (j ∙ ap (λ (x : Written). read.accepted packet taken x.connection) is)

      by_fault : (none : Bool) → eqb (closing_fault c r buffer) 0 ≡ none
          → pick none (verdict (closed_length r) (judgement c r (closed_packet r buffer))) (refused (closing_fault c r buffer)) ≡ done w → CloseDone c r buffer w
      by_fault true f q = by_judge (fault_ready c r buffer (eqb-true (closing_fault c r buffer) 0 f)) (judgement c r (closed_packet r buffer)) refl q
      by_fault false f q = absurd (let z : ◌≡◌ {A = ℕ} 0 1 = cc in omega arith)

  -- and the other way: where nothing is found before and the judge accepts, closing is done
  pub done_close : Ready c r buffer → (packet : Packet) (taken : ℕ) (next : Connection)
      → judgement c r (closed_packet r buffer) ≡ read.accepted packet taken next
      → (close_outcome c r buffer ≡ done (record { size = closed_length r; connection = next })) × (close_buffer c r buffer ≡ closed r buffer)
  done_close ready packet taken next e =
      let w : Written = record { size = closed_length r; connection = next } in
      let o : done w ≡ close_outcome c r buffer =
      ap (verdict (closed_length r)) (sym e) ∙ sym (found_judged (ready_fault c r buffer ready)) in
      (sym o, sym (outcome_buffer (done w) o))

  -- a refusal leaves the buffer
  pub close_refused : (n : ℕ) → close_outcome c r buffer ≡ refused n → close_buffer c r buffer ≡ buffer
  close_refused n e = sym (outcome_buffer (refused n) (sym e))

  pub found_keeps : eqb (closing_fault c r buffer) none ≡ false → close_buffer c r buffer ≡ buffer
  found_keeps some = close_refused (closing_fault c r buffer) (found_refused some)

  -- and where closing is done, the packet is closed there
  close_stands : (w : Written) → close_outcome c r buffer ≡ done w → close_buffer c r buffer ≡ closed r buffer
  close_stands w e = sym (outcome_buffer (done w) (sym e))

  -- the same by an answer that says what closing comes to
  pub close_kept : (sent : Result Written Refusal) → sent_outcome sent ≡ close_outcome c r buffer → is_err sent ≡ true → close_buffer c r buffer ≡ buffer
  close_kept (Err refusal) e h = close_refused (number_of refusal) (sym e)
  close_kept (Ok w) e h = absurd (false≢true h)

  pub close_set : (sent : Result Written Refusal) → sent_outcome sent ≡ close_outcome c r buffer → is_err sent ≡ false
      → close_buffer c r buffer ≡ closed r buffer
  close_set (Err refusal) e h = absurd (false≢true (sym h))
  close_set (Ok w) e h = close_stands w (sym e)

  -- what holds of the buffer as it was and of the buffer with the packet closed holds of the buffer after closing
  after_closing : (P : List ℕ → Type 0) → P buffer → (Closable r buffer → P (closed r buffer)) → P (close_buffer c r buffer)
  after_closing P was set = go (close_outcome c r buffer) refl
    where
      go : (o : Outcome Written) → close_outcome c r buffer ≡ o → P (close_buffer c r buffer)
      go (refused n) e = subst P (sym (close_refused n e)) was
      go (done w) e =
          let d = close_done w e in
          subst P (sym d.buffer_is) (set (ready_closable c r buffer d.ready))

  -- closing keeps the buffer's length
  pub close_length : length (close_buffer c r buffer) ≡ length buffer
  close_length = after_closing (λ (l : List ℕ). length l ≡ length buffer) refl (set_length r buffer)

  -- and all behind the packet
  pub close_behind : drop (closed_length r) (close_buffer c r buffer) ≡ drop (closed_length r) buffer
  close_behind = after_closing (λ (l : List ℕ). drop (closed_length r) l ≡ drop (closed_length r) buffer) refl (set_behind r buffer)

-- what closing cites
pub ruleset closing = (nat_tests, refused_some, over_none, read_there, found_refused, found_keeps)
