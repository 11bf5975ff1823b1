-- What crosses at the server's end passes the checker: its connection is the server's own, packet by packet.
-- Assumes nothing.
use mathlib.Core.Path.{◌≡◌, refl, sym, ap, subst, ◌∙◌}
use mathlib.Core.Bool.{Bool, true, false}
use mathlib.Core.List.{List, [], ◌∷◌, ◌++◌, append-nil}
use Prim.Native.Nat.{ℕ, ◌≤◌}
use borrow.Author.Tests.{eq-eqb, le-ltb}
use lib.Dec.{eqb}
use lib.ListN.{length, take, drop}
use lib.Seq.{drop-append_seam, take_all}
use Rattle.wire.specs.Pick.{both}
use Rattle.wire.specs.Bytes.{part}
use Rattle.wire.specs.Refusal.{none}
use Rattle.packet.specs.declared.Direction.{Direction}
use Rattle.packet.specs.declared.Packet.{Packet}
use Rattle.places.specs.Entries.{max_places}
use Rattle.connection.specs.Connection.{fresh}
use Rattle.connection.specs.Cycle.{allowed, after}
use Rattle.connection.specs.declared.Connection.{Connection}
use Rattle.connection.specs.declared.Move.{Move}
use Rattle.building.specs.Call.{Outcome, refused, done}
use Rattle.building.specs.Sent.{Written}
use Rattle.reader.specs.Meaning.{Meaning, accepted}
use Rattle.reader.specs.Reading.{reading}
use Rattle.sends.specs.Send.{Send, call_direction, outcome_of, buffer_of}
use Rattle.capture.specs.Course.{Course, course_then, course, seen_bytes, total, size_of}
use Rattle.capture.proofs.Course.{course_by_lem, course_none, first_at, covered, total_bytes}
use Rattle.checking.specs.Checking.{max_capture, checked}
use Rattle.checking.proofs.Laws.{verdict_by, verdict_place_by}
use Rattle.two_ends_laws.specs.Ends.{PipePacket, Ends, pipe_of, sender_of, receiver_of, with_sent, with_read, sent_from, Delivery, after_answer}
use Rattle.two_ends_laws.specs.Past.{World, start, Event, send, deliver, happen, run, deliver_from}
use Rattle.two_ends_laws.specs.Readable.{Readable}
use Rattle.two_ends_laws.specs.Made.{packet_by}
use Rattle.two_ends_laws.proofs.Sends.{send_made}
use Rattle.two_ends_laws.proofs.Meeting.{first_of_lem, first_answer}
use Rattle.two_ends_laws.proofs.Invariant.{Kept, kept_start, send_keeps, deliver_keeps}
use Rattle.crossing_laws.specs.Crossing.{at_sending, at_delivery, crossed_send, crossed_from, crossing, Passes}

-- nothing crosses
passes_none : (c : Connection) → Passes c [] c
passes_none c = record {
  clean = ap (λ (k : Course). k.refusal) (course_none c);
  whole = ap (λ (k : Course). k.left) (course_none c);
  ends = ap (λ (k : Course). k.after) (course_none c);
}

-- a packet that is accepted, and bytes that pass behind it
passes_more : (direction : Direction) (c next last : Connection) (bytes rest : List ℕ) (tells : Packet)
    → reading direction c (bytes ++ rest) max_places ≡ accepted tells (length bytes) next → Passes next rest last → Passes c (bytes ++ rest) last
passes_more direction c next last bytes rest tells e p =
    let s = bytes ++ rest in
    let turn : course c s ≡ course_then c s (accepted tells (length bytes) next) course =
    course_by_lem c s (accepted tells (length bytes) next) (first_at direction c s tells (length bytes) next e) in
    let behind : drop (length bytes) s ≡ rest = drop-append_seam bytes rest in
    record {
      clean = ap (λ (k : Course). k.refusal) turn ∙ ap (λ (l : List ℕ). (course next l).refusal) behind ∙ p.clean;
      whole = ap (λ (k : Course). k.left) turn ∙ ap (λ (l : List ℕ). (course next l).left) behind ∙ p.whole;
      ends = ap (λ (k : Course). k.after) turn ∙ ap (λ (l : List ℕ). (course next l).after) behind ∙ p.ends;
    }

-- a packet that goes into a pipe crosses where the server's end sends it
sending_passes : (direction : Direction) (e : Ends) (next : Connection) (out : List PipePacket) (packet : PipePacket) (m : Move)
    → Readable direction packet m → allowed (sender_of direction e) m ≡ true → next ≡ after (sender_of direction e) m → (rest : List ℕ) (last : Connection)
    → Passes (with_sent direction next out e).at_server rest last → Passes e.at_server (at_sending direction packet.bytes ++ rest) last
sending_passes Direction.ToContainer e next out packet m readable allows steps rest last p =
    passes_more Direction.ToContainer e.at_server (after e.at_server m) last packet.bytes rest readable.tells
    (readable.reads e.at_server rest allows) (subst (λ (c : Connection). Passes c rest last) steps p)
sending_passes Direction.ToServer e next out packet m readable allows steps rest last p = p

-- a refused send leaves the server's end
refused_passes : (direction : Direction) (e : Ends) (out : List PipePacket) (rest : List ℕ) (last : Connection)
    → Passes (with_sent direction (sender_of direction e) out e).at_server rest last → Passes e.at_server rest last
refused_passes Direction.ToContainer e out rest last p = p
refused_passes Direction.ToServer e out rest last p = p

-- a packet that is read from a pipe crosses where the server's end reads it
delivery_passes : (direction : Direction) (e : Ends) (later : List PipePacket) (packet : PipePacket) (m : Move) → Readable direction packet m
    → allowed (receiver_of direction e) m ≡ true → (rest : List ℕ) (last : Connection)
    → Passes (with_read direction (after (receiver_of direction e) m) later e).at_server rest last
    → Passes e.at_server (at_delivery direction packet.bytes ++ rest) last
delivery_passes Direction.ToContainer e later packet m readable allows rest last p = p
delivery_passes Direction.ToServer e later packet m readable allows rest last p =
    passes_more Direction.ToServer e.at_server (after e.at_server m) last packet.bytes rest readable.tells
    (readable.reads e.at_server rest allows) p

-- a send
send_passes : (call : Send) (w : World) (rest : List ℕ) (last : Connection) → Passes (happen (send call) w).ends.at_server rest last
    → Passes w.ends.at_server (crossed_send call (sender_of (call_direction call) w.ends) (outcome_of (sender_of (call_direction call) w.ends) call) ++ rest) last
send_passes call w rest last p = go (outcome_of given call) refl p
  where
    given : Connection
    given = sender_of (call_direction call) w.ends

    go : (o : Outcome Written) → outcome_of given call ≡ o → Passes (sent_from given (call_direction call) call w.ends o).at_server rest last
        → Passes w.ends.at_server (crossed_send call given o ++ rest) last
    go (refused n) e p = refused_passes (call_direction call) w.ends (pipe_of (call_direction call) w.ends ++ []) rest last p
    go (done written) e p =
        let made = send_made given call written e in
        let packet = packet_by call (part (buffer_of given call) 0 written.size) in
        sending_passes (call_direction call) w.ends written.connection (pipe_of (call_direction call) w.ends ++ packet ∷ []) packet made.move
        made.readable made.allows made.steps rest last p

-- a delivery
deliver_passes : (direction : Direction) (d : Delivery) (w : World) → Kept w → (rest : List ℕ) (last : Connection)
    → Passes (happen (deliver direction d) w).ends.at_server rest last
    → Passes w.ends.at_server (crossed_from direction (pipe_of direction w.ends) ++ rest) last
deliver_passes direction d w kept rest last p = go (pipe_of direction w.ends) refl p
  where
    go : (pipe : List PipePacket) → pipe_of direction w.ends ≡ pipe → Passes (deliver_from direction d w pipe).ends.at_server rest last
        → Passes w.ends.at_server (crossed_from direction pipe ++ rest) last
    go [] e p = p
    go (packet ∷ later) e p =
        let first = first_of_lem direction w.ends packet later kept.meeting e in
        delivery_passes direction w.ends later packet first.move first.readable first.allows rest last
        (subst (λ (a : Meaning). Passes (after_answer direction later w.ends a).at_server rest last) (first_answer first d) p)

-- so it is with a list of events
passes_from : (events : List Event) (w : World) → Kept w → Passes w.ends.at_server (crossing events w) (run events w).ends.at_server
passes_from [] w kept = passes_none w.ends.at_server
passes_from (send call ∷ later) w kept =
    send_passes call w (crossing later (happen (send call) w)) (run later (happen (send call) w)).ends.at_server
    (passes_from later (happen (send call) w) (send_keeps call w kept))
passes_from (deliver direction d ∷ later) w kept =
    deliver_passes direction d w kept (crossing later (happen (deliver direction d) w)) (run later (happen (deliver direction d) w)).ends.at_server
    (passes_from later (happen (deliver direction d) w) (deliver_keeps direction d w kept))

-- from two fresh ends, whatever happens: every packet that crosses at the server's end is accepted, and the connection after them is the
-- server's own
pub own_captures : (events : List Event) → Passes fresh (crossing events start) (run events start).ends.at_server
own_captures events = passes_from events start kept_start

-- so the checker passes it, tells its length for the place, and the server's state
pub own_captures_checked : (events : List Event) → let s = crossing events start in length s ≤ max_capture
    → ((checked s).refusal ≡ none) × (((checked s).place ≡ length s) × ((checked s).state ≡ (run events start).ends.at_server.state))
unfolding checked
own_captures_checked events h =
    let s = crossing events start in
    let own = own_captures events in
    let judged : take max_capture s ≡ s = take_all max_capture s h in
    let k = course fresh s in
    let size : total size_of k.seen ≡ length s =
    sym (total_bytes k.seen) ∙ ap length (sym (append-nil (seen_bytes k.seen)) ∙ ap (λ (l : List ℕ). seen_bytes k.seen ++ l) (sym own.whole) ∙ covered fresh s) in
    rw judged (
      sym (verdict_by k.refusal (total size_of k.seen) (length s) true false true (eq-eqb k.refusal none own.clean) (le-ltb max_capture (length s) h) (eq-eqb (total size_of k.seen) (length s) size)),
      (
        sym (verdict_place_by k.refusal (total size_of k.seen) (length s) false (ap (both (eqb k.refusal none)) (le-ltb max_capture (length s) h) ∙ both_none (eqb k.refusal none))) ∙ size,
        ap (λ (c : Connection). c.state) own.ends,
      ),
    )
  where
    both_none : (t : Bool) → both t false ≡ false
    both_none true = refl
    both_none false = refl
