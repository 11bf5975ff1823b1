-- Laws of the checker: its verdict by its tests, the figures of an accepted packet, and the loop over packets.
-- Assumes nothing.
use mathlib.Core.Path.{◌≡◌, refl, sym, ap, ◌∙◌, subst}
use mathlib.Core.Bool.{Bool, true, false}
use mathlib.Core.List.{List, []}
use Prim.Native.Nat.{ℕ, ◌+◌, ◌-◌, ◌≤◌, ◌<◌}
use native.Mathlib.Omega.{arith}
use borrow.Author.Tests.{le-leb, leb-true, eq-eqb, eqb-true}
use lib.Dec.{leb, ltb, eqb}
use lib.ListN.{length, take, drop, length-take, length-drop, drop_of_length-le}
use lib.Seq.{take_all, drop-drop}
use Rattle.wire.specs.Pick.{pick, both}
use Rattle.wire.specs.Refusal.{none, unfinished_packet, capture_too_long}
use Rattle.wire.specs.Bytes.{part}
use Rattle.wire.specs.Packet.{payload_place}
use Rattle.wire.proofs.Tests.{both_first, both_second}
use Rattle.packet.specs.declared.Packet.{Packet}
use Rattle.places.specs.Entries.{max_places}
use Rattle.connection.specs.declared.Connection.{Connection}
use Rattle.reader.specs.declared.Received.{Received}
use Rattle.reader.specs.Meaning.{needs, refused, accepted, answer_meaning}
use Rattle.reader.specs.Reading.{context_of}
use Rattle.reading_laws.specs.Inside.{PacketInside}
use Rattle.reading_laws.proofs.Acceptance.{accepted_is}
use Rattle.reading_laws.proofs.Inside.{packet_inside}
use Rattle.capture.specs.Course.{direction_in, first_in, stopped, course, total, one_each, size_of}
use Rattle.capture.specs.Facts.{AtMostBytes}
use Rattle.capture.proofs.Course.{taken_inside, taken_size, first_none, course_by_lem}
use Rattle.checking.specs.declared.Checking.{Checking}
use Rattle.checking.specs.Checking.{max_capture, requests_in, body_in, requests_of, body_of, verdict, verdict_place, possible, goes_on, advanced, gone_on}
use Rattle.checking.specs.Private.{FiguresCount, PacketCounts, counted}

-- the refusal and the place that are told, by their tests; a proof that does not reach one says `refl`
pub verdict_by : (refusal place size : ℕ) (clean long whole : Bool) → eqb refusal none ≡ clean → ltb max_capture size ≡ long → eqb place size ≡ whole
    → pick clean (pick long capture_too_long (pick whole none unfinished_packet)) refusal ≡ verdict refusal place size
unfolding verdict
verdict_by refusal place size clean long whole p q r = rw (p, q, r)

pub verdict_place_by : (refusal place size : ℕ) (t : Bool) → both (eqb refusal none) (ltb max_capture size) ≡ t
    → pick t max_capture place ≡ verdict_place refusal place size
unfolding verdict_place
verdict_place_by refusal place size t p = rw p

-- a request is one packet, and a body is inside its packet
packet_within : (packet : Packet) (size : ℕ) → 1 ≤ size → PacketInside size packet → (requests_in packet ≤ size) × (body_in packet ≤ size)
packet_within Packet.CPing size h i = (omega arith, omega arith)
packet_within Packet.CPong size h i = (omega arith, omega arith)
packet_within (Packet.Forward f) size h i = (h, omega arith)
packet_within (Packet.Body p) size h i = (omega arith, omega (arith, i.fields_in))
packet_within (Packet.GetBody asked) size h i = (omega arith, omega arith)
packet_within (Packet.SendHeaders r) size h i = (omega arith, omega arith)
packet_within (Packet.BodyChunk p) size h i = (omega arith, omega arith)
packet_within (Packet.End reuse) size h i = (omega arith, omega arith)

figures_within : (c : Connection) (s : List ℕ) (packet : Packet) (taken : ℕ) (next : Connection) → first_in c s ≡ accepted packet taken next
    → (requests_in packet ≤ taken) × (body_in packet ≤ taken)
unfolding first_in
figures_within c s packet taken next e =
    let a = accepted_is (direction_in s) c s max_places packet taken next e in
    let size = taken_size c s packet taken next e in
    let inside = packet_inside (context_of (direction_in s) c) a.kind (part s 0 taken) packet a.fields_are in
    packet_within packet taken (omega (arith, (taken_inside c s packet taken next e).some)) (subst (λ (n : ℕ). PacketInside n packet) size inside)

pub requests_within : AtMostBytes requests_of
requests_within c s packet taken next e = (figures_within c s packet taken next e).0

pub body_within : AtMostBytes body_of
body_within c s packet taken next e = (figures_within c s packet taken next e).1

-- two checks with the same figures
pub same_figures : (next : Connection) (refusal p q r t a b c d : ℕ) → p ≡ a → q ≡ b → r ≡ c → t ≡ d
    → ◌≡◌ {A = Checking} (record { connection = next; packets = p; requests = q; body = r; place = t; refusal = refusal })
    (record { connection = next; packets = a; requests = b; body = c; place = d; refusal = refusal })
same_figures next refusal p q r t a b c d w x y z = rw (w, x, y, z)

-- one turn: the figures after a packet and the course behind it
pub advanced_turn : (k : Checking) (s : List ℕ) (packet : Packet) (taken : ℕ) (next : Connection) → first_in k.connection s ≡ accepted packet taken next
    → advanced k (course k.connection s) ≡ advanced (counted k packet taken next) (course next (drop taken s))
advanced_turn k s packet taken next e =
    let c = k.connection in
    let later = course next (drop taken s) in
    let size = taken_size c s packet taken next e in
    ap (advanced k) (course_by_lem c s (accepted packet taken next) e)
    ∙ same_figures later.after later.refusal
    (k.packets + (1 + total one_each later.seen))
    (k.requests + (requests_in packet + total requests_of later.seen))
    (k.body + (body_in packet + total body_of later.seen))
    (k.place + (length (part s 0 taken) + total size_of later.seen))
    (k.packets + 1 + total one_each later.seen)
    (k.requests + requests_in packet + total requests_of later.seen)
    (k.body + body_in packet + total body_of later.seen)
    (k.place + taken + total size_of later.seen)
    (omega arith) (omega arith) (omega arith) (omega (arith, size))

-- a course without packets changes the refusal alone
pub advanced_none : (k : Checking) (s : List ℕ) (refusal : ℕ)
    → advanced k (stopped k.connection s refusal)
    ≡ record { connection = k.connection; packets = k.packets; requests = k.requests; body = k.body; place = k.place; refusal = refusal }
advanced_none k s refusal =
    same_figures k.connection refusal (k.packets + 0) (k.requests + 0) (k.body + 0) (k.place + 0) k.packets k.requests k.body k.place
    (omega arith) (omega arith) (omega arith) (omega arith)

-- the loop where these bytes are left: they are those of the whole behind the check's place, nothing was refused, the figures can be, and
-- what is left comes to what the whole does
pub record Running (start : Checking) (s : List ℕ) (k : Checking) (left : List ℕ) : Type 0 where
  pub rest : left ≡ drop (k.place - start.place) s
  pub place_is : k.place + length left ≡ start.place + length s
  pub figures : FiguresCount k
  pub clean : k.refusal ≡ none
  pub same : advanced start (course start.connection s) ≡ advanced k (course k.connection left)

pub running_start : (k : Checking) (s : List ℕ) → FiguresCount k → k.refusal ≡ none → Running k s k s
running_start k s f e = record {
  rest = let none_taken : 0 ≡ k.place - k.place = omega arith in ap (λ (n : ℕ). drop n s) none_taken;
  place_is = refl;
  figures = f;
  clean = e;
  same = refl;
}

module _ (start : Checking) (s : List ℕ) (k : Checking) (left : List ℕ) (R : Running start s k left) where
  -- the answer, where the course stops here with this refusal
  stops : (refusal : ℕ) → course k.connection left ≡ stopped k.connection left refusal
      → record { connection = k.connection; packets = k.packets; requests = k.requests; body = k.body; place = k.place; refusal = refusal }
      ≡ advanced start (course start.connection s)
  stops refusal e = sym (R.same ∙ ap (advanced k) e ∙ advanced_none k left refusal)

  -- without one the check is as it was
  stays : (n : ℕ) → first_in k.connection left ≡ needs n → k ≡ advanced start (course start.connection s)
  stays n e =
      ap (λ (r : ℕ). record { connection = k.connection; packets = k.packets; requests = k.requests; body = k.body; place = k.place; refusal = r }) R.clean
      ∙ stops none (course_by_lem k.connection left (needs n) e)

  -- no whole packet is left
  pub running_needs : (n : ℕ) (received : Received) → answer_meaning received ≡ first_in k.connection left → received ≡ Received.Needs n
      → k ≡ advanced start (course start.connection s)
  running_needs n received told is = stays n (sym told ∙ ap answer_meaning is)

  -- nothing is left
  pub running_done : length left ≤ 0 → k ≡ advanced start (course start.connection s)
  running_done h =
      let nothing : left ≡ [] = drop_of_length-le left h in
      stays payload_place (ap (first_in k.connection) nothing ∙ first_none k.connection)

  -- the next packet is refused
  pub running_refused : (n : ℕ) → first_in k.connection left ≡ refused n
      → record { connection = k.connection; packets = k.packets; requests = k.requests; body = k.body; place = k.place; refusal = n }
      ≡ advanced start (course start.connection s)
  running_refused n e = stops n (course_by_lem k.connection left (refused n) e)

  -- the next packet is accepted: it is inside the bytes, and can be counted
  module _ (packet : Packet) (taken : ℕ) (next : Connection) (received : Received) (told : answer_meaning received ≡ first_in k.connection left)
      (is : received ≡ Received.Accepted packet taken next) where
    there : first_in k.connection left ≡ accepted packet taken next
    there = sym told ∙ ap answer_meaning is

    pub turn_inside : (taken ≤ length left) × PacketCounts k packet taken
    turn_inside =
        let inside = taken_inside k.connection left packet taken next there in
        let few = figures_within k.connection left packet taken next there in (
          inside.there,
          record {
            figures = R.figures;
            some = omega (arith, inside.some);
            requests_within = few.0;
            body_within = few.1;
          },
        )

    -- and what is behind it is left, which is shorter
    behind : take (length left - taken) (drop taken left) ≡ drop taken left
    behind = take_all (length left - taken) (drop taken left) (omega (arith, length-drop taken left))

    pub turn_smaller : length (take (length left - taken) (drop taken left)) < length left
    turn_smaller = rw behind (omega (arith, length-drop taken left, turn_inside.0, turn_inside.1.some))

    pub running_turn : Running start s (counted k packet taken next) (take (length left - taken) (drop taken left))
    running_turn =
        let this = turn_inside.1 in
        let f = R.figures in
        let moved : k.place - start.place + taken ≡ k.place + taken - start.place =
        omega (arith, R.place_is, ap length R.rest, length-drop (k.place - start.place) s) in
        rw behind (record {
          rest =
              ap (drop taken) R.rest ∙ drop-drop taken (k.place - start.place) s ∙ ap (λ (n : ℕ). drop n s) moved;
          place_is = omega (arith, R.place_is, turn_inside.0, length-drop taken left);
          figures = record {
            packets_few = omega (arith, f.packets_few, this.some);
            requests_few = omega (arith, f.requests_few, this.requests_within);
            body_few = omega (arith, f.body_few, this.body_within);
          };
          clean = refl;
          same = R.same ∙ advanced_turn k left packet taken next there;
        })

-- a check goes on where nothing was refused and its figures can be
pub goes_on_by : (k : Checking) → goes_on k ≡ true → FiguresCount k × (k.refusal ≡ none)
unfolding goes_on
goes_on_by k e =
    let clean = eqb-true k.refusal none (both_first (eqb k.refusal none) (possible k) e) in
    let can = both_second (eqb k.refusal none) (possible k) e in
    let two = both_first (both (leb k.packets k.place) (leb k.requests k.place)) (leb k.body k.place) can in (
      record {
        packets_few = leb-true k.packets k.place (both_first (leb k.packets k.place) (leb k.requests k.place) two);
        requests_few = leb-true k.requests k.place (both_second (leb k.packets k.place) (leb k.requests k.place) two);
        body_few = leb-true k.body k.place (both_second (both (leb k.packets k.place) (leb k.requests k.place)) (leb k.body k.place) can);
      },
      clean,
    )

-- and conversely
pub goes_on_where : (k : Checking) → FiguresCount k → k.refusal ≡ none → goes_on k ≡ true
unfolding goes_on
goes_on_where k f e =
    rw (eq-eqb k.refusal none e, le-leb k.packets k.place f.packets_few, le-leb k.requests k.place f.requests_few, le-leb k.body k.place f.body_few)

-- more bytes, by whether the check goes on
pub gone_on_stays : (k : Checking) (s : List ℕ) → goes_on k ≡ false → k ≡ gone_on k s
unfolding gone_on
gone_on_stays k s e = rw e

pub gone_on_is : (k : Checking) (s lent : List ℕ) → goes_on k ≡ true → lent ≡ part s 0 (max_capture - k.place)
    → advanced k (course k.connection lent) ≡ gone_on k s
unfolding gone_on part
gone_on_is k s lent e l = rw (e, l)

-- what is looked at ends within a capture
pub room_is : (place : ℕ) (s lent : List ℕ) → place ≤ max_capture → lent ≡ part s 0 (max_capture - place) → place + length lent ≤ max_capture
unfolding part
room_is place s lent h l =
    let size : length lent ≤ max_capture - place = rw l (omega (arith, length-take (max_capture - place) s)) in
    omega arith
