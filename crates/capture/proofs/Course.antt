-- Laws of captures, once for all tools: which way the first packet goes, enough fuel, one turn, that the packets and what is left are the
-- whole, bytes followed by others, parts, and figures that are added up.
-- Assumes nothing.
use mathlib.Core.Path.{◌≡◌, refl, sym, ap, ◌∙◌, subst}
use mathlib.Core.Bool.{Bool, true, false, not, false≢true}
use mathlib.Core.List.{List, [], ◌∷◌, ◌++◌, append_assoc, append-nil}
use Prim.Native.Nat.{ℕ, zero, suc, ◌+◌, ◌≤◌, ◌<◌}
use native.Mathlib.Nat.{zero-add, add_assoc}
use native.Mathlib.Omega.{arith}
use borrow.Author.Tests.{le-leb, eqb-true, eqb-false, ne_eqb}
use lib.Dec.{leb, eqb}
use lib.ListN.{length, get_or, take, drop, length-append, length-drop, take-append-drop}
use lib.Seq.{take-append-le, drop-append-le, drop-append_seam}
use Rattle.wire.specs.Pick.{pick, both, either}
use Rattle.wire.specs.Refusal.{none, leading_wrong, is_refusal}
use Rattle.wire.specs.Bytes.{part}
use Rattle.wire.specs.Field.{integer_at}
use Rattle.wire.specs.Packet.{leading, length_place, payload_place, max_packet}
use Rattle.wire.proofs.Bytes.{length_part}
use Rattle.packet.specs.declared.Direction.{Direction}
use Rattle.packet.specs.declared.Packet.{Packet}
use Rattle.places.specs.Entries.{max_places}
use Rattle.connection.specs.declared.Connection.{Connection}
use Rattle.reader.specs.Frame.{FrameRead, differs, leading_differs, frame_of, frame_at}
use Rattle.reader.specs.Meaning.{Meaning, needs, refused, accepted}
use Rattle.reader.specs.Reading.{reading, parse}
use Rattle.reader.proofs.Framing.{frame_inside}
use Rattle.reading_laws.specs.Acceptance.{Answered, NeedsMore}
use Rattle.reading_laws.proofs.Acceptance.{accepted_is, needs_more}
use Rattle.reading_laws.proofs.Later.{later_answer}
use Rattle.reading_laws.proofs.Refusals.{reading_refusal}
use Rattle.capture.specs.Course.{direction_in, first_in, Seen, Course, stopped, before, all_before, course_then, course_by, course, fed, fed_all, joined, seen_bytes, total, one_each, size_of}
use Rattle.capture.specs.Facts.{TakenInside, AtMostBytes}

-- the answer to the first packet
module _ (c : Connection) (s : List ℕ) where
  -- an accepted packet has at least 4 bytes, at most 8192, and all are there
  pub taken_inside : (packet : Packet) (taken : ℕ) (next : Connection) → first_in c s ≡ accepted packet taken next → TakenInside s taken
  unfolding first_in
  taken_inside packet taken next e =
      let a = accepted_is (direction_in s) c s max_places packet taken next e in
      let inside = frame_inside (direction_in s) s (FrameRead.Whole taken) a.whole_is in
      record {
        some = inside.0;
        most = inside.1.0;
        there = inside.1.1;
      }

  -- its bytes are as many as are taken
  pub taken_size : (packet : Packet) (taken : ℕ) (next : Connection) → first_in c s ≡ accepted packet taken next
      → length (part s 0 taken) ≡ taken
  taken_size packet taken next e = length_part s 0 taken (omega (arith, (taken_inside packet taken next e).there))

  -- a "needs" asks for more bytes than there are, and for at most 8192
  pub needs_inside : (n : ℕ) → first_in c s ≡ needs n → NeedsMore (length s) n
  unfolding first_in
  needs_inside n e = needs_more (direction_in s) c s max_places n e

  -- a refusal has a number
  pub refusal_some : (n : ℕ) → first_in c s ≡ refused n → eqb n none ≡ false
  unfolding first_in
  refusal_some n e =
      ne_eqb n none (λ z. false≢true (subst (λ (k : ℕ). is_refusal k ≡ true) z (reading_refusal (direction_in s) c s max_places n e)))

-- a whole packet of a direction begins with that direction's first byte
first_byte : (direction : Direction) (s : List ℕ) (taken : ℕ) → frame_at direction s ≡ FrameRead.Whole taken
    → eqb (get_or s 0 0) (get_or (leading direction) 0 0) ≡ true
unfolding frame_at leading_differs
first_byte direction s taken e =
    let inside = frame_inside direction s (FrameRead.Whole taken) e in
    go (leb (0 + 1) (length s)) (eqb (get_or s 0 0) (get_or (leading direction) 0 0)) (differs s 1 (get_or (leading direction) 1 0))
    (le-leb (0 + 1) (length s) (omega (arith, inside.0, inside.1.1))) e
  where
    go : (there same second : Bool) → there ≡ true
        → pick (either (both there (not same)) second) (FrameRead.Refused leading_wrong) (frame_of (length s) (integer_at s length_place)) ≡ FrameRead.Whole taken
        → same ≡ true
    go true true second p q = refl
    go true false second p q = absurd (let z : ◌≡◌ {A = ℕ} 0 1 = cc in omega arith)
    go false same second p q = absurd (false≢true p)

-- so a capture takes it for a packet of that direction
begins_as : (direction : Direction) (s : List ℕ) (taken : ℕ) → frame_at direction s ≡ FrameRead.Whole taken → direction_in s ≡ direction
unfolding direction_in
begins_as Direction.ToServer s taken e = rw (first_byte Direction.ToServer s taken e)
begins_as Direction.ToContainer s taken e =
    ap (λ (x : ℕ). pick (eqb x (get_or (leading Direction.ToServer) 0 0)) Direction.ToServer Direction.ToContainer)
    (eqb-true (get_or s 0 0) (get_or (leading Direction.ToContainer) 0 0) (first_byte Direction.ToContainer s taken e))

-- what is accepted in a direction is accepted as the first packet of a capture
pub first_at : (direction : Direction) (c : Connection) (s : List ℕ) (packet : Packet) (taken : ℕ) (next : Connection)
    → reading direction c s max_places ≡ accepted packet taken next → first_in c s ≡ accepted packet taken next
unfolding first_in
first_at direction c s packet taken next e =
    ap (λ (way : Direction). reading way c s max_places)
    (begins_as direction s taken (accepted_is direction c s max_places packet taken next e).whole_is) ∙ e

-- a first byte of neither direction is refused with 1, whatever follows it
pub neither_refused : (c : Connection) (x : ℕ) (s : List ℕ) → eqb x (get_or (leading Direction.ToServer) 0 0) ≡ false
    → eqb x (get_or (leading Direction.ToContainer) 0 0) ≡ false → first_in c (x ∷ s) ≡ refused leading_wrong
unfolding first_in direction_in reading parse frame_at leading_differs
neither_refused c x s p q = rw (p, le-leb 1 (suc (length s)) (omega arith), q)

-- no bytes are no packet
pub first_none : (c : Connection) → first_in c [] ≡ needs payload_place
unfolding first_in direction_in reading parse frame_at leading_differs integer_at
first_none c = refl

-- what is behind an accepted packet has fewer bytes
fewer : (c : Connection) (s : List ℕ) (packet : Packet) (taken : ℕ) (next : Connection) → first_in c s ≡ accepted packet taken next
    → (n : ℕ) → length s ≤ suc n → length (drop taken s) ≤ n
fewer c s packet taken next e n h =
    let inside = taken_inside c s packet taken next e in
    omega (arith, inside.some, inside.there, length-drop taken s)

-- two amounts of fuel that are enough come to the same
pub fuel_enough : (n m : ℕ) (c : Connection) (s : List ℕ) → length s ≤ n → length s ≤ m → course_by n c s ≡ course_by m c s
unfolding course_by
fuel_enough zero zero c s h k = refl
fuel_enough zero (suc m) c [] h k = rw (first_none c)
fuel_enough zero (suc m) c (x ∷ s) h k = absurd (let z : suc (length s) ≤ 0 = h in omega arith)
fuel_enough (suc n) zero c [] h k = rw (first_none c)
fuel_enough (suc n) zero c (x ∷ s) h k = absurd (let z : suc (length s) ≤ 0 = k in omega arith)
fuel_enough (suc n) (suc m) c s h k = go (first_in c s) refl (fuel_enough n m)
  where
    go : (r : Meaning) → first_in c s ≡ r
        → ((next : Connection) (l : List ℕ) → length l ≤ n → length l ≤ m → course_by n next l ≡ course_by m next l)
        → course_then c s r (course_by n) ≡ course_then c s r (course_by m)
    go (needs i) e later = refl
    go (refused i) e later = refl
    go (accepted packet taken next) e later =
        ap (before (record { packet = packet; bytes = part s 0 taken }))
        (later next (drop taken s) (fewer c s packet taken next e n h) (fewer c s packet taken next e m k))

-- one turn: the course of bytes, by the answer to their first packet
pub course_is : (c : Connection) (s : List ℕ) → course c s ≡ course_then c s (first_in c s) course
unfolding course course_by
course_is c [] = rw (first_none c)
course_is c (x ∷ s) = go (first_in c (x ∷ s)) refl
  where
    go : (r : Meaning) → first_in c (x ∷ s) ≡ r → course_then c (x ∷ s) r (course_by (length s)) ≡ course_then c (x ∷ s) r course
    go (needs i) e = refl
    go (refused i) e = refl
    go (accepted packet taken next) e =
        let rest = drop taken (x ∷ s) in
        ap (before (record { packet = packet; bytes = part (x ∷ s) 0 taken }))
        (fuel_enough (length s) (length rest) next rest (fewer c (x ∷ s) packet taken next e (length s) (omega arith)) (omega arith))

-- the same, by an answer that is known
pub course_by_lem : (c : Connection) (s : List ℕ) (r : Meaning) → first_in c s ≡ r → course c s ≡ course_then c s r course
course_by_lem c s r e = course_is c s ∙ ap (λ (m : Meaning). course_then c s m course) e

-- no bytes have no course
pub course_none : (c : Connection) → course c [] ≡ stopped c [] none
unfolding course course_by
course_none c = refl

-- the packets and what is left are the whole
covered_by : (n : ℕ) (c : Connection) (s : List ℕ) → seen_bytes (course_by n c s).seen ++ (course_by n c s).left ≡ s
unfolding course_by part
covered_by zero c s = refl
covered_by (suc n) c s = go (first_in c s) (covered_by n)
  where
    go : (r : Meaning)
        → ((next : Connection) (l : List ℕ) → seen_bytes (course_by n next l).seen ++ (course_by n next l).left ≡ l)
        → seen_bytes (course_then c s r (course_by n)).seen ++ (course_then c s r (course_by n)).left ≡ s
    go (needs i) later = refl
    go (refused i) later = refl
    go (accepted packet taken next) later =
        let k = course_by n next (drop taken s) in
        append_assoc (take taken s) (seen_bytes k.seen) k.left
        ∙ ap (λ (l : List ℕ). take taken s ++ l) (later next (drop taken s)) ∙ take-append-drop taken s

pub covered : (c : Connection) (s : List ℕ) → seen_bytes (course c s).seen ++ (course c s).left ≡ s
unfolding course
covered c s = covered_by (length s) c s

-- bytes that have an answer other than "needs" have the same whatever follows them
pub first_later : (c : Connection) (s t : List ℕ) → Answered (first_in c s) → first_in c (s ++ t) ≡ first_in c s
unfolding first_in direction_in
first_later c [] t h = absurd (subst Answered (first_none c) h)
first_later c (x ∷ s) t h = later_answer (x ∷ s) t (direction_in (x ∷ s)) c max_places h

-- the front of bytes stays whatever follows them
front_part : (s t : List ℕ) (n : ℕ) → n ≤ length s → part (s ++ t) 0 n ≡ part s 0 n
unfolding part
front_part s t n h = take-append-le n s t h

-- a packet before a course stays before it when more bytes come
before_fed : (packet : Seen) (k : Course) (t : List ℕ) → before packet (fed k t) ≡ fed (before packet k) t
before_fed packet k t = go (eqb k.refusal none)
  where
    go : (goes : Bool)
        → before packet (pick goes (all_before k.seen (course k.after (k.left ++ t))) (record { seen = k.seen; after = k.after; left = k.left ++ t; refusal = k.refusal }))
        ≡ pick goes (all_before (packet ∷ k.seen) (course k.after (k.left ++ t)))
        (record { seen = packet ∷ k.seen; after = k.after; left = k.left ++ t; refusal = k.refusal })
    go true = refl
    go false = refl

-- so the course of bytes followed by others goes on where theirs stopped
appended_by : (n : ℕ) (c : Connection) (s t : List ℕ) → length s ≤ n → course c (s ++ t) ≡ fed (course_by n c s) t
unfolding course_by
appended_by zero c [] t h = refl
appended_by zero c (x ∷ s) t h = absurd (let z : suc (length s) ≤ 0 = h in omega arith)
appended_by (suc n) c s t h = go (first_in c s) refl (λ next l. appended_by n next l t)
  where
    go : (r : Meaning) → first_in c s ≡ r
        → ((next : Connection) (l : List ℕ) → length l ≤ n → course next (l ++ t) ≡ fed (course_by n next l) t)
        → course c (s ++ t) ≡ fed (course_then c s r (course_by n)) t
    go (needs i) e later = refl
    go (refused i) e later =
        course_by_lem c (s ++ t) (refused i) (first_later c s t (subst Answered (sym e) tt) ∙ e) ∙ rw (refusal_some c s i e)
    go (accepted packet taken next) e later =
        let inside = taken_inside c s packet taken next e in
        let this : Seen = record { packet = packet; bytes = part s 0 taken } in
        course_by_lem c (s ++ t) (accepted packet taken next) (first_later c s t (subst Answered (sym e) tt) ∙ e)
        ∙ ap (λ (bytes : List ℕ). before (record { packet = packet; bytes = bytes }) (course next (drop taken (s ++ t)))) (front_part s t taken inside.there)
        ∙ ap (λ (l : List ℕ). before this (course next l)) (drop-append-le taken s t inside.there)
        ∙ ap (before this) (later next (drop taken s) (fewer c s packet taken next e n h))
        ∙ before_fed this (course_by n next (drop taken s)) t

pub appended : (c : Connection) (s t : List ℕ) → course c (s ++ t) ≡ fed (course c s) t
unfolding course
appended c s t = appended_by (length s) c s t (omega arith)

-- feeding parts gives the whole, however it is cut
fed_after : (c : Connection) (s : List ℕ) (parts : List (List ℕ)) → fed_all (course c s) parts ≡ course c (s ++ joined parts)
fed_after c s [] = ap (course c) (sym (append-nil s))
fed_after c s (part ∷ later) =
    ap (λ (k : Course). fed_all k later) (sym (appended c s part)) ∙ fed_after c (s ++ part) later ∙ ap (course c) (append_assoc s part (joined later))

pub in_parts : (c : Connection) (parts : List (List ℕ)) → fed_all (course c []) parts ≡ course c (joined parts)
in_parts c parts = fed_after c [] parts

-- a figure that is added up: packets followed by others
pub total_append : (figure : Seen → ℕ) (a b : List Seen) → total figure (a ++ b) ≡ total figure a + total figure b
total_append figure [] b = sym (zero-add (total figure b))
total_append figure (packet ∷ a) b =
    ap (λ (n : ℕ). figure packet + n) (total_append figure a b) ∙ sym (add_assoc (figure packet) (total figure a) (total figure b))

-- the bytes of packets are as many as their sizes together
pub total_bytes : (packets : List Seen) → length (seen_bytes packets) ≡ total size_of packets
total_bytes [] = refl
total_bytes (packet ∷ later) =
    length-append packet.bytes (seen_bytes later) ∙ ap (λ (n : ℕ). length packet.bytes + n) (total_bytes later)

-- and what is left is what stands behind them
pub left_is : (c : Connection) (s : List ℕ) → (course c s).left ≡ drop (total size_of (course c s).seen) s
left_is c s =
    let k = course c s in
    sym (drop-append_seam (seen_bytes k.seen) k.left) ∙ ap (λ (l : List ℕ). drop (length (seen_bytes k.seen)) l) (covered c s)
    ∙ ap (λ (n : ℕ). drop n s) (total_bytes k.seen)

-- the packets are inside the bytes
pub seen_inside : (c : Connection) (s : List ℕ) → total size_of (course c s).seen ≤ length s
seen_inside c s =
    let k = course c s in
    let whole : length (seen_bytes k.seen) + length k.left ≡ length s =
    sym (length-append (seen_bytes k.seen) k.left) ∙ ap length (covered c s) in
    omega (arith, total_bytes k.seen)

-- a figure that is at most the number of bytes in every packet is so over a course
within_by : (figure : Seen → ℕ) → AtMostBytes figure → (n : ℕ) (c : Connection) (s : List ℕ)
    → total figure (course_by n c s).seen ≤ total size_of (course_by n c s).seen
unfolding course_by
within_by figure small zero c s = omega arith
within_by figure small (suc n) c s = go (first_in c s) refl (within_by figure small n)
  where
    go : (r : Meaning) → first_in c s ≡ r
        → ((next : Connection) (l : List ℕ) → total figure (course_by n next l).seen ≤ total size_of (course_by n next l).seen)
        → total figure (course_then c s r (course_by n)).seen ≤ total size_of (course_then c s r (course_by n)).seen
    go (needs i) e later = omega arith
    go (refused i) e later = omega arith
    go (accepted packet taken next) e later =
        let this = small c s packet taken next e in
        let size = taken_size c s packet taken next e in
        let rest = later next (drop taken s) in
        omega (arith, this, size, rest)

pub total_within : (figure : Seen → ℕ) → AtMostBytes figure → (c : Connection) (s : List ℕ)
    → total figure (course c s).seen ≤ total size_of (course c s).seen
unfolding course
total_within figure small c s = within_by figure small (length s) c s

-- packets are no more than bytes
pub one_within : AtMostBytes one_each
one_within c s packet taken next e = omega (arith, (taken_inside c s packet taken next e).some)

-- where nothing is refused, what is left is less than a packet: a window of 8192 bytes is enough for any capture
short_by : (n : ℕ) (c : Connection) (s : List ℕ) → length s ≤ n → (course_by n c s).refusal ≡ none → length (course_by n c s).left < max_packet
unfolding course_by
short_by zero c s h e = omega (arith, h)
short_by (suc n) c s h f = go (first_in c s) refl (short_by n) f
  where
    go : (r : Meaning) → first_in c s ≡ r
        → ((next : Connection) (l : List ℕ) → length l ≤ n → (course_by n next l).refusal ≡ none → length (course_by n next l).left < max_packet)
        → (course_then c s r (course_by n)).refusal ≡ none
        → length (course_then c s r (course_by n)).left < max_packet
    go (needs i) e later f = omega (arith, needs_inside c s i e)
    go (refused i) e later f = absurd (eqb-false i none (refusal_some c s i e) f)
    go (accepted packet taken next) e later f = later next (drop taken s) (fewer c s packet taken next e n h) f

pub left_short : (c : Connection) (s : List ℕ) → (course c s).refusal ≡ none → length (course c s).left < max_packet
unfolding course
left_short c s e = short_by (length s) c s (omega arith) e

-- one law for any figure: over bytes followed by others it is that of the first ones and, where they were not refused, that of the course
-- which goes on from them
pub figure_appended : (figure : Seen → ℕ) (c : Connection) (s t : List ℕ) → let k = course c s in
    total figure (course c (s ++ t)).seen
    ≡ total figure k.seen + pick (eqb k.refusal none) (total figure (course k.after (k.left ++ t)).seen) 0
figure_appended figure c s t = ap (λ (k : Course). total figure k.seen) (appended c s t) ∙ go (eqb k.refusal none)
  where
    k : Course
    k = course c s

    later : Course
    later = course k.after (k.left ++ t)

    go : (goes : Bool)
        → total figure (pick goes (all_before k.seen later) (record { seen = k.seen; after = k.after; left = k.left ++ t; refusal = k.refusal })).seen
        ≡ total figure k.seen + pick goes (total figure later.seen) 0
    go true = total_append figure k.seen later.seen
    go false = omega arith
