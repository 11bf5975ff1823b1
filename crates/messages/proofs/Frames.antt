-- The frame of a whole packet: its direction's leading bytes, its length, and so many bytes behind that. What is written as a packet has such a
-- frame, and a whole packet is its head and its payload: reading looks at nothing else of it to find it whole.
-- Assumes nothing.
use native.Mathlib.Omega.{arith}
use borrow.Author.Tests.{le-leb, le-ltb, eq-eqb, eqb-true}
use mathlib.Core.Path.{◌≡◌, refl, sym, ap, ◌∙◌}
use mathlib.Core.Bool.{Bool, true, false, not, false≢true}
use mathlib.Core.List.{List, [], ◌∷◌, ◌++◌}
use Prim.Native.Nat.{ℕ, ◌+◌, ◌≤◌}
use lib.Dec.{leb, ltb, eqb}
use lib.ListN.{length, get_or, drop, length-drop, take-append-drop}
use lib.Seq.{get_or-take}
use Rattle.wire.specs.Pick.{pick}
use Rattle.wire.specs.Bytes.{part, integer_in}
use Rattle.wire.specs.Field.{integer_at}
use Rattle.wire.specs.Packet.{leading, packet_head, packet, payload_place, length_place}
use Rattle.packet.specs.declared.Direction.{Direction}
use Rattle.wire.specs.Read.{NumberRead}
use Rattle.wire.proofs.Tests.{neither_first, neither_second}
use Rattle.wire.proofs.Field.{number_read}
use Rattle.wire.proofs.Bytes.{length_part, part_add, part_one}
use Rattle.wire.proofs.RoundTrip.{integer_kept}
use Rattle.wire.specs.Facts.{Bytes}
use Rattle.wire.specs.Refusal.{leading_wrong, too_long}
use Rattle.connection.specs.Connection.{max_packet, max_payload}
use Rattle.reader.specs.Frame.{differs, leading_differs, length_at, frame_at, FrameRead}
use Rattle.reader.proofs.Framing.{frame_inside, length_is, frame_is}

-- what the frame of a whole packet is: the direction's leading bytes, a length, and so many bytes behind it
record Framed (d : Direction) (s : List ℕ) (n : ℕ) : Type 0 where
  first : get_or s 0 0 ≡ get_or (leading d) 0 0
  second : get_or s 1 0 ≡ get_or (leading d) 1 0
  size : payload_place + integer_in s length_place ≡ n
  most : n ≤ max_packet
  there : n ≤ length s

-- leading bytes that are the direction's do not differ
leading_same : (d : Direction) (s : List ℕ) → 2 ≤ length s → get_or s 0 0 ≡ get_or (leading d) 0 0 → get_or s 1 0 ≡ get_or (leading d) 1 0
    → leading_differs d s ≡ false
unfolding leading_differs
leading_same d s h p q =
    let a : leb 1 (length s) ≡ true = le-leb 1 (length s) (omega arith) in
    let b : leb 2 (length s) ≡ true = le-leb 2 (length s) h in
    rw (a, b, eq-eqb (get_or s 0 0) (get_or (leading d) 0 0) p, eq-eqb (get_or s 1 0) (get_or (leading d) 1 0) q)

-- a frame with these is whole
framed_whole : {d : Direction} {s : List ℕ} {n : ℕ} → Framed d s n → frame_at d s ≡ FrameRead.Whole n
unfolding integer_at
framed_whole {d} {s} {n} f =
    let k : ℕ = integer_in s length_place in
    let same : leading_differs d s ≡ false = leading_same d s (omega arith) f.first f.second in
    let sized : integer_at s length_place ≡ NumberRead.Number k payload_place = sym (number_read 2 k s length_place (omega arith)) in
    sym (frame_is d s false (NumberRead.Number k payload_place) same sized)
    ∙ sym (length_is (length s) k true false (le-leb k max_payload (omega arith)) (le-ltb (length s) (payload_place + k) (omega arith)))
    ∙ ap FrameRead.Whole f.size

-- a byte that is there and does not differ is the one that it is held against
byte_same : (s : List ℕ) (at byte : ℕ) → at + 1 ≤ length s → differs s at byte ≡ false → get_or s at 0 ≡ byte
byte_same s at byte h e = go (eqb (get_or s at 0) byte) refl (rw (le-leb (at + 1) (length s) h) at e)
  where
    go : (t : Bool) → eqb (get_or s at 0) byte ≡ t → not t ≡ false → get_or s at 0 ≡ byte
    go true p q = eqb-true (get_or s at 0) byte p
    go false p q = absurd (false≢true (sym q))

-- a length whose packet is whole is told by the frame
length_whole : (there payload n : ℕ) → length_at there payload ≡ FrameRead.Whole n → payload_place + payload ≡ n
unfolding length_at
length_whole there payload n = go (leb payload max_payload) (ltb there (payload_place + payload))
  where
    go : (fits lacks : Bool)
        → pick fits (pick lacks (FrameRead.Needs (payload_place + payload)) (FrameRead.Whole (payload_place + payload))) (FrameRead.Refused too_long) ≡ FrameRead.Whole n
        → payload_place + payload ≡ n
    go true false e = cc
    go true true e = cc
    go false lacks e = cc

-- and a whole one has them
whole_framed : (d : Direction) (s : List ℕ) (n : ℕ) → frame_at d s ≡ FrameRead.Whole n → Framed d s n
unfolding leading_differs integer_at
whole_framed d s n e =
    let inside = frame_inside d s (FrameRead.Whole n) e in
    let most : n ≤ max_packet = inside.1.0 in
    let there : n ≤ length s = inside.1.1 in
    let sized : integer_at s length_place ≡ NumberRead.Number (integer_in s length_place) payload_place = sym (number_read 2 (integer_in s length_place) s 2 (omega (arith, inside.0))) in
    go (leading_differs d s) refl most there (omega (arith, inside.0))
    (frame_is d s (leading_differs d s) (NumberRead.Number (integer_in s length_place) payload_place) refl sized ∙ e)
  where
    go : (t : Bool) → leading_differs d s ≡ t → n ≤ max_packet → n ≤ length s → payload_place ≤ length s
        → pick t (FrameRead.Refused leading_wrong) (length_at (length s) (integer_in s length_place)) ≡ FrameRead.Whole n → Framed d s n
    go true p most there four q = absurd (let z : ◌≡◌ {A = ℕ} 0 1 = cc in omega arith)
    go false p most there four q = record {
      first = byte_same s 0 (get_or (leading d) 0 0) (omega arith) (neither_first (differs s 0 (get_or (leading d) 0 0)) (differs s 1 (get_or (leading d) 1 0)) p);
      second = byte_same s 1 (get_or (leading d) 1 0) (omega arith) (neither_second (differs s 0 (get_or (leading d) 0 0)) (differs s 1 (get_or (leading d) 1 0)) p);
      size = length_whole (length s) (integer_in s length_place) n q;
      most = most;
      there = there;
    }

-- the first packet of some bytes is whole by itself
pub part_whole : (d : Direction) (s : List ℕ) (n : ℕ) → frame_at d s ≡ FrameRead.Whole n → frame_at d (part s 0 n) ≡ FrameRead.Whole n
unfolding part integer_in
part_whole d s n e =
    let f = whole_framed d s n e in
    framed_whole (record {
      first = get_or-take n s 0 0 (omega arith) ∙ f.first;
      second = get_or-take n s 1 0 (omega arith) ∙ f.second;
      size = rw (get_or-take n s length_place 0 (omega arith), get_or-take n s (length_place + 1) 0 (omega arith)) f.size;
      most = f.most;
      there = omega (arith, length_part s 0 n (omega arith));
    })

-- the frame of a packet that was written
pub frame_written : (d : Direction) (payload : List ℕ) → length payload ≤ max_payload
    → frame_at d (packet d payload) ≡ FrameRead.Whole (length (packet d payload))
unfolding integer_in
frame_written Direction.ToContainer payload h = framed_whole (record {
  first = refl;
  second = refl;
  size = omega arith;
  most = omega arith;
  there = omega arith;
})
frame_written Direction.ToServer payload h = framed_whole (record {
  first = refl;
  second = refl;
  size = omega arith;
  most = omega arith;
  there = omega arith;
})

-- the two leading bytes
leading_two : (d : Direction) → get_or (leading d) 0 0 ∷ get_or (leading d) 1 0 ∷ [] ≡ leading d
leading_two Direction.ToContainer = refl
leading_two Direction.ToServer = refl

-- a whole packet is its head and its payload
pub head_kept : (d : Direction) (s : List ℕ) (n : ℕ) → Bytes s → frame_at d s ≡ FrameRead.Whole n → n ≡ length s → s ≡ packet d (drop payload_place s)
unfolding part
head_kept d s n bytes e all =
    let f = whole_framed d s n e in
    let size : integer_in s length_place ≡ length (drop payload_place s) = omega (arith, length-drop payload_place s) in
    let lead : part s 0 2 ≡ leading d =
    part_add s 0 1 1
    ∙ rw (part_one s 0 (omega arith), part_one s 1 (omega arith), f.first, f.second) (leading_two d) in
    let four : part s 0 payload_place ≡ packet_head d (length (drop payload_place s)) =
    part_add s 0 2 2 ∙ rw (lead, integer_kept s 2 bytes (omega arith), size) in
    sym (take-append-drop payload_place s) ∙ ap (λ (l : List ℕ). l ++ drop payload_place s) four
