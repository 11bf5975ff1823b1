-- Laws of the frame: what it says by its tests, how long a whole packet is, and that later bytes change nothing.
-- Assumes nothing.
use mathlib.Core.Path.{◌≡◌, refl, ap, ◌∙◌, subst}
use mathlib.Core.Bool.{Bool, true, false}
use mathlib.Core.List.{List}
use Prim.Native.Nat.{ℕ, ◌+◌, ◌≤◌, ◌<◌}
use native.Mathlib.Omega.{arith}
use native.Mathlib.Nat.{zero-add}
use borrow.Author.Tests.{leb-true, leb-false, ltb-true, ltb-false}
use lib.Dec.{leb, ltb}
use lib.ListN.{length}
use Rattle.wire.specs.Pick.{pick}
use Rattle.wire.specs.Bytes.{part, integer_in}
use Rattle.wire.specs.Refusal.{leading_wrong, too_long, cut_short}
use Rattle.wire.specs.Field.{integer_at}
use Rattle.wire.proofs.Bytes.{length_part}
use Rattle.packet.specs.declared.Direction.{Direction}
use Rattle.wire.specs.Read.{NumberRead}
use Rattle.connection.specs.Connection.{max_packet, max_payload}
use Rattle.reader.specs.Frame.{FrameRead, leading_differs, length_at, frame_of, frame_at}
use Rattle.wire.specs.Packet.{payload_place, length_place}

-- a length, by its two tests
pub length_is : (there payload : ℕ) (fits lacks : Bool) → leb payload max_payload ≡ fits → ltb there (payload_place + payload) ≡ lacks
    → pick fits (pick lacks (FrameRead.Needs (payload_place + payload)) (FrameRead.Whole (payload_place + payload))) (FrameRead.Refused too_long) ≡ length_at there payload
unfolding length_at
length_is there payload fits lacks p q = rw (p, q)

-- a frame, by its leading bytes and its length as read
pub frame_is : (direction : Direction) (s : List ℕ) (differ : Bool) (r : NumberRead) → leading_differs direction s ≡ differ → integer_at s length_place ≡ r
    → pick differ (FrameRead.Refused leading_wrong) (frame_of (length s) r) ≡ frame_at direction s
unfolding frame_at
frame_is direction s differ r p q = rw (p, q)

-- a frame whose packet is whole: it has at most 8192 bytes, and all of them are there; more bytes are needed than are there, and at most 8192
abbrev pub FrameInside : ℕ → FrameRead → Type 0
FrameInside size (FrameRead.Needs n) = (size < n) × (n ≤ max_packet)
FrameInside size (FrameRead.Refused n) = Unit
FrameInside size (FrameRead.Whole n) = (payload_place ≤ n) × ((n ≤ max_packet) × (n ≤ size))

length_inside : (there payload : ℕ) → FrameInside there (length_at there payload)
unfolding length_at
length_inside there payload = go (leb payload max_payload) (ltb there (payload_place + payload)) refl refl
  where
    go : (fits lacks : Bool) → leb payload max_payload ≡ fits → ltb there (payload_place + payload) ≡ lacks
        → FrameInside there (pick fits (pick lacks (FrameRead.Needs (payload_place + payload)) (FrameRead.Whole (payload_place + payload))) (FrameRead.Refused too_long))
    go false lacks p q = tt
    go true true p q =
        let small : payload ≤ max_payload = leb-true payload max_payload p in
        (ltb-true there (payload_place + payload) q, omega arith)
    go true false p q =
        let small : payload ≤ max_payload = leb-true payload max_payload p in
        let there_is : payload_place + payload ≤ there = ltb-false there (payload_place + payload) q in
        (omega arith, (omega arith, there_is))

-- a length that is not there
length_short : (s : List ℕ) (n : ℕ) → integer_at s length_place ≡ NumberRead.Refused n → length s < payload_place
unfolding integer_at
length_short s n = go (leb payload_place (length s)) refl
  where
    go : (there : Bool) → leb payload_place (length s) ≡ there
        → pick there (NumberRead.Number (integer_in s length_place) payload_place) (NumberRead.Refused cut_short) ≡ NumberRead.Refused n → length s < payload_place
    go true e q = absurd (let z : ◌≡◌ {A = ℕ} 0 1 = cc in omega arith)
    go false e q = leb-false payload_place (length s) e

pub frame_inside : (direction : Direction) (s : List ℕ) (r : FrameRead) → frame_at direction s ≡ r → FrameInside (length s) r
unfolding frame_at
frame_inside direction s r e = subst (FrameInside (length s)) e (go (leading_differs direction s) (integer_at s length_place) refl)
  where
    go : (differ : Bool) (number : NumberRead) → integer_at s length_place ≡ number
        → FrameInside (length s) (pick differ (FrameRead.Refused leading_wrong) (frame_of (length s) number))
    go true number q = tt
    go false (NumberRead.Refused n) q = (length_short s n q, omega arith)
    go false (NumberRead.Number payload next) q = length_inside (length s) payload

-- a whole packet is no longer than a packet may be
pub whole_fits : (direction : Direction) (s : List ℕ) (n : ℕ) (packet : List ℕ) → frame_at direction s ≡ FrameRead.Whole n → packet ≡ part s 0 n
    → length packet ≤ max_packet
whole_fits direction s n packet e p =
    let inside = frame_inside direction s (FrameRead.Whole n) e in
    let l : length packet ≡ n = ap length p ∙ length_part s 0 n (rw (zero-add n) inside.1.1) in
    omega (arith, l, inside)
