-- Later bytes are the next packet's: bytes that have an answer other than "needs" have the same answer, and the same table, whatever
-- follows them.
-- Assumes nothing.
use mathlib.Core.Path.{◌≡◌, refl, ap, ◌∙◌}
use mathlib.Core.Bool.{Bool, true, false, not, false≢true}
use mathlib.Core.List.{List, ◌++◌}
use Prim.Native.Nat.{ℕ, ◌+◌, ◌≤◌}
use native.Mathlib.Omega.{arith}
use borrow.Author.Tests.{le-leb, leb-true, le-ltb, ltb-false}
use lib.Dec.{leb, ltb, eqb}
use lib.ListN.{length, get_or, length-append, get_or-append}
use lib.Seq.{take-append-le}
use Rattle.wire.specs.Pick.{pick, either}
use Rattle.wire.specs.Refusal.{leading_wrong, too_long}
use Rattle.wire.specs.Bytes.{part, integer_in}
use Rattle.wire.specs.Field.{integer_at}
use Rattle.wire.specs.Packet.{leading, payload_place, length_place}
use Rattle.packet.specs.declared.Direction.{Direction}
use Rattle.wire.specs.Read.{NumberRead}
use Rattle.wire.proofs.Tests.{both_first}
use Rattle.wire.proofs.Field.{integer_inside}
use Rattle.connection.specs.Connection.{max_payload}
use Rattle.connection.specs.declared.Connection.{Connection}
use Rattle.payload.specs.declared.Context.{Context}
use Rattle.reader.specs.Frame.{FrameRead, differs, leading_differs, length_at, frame_of, frame_at}
use Rattle.reader.specs.Reading.{Parsed, parse_whole, parse_frame, parse, context_of, judging, with_room, reading, table_after}
use Rattle.reader.proofs.Framing.{frame_inside}
use Rattle.reading_laws.specs.Acceptance.{Answered}

-- a frame that is not short of bytes
abbrev Framed : FrameRead → Type 0
Framed (FrameRead.Needs n) = ⊥
Framed (FrameRead.Refused n) = Unit
Framed (FrameRead.Whole n) = Unit

-- false is not true, and so anything follows
never : {A : Type 0} → false ≡ true → A
never e = absurd (false≢true e)

-- where one of two tests holds, one of two weaker ones does
still_either : (a b a' b' : Bool) → (a ≡ true → a' ≡ true) → (b ≡ true → b' ≡ true) → either a b ≡ true → either a' b' ≡ true
still_either true b a' b' f g e = rw (f refl)
still_either false true true b' f g e = refl
still_either false true false b' f g e = g refl
still_either false false a' b' f g e = never e

module _ (s rest : List ℕ) where
  -- there are no fewer bytes
  longer : length s ≤ length (s ++ rest)
  longer = rw (length-append s rest) (omega arith)

  -- a byte that is there stays
  same_byte : (at : ℕ) → at + 1 ≤ length s → get_or (s ++ rest) at 0 ≡ get_or s at 0
  same_byte at h = get_or-append s rest 0 at (omega arith)

  -- what is told by a byte that is there stays
  same_differs : (at byte : ℕ) → at + 1 ≤ length s → differs (s ++ rest) at byte ≡ differs s at byte
  same_differs at byte h =
      let a : leb (at + 1) (length s) ≡ true = le-leb (at + 1) (length s) h in
      let b : leb (at + 1) (length (s ++ rest)) ≡ true = le-leb (at + 1) (length (s ++ rest)) (omega (arith, longer)) in
      rw (a, b, same_byte at h)

  -- a byte that is there and differs goes on to differ
  still_differs : (at byte : ℕ) → differs s at byte ≡ true → differs (s ++ rest) at byte ≡ true
  still_differs at byte e =
      let h : at + 1 ≤ length s = leb-true (at + 1) (length s) (both_first (leb (at + 1) (length s)) (not (eqb (get_or s at 0) byte)) e) in
      same_differs at byte h ∙ e

  still_differing : (direction : Direction) → leading_differs direction s ≡ true → leading_differs direction (s ++ rest) ≡ true
  unfolding leading_differs
  still_differing direction e =
      still_either (differs s 0 (get_or (leading direction) 0 0)) (differs s 1 (get_or (leading direction) 1 0))
      (differs (s ++ rest) 0 (get_or (leading direction) 0 0)) (differs (s ++ rest) 1 (get_or (leading direction) 1 0))
      (still_differs 0 (get_or (leading direction) 0 0)) (still_differs 1 (get_or (leading direction) 1 0)) e

  -- where the length is there, so are the leading bytes
  same_leading : (direction : Direction) → payload_place ≤ length s → leading_differs direction (s ++ rest) ≡ leading_differs direction s
  unfolding leading_differs
  same_leading direction h =
      let a = same_differs 0 (get_or (leading direction) 0 0) (omega arith) in
      let b = same_differs 1 (get_or (leading direction) 1 0) (omega arith) in
      rw (a, b)

  same_length : payload_place ≤ length s → integer_at (s ++ rest) length_place ≡ integer_at s length_place
  unfolding integer_at integer_in
  same_length h =
      let a : leb payload_place (length s) ≡ true = le-leb payload_place (length s) h in
      let b : leb payload_place (length (s ++ rest)) ≡ true = le-leb payload_place (length (s ++ rest)) (omega (arith, longer)) in
      rw (a, b, same_byte length_place (omega arith), same_byte (length_place + 1) (omega arith))

  -- a length whose packet is refused or whole
  same_sized : (payload : ℕ) → Framed (length_at (length s) payload) → length_at (length (s ++ rest)) payload ≡ length_at (length s) payload
  unfolding length_at
  same_sized payload = go (leb payload max_payload) (ltb (length s) (payload_place + payload)) refl
    where
      go : (fits lacks : Bool) → ltb (length s) (payload_place + payload) ≡ lacks
          → Framed (pick fits (pick lacks (FrameRead.Needs (payload_place + payload)) (FrameRead.Whole (payload_place + payload))) (FrameRead.Refused too_long))
          → pick fits (pick (ltb (length (s ++ rest)) (payload_place + payload)) (FrameRead.Needs (payload_place + payload)) (FrameRead.Whole (payload_place + payload))) (FrameRead.Refused too_long)
          ≡ pick fits (pick lacks (FrameRead.Needs (payload_place + payload)) (FrameRead.Whole (payload_place + payload))) (FrameRead.Refused too_long)
      go false lacks e h = refl
      go true true e h = absurd h
      go true false e h =
          let q : payload_place + payload ≤ length s = ltb-false (length s) (payload_place + payload) e in
          let p : ltb (length (s ++ rest)) (payload_place + payload) ≡ false = le-ltb (length (s ++ rest)) (payload_place + payload) (omega (arith, longer)) in
          rw p

  -- a frame that is refused or whole
  same_frame : (direction : Direction) → Framed (frame_at direction s) → frame_at direction (s ++ rest) ≡ frame_at direction s
  unfolding frame_at
  same_frame direction = go (leading_differs direction s) (integer_at s length_place) refl refl
    where
      go : (differ : Bool) (number : NumberRead) → leading_differs direction s ≡ differ → integer_at s length_place ≡ number
          → Framed (pick differ (FrameRead.Refused leading_wrong) (frame_of (length s) number))
          → pick (leading_differs direction (s ++ rest)) (FrameRead.Refused leading_wrong) (frame_of (length (s ++ rest)) (integer_at (s ++ rest) length_place))
          ≡ pick differ (FrameRead.Refused leading_wrong) (frame_of (length s) number)
      go true number e q h = rw (still_differing direction e)
      go false (NumberRead.Refused n) e q h = absurd h
      go false (NumberRead.Number payload next) e q h =
          let inside = integer_inside s length_place (NumberRead.Number payload next) q in
          let four : payload_place ≤ length s = omega (arith, inside) in
          rw (same_leading direction four ∙ e, same_length four ∙ q) (same_sized payload h)

  -- what bytes are parsed as
  same_parse : (context : Context) → Framed (frame_at context.direction s) → parse context (s ++ rest) ≡ parse context s
  unfolding parse part
  same_parse context h =
      ap (parse_frame context (s ++ rest)) (same_frame context.direction h) ∙ go (frame_at context.direction s) refl
    where
      go : (frame : FrameRead) → frame_at context.direction s ≡ frame → parse_frame context (s ++ rest) frame ≡ parse_frame context s frame
      go (FrameRead.Needs n) e = refl
      go (FrameRead.Refused n) e = refl
      go (FrameRead.Whole n) e =
          let inside = frame_inside context.direction s (FrameRead.Whole n) e in
          ap (parse_whole context) (take-append-le n s rest inside.1.1)

  -- an answer other than "needs" comes of a frame that is refused or whole
  framed : (direction : Direction) (c : Connection) (room : ℕ) → Answered (reading direction c s room) → Framed (frame_at direction s)
  unfolding reading parse
  framed direction c room = go (frame_at direction s)
    where
      go : (frame : FrameRead) → Answered (with_room room (judging c (parse_frame (context_of direction c) s frame))) → Framed frame
      go (FrameRead.Needs n) h = h
      go (FrameRead.Refused n) h = tt
      go (FrameRead.Whole n) h = tt

  pub later_answer : (direction : Direction) (c : Connection) (room : ℕ) → Answered (reading direction c s room)
      → reading direction c (s ++ rest) room ≡ reading direction c s room
  unfolding reading
  later_answer direction c room h = ap (λ (p : Parsed). with_room room (judging c p)) (same_parse (context_of direction c) (framed direction c room h))

  pub later_table : (direction : Direction) (c : Connection) (table : List ℕ) → Answered (reading direction c s (length table))
      → table_after direction c (s ++ rest) table ≡ table_after direction c s table
  unfolding table_after
  later_table direction c table h =
      rw (later_answer direction c (length table) h, same_parse (context_of direction c) (framed direction c (length table) h))
