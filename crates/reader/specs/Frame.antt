-- Where a packet ends: its leading bytes and its length.
-- Document 01, 'Refusal numbers': the reading order up to "needs 4 + length".
-- Assumes nothing.
use Rattle.std.specs.Prelude.{Bool, not, List, ℕ, ◌+◌, leb, ltb, eqb, length, get_or, Result, Ok, Err}
use Rattle.wire.specs.Pick.{pick, both, either}
use Rattle.wire.specs.Refusal.{leading_wrong, too_long, number_of}
use Rattle.wire.specs.declared.refusal.Refusal.{Refusal}
use Rattle.wire.specs.Field.{integer_at}
use Rattle.wire.specs.Packet.{leading, payload_place, length_place}
use Rattle.packet.specs.declared.Direction.{Direction}
use Rattle.wire.specs.Read.{NumberRead}
use Rattle.connection.specs.Connection.{max_payload}
use Rattle.reader.specs.declared.frame.Extent.{Extent}

-- the first packet of the bytes: how many bytes it needs, refused, or how many bytes it has
pub data FrameRead : Type 0 where
  Needs : ℕ → FrameRead
  Refused : ℕ → FrameRead
  Whole : ℕ → FrameRead

-- how far a packet reaches
abbrev pub extent_meaning : Extent → FrameRead
extent_meaning (Extent.Needs n) = FrameRead.Needs n
extent_meaning (Extent.Whole n) = FrameRead.Whole n

-- what the answer of the call that looks for a packet's end says
abbrev pub frame_meaning : Result Extent Refusal → FrameRead
frame_meaning (Err refusal) = FrameRead.Refused (number_of refusal)
frame_meaning (Ok extent) = extent_meaning extent

-- a byte is there and is not this one
abbrev pub differs : List ℕ → ℕ → ℕ → Bool
differs s at byte = both (leb (at + 1) (length s)) (not (eqb (get_or s at 0) byte))

-- a leading byte is there and is not the direction's
unfoldable pub leading_differs : Direction → List ℕ → Bool
leading_differs direction s = either (differs s 0 (get_or (leading direction) 0 0)) (differs s 1 (get_or (leading direction) 1 0))

-- a packet of which `there` bytes are there, by its payload's length
unfoldable pub length_at : ℕ → ℕ → FrameRead
length_at there payload =
    pick (leb payload max_payload)
    (pick (ltb there (payload_place + payload)) (FrameRead.Needs (payload_place + payload)) (FrameRead.Whole (payload_place + payload)))
    (FrameRead.Refused too_long)

-- by the length as read: where it is not there, 4 bytes are needed
abbrev pub frame_of : ℕ → NumberRead → FrameRead
frame_of there (NumberRead.Refused n) = FrameRead.Needs payload_place
frame_of there (NumberRead.Number payload next) = length_at there payload

-- the first packet of the bytes: 1, "needs 4", 2, "needs 4 + length", or how many bytes it has
unfoldable pub frame_at : Direction → List ℕ → FrameRead
frame_at direction s = pick (leading_differs direction s) (FrameRead.Refused leading_wrong) (frame_of (length s) (integer_at s length_place))
