-- The two forms of an empty body packet are one message: where one is legal, so is the other, and both say and do the same.
-- Document 02, A2: the other empty packet.
-- Assumes nothing.
use Rattle.std.specs.Prelude.{◌≡◌, List, [], ◌++◌, ℕ, ◌≤◌, ◌<◌, length}
use Rattle.wire.specs.Pick.{pick}
use Rattle.wire.specs.Bytes.{integer_bytes}
use Rattle.wire.specs.Packet.{packet, payload_place}
use Rattle.wire.specs.Refusal.{cut_short, code_wrong, left_over, body_size_wrong}
use Rattle.packet.specs.declared.Direction.{Direction}
use Rattle.packet.specs.declared.Packet.{Packet}
use Rattle.connection.specs.Connection.{max_body, body_due}
use Rattle.connection.specs.Cycle.{in_size, after}
use Rattle.connection.specs.declared.Connection.{Connection}
use Rattle.connection.specs.declared.Move.{Move}
use Rattle.payload.specs.Packet.{part_from}
use Rattle.reader.specs.Meaning.{Meaning, refused, accepted}
use Rattle.reader.specs.Reading.{reading, table_after}
use Rattle.messages.specs.Message.{body}
use Rattle.messages.specs.Shown.{message_shown}
use Rattle.messages.specs.ReadOnly.{short_empty, long_empty}

-- what both forms are told to be: a body of no bytes, at the payload's place
abbrev pub empty_told : Packet
empty_told = Packet.Body (part_from payload_place 0)

-- the answer to an empty body packet of `size` bytes in all: where a body packet is due, it is accepted if an empty one may come, and else it
-- is 14; where none is due, it is refused with the number given
abbrev pub empty_answer : Connection → ℕ → ℕ → Meaning
empty_answer c size undue =
    pick (body_due c) (pick (in_size c (Move.Body 0)) (accepted empty_told size (after c (Move.Body 0))) (refused body_size_wrong)) (refused undue)

-- the two forms at the container's end, with any bytes behind them and any table. They differ in the bytes taken, and where none is due in
-- the number: the short form has no code (3), and the long one's is 0 (4). Neither touches the table, and both show the empty body. A size of
-- 0 with bytes behind it, as many as a packet may hold, is 12 where a body packet is due, and 4 where none is.
pub record TwoForms (c : Connection) (rest table : List ℕ) : Type 0 where
  pub short : reading Direction.ToContainer c (short_empty ++ rest) (length table) ≡ empty_answer c (length short_empty) cut_short
  pub long : reading Direction.ToContainer c (long_empty ++ rest) (length table) ≡ empty_answer c (length long_empty) code_wrong
  pub short_table : table_after Direction.ToContainer c (short_empty ++ rest) table ≡ table
  pub long_table : table_after Direction.ToContainer c (long_empty ++ rest) table ≡ table
  pub short_shows : message_shown empty_told short_empty table ≡ body []
  pub long_shows : message_shown empty_told long_empty table ≡ body []
  pub with_bytes : (more : List ℕ) → 0 < length more → length more ≤ max_body
      → reading Direction.ToContainer c (packet Direction.ToContainer (integer_bytes 0 ++ more) ++ rest) (length table)
      ≡ refused (pick (body_due c) left_over code_wrong)
