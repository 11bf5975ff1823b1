-- What the functions of this crate ask of their callers, the exported calls.
-- Assumes nothing.
use Rattle.std.specs.Prelude.{◌≡◌, List, ℕ, ◌≤◌, length}
use Rattle.connection.specs.Connection.{max_packet}
use Rattle.building.specs.Call as call
use Rattle.building.specs.Sent.{Written}
use Rattle.reader.specs.Meaning as read
use Rattle.words.specs.ConnectionWords.{connection_size}
use Rattle.answers.specs.Answer.{answer_size}

-- arrays that take a connection and an answer
pub record Takes (connection answer : List ℕ) : Type 0 where
  pub connected : length connection ≡ connection_size
  pub answered : length answer ≡ answer_size

-- the bytes that reading tells of are no more than a packet may have
abbrev pub ReadWithin : read.Meaning → Type 0
ReadWithin (read.needs n) = n ≤ max_packet
ReadWithin (read.refused n) = Unit
ReadWithin (read.accepted packet taken after) = taken ≤ max_packet

-- and so is the length that sending tells
abbrev pub SentWithin : call.Outcome Written → Type 0
SentWithin (call.refused n) = Unit
SentWithin (call.done w) = w.size ≤ max_packet
