-- What demand 2's round trips say: what is written for a message, what reading it gives back, and what writing a message that was read gives.
-- Document 01, 'The work': demand 2, there and back.
-- Assumes nothing.
use Rattle.std.specs.Prelude.{◌≡◌, List, ℕ, ◌≤◌, length}
use Rattle.wire.specs.Bytes.{part, over}
use Rattle.packet.specs.declared.Direction.{Direction}
use Rattle.packet.specs.declared.Packet.{Packet}
use Rattle.connection.specs.declared.Connection.{Connection}
use Rattle.building.specs.Sent.{Written}
use Rattle.reader.specs.Meaning.{accepted}
use Rattle.reader.specs.Reading.{reading, table_after}
use Rattle.messages.specs.Message.{Message, message_direction, Fit}
use Rattle.messages.specs.Bytes.{message_bytes}
use Rattle.messages.specs.Writing.{wrote, writing}
use Rattle.messages.specs.Shown.{message_shown}

-- what was written for a message: its bytes from the buffer's first place on, all else as it was, and their number is answered
pub record WrittenBytes (m : Message) (buffer : List ℕ) (w : Written) (left : List ℕ) : Type 0 where
  pub buffer_is : left ≡ over buffer 0 (message_bytes m)
  pub size : w.size ≡ length (message_bytes m)
  pub fits : length (message_bytes m) ≤ length buffer

-- reading these bytes is accepted, shows this message, takes so many bytes and steps to this connection
pub record ReadBack (d : Direction) (c : Connection) (s table : List ℕ) (m : Message) (n : ℕ) (next : Connection) : Type 0 where
  pub packet : Packet
  pub answer : reading d c s (length table) ≡ accepted packet n next
  pub message : message_shown packet (part s 0 n) (table_after d c s table) ≡ m

-- a message is written as these bytes from the buffer's first place on, goes this way and steps to this connection
pub record WrittenBack (d : Direction) (c : Connection) (s buffer : List ℕ) (m : Message) (n : ℕ) (next : Connection) : Type 0 where
  pub written : writing c m buffer ≡ wrote (record { size = n; connection = next }) (over buffer 0 s)
  pub fit : Fit m
  pub way : message_direction m ≡ d
