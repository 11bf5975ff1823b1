-- The calls that send, and all that is known of each, a row a call: which way its packet goes, what it comes to and the buffer that it leaves,
-- as the call's own promise says, and the body that is given to it.
-- Document 01, 'Building' and 'Two ends and their pipes'.
-- Assumes nothing.
use Rattle.std.specs.Prelude.{Bool, true, false, List, [], ℕ, ◌<◌, length}
use Rattle.packet.specs.declared.Direction.{Direction}
use Rattle.connection.specs.declared.Connection.{Connection}
use Rattle.building.specs.Call.{Call, Outcome, outcome, buffer_after}
use Rattle.building.specs.Sent.{Written}
use Rattle.building_record.specs.declared.BuildingKind.{BuildingKind}
use Rattle.building_record.specs.declared.Building.{Building}
use Rattle.building_record.specs.Record.{building_fields, direction_in}
use Rattle.writer.specs.Sending.{cping_call, cpong_call, body_call, chunk_call, get_call, end_call}
use Rattle.closing.specs.Closing.{close_outcome, close_buffer}

-- a building record of one packet, whatever else it says: its next place, its count's place, its headers, whether attributes began
pub record AnyRecord : Type 0 where
  pub next : ℕ
  pub count : ℕ
  pub headers : ℕ
  pub attributes : Bool

abbrev pub record_of : BuildingKind → AnyRecord → Building
record_of kind r = building_fields kind r.next r.count r.headers r.attributes

-- a call that sends, with all that it is given but the connection: its arguments and the buffer that is lent to it. What is asked for is an
-- integer of a packet
pub data Send : Type 0 where
  cping : (buffer : List ℕ) → Send
  body : (buffer bytes : List ℕ) → Send
  close_forward : AnyRecord → (buffer : List ℕ) → Send
  cpong : (buffer : List ℕ) → Send
  body_chunk : (buffer bytes : List ℕ) → Send
  get_body : (buffer : List ℕ) (asked : ℕ) → asked < 65536 → Send
  end : (buffer : List ℕ) (reuse : Bool) → Send
  close_send_headers : AnyRecord → (buffer : List ℕ) → Send

-- what is given to a call as a body: bytes to a body call, nothing to any other
pub data GivenBody : Type 0 where
  no_body : GivenBody
  body_of : List ℕ → GivenBody

-- all that is known of a call
pub record SendRow : Type 0 where
  -- which way its packet goes: from the server's end to the container, or from the container's to the server
  pub direction : Direction
  -- what it comes to with a connection
  pub comes_to : Connection → Outcome Written
  -- the buffer that it leaves
  pub leaving : Connection → List ℕ
  pub given : GivenBody

-- a packet that one call writes
abbrev pub writes : Direction → (Connection → Call Written) → List ℕ → GivenBody → SendRow
writes direction call buffer given = record {
  direction = direction;
  comes_to = λ c. outcome (call c) (length buffer);
  leaving = λ c. buffer_after (call c) buffer;
  given = given;
}

-- a packet in pieces that is closed
abbrev pub closes : Building → List ℕ → SendRow
closes r buffer = record {
  direction = direction_in r;
  comes_to = λ c. close_outcome c r buffer;
  leaving = λ c. close_buffer c r buffer;
  given = no_body;
}

-- call by call
abbrev pub known_of : Send → SendRow
known_of (cping buffer) = writes Direction.ToContainer cping_call buffer no_body
known_of (body buffer bytes) = writes Direction.ToContainer (λ c. body_call c bytes) buffer (body_of bytes)
known_of (close_forward r buffer) = closes (record_of BuildingKind.Forward r) buffer
known_of (cpong buffer) = writes Direction.ToServer cpong_call buffer no_body
known_of (body_chunk buffer bytes) = writes Direction.ToServer (λ c. chunk_call c bytes) buffer no_body
known_of (get_body buffer asked small) = writes Direction.ToServer (λ c. get_call c asked) buffer no_body
known_of (end buffer reuse) = writes Direction.ToServer (λ c. end_call c reuse) buffer no_body
known_of (close_send_headers r buffer) = closes (record_of BuildingKind.SendHeaders r) buffer

-- its direction, what it comes to and the buffer that it leaves
abbrev pub call_direction : Send → Direction
call_direction call = (known_of call).direction

abbrev pub outcome_of : Connection → Send → Outcome Written
outcome_of c call = (known_of call).comes_to c

abbrev pub buffer_of : Connection → Send → List ℕ
buffer_of c call = (known_of call).leaving c

-- whether a body is given, and its bytes
abbrev pub is_given : GivenBody → Bool
is_given no_body = false
is_given (body_of bytes) = true

abbrev pub given_bytes : GivenBody → List ℕ
given_bytes no_body = []
given_bytes (body_of bytes) = bytes

-- whether it is a body call, and the bytes that are given to it as a body
abbrev pub is_body_call : Send → Bool
is_body_call call = is_given (known_of call).given

abbrev pub body_given : Send → List ℕ
body_given call = given_bytes (known_of call).given
