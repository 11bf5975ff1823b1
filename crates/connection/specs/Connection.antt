-- A connection's record: what counts of it, and the numbers that bound a packet.
-- Document 01, 'The cycle' and 'Bytes and numbers'; document 02, A4.
-- Assumes nothing.
use Rattle.std.specs.Prelude.{Bool, true, false, ℕ}
use Rattle.wire.specs.Pick.{pick, both}
pub use Rattle.wire.specs.Packet.{max_packet}
use Rattle.connection.specs.declared.State.{State}
use Rattle.connection.specs.declared.Connection.{Connection}

-- the most bytes of a packet's payload, and of the body in a body packet
abbrev pub max_payload : ℕ
max_payload = 8188

abbrev pub max_body : ℕ
max_body = 8186

-- which state it is
abbrev pub is_idle : State → Bool
is_idle State.Idle = true
is_idle State.Pinged = false
is_idle State.Busy = false
is_idle State.Closed = false

abbrev pub is_pinged : State → Bool
is_pinged State.Idle = false
is_pinged State.Pinged = true
is_pinged State.Busy = false
is_pinged State.Closed = false

abbrev pub is_busy : State → Bool
is_busy State.Idle = false
is_busy State.Pinged = false
is_busy State.Busy = true
is_busy State.Closed = false

-- outside Busy nothing but the state counts: the rest is 0
abbrev pub rest : State → Connection
rest state = record { state = state; due = false; headers = false; head = false; asked = 0; left = record { 0 = 0 } }

-- a record with another number of bytes of body left
abbrev pub with_left : ℕ → Connection → Connection
with_left left c = record { state = c.state; due = c.due; headers = c.headers; head = c.head; asked = c.asked; left = record { 0 = left } }

-- with another answer to whether a body packet is due, and to how many bytes were asked for
abbrev pub with_due : Bool → ℕ → Connection → Connection
with_due due asked c = record { state = c.state; due = due; headers = c.headers; head = c.head; asked = asked; left = c.left }

-- with another answer to whether headers were sent
abbrev pub with_headers : Bool → Connection → Connection
with_headers headers c = record { state = c.state; due = c.due; headers = headers; head = c.head; asked = c.asked; left = c.left }

-- with another answer to whether the request is HEAD
abbrev pub with_head : Bool → Connection → Connection
with_head head c = record { state = c.state; due = c.due; headers = c.headers; head = head; asked = c.asked; left = c.left }

-- in Busy all counts, and what was asked only where a body packet is due
abbrev pub busy : Connection → Connection
busy c = record { state = State.Busy; due = c.due; headers = c.headers; head = c.head; asked = pick c.due c.asked 0; left = c.left }

-- what counts of a record
abbrev pub tidy : Connection → Connection
tidy c = pick (is_busy c.state) (busy c) (rest c.state)

-- a connection made new is Idle, whichever end holds it
abbrev pub fresh : Connection
fresh = rest State.Idle

-- a body packet is due
abbrev pub body_due : Connection → Bool
body_due c = both (is_busy c.state) c.due

-- the request under way is HEAD
abbrev pub is_head : Connection → Bool
is_head c = both (is_busy c.state) c.head
