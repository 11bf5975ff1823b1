-- The cycle of a connection, one rule for the end that sends and the end that receives. The table of document 01, 'The cycle',
-- is `in_state` (which state and record allow a kind of packet) and `after` (the connection then), a row a line. `chunk_allowed` is document
-- 02, A4.
-- A record may hold anything in what does not count: a step does not look at it (the law `ignored`) and leaves nothing of it (`settled`).
-- Assumes nothing.
use Rattle.std.specs.Prelude.{Bool, true, false, not, ℕ, ◌-◌, min, ltb, eqb}
use Rattle.wire.specs.Pick.{pick, both, either, between}
use Rattle.wire.specs.Refusal.{none, not_now, body_size_wrong}
use Rattle.packet.specs.declared.Direction.{Direction}
use Rattle.connection.specs.declared.State.{State}
use Rattle.connection.specs.declared.Connection.{Connection}
use Rattle.connection.specs.declared.Kind.{Kind}
use Rattle.connection.specs.declared.ForwardMove.{ForwardMove}
use Rattle.connection.specs.declared.Move.{Move}
use Rattle.connection.specs.Step.{Step}
use Rattle.connection.specs.Connection.{max_body, is_idle, is_pinged, is_busy, rest, with_left, with_due, with_headers, with_head, busy, body_due, is_head}

-- the kind of packet that makes a move
abbrev pub move_kind : Move → Kind
move_kind Move.CPing = Kind.CPing
move_kind Move.CPong = Kind.CPong
move_kind (Move.Forward f) = Kind.Forward
move_kind (Move.Body k) = Kind.Body
move_kind (Move.GetBody r) = Kind.GetBody
move_kind Move.SendHeaders = Kind.SendHeaders
move_kind (Move.BodyChunk k) = Kind.BodyChunk
move_kind (Move.End reuse) = Kind.End

-- which way a kind of packet goes
abbrev pub direction_of : Kind → Direction
direction_of Kind.CPing = Direction.ToContainer
direction_of Kind.CPong = Direction.ToServer
direction_of Kind.Forward = Direction.ToContainer
direction_of Kind.Body = Direction.ToContainer
direction_of Kind.GetBody = Direction.ToServer
direction_of Kind.SendHeaders = Direction.ToServer
direction_of Kind.BodyChunk = Direction.ToServer
direction_of Kind.End = Direction.ToServer

-- whether a connection allows a kind of packet, else 13
abbrev pub in_state : Connection → Kind → Bool
in_state c Kind.CPing = is_idle c.state
in_state c Kind.CPong = is_pinged c.state
in_state c Kind.Forward = is_idle c.state
in_state c Kind.Body = body_due c
in_state c Kind.GetBody = both (is_busy c.state) (not c.due)
in_state c Kind.SendHeaders = both (is_busy c.state) (not c.headers)
in_state c Kind.BodyChunk = both (is_busy c.state) c.headers
in_state c Kind.End = both (is_busy c.state) (both c.headers (not c.due))

-- the most bytes that the next body packet may hold: the least of asked, 8186 and left; none where no body packet is due.
-- This is document 01's c.
unfoldable pub largest_body : Connection → ℕ
largest_body c = pick (body_due c) (min c.asked (min max_body c.left.0)) 0

-- a body packet of k bytes where at most `most` may come: empty where that is none, else 1 to that many
abbrev pub size_allowed : ℕ → ℕ → Bool
size_allowed most k = pick (eqb most 0) (eqb k 0) (between 1 most k)

-- a Send Body Chunk of k bytes, by whether the request is HEAD: its response has no body, so only an empty one is allowed
abbrev pub chunk_allowed : Bool → ℕ → Bool
chunk_allowed head k = either (not head) (eqb k 0)

-- whether a connection allows a packet of this size, else 14
abbrev pub in_size : Connection → Move → Bool
in_size c Move.CPing = true
in_size c Move.CPong = true
in_size c (Move.Forward f) = true
in_size c (Move.Body k) = size_allowed (largest_body c) k
in_size c (Move.GetBody r) = true
in_size c Move.SendHeaders = true
in_size c (Move.BodyChunk k) = chunk_allowed (is_head c) k
in_size c (Move.End reuse) = true

-- whether a connection allows a move
abbrev pub allowed : Connection → Move → Bool
allowed c m = both (in_state c (move_kind m)) (in_size c m)

-- a request as its Forward tells of it: all of its body is left, a body packet is due where there is any, and whether it is HEAD
abbrev pub forwarded : ForwardMove → Connection
forwarded f = with_head f.head (with_due (ltb 0 f.declared.0) max_body (with_left f.declared.0 (rest State.Busy)))

-- the connection after a move that is allowed
abbrev pub after : Connection → Move → Connection
after c Move.CPing = rest State.Pinged
after c Move.CPong = rest State.Idle
after c (Move.Forward f) = busy (forwarded f)
after c (Move.Body k) = busy (with_due false 0 (with_left (c.left.0 - k) c))
after c (Move.GetBody r) = busy (with_due true r c)
after c Move.SendHeaders = busy (with_headers true c)
after c (Move.BodyChunk k) = busy c
after c (Move.End reuse) = rest (pick reuse State.Idle State.Closed)

-- whether the request under way is HEAD after a move, by whether it was before: a Forward says it, after CPing, CPong and End there is none,
-- and all else keeps it
abbrev pub head_then : Move → Bool → Bool
head_then Move.CPing before = false
head_then Move.CPong before = false
head_then (Move.Forward f) before = f.head
head_then (Move.Body k) before = before
head_then (Move.GetBody r) before = before
head_then Move.SendHeaders before = before
head_then (Move.BodyChunk k) before = before
head_then (Move.End reuse) before = false

-- a move of a kind that is allowed now: refused with 14, or the connection after it
abbrev pub sized_step : Connection → Move → Step
sized_step c m = pick (in_size c m) (Step.Next (after c m)) (Step.Refused body_size_wrong)

-- a move: refused with its number, or the connection after it
unfoldable pub step_of : Connection → Move → Step
step_of c m = pick (in_state c (move_kind m)) (sized_step c m) (Step.Refused not_now)

-- what each case of an answer says in document 01's terms: its refusal number, 0 for none, and the connection that the caller then
-- has, the one given where the move is refused
abbrev pub number_in : Step → ℕ
number_in (Step.Refused n) = n
number_in (Step.Next c) = none

abbrev pub connection_after_step : Connection → Step → Connection
connection_after_step given (Step.Refused n) = given
connection_after_step given (Step.Next c) = c
