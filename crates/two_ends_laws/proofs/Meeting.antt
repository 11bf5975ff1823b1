-- Packets on their way between two ends: the moves that they make, and that the two ends meet after them. A packet that is sent and one that is
-- read keep this, because a move of one end passes those of the other.
-- Assumes nothing.
use mathlib.Core.Path.{◌≡◌, sym, ap, subst, ◌∙◌}
use mathlib.Core.Bool.{true}
use mathlib.Core.List.{List, [], ◌∷◌, ◌++◌}
use Prim.Native.Nat.{ℕ}
use lib.ListN.{length, take}
use Rattle.packet.specs.declared.Direction.{Direction}
use Rattle.connection.specs.Cycle.{allowed, after}
use Rattle.connection.specs.declared.Connection.{Connection}
use Rattle.connection.specs.declared.Move.{Move}
use Rattle.reader.specs.Meaning.{accepted}
use Rattle.reader.specs.Reading.{reading}
use Rattle.two_ends_laws.specs.Ends.{PipePacket, Ends, pipe_of, sender_of, receiver_of, with_sent, with_read, all_bytes, Delivery, answer_of}
use Rattle.two_ends_laws.proofs.Moves.{opposite, opposite_twice, AllAllowed, after_all, AllGo, allowed_last, after_last, Passing, passing}
use Rattle.two_ends_laws.specs.Readable.{Readable}

-- the moves that the packets of a pipe make, one after another
pub data Pipe (direction : Direction) : List PipePacket → List Move → Type 0 where
  empty : Pipe direction [] []
  next : {packet : PipePacket} {m : Move} {later : List PipePacket} {moves : List Move} → Readable direction packet m → Pipe direction later moves
      → Pipe direction (packet ∷ later) (m ∷ moves)

-- a packet that goes last into a pipe
pipe_last : {direction : Direction} {packet : PipePacket} {m : Move} {packets : List PipePacket} {moves : List Move} → Pipe direction packets moves
    → Readable direction packet m → Pipe direction (packets ++ packet ∷ []) (moves ++ m ∷ [])
pipe_last empty readable = next readable empty
pipe_last (next first later) readable = next first (pipe_last later readable)

-- the packets of a pipe all go its way
pub pipe_goes : {direction : Direction} {packets : List PipePacket} {moves : List Move} → Pipe direction packets moves → AllGo direction moves
pipe_goes empty = tt
pipe_goes (next first later) = (first.way, pipe_goes later)

-- an end that sends into one pipe and reads from the other, and the end that does it the other way round: each allows what is on its way to
-- it, and after that they have the same connection
pub record Meeting (direction : Direction) (sender receiver : Connection) (out back : List PipePacket) : Type 0 where
  pub moves : List Move
  pub replies : List Move
  pub on_way : Pipe direction out moves
  pub on_way_back : Pipe (opposite direction) back replies
  pub receiver_allows : AllAllowed receiver moves
  pub sender_allows : AllAllowed sender replies
  pub meets : after_all receiver moves ≡ after_all sender replies

module _ {direction : Direction} {sender receiver : Connection} {back : List PipePacket} where
  -- the same from the other end
  turned : {out : List PipePacket} → Meeting direction sender receiver out back → Meeting (opposite direction) receiver sender back out
  turned {out} ends = record {
    moves = ends.replies;
    replies = ends.moves;
    on_way = ends.on_way_back;
    on_way_back = subst (λ (d : Direction). Pipe d out ends.moves) (sym (opposite_twice direction)) ends.on_way;
    receiver_allows = ends.sender_allows;
    sender_allows = ends.receiver_allows;
    meets = sym ends.meets;
  }

  -- a packet that is sent: its move passes those on the way back
  pub meeting_sent : {out : List PipePacket} (packet : PipePacket) (m : Move) → Readable direction packet m → allowed sender m ≡ true
      → Meeting direction sender receiver out back → Meeting direction (after sender m) receiver (out ++ packet ∷ []) back
  meeting_sent packet m readable f ends =
      let past : Passing sender m ends.replies =
      passing direction sender m ends.replies readable.way (pipe_goes ends.on_way_back) f ends.sender_allows in
      record {
        moves = ends.moves ++ m ∷ [];
        replies = ends.replies;
        on_way = pipe_last ends.on_way readable;
        on_way_back = ends.on_way_back;
        receiver_allows =
            allowed_last receiver ends.moves m ends.receiver_allows (ap (λ (x : Connection). allowed x m) ends.meets ∙ past.still);
        sender_allows = past.others;
        meets = after_last receiver ends.moves m ∙ ap (λ (x : Connection). after x m) ends.meets ∙ sym past.meets;
      }

-- the first packet of a pipe: the end that reads it allows its move, and once it is read the two ends still meet
pub record First (direction : Direction) (sender receiver : Connection) (packet : PipePacket) (later back : List PipePacket) : Type 0 where
  pub move : Move
  pub readable : Readable direction packet move
  pub allows : allowed receiver move ≡ true
  pub rest : Meeting direction sender (after receiver move) later back

-- that is so of every pipe with a packet in it
pub meeting_first : {direction : Direction} {sender receiver : Connection} {packet : PipePacket} {later back : List PipePacket}
    → Meeting direction sender receiver (packet ∷ later) back → First direction sender receiver packet later back
meeting_first {direction} {sender} {receiver} {packet} {later} {back} ends =
    go ends.on_way ends.receiver_allows ends.meets
  where
    go : {moves : List Move} → Pipe direction (packet ∷ later) moves → AllAllowed receiver moves
        → after_all receiver moves ≡ after_all sender ends.replies → First direction sender receiver packet later back
    go (next {m = m} {moves = moves} readable rest) all meets = record {
      move = m;
      readable = readable;
      allows = all.0;
      rest = record {
        moves = moves;
        replies = ends.replies;
        on_way = rest;
        on_way_back = ends.on_way_back;
        receiver_allows = all.1;
        sender_allows = ends.sender_allows;
        meets = meets;
      };
    }

-- the two ends meet
abbrev pub EndsMeet : Ends → Type 0
EndsMeet e = Meeting Direction.ToContainer e.at_server e.at_container e.to_container e.to_server

-- seen along a direction
pub meeting_of : (direction : Direction) (e : Ends) → EndsMeet e
    → Meeting direction (sender_of direction e) (receiver_of direction e) (pipe_of direction e) (pipe_of (opposite direction) e)
meeting_of Direction.ToContainer e ends = ends
meeting_of Direction.ToServer e ends = turned ends

-- and back, where the end that sends changed
pub after_sent : (direction : Direction) (e : Ends) (c : Connection) (out : List PipePacket)
    → Meeting direction c (receiver_of direction e) out (pipe_of (opposite direction) e) → EndsMeet (with_sent direction c out e)
after_sent Direction.ToContainer e c out ends = ends
after_sent Direction.ToServer e c out ends = turned ends

-- or the end that reads
pub after_read : (direction : Direction) (e : Ends) (c : Connection) (out : List PipePacket)
    → Meeting direction (sender_of direction e) c out (pipe_of (opposite direction) e) → EndsMeet (with_read direction c out e)
after_read Direction.ToContainer e c out ends = ends
after_read Direction.ToServer e c out ends = turned ends

-- the first packet of a pipe of two ends that meet
pub first_of_lem : (direction : Direction) (e : Ends) (packet : PipePacket) (later : List PipePacket) → EndsMeet e → pipe_of direction e ≡ packet ∷ later
    → First direction (sender_of direction e) (receiver_of direction e) packet later (pipe_of (opposite direction) e)
first_of_lem direction e packet later ends p =
    meeting_first
    (subst (λ (out : List PipePacket). Meeting direction (sender_of direction e) (receiver_of direction e) out (pipe_of (opposite direction) e)) p
    (meeting_of direction e ends))

-- and what a delivery of it is answered with
pub first_answer : {direction : Direction} {sender receiver : Connection} {packet : PipePacket} {later back : List PipePacket}
    (first : First direction sender receiver packet later back) (d : Delivery)
    → answer_of direction receiver d packet later ≡ accepted first.readable.tells (length packet.bytes) (after receiver first.move)
first_answer {direction} {receiver = receiver} {packet = packet} {later = later} first d =
    let rest : List ℕ = all_bytes (take d.behind later) in
    ap (reading direction receiver (packet.bytes ++ rest)) d.places ∙ first.readable.reads receiver rest first.allows
